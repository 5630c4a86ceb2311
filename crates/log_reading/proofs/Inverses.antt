-- Readers that take up exactly what was spelled.
use Rattle.std.proofs.Common.{◌≡◌, ◌∙◌, ℕ, zero, suc, ◌≤◌, List, [], ◌∷◌, ◌++◌, length, Bool, true}
use Rattle.std.proofs.Common.{false, if◌then◌else◌, Option, Some, None, refl, ap, sym, subst, arith}
use Rattle.std.proofs.lemmas.Option.{same_Some}
use Rattle.std.proofs.lemmas.Slice.Eq.{bytes_eq-Decides}
use Rattle.std.specs.List.{AllByRecursion, flat_map}
use Rattle.std.specs.Str.{bytes_eq}
use Rattle.log_reading.specs.Fields.{◌>>=◌, Form, all_of, at_first, at_only, by_kind, ended}
use Rattle.log_reading.specs.Fields.{read_by}

abbrev pub Fields : Type 0
Fields = List (List ℕ)

-- ---- steps

-- a step that went on
pub bind_some : {A B : Type 0} (r : Option A) (f : A → Option B) (y : B) → (r >>= f) ≡ Some y
    → (x : A) × (r ≡ Some x) × (f x ≡ Some y)
bind_some (Some x) f y is = (x, refl, is)
bind_some None f y is = absurd (cc)

pub if_some : {A : Type 0} (test : Bool) (r : Option A) (y : A)
    → (if test then r else None) ≡ Some y → (test ≡ true) × (r ≡ Some y)
if_some true r y is = (refl, is)
if_some false r y is = absurd (cc)

-- ---- readers

-- what is read of a text is what was spelled so
pub record Inverts (S X : Type 0) (read : S → Option X) (spell : X → S) (Fits : X → Type 0)
    : Type 0 where
  pub again : (x : X) → Fits x → read (spell x) ≡ Some x
  pub takes : (text : S) (x : X) → read text ≡ Some x → (text ≡ spell x) × Fits x

-- the same of what is read at the front of fields
pub record Reads (X : Type 0) (read : Fields → Option (X × Fields)) (spell : X → Fields)
    (Fits : X → Type 0) : Type 0 where
  pub again : (x : X) (rest : Fields) → Fits x → read (spell x ++ rest) ≡ Some (x, rest)
  pub takes : (fields : Fields) (x : X) (rest : Fields) → read fields ≡ Some (x, rest)
      → (fields ≡ spell x ++ rest) × Fits x

-- what was made is what was read
pub closed : (S X : Type 0) (spell : X → S) (Fits : X → Type 0) (text : S) (made x : X)
    → Some made ≡ Some x → text ≡ spell made → Fits made → (text ≡ spell x) × Fits x
closed S X spell Fits text made x is spelled fits =
    subst (λ (y : X). (text ≡ spell y) × Fits y) (same_Some made x is) (spelled, fits)

pub closed_front : (X : Type 0) (spell : X → Fields) (Fits : X → Type 0) (fields own rest : Fields)
    (made x : X) → ◌≡◌ {A = Option (X × Fields)} (Some (made, own)) (Some (x, rest))
    → fields ≡ spell made ++ own → Fits made → (fields ≡ spell x ++ rest) × Fits x
closed_front X spell Fits fields own rest made x is spelled fits =
    subst (λ (p : X × Fields). (fields ≡ spell p.0 ++ p.1) × Fits p.0)
    (same_Some {A = X × Fields} (made, own) (x, rest) is) (spelled, fits)

-- ---- one field

module _ (X : Type 0) (read : List ℕ → Option X) (spell : X → List ℕ) (Fits : X → Type 0)
    (inverts : Inverts (List ℕ) X read spell Fits) where
  first_takes : (fields : Fields) (x : X) (rest : Fields) → at_first read fields ≡ Some (x, rest)
      → (fields ≡ spell x ∷ rest) × Fits x
  first_takes [] x rest is = absurd (cc)
  first_takes (field ∷ more) x rest is =
      let step = bind_some (read field) (λ x. Some (x, more)) (x, rest) is in
      let taken = inverts.takes field step.0 step.1 in
      closed_front X (λ x. spell x ∷ []) Fits (field ∷ more) more rest step.0 x step.2
      (ap (λ (f : List ℕ). f ∷ more) taken.0) taken.1

  pub first_reads : Reads X (at_first read) (λ x. spell x ∷ []) Fits
  first_reads = record {
    again = λ x rest fits. rw (inverts.again x fits) refl;
    takes = first_takes;
  }

  pub only_takes : (fields : Fields) (x : X) → at_only read fields ≡ Some x
      → (fields ≡ spell x ∷ []) × Fits x
  only_takes [] x is = absurd (cc)
  only_takes (field ∷ []) x is =
      let taken = inverts.takes field x is in
      (ap (λ (f : List ℕ). f ∷ []) taken.0, taken.1)
  only_takes (field ∷ next ∷ more) x is = absurd (cc)

pub ended_takes : {X : Type 0} (x : X) (fields : Fields) (y : X) → ended x fields ≡ Some y
    → (fields ≡ []) × (x ≡ y)
ended_takes x [] y is = (refl, same_Some x y is)
ended_takes x (field ∷ more) y is = absurd (cc)

-- ---- items to the end

module _ (X : Type 0) (read : Fields → Option (X × Fields)) (spell : X → Fields) (Fits : X → Type 0)
    (reads : Reads X read spell Fits)
    (some : (x : X) → (field : List ℕ) × (more : Fields) × (spell x ≡ field ∷ more)) where
  abbrev pub AreFew : ℕ → List X → Type 0
  AreFew room xs = (length xs ≤ room) × AllByRecursion Fits xs

  one_more : (room : ℕ) (fields : Fields) (field : List ℕ) (more : Fields) (x : X) (rest : Fields)
      (xs : List X) → fields ≡ field ∷ more → read fields ≡ Some (x, rest)
      → all_of read room rest ≡ Some xs → all_of read (suc room) fields ≡ Some (x ∷ xs)
  one_more room fields field more x rest xs is first others =
      let here : read (field ∷ more) ≡ Some (x, rest) = ap read (sym is) ∙ first in
      ap (all_of read (suc room)) is ∙ rw (here, others) refl

  pub all_again : (room : ℕ) (xs : List X) → AreFew room xs
      → all_of read room (flat_map spell xs) ≡ Some xs
  all_again room [] few = refl
  all_again zero (x ∷ xs) few = absurd (omega (arith, few.0))
  all_again (suc room) (x ∷ xs) few =
      let front = some x in
      let rest = flat_map spell xs in
      one_more room (spell x ++ rest) front.0 (front.1 ++ rest) x rest xs
      (ap (λ (own : Fields). own ++ rest) front.2) (reads.again x rest few.1.0)
      (all_again room xs (omega (arith, few.0), few.1.1))

  pub all_takes : (room : ℕ) (fields : Fields) (xs : List X) → all_of read room fields ≡ Some xs
      → (fields ≡ flat_map spell xs) × AreFew room xs
  all_takes room [] xs is =
      closed Fields (List X) (flat_map spell) (AreFew room) [] [] xs is refl (omega arith, tt)
  all_takes zero (field ∷ more) xs is = absurd (cc)
  all_takes (suc room) (field ∷ more) xs is =
      let a = bind_some (read (field ∷ more)) _ xs is in
      let b = bind_some (all_of read room a.0.1) _ xs a.2 in
      let here = reads.takes (field ∷ more) a.0.0 a.0.1 a.1 in
      let others = all_takes room a.0.1 b.0 b.1 in
      closed Fields (List X) (flat_map spell) (AreFew (suc room)) (field ∷ more) (a.0.0 ∷ b.0) xs
      b.2 (here.0 ∙ ap (λ (rest : Fields). spell a.0.0 ++ rest) others.0)
      (omega (arith, others.1.0), (here.1, others.1.1))

-- ---- kinds

module _ (X : Type 0) (spell : X → Fields) (Fits : X → Type 0) where
  abbrev pub IsSpelled : Fields → X → Type 0
  IsSpelled fields x = (fields ≡ spell x) × Fits x

  abbrev pub Spells : Form X → Type 0
  Spells form = (rest : Fields) (x : X) → form.read rest ≡ Some x → IsSpelled (form.kind ∷ rest) x

  abbrev pub AllSpell : List (Form X) → Type 0
  AllSpell [] = Unit {0}
  AllSpell (form ∷ others) = Spells form × AllSpell others

  by_test : (form : Form X) (others : List (Form X)) (kind : List ℕ) (rest : Fields) (x : X)
      (same : Bool) → Spells form
      → ((is : read_by others kind rest ≡ Some x) → IsSpelled (kind ∷ rest) x)
      → bytes_eq kind form.kind ≡ same
      → (if same then form.read rest else read_by others kind rest) ≡ Some x
      → IsSpelled (kind ∷ rest) x
  by_test form others kind rest x true spells later same is =
      subst (λ (kind : List ℕ). IsSpelled (kind ∷ rest) x)
      (sym ((bytes_eq-Decides kind form.kind).0 same)) (spells rest x is)
  by_test form others kind rest x false spells later same is = later is

  read_by_takes : (forms : List (Form X)) → AllSpell forms → (kind : List ℕ) (rest : Fields) (x : X)
      → read_by forms kind rest ≡ Some x → IsSpelled (kind ∷ rest) x
  read_by_takes [] all kind rest x is = absurd (cc)
  read_by_takes (form ∷ others) all kind rest x is =
      by_test form others kind rest x (bytes_eq kind form.kind) all.0
      (read_by_takes others all.1 kind rest x) refl is

  pub kind_takes : (forms : List (Form X)) → AllSpell forms → (fields : Fields) (x : X)
      → by_kind forms fields ≡ Some x → IsSpelled fields x
  kind_takes forms all [] x is = absurd (cc)
  kind_takes forms all (kind ∷ rest) x is = read_by_takes forms all kind rest x is
