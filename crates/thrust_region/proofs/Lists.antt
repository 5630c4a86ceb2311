-- Lists in two parts.
use Rattle.std.proofs.Common.{◌≡◌, ◌∙◌, ap, sym, refl, ℕ, zero, suc, ◌+◌, ◌<◌, ◌≤◌, ◌++◌, List, []}
use Rattle.std.proofs.Common.{◌∷◌, length, map, drop, take, get_or, subst, inl, inr, ◌⊎◌, Bool}
use Rattle.std.proofs.Common.{true, false, cond, append_assoc, append-nil, length-append, drop-cons}
use Rattle.std.proofs.Common.{add-one, arith}
use Rattle.std.specs.Prelude.{filter, flat_map}
use Rattle.std.specs.List.{list_all, prefix_len, range_with_len, take_while, Contains}
use Rattle.std.proofs.Math.Dec.{eqb}
use Rattle.std.proofs.lemmas.Bool.{and_from, and_parts, eqb-true}
use Rattle.std.proofs.lemmas.Bool.Decides.{nat_tests}
use Rattle.std.proofs.lemmas.List.{length-map, map-append}

-- the first element of the second part goes over to the first part
pub goes_over : {A : Type 0} (front rest others whole : List A) (x : A) → rest ≡ x ∷ others → front
    ++ rest ≡ whole → (front ++ x ∷ []) ++ others ≡ whole
goes_over {A} front rest others whole x e h =
    append_assoc front (x ∷ []) others ∙ ap (λ (l : List A). front ++ l) (sym e) ∙ h

-- where nothing is left, the first part is the whole
pub nothing_left : {A : Type 0} (front rest whole : List A) → rest ≡ [] → front ++ rest ≡ whole
    → front ≡ whole
nothing_left front rest whole e h = sym (append-nil front) ∙ ap (λ (l : List _). front ++ l) (sym e)
    ∙ h

-- where something is left, the first part is shorter than the whole
pub room_for_more : {A B : Type 0} (f : A → B) (now before : List A) (rest all : List B) (most : ℕ)
    → map f now ++ rest ≡ map f before ++ all → 0 < length rest → length before + length all ≤ most
    → length now < most
room_for_more f now before rest all most e some fits =
    omega (
      arith,
      ap length e,
      length-append (map f now) rest,
      length-append (map f before) all,
      length-map now f,
      length-map before f,
    )

-- one element more, in what a function makes of each
pub map_more : {A B : Type 0} (f : A → B) (new old : List A) (x : A) → new ≡ old ++ x ∷ []
    → map f new ≡ map f old ++ f x ∷ []
map_more f new old x e = ap (map f) e ∙ map-append f old (x ∷ [])

-- ---- tests of each element

pub all_at : {A : Type 0} (test : A → Bool) (list : List A) (i : ℕ) (d : A) → i < length list
    → list_all test list ≡ true → test (get_or list i d) ≡ true
all_at test [] i d there all = absurd (omega arith)
all_at test (x ∷ xs) zero d there all = (and_parts (test x) (list_all test xs) all).0
all_at test (x ∷ xs) (suc i) d there all =
    all_at test xs i d (omega arith) (and_parts (test x) (list_all test xs) all).1

pub all_more : {A : Type 0} (test : A → Bool) (list : List A) (x : A) → list_all test list ≡ true
    → test x ≡ true → list_all test (list ++ x ∷ []) ≡ true
all_more test [] x all one = rw one refl
all_more test (y ∷ ys) x all one =
    and_from (test y) (list_all test (ys ++ x ∷ [])) (and_parts (test y) (list_all test ys) all).0
    (all_more test ys x (and_parts (test y) (list_all test ys) all).1 one)

-- ---- what is left of a list from a place on

pub left_from : {A : Type 0} (list : List A) (i : ℕ) (d : A) → i < length list → drop i list
    ≡ get_or list i d ∷ drop (i + 1) list
left_from list i d there = rw (add-one, drop-cons list i d) refl

-- ---- facts of each element

abbrev pub Each : {A : Type 0} → (A → Type 0) → List A → Type 0
Each P [] = Unit {0}
Each P (x ∷ xs) = P x × Each P xs

pub Each-append : {A : Type 0} (P : A → Type 0) (xs ys : List A) → Each P xs → Each P ys
    → Each P (xs ++ ys)
Each-append P [] ys each others = others
Each-append P (x ∷ xs) ys each others = (each.0, Each-append P xs ys each.1 others)

pub Each-take : {A : Type 0} (P : A → Type 0) (k : ℕ) (xs : List A) → Each P xs → Each P (take k xs)
Each-take P zero xs each = tt
Each-take P (suc k) [] each = tt
Each-take P (suc k) (x ∷ xs) each = (each.0, Each-take P k xs each.1)

pub Each-get : {A : Type 0} (P : A → Type 0) (xs : List A) (k : ℕ) (d : A) → k < length xs
    → Each P xs → P (get_or xs k d)
Each-get P [] k d there each = absurd (omega arith)
Each-get P (x ∷ xs) zero d there each = each.0
Each-get P (x ∷ xs) (suc k) d there each = Each-get P xs k d (omega arith) each.1

pub Each-contains : {A : Type 0} (P : A → Type 0) (xs : List A) (x : A) → Each P xs → Contains xs x
    → P x
Each-contains P xs x each one = subst P one.2 (Each-get P xs one.0 x one.1 each)

pub Each-flat_map : {A B : Type 0} (P : B → Type 0) (f : A → List B) (xs : List A)
    → Each (λ x. Each P (f x)) xs → Each P (flat_map f xs)
Each-flat_map P f [] each = tt
Each-flat_map P f (x ∷ xs) each =
    Each-append P (f x) (flat_map f xs) each.0 (Each-flat_map P f xs each.1)

pub Each-filter : (P : ℕ → Type 0) (test : ℕ → Bool) (from count : ℕ)
    → ((i : ℕ) → i < from + count → test i ≡ true → P i)
    → Each P (filter test (range_with_len from count))
Each-filter P test from zero all = tt
Each-filter P test from (suc count) all =
    by_test (test from) refl (Each-filter P test (from + 1) count (λ i h. all i (omega arith)))
  where
    by_test : (b : Bool) → test from ≡ b → Each P (filter test (range_with_len (from + 1) count))
        → Each P (cond b (from ∷ filter test (range_with_len (from + 1) count))
        (filter test (range_with_len (from + 1) count)))
    by_test true is others = (all from (omega arith) is, others)
    by_test false is others = others

pub Each-take_while : {A : Type 0} (test : A → Bool) (xs : List A)
    → Each (λ x. test x ≡ true) (take_while test xs)
Each-take_while test [] = tt
Each-take_while {A} test (x ∷ xs) = by_test (test x) refl (Each-take_while test xs)
  where
    by_test : (b : Bool) → test x ≡ b → Each (λ (y : A). test y ≡ true) (take_while test xs)
        → Each (λ (y : A). test y ≡ true) (take (cond b (1 + prefix_len test xs) 0) (x ∷ xs))
    by_test true is others = let count : 1 + prefix_len test xs
        ≡ suc (prefix_len test xs) = omega arith in rw count (is, others)
    by_test false is others = tt

-- ---- facts of some element

abbrev pub SomeOf : {A : Type 0} → (A → Type 0) → List A → Type 0
SomeOf P [] = ⊥
SomeOf P (x ∷ xs) = P x ⊎ SomeOf P xs

pub SomeOf-left : {A : Type 0} (P : A → Type 0) (xs ys : List A) → SomeOf P xs → SomeOf P (xs ++ ys)
SomeOf-left P [] ys some = absurd some
SomeOf-left P (x ∷ xs) ys (inl one) = inl one
SomeOf-left P (x ∷ xs) ys (inr others) = inr (SomeOf-left P xs ys others)

pub SomeOf-right : {A : Type 0} (P : A → Type 0) (xs ys : List A) → SomeOf P ys
    → SomeOf P (xs ++ ys)
SomeOf-right P [] ys some = some
SomeOf-right P (x ∷ xs) ys some = inr (SomeOf-right P xs ys some)

pub SomeOf-flat_map : {A B : Type 0} (P : B → Type 0) (f : A → List B) (xs : List A)
    → SomeOf (λ x. SomeOf P (f x)) xs → SomeOf P (flat_map f xs)
SomeOf-flat_map P f [] some = absurd some
SomeOf-flat_map P f (x ∷ xs) (inl one) = SomeOf-left P (f x) (flat_map f xs) one
SomeOf-flat_map P f (x ∷ xs) (inr others) =
    SomeOf-right P (f x) (flat_map f xs) (SomeOf-flat_map P f xs others)

pub SomeOf-filter : (P : ℕ → Type 0) (test : ℕ → Bool) (from count i : ℕ) → from ≤ i
    → i < from + count → test i ≡ true → P i → SomeOf P (filter test (range_with_len from count))
SomeOf-filter P test from zero i low high is one = absurd (omega arith)
SomeOf-filter P test from (suc count) i low high is one =
    by_tests (test from) (eqb from i) refl refl
    (λ (more : from + 1 ≤ i). SomeOf-filter P test (from + 1) count i more (omega arith) is one)
  where
    by_tests : (b e : Bool) → test from ≡ b → eqb from i ≡ e
        → (from + 1 ≤ i → SomeOf P (filter test (range_with_len (from + 1) count))) →
        SomeOf P (cond b (from ∷ filter test (range_with_len (from + 1) count))
        (filter test (range_with_len (from + 1) count)))
    by_tests true true g h others = inl (subst P (sym (eqb-true from i h)) one)
    by_tests false true g h others = let same : test from ≡ true = rw (eqb-true from i h) is in cc
    by_tests true false g h others = inr (others (grind (arith, nat_tests)))
    by_tests false false g h others = others (grind (arith, nat_tests))

pub SomeOf-map : {A : Type 0} (P Q : A → Type 0) (xs : List A) → ((x : A) → P x → Q x) → SomeOf P xs
    → SomeOf Q xs
SomeOf-map P Q [] f some = absurd some
SomeOf-map P Q (x ∷ xs) f (inl one) = inl (f x one)
SomeOf-map P Q (x ∷ xs) f (inr others) = inr (SomeOf-map P Q xs f others)

pub SomeOf-contains : {A : Type 0} (P : A → Type 0) (xs : List A) → SomeOf P xs → (x : A)
    × Contains xs x × P x
SomeOf-contains P [] some = absurd some
SomeOf-contains P (x ∷ xs) (inl one) = (x, (0, omega arith, refl), one)
SomeOf-contains P (x ∷ xs) (inr others) =
    let s = SomeOf-contains P xs others in
    (s.0, (suc s.1.0, (let there = s.1.1 in omega arith), s.1.2), s.2)

-- ---- parts of lists

-- the part stands somewhere in the list
pub record HasPart {A : Type 0} (part list : List A) : Type 0 where
  pub from : ℕ
  pub is : take (length part) (drop from list) ≡ part
