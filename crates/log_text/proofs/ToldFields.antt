-- Texts made of fields, and what such a text tells of its fields.
use Rattle.std.proofs.Common.{◌≡◌, ◌∙◌, ℕ, List, [], ◌∷◌, ◌++◌, Bool, true, false, not, ◌&&◌, ◌==◌}
use Rattle.std.proofs.Common.{nat_lt, refl, ap, sym, append-nil}
use Rattle.std.proofs.lemmas.List.Folds.{list_all-append}
use Rattle.std.specs.List.{list_all, flat_map, join_with_byte}
use Rattle.telegram.specs.Telegrams.{comma}

-- ---- separators

pub both_true : (a b : Bool) → (a && b) ≡ true → (a ≡ true) × (b ≡ true)
both_true true b both = (refl, both)
both_true false b both = absurd (cc)

pub both : (a b : Bool) → a ≡ true → b ≡ true → (a && b) ≡ true
both a b first second = rw (first, second) refl

module _ (good : ℕ → Bool) where
  pub all_good-head : (b : ℕ) (bs : List ℕ) → list_all good (b ∷ bs) ≡ true → good b ≡ true
  all_good-head b bs each = (both_true (good b) (list_all good bs) each).0

  pub all_good-tail : (b : ℕ) (bs : List ℕ) → list_all good (b ∷ bs) ≡ true
      → list_all good bs ≡ true
  all_good-tail b bs each = (both_true (good b) (list_all good bs) each).1

  pub all_good-cons : (b : ℕ) (bs : List ℕ) → good b ≡ true → list_all good bs ≡ true
      → list_all good (b ∷ bs) ≡ true
  all_good-cons b bs here others = both (good b) (list_all good bs) here others

  pub all_good-append : (a b : List ℕ) → list_all good a ≡ true → list_all good b ≡ true
      → list_all good (a ++ b) ≡ true
  all_good-append a b first second =
      list_all-append good a b ∙ both (list_all good a) (list_all good b) first second

module _ (good : ℕ → Bool) (mark : ℕ) (apart : good mark ≡ false) where
  not_at : (b : ℕ) (bs : List ℕ) → mark ≡ b → list_all good (b ∷ bs) ≡ true → ⊥
  not_at b bs same each = let here = all_good-head good b bs each in absurd (cc)

  -- the texts before the first separators are the same, and so are those after them
  pub split_same : (a b rest other : List ℕ) → list_all good a ≡ true → list_all good b ≡ true
      → a ++ mark ∷ rest ≡ b ++ mark ∷ other → (a ≡ b) × (rest ≡ other)
  split_same [] [] rest other a_good b_good same = (refl, cc)
  split_same [] (y ∷ b) rest other a_good b_good same = absurd (not_at y b (cc) b_good)
  split_same (x ∷ a) [] rest other a_good b_good same = absurd (not_at x a (cc) a_good)
  split_same (x ∷ a) (y ∷ b) rest other a_good b_good same =
      let behind = split_same a b rest other (all_good-tail good x a a_good)
      (all_good-tail good y b b_good) (cc) in
      let first = behind.0 in
      (cc, behind.1)

  -- a text with no separator is none that has one
  pub unmarked : (a b rest : List ℕ) → list_all good a ≡ true → a ≡ b ++ mark ∷ rest → ⊥
  unmarked [] [] rest a_good same = absurd (cc)
  unmarked [] (y ∷ b) rest a_good same = absurd (cc)
  unmarked (x ∷ a) [] rest a_good same = not_at x a (cc) a_good
  unmarked (x ∷ a) (y ∷ b) rest a_good same =
      unmarked a b rest (all_good-tail good x a a_good) (cc)

-- ---- fields

-- a byte that stands in a field
abbrev pub is_field_byte : ℕ → Bool
is_field_byte b = nat_lt 32 b && not (b == comma)

abbrev pub is_field : List ℕ → Bool
is_field field = list_all is_field_byte field

-- a byte that is neither a space nor a line feed
abbrev pub is_told_byte : ℕ → Bool
is_told_byte b = nat_lt 32 b

-- fields, each after a comma
abbrev pub led : List (List ℕ) → List ℕ
led fields = flat_map (λ field. comma ∷ field) fields

led-tells : (a b : List ℕ) (xs ys : List (List ℕ)) → is_field a ≡ true → is_field b ≡ true
    → list_all is_field xs ≡ true → list_all is_field ys ≡ true → a ++ led xs ≡ b ++ led ys
    → (a ≡ b) × (xs ≡ ys)
led-tells a b [] [] a_good b_good xs_good ys_good same =
    (sym (append-nil a) ∙ same ∙ append-nil b, refl)
led-tells a b [] (y ∷ ys) a_good b_good xs_good ys_good same =
    absurd (unmarked is_field_byte comma refl a b (y ++ led ys) a_good (sym (append-nil a) ∙ same))
led-tells a b (x ∷ xs) [] a_good b_good xs_good ys_good same =
    absurd (unmarked is_field_byte comma refl b a (x ++ led xs) b_good
    (sym (append-nil b) ∙ sym same))
led-tells a b (x ∷ xs) (y ∷ ys) a_good b_good xs_good ys_good same =
    let here = split_same is_field_byte comma refl a b (x ++ led xs) (y ++ led ys) a_good b_good
    same in
    let xs_both = both_true (is_field x) (list_all is_field xs) xs_good in
    let ys_both = both_true (is_field y) (list_all is_field ys) ys_good in
    let behind = led-tells x y xs ys xs_both.0 ys_both.0 xs_both.1 ys_both.1 here.1 in
    let field = behind.0 in
    let others = behind.1 in
    (here.0, cc)

-- no field has a space or a line feed
told_byte-from_field_byte : (b : ℕ) → is_field_byte b ≡ true → is_told_byte b ≡ true
told_byte-from_field_byte b good = (both_true (is_told_byte b) (not (b == comma)) good).0

pub told-field : (field : List ℕ) → is_field field ≡ true → list_all is_told_byte field ≡ true
told-field [] good = refl
told-field (b ∷ bs) good =
    all_good-cons is_told_byte b bs
    (told_byte-from_field_byte b (all_good-head is_field_byte b bs good))
    (told-field bs (all_good-tail is_field_byte b bs good))

told-led : (fields : List (List ℕ)) → list_all is_field fields ≡ true
    → list_all is_told_byte (led fields) ≡ true
told-led [] good = refl
told-led (field ∷ fields) good =
    let two = both_true (is_field field) (list_all is_field fields) good in
    all_good-append is_told_byte (comma ∷ field) (led fields)
    (all_good-cons is_told_byte comma field refl (told-field field two.0))
    (told-led fields two.1)

-- after a comma, the text is the fields, each after a comma
pub record IsTold (text : List ℕ) (fields : List (List ℕ)) : Type 0 where
  pub spelled : comma ∷ text ≡ led fields
  pub good : list_all is_field fields ≡ true

-- such a text has neither a space nor a line feed
pub told-text : (text : List ℕ) (fields : List (List ℕ)) → IsTold text fields
    → list_all is_told_byte text ≡ true
told-text text fields told =
    all_good-tail is_told_byte comma text
    (ap (list_all is_told_byte) told.spelled ∙ told-led fields told.good)

-- the same text has the same fields
pub fields_same : (text other : List ℕ) (fields others : List (List ℕ)) → IsTold text fields
    → IsTold other others → text ≡ other → fields ≡ others
fields_same text other fields others told other_told same =
    (led-tells [] [] fields others refl refl told.good other_told.good
    (sym told.spelled ∙ ap (λ (t : List ℕ). comma ∷ t) same ∙ other_told.spelled)).1

-- fields that are joined by commas
pub join-told : (first : List ℕ) (more : List (List ℕ))
    → join_with_byte comma (first ∷ more) ≡ first ++ led more
join-told first [] = sym (append-nil first)
join-told first (field ∷ more) = ap (λ (rest : List ℕ). first ++ comma ∷ rest)
    (join-told field more)
