-- Lists built one element after another.
use Rattle.std.proofs.Common.{◌≡◌, ℕ, ◌+◌, ◌-◌, ◌<◌, ◌≤◌, List, [], ◌∷◌, ◌++◌, length, map, take}
use Rattle.std.proofs.Common.{get_or, set, replicate, Bool, true, zero, suc, pos, refl, ap, ap₂}
use Rattle.std.proofs.Common.{sym, ◌∙◌, arith}
use Rattle.std.proofs.lemmas.List.{append-nil, length-map, length-take, map-append, take_all}
use Rattle.std.proofs.lemmas.List.{take_more, set_at, append_assoc, length-append}
use Rattle.std.specs.List.{list_all}
use Rattle.std.proofs.lemmas.Bool.{and_parts}
use Rattle.toml.specs.Data.{Data}
use Rattle.plant_model.specs.declared.controller.WindRow.{WindRow}
use Rattle.plant_file.specs.Described.{filled}

abbrev pub no_wind : WindRow
no_wind = record { x = pos 0; y = pos 0; n = pos 0 }

-- what holds of each element of a list holds of one
pub all_at : {A : Type 0} (f : A → Data) (p : Data → Bool) (xs : List A) (i : ℕ) (x : A)
    → i < length xs → x ≡ get_or xs i x → list_all p (map f xs) ≡ true → p (f x) ≡ true
all_at f p [] i x within is all = absurd (omega arith)
all_at f p (y ∷ ys) zero x within is all =
    ap (λ z. p (f z)) is ∙ (and_parts (p (f y)) (list_all p (map f ys)) all).0
all_at f p (y ∷ ys) (suc i) x within is all =
    all_at f p ys i x (omega arith) is (and_parts (p (f y)) (list_all p (map f ys)) all).1

module _ {A B : Type 0} (g : Data → B) (f : A → Data) (xs : List A) (i : ℕ) where
  -- one element more
  pub built_more : (x : A) (items : List B) (y : B) → i < length xs → x ≡ get_or xs i x
      → items ≡ map g (map f (take i xs)) → y ≡ g (f x)
      → items ++ y ∷ [] ≡ map g (map f (take (i + 1) xs))
  built_more x items y within is so_far new =
      ap₂ (λ a b. a ++ b ∷ []) so_far (new ∙ ap (λ z. g (f z)) is)
      ∙ sym (map-append g (map f (take i xs)) (f (get_or xs i x) ∷ []))
      ∙ ap (map g) (sym (map-append f (take i xs) (get_or xs i x ∷ []))
      ∙ ap (map f) (sym (take_more xs i x within)))

  -- all of them
  pub built_all : (items : List B) (whole : List B) → length xs ≤ i
      → items ≡ map g (map f (take i xs)) → whole ≡ map g (map f xs) → items ≡ whole
  built_all items whole over so_far is =
      so_far ∙ ap (λ ys. map g (map f ys)) (take_all i xs over) ∙ sym is

  -- there are as many as were taken
  pub built_length : (items : List B) → i ≤ length xs → items ≡ map g (map f (take i xs))
      → length items ≡ i
  built_length items within so_far =
      ap length so_far ∙ length-map (map f (take i xs)) g ∙ length-map (take i xs) f
      ∙ (let l = length-take i xs in omega (arith, l))

-- a list made as long as n, with one more of its elements at its front
pub filled_set : {A : Type 0} (n : ℕ) (z y : A) (xs : List A) (i : ℕ) → length xs ≡ i → i < n
    → set (filled n z xs) i y ≡ filled n z (xs ++ y ∷ [])
filled_set n z y xs i long within =
    let rest = n - (i + 1) in
    let more : n - length xs ≡ suc rest = omega arith in
    let less : n - length (xs ++ y ∷ []) ≡ rest = omega (arith, length-append xs (y ∷ [])) in
    ap (λ k. set (xs ++ replicate k z) i y) more
    ∙ set_at xs z (replicate rest z) y i long
    ∙ sym (append_assoc xs (y ∷ []) (replicate rest z))
    ∙ ap (λ k. (xs ++ y ∷ []) ++ replicate k z) (sym less)

pub filled_whole : {A : Type 0} (n : ℕ) (z : A) (xs : List A) → length xs ≡ n → filled n z xs ≡ xs
filled_whole n z xs long =
    let none : n - length xs ≡ 0 = omega arith in
    ap (λ k. xs ++ replicate k z) none ∙ append-nil xs

module _ {A B : Type 0} (g : Data → B) (f : A → Data) (xs : List A) (i : ℕ) (n : ℕ) (z : B) where
  -- one element more
  pub filled_more : (x : A) (array : List B) (y : B) → i < length xs → i < n → x ≡ get_or xs i x
      → array ≡ filled n z (map g (map f (take i xs))) → y ≡ g (f x)
      → set array i y ≡ filled n z (map g (map f (take (i + 1) xs)))
  filled_more x array y within room is so_far new =
      let front = map g (map f (take i xs)) in
      ap (λ a. set a i y) so_far
      ∙ filled_set n z y front i (built_length g f xs i front (omega arith) refl) room
      ∙ ap (filled n z) (built_more g f xs i x front y within is refl new)

  -- all of them
  pub filled_all : (array : List B) → length xs ≤ i → array ≡ filled n z (map g (map f (take i xs)))
      → array ≡ filled n z (map g (map f xs))
  filled_all array over so_far =
      so_far ∙ ap (λ ys. filled n z (map g (map f ys))) (take_all i xs over)

pub map_twice : {A B C : Type 0} (g : B → C) (f : A → B) (xs : List A)
    → map g (map f xs) ≡ map (λ x. g (f x)) xs
map_twice g f [] = refl
map_twice g f (x ∷ xs) = ap (λ ys. g (f x) ∷ ys) (map_twice g f xs)
