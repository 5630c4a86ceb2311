-- What becomes of each element with its place, while elements are taken in turn.
use Rattle.std.proofs.Common.{◌≡◌, ◌∙◌, ℕ, ◌+◌, ◌<◌, ◌≤◌, List, [], ◌∷◌, ◌++◌, length, map, take}
use Rattle.std.proofs.Common.{get_or, sym, ap, ap₂, length-append, length-take, arith}
use Rattle.std.specs.List.{enumerate_from}
use Rattle.std.proofs.lemmas.List.{map-append, take_all, take_more}

pub enumerate_more : {A : Type 0} (n k : ℕ) (xs : List A) (x : A) → n + length xs ≡ k →
    enumerate_from n (xs ++ x ∷ []) ≡ enumerate_from n xs ++ (k, x) ∷ []
enumerate_more {A} n k [] x is = let same : n ≡ k = omega arith in
    ap {B = List (ℕ × A)} (λ m. (m, x) ∷ []) same
enumerate_more {A} n k (y ∷ ys) x is =
    ap {B = List (ℕ × A)} (λ l. (n, y) ∷ l) (enumerate_more (n + 1) k ys x (omega arith))

-- the first so many elements have their values
pub record AreMade {A B : Type 0} (value : ℕ × A → B) (xs : List A) (taken : ℕ)
    (made : List B) : Type 0 where
  pub counted : length made ≡ taken
  pub is : made ≡ map value (enumerate_from 0 (take taken xs))

module _ {A B : Type 0} (value : ℕ × A → B) (xs : List A) where
  pub made_when_taken : (taken : ℕ) (made : List B) → length xs ≤ taken →
      AreMade value xs taken made → made ≡ map value (enumerate_from 0 xs)
  made_when_taken taken made all so_far =
      so_far.is ∙ ap (λ (l : List A). map value (enumerate_from 0 l)) (take_all taken xs all)

  pub made_more : (i : ℕ) (made more : List B) (x : A) (y : B) → i < length xs → x ≡ get_or xs i x →
      y ≡ value (i, x) → more ≡ made ++ y ∷ [] → AreMade value xs i made →
      AreMade value xs (i + 1) more
  made_more i made more x y there is_x is_y is_more so_far =
      let taken : 0 + length (take i xs) ≡ i = omega (arith, length-take i xs) in
      let numbered : enumerate_from 0 (take (i + 1) xs) ≡ enumerate_from 0 (take i xs) ++ (i, x)
      ∷ [] =
      ap (enumerate_from 0) (take_more xs i x there
      ∙ ap (λ (a : A). take i xs ++ a ∷ []) (sym is_x))
      ∙ enumerate_more 0 i (take i xs) x taken in
      record {
        counted =
            (let long = so_far.counted in
            omega (arith, ap length is_more, length-append made (y ∷ [])));
        is = is_more ∙ ap₂ (λ (l : List B) (b : B). l ++ b ∷ []) so_far.is is_y
            ∙ sym (ap (map value) numbered
            ∙ map-append value (enumerate_from 0 (take i xs)) ((i, x) ∷ []));
      }
