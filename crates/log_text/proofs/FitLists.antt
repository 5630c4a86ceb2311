-- What holds of each element that a loop has met.
use Rattle.std.proofs.Common.{◌≡◌, ℕ, ◌+◌, ◌<◌, ◌≤◌, List, All, get_or, length, take, subst}
use Rattle.std.proofs.lemmas.List.{take_all}
use Rattle.std.proofs.lemmas.List.Elements.{All-more}

module _ {X : Type 0} (P : X → Type 0) (xs ys : List X) (i : ℕ) (same : ys ≡ xs) where
  pub one_more : (d : X) → i < length ys → All P (take i xs) → P (get_or ys i d)
      → All P (take (i + 1) xs)
  one_more d there so_far here =
      All-more P xs i d (subst (λ (zs : List X). i < length zs) same there) so_far
      (subst (λ (zs : List X). P (get_or zs i d)) same here)

  pub each_met : length ys ≤ i → All P (take i xs) → All P xs
  each_met ended so_far =
      let past = subst (λ (zs : List X). length zs ≤ i) same ended in
      subst (All P) (take_all i xs past) so_far
