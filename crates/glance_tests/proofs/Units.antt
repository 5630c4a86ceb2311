-- Lists with nothing in them but their length.
use Rattle.std.proofs.Common.{◌≡◌, ℕ, zero, suc, ◌≤◌, List, [], ◌∷◌, length, replicate, refl, ap, arith}
use mathlib.Core.List.{IsPrefix}

pub prefix_units : (xs : List (Unit {0})) (n : ℕ) → length xs ≤ n → IsPrefix xs (replicate n tt)
prefix_units [] n le = (replicate n tt, refl)
prefix_units (x ∷ xs) zero le = absurd (omega arith)
prefix_units (x ∷ xs) (suc n) le =
    let rest = prefix_units xs n (omega arith) in
    (rest.0, ap (λ (ys : List (Unit {0})). tt ∷ ys) rest.1)
