-- The quotient that leaves a remainder of at least 0 is the floor.
use Rattle.std.proofs.Common.{◌≡◌, sym, subst, ℕ, ◌/◌, ◌<◌, ◌≤◌, suc, ℤ, pos, negsuc, ◌*ℤ◌, ◌≤ℤ◌}
use Rattle.std.proofs.Common.{arith}
use Rattle.std.proofs.lemmas.Int.{ints}
use Rattle.std.proofs.lemmas.Nat.{le-div, div_below}
use Rattle.std.specs.Int.{int_div_euclid}
use Rattle.dp_num.specs.Quotients.{IsFloor, floor_quotient}

floor-below : (a : ℤ) (n : ℕ) → 0 < n → (int_div_euclid a (pos n) *ℤ pos n) ≤ℤ a
floor-below (pos m) n h = omega (arith, ints)
floor-below (negsuc m) n h = omega (arith, ints)

floor-greatest : (a r : ℤ) (n : ℕ) → 0 < n → (r *ℤ pos n) ≤ℤ a → r ≤ℤ int_div_euclid a (pos n)
floor-greatest (pos m) (pos s) n h le =
    let reached : s ≤ m / n = le-div s m n h (omega (arith, ints)) in omega (arith, ints)
floor-greatest (pos m) (negsuc s) n h le = omega (arith, ints)
floor-greatest (negsuc m) (pos s) n h le = absurd (omega (arith, ints))
floor-greatest (negsuc m) (negsuc s) n h le = let passed : m / n < suc s =
    div_below m n (suc s) h (omega (arith, ints)) in omega (arith, ints)

pub IsFloor-from_value : (a b q : ℤ) → pos 1 ≤ℤ b → q ≡ floor_quotient a b → IsFloor a b q
IsFloor-from_value a (pos n) q h value =
    let some : 0 < n = omega (arith, ints) in
    subst (IsFloor a (pos n)) (sym value)
    (record { below = floor-below a n some; greatest = λ r. floor-greatest a r n some })
IsFloor-from_value a (negsuc n) q h value = absurd (omega (arith, ints))
