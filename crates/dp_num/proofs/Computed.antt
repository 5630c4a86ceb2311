-- What the code computes, as numbers that went to their bits and are read again.
use Rattle.std.proofs.Common.{◌≡◌, refl, ap, ℕ, zero, suc, ◌<◌, true, false, not, Ordering, Less}
use Rattle.std.proofs.Common.{Equal, Greater, ℤ, pos, negsuc, ◌≤ℤ◌, to_z, of_z, FitsSigned, arith}
use Rattle.std.proofs.lemmas.Int.{ints, to_z-of_z, quot_fits}
use Rattle.std.specs.Int.{Width, w128}
use Rattle.std.specs.Int.RustNames.{int_div, int_rem}
use Rattle.std.specs.Bool.{◌==◌}
use Rattle.std.specs.Ordering.{ordering_index}
use lib.Signed.{mag_rem}
use Rattle.dp_num.specs.Fractions.{order_of_quotients}

abbrev pub back : Width → ℤ → ℤ
back w z = to_z w (of_z w z)

-- the code's remainder is the remainder
pub rem_back : (w : Width) (x y : ℤ) → FitsSigned w x → back w (int_rem x y) ≡ int_rem x y
rem_back w x y h =
    to_z-of_z w (int_rem x y) (record { sfits = omega (arith, mag_rem x y, h.sfits) })

-- and so is its quotient
pub quot_back : (w : Width) (x y : ℤ) → FitsSigned w x → pos 1 ≤ℤ y
    → back w (int_div x y) ≡ int_div x y
quot_back w x y h some = to_z-of_z w (int_div x y) (quot_fits w x y h (omega (arith, ints)))

-- the bits of a number of at least 1 are not all 0
pub bits_above_0 : (n : ℕ) → pos 1 ≤ℤ to_z w128 n → 0 < n
bits_above_0 zero h = absurd (omega (arith, ints))
bits_above_0 (suc n) h = omega arith

-- a division by a number of at least 1 has a result
pub divisible : (m n : ℕ) → FitsSigned w128 (to_z w128 m) → pos 1 ≤ℤ to_z w128 n → (0 < n)
    × FitsSigned w128 (int_div (to_z w128 m) (to_z w128 n))
divisible m n h some =
    (bits_above_0 n some, quot_fits w128 (to_z w128 m) (to_z w128 n) h (omega (arith, ints)))

-- a remainder is 0 exactly where its bits are
pub rem-zero : (w : Width) (x y : ℤ) → pos 0 ≤ℤ x → of_z w (int_rem x y) ≡ 0 → int_rem x y ≡ pos 0
rem-zero w (pos x) y h e = ap pos e
rem-zero w (negsuc x) y h e = absurd (omega (arith, ints))

pub rem-not_zero : (w : Width) (x y : ℤ) → ¬ (of_z w (int_rem x y) ≡ 0) → ¬ (int_rem x y ≡ pos 0)
rem-not_zero w x y some e = some (ap (of_z w) e)

-- what the code's `!=` says of an order
pub not_equal : (o : Ordering) → true ≡ not (ordering_index o == 1) → ¬ (o ≡ Equal)
not_equal Less e h = cc
not_equal Equal e h = cc
not_equal Greater e h = cc

pub equal : (o : Ordering) → false ≡ not (ordering_index o == 1) → Equal ≡ o
equal Less e = cc
equal Equal e = refl
equal Greater e = cc

-- the arguments are what their bits say
pub order-back : (w : Width) (a b c d : ℤ) → FitsSigned w a → FitsSigned w b → FitsSigned w c
    → FitsSigned w d → order_of_quotients (back w a) (back w b) (back w c)
    (back w d) ≡ order_of_quotients a b c d
order-back w a b c d p q r s =
    rw (to_z-of_z w a p, to_z-of_z w b q, to_z-of_z w c r, to_z-of_z w d s)
