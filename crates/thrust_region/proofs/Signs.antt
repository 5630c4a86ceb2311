-- Tests of signed numbers.
use Rattle.std.proofs.Common.{◌≡◌, refl, Bool, true, false, ℤ, ◌≤ℤ◌, ◌<ℤ◌, T, int_le, int_lt}
use Rattle.std.proofs.lemmas.Float.{T_from_true}
use lib.Signed.{le_z_yes, lt_z_yes}

pub below_from_test : (a b : ℤ) → int_lt a b ≡ true → a <ℤ b
below_from_test a b h = lt_z_yes (T_from_true (int_lt a b) h)

pub at_most_from_test : (a b : ℤ) → int_le a b ≡ true → a ≤ℤ b
at_most_from_test a b h = le_z_yes (T_from_true (int_le a b) h)

true_from_T : (b : Bool) → T b → b ≡ true
true_from_T true t = refl
true_from_T false t = absurd t

pub test_at_most : (a b : ℤ) → a ≤ℤ b → int_le a b ≡ true
test_at_most a b h = true_from_T (int_le a b) h.le

pub test_below : (a b : ℤ) → a <ℤ b → int_lt a b ≡ true
test_below a b h = true_from_T (int_lt a b) h.lt
