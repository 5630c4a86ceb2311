-- Laws of ℤ that the kit lacks: the product with the sum, with itself and with the order. `expand`
-- is for `simp`, `linear` for `omega` over products as atoms.
use Rattle.std.proofs.Common.{◌≡◌, ℕ, ◌+◌, ◌*◌, ◌<◌, ℤ, pos, negsuc, ◌+ℤ◌, ◌*ℤ◌, neg_ℤ, ◌≤ℤ◌, ◌<ℤ◌}
use Rattle.std.proofs.Common.{arith, ap, ap₂, sym, ◌∙◌, mul-pos}
use Rattle.std.proofs.lemmas.Int.{ints}
use Rattle.std.proofs.Math.IntN.{*ℤ_comm}
use borrow.Author.Differences.{up, down, same_in, product_is, sum_is_lem, neg_is, fits_out}
use borrow.Author.Differences.{same_out, Apart-out, lt_T, le_T, lt_not, le_not, lt-true, lt-false}
use borrow.Author.Differences.{le-true, le-false, true-lt, false-lt, true-le, false-le}
use borrow.Author.Differences.{not_negative_out, lt_out, le_out, fits_in, lt_in, le_in, below_in}
use borrow.Author.Differences.{at_most_in, not_negative_in, true_is_lt, false_is_lt, true_is_le}
use borrow.Author.Differences.{false_is_le, quot_is, rem_is, abs_is, mag_is, back_is, small_is}
use borrow.Author.Differences.{read_fits, bits_is}

-- what `ints` is, but that a product is an atom
pub ruleset linear = (
  fits_out,
  same_out,
  Apart-out,
  lt_T,
  le_T,
  lt_not,
  le_not,
  lt-true,
  lt-false,
  le-true,
  le-false,
  true-lt,
  false-lt,
  true-le,
  false-le,
  not_negative_out,
  lt_out,
  le_out,
  fits_in,
  same_in,
  lt_in,
  le_in,
  below_in,
  at_most_in,
  not_negative_in,
  true_is_lt,
  false_is_lt,
  true_is_le,
  false_is_le,
  sum_is_lem,
  neg_is,
  quot_is,
  rem_is,
  abs_is,
  mag_is,
  back_is,
  small_is,
  read_fits,
  bits_is,
)

up_mul : (a b : ℤ) → up (a *ℤ b) ≡ up a * up b + down a * down b
up_mul a b = (product_is a b).0

down_mul : (a b : ℤ) → down (a *ℤ b) ≡ up a * down b + down a * up b
down_mul a b = (product_is a b).1

pub mul_assoc : (a b c : ℤ) → a *ℤ b *ℤ c ≡ a *ℤ (b *ℤ c)
mul_assoc a b c = same_in (a *ℤ b *ℤ c) (a *ℤ (b *ℤ c)) (simp (up_mul, down_mul) (omega arith))

pub mul_add : (a b c : ℤ) → a *ℤ (b +ℤ c) ≡ a *ℤ b +ℤ a *ℤ c
mul_add a b c = omega (
  arith,
  ints,
  ap (λ (n : ℕ). up a * n) (sum_is_lem b c),
  ap (λ (n : ℕ). down a * n) (sum_is_lem b c),
)

pub add_mul : (a b c : ℤ) → (a +ℤ b) *ℤ c ≡ a *ℤ c +ℤ b *ℤ c
add_mul a b c = *ℤ_comm (a +ℤ b) c ∙ mul_add c a b ∙ ap₂ ◌+ℤ◌ (*ℤ_comm c a) (*ℤ_comm c b)

pub mul_neg : (a b : ℤ) → a *ℤ neg_ℤ b ≡ neg_ℤ (a *ℤ b)
mul_neg a b = same_in (a *ℤ neg_ℤ b) (neg_ℤ (a *ℤ b))
    (omega (
      arith,
      ints,
      ap (λ (n : ℕ). up a * n) (neg_is b).0,
      ap (λ (n : ℕ). up a * n) (neg_is b).1,
      ap (λ (n : ℕ). down a * n) (neg_is b).0,
      ap (λ (n : ℕ). down a * n) (neg_is b).1,
    ))

pub neg_mul : (a b : ℤ) → neg_ℤ a *ℤ b ≡ neg_ℤ (a *ℤ b)
neg_mul a b = *ℤ_comm (neg_ℤ a) b ∙ mul_neg b a ∙ ap neg_ℤ (*ℤ_comm b a)

pub one_mul : (a : ℤ) → pos 1 *ℤ a ≡ a
one_mul a = omega (arith, ints)

pub mul_one : (a : ℤ) → a *ℤ pos 1 ≡ a
mul_one a = omega (arith, ints)

pub zero_mul : (a : ℤ) → pos 0 *ℤ a ≡ pos 0
zero_mul a = omega (arith, ints)

pub mul_zero : (a : ℤ) → a *ℤ pos 0 ≡ pos 0
mul_zero a = omega (arith, ints)

pub left_comm : (a b c : ℤ) → a *ℤ (b *ℤ c) ≡ b *ℤ (a *ℤ c)
left_comm a b c = sym (mul_assoc a b c) ∙ ap (λ (z : ℤ). z *ℤ c) (*ℤ_comm a b) ∙ mul_assoc b a c

pub exchange : (a b c d : ℤ) → a *ℤ b *ℤ (c *ℤ d) ≡ a *ℤ c *ℤ (b *ℤ d)
exchange a b c d = simp (mul_assoc, left_comm)

pub mul_nonneg : (a b : ℤ) → pos 0 ≤ℤ a → pos 0 ≤ℤ b → pos 0 ≤ℤ (a *ℤ b)
mul_nonneg (pos a) (pos b) h k = omega (arith, ints)
mul_nonneg (pos a) (negsuc b) h k = omega (arith, ints)
mul_nonneg (negsuc a) b h k = omega (arith, ints)

pub mul_pos : (a b : ℤ) → pos 0 <ℤ a → pos 0 <ℤ b → pos 0 <ℤ (a *ℤ b)
mul_pos (pos a) (pos b) h k = let p : 0 < a = omega (arith, ints) in
    let q : 0 < b = omega (arith, ints) in omega (arith, ints, mul-pos p q)
mul_pos (pos a) (negsuc b) h k = omega (arith, ints)
mul_pos (negsuc a) b h k = omega (arith, ints)

pub square_nonneg : (a : ℤ) → pos 0 ≤ℤ (a *ℤ a)
square_nonneg (pos a) = omega (arith, ints)
square_nonneg (negsuc a) = omega (arith, ints)

-- for `simp`: sums of products, each bracketed to the right
pub ruleset expand = (
  mul_add,
  add_mul,
  mul_neg,
  neg_mul,
  mul_assoc,
  *ℤ_comm,
  left_comm,
  one_mul,
  mul_one,
  zero_mul,
  mul_zero,
)
