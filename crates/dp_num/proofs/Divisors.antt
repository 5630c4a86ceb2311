-- The greatest common divisor of whole numbers from that of naturals, and what is left once it is
-- divided out.
use Rattle.std.proofs.Common.{◌≡◌, refl, sym, ◌∙◌, ap, subst, ℕ, zero, suc, ◌+◌, ◌*◌, ◌/◌, ◌<◌, ◌≤◌}
use Rattle.std.proofs.Common.{ℤ, pos, negsuc, neg_ℤ, ◌*ℤ◌, ◌≤ℤ◌, ◌<ℤ◌, lit<, arith}
use Prim.Native.Nat.{◌∣◌}
use Rattle.std.proofs.Math.Nat.{mul-le-mul_left, pos_of_ne-zero, dvd-mul_left, mul-dvd-mul_right}
use Rattle.std.proofs.Math.Nat.{dvd_of_mul-dvd-mul_right, div-mul_cancel, one-dvd}
use Rattle.std.proofs.lemmas.Int.{ints, unsigned_abs-mul, to_z-of_z, quot_is, quot_fits}
use Rattle.std.proofs.lemmas.Nat.Gcd.{dvd_refl, dvd-zero, le_of_dvd, IsGcd-from_zero}
use Rattle.std.proofs.lemmas.Nat.Gcd.{IsGcd-from_mod}
use Rattle.std.specs.Int.{IsGcd, Width}
use Rattle.std.specs.Int.RustNames.{unsigned_abs, int_div, int_rem}
use mir.Val.{SFits}
use Rattle.dp_num.proofs.Computed.{back}
use Rattle.dp_num.specs.Fractions.{Divides, IsGreatestCommonDivisor, IsInLowestTerms, SameQuotient}

-- ---- between whole numbers and naturals

dvd-from_Divides : (d n : ℤ) → Divides d n → unsigned_abs d ∣ unsigned_abs n
dvd-from_Divides d n h =
    let size : unsigned_abs n ≡ unsigned_abs h.0 * unsigned_abs d =
    sym (ap unsigned_abs h.1) ∙ unsigned_abs-mul h.0 d in
    subst (λ (m : ℕ). unsigned_abs d ∣ m) (sym size)
    (dvd-mul_left (unsigned_abs d) (unsigned_abs h.0))

opposite-product : (k d : ℕ) → neg_ℤ (pos k) *ℤ negsuc d ≡ pos (k * suc d)
opposite-product zero d = omega (arith, ints)
opposite-product (suc k) d = refl

Divides-from_dvd : (d : ℤ) (n : ℕ) → unsigned_abs d ∣ n → Divides d (pos n)
Divides-from_dvd (pos d) n h = (pos (n / d), ap pos (div-mul_cancel d h))
Divides-from_dvd (negsuc d) n h =
    (neg_ℤ (pos (n / suc d)), opposite-product (n / suc d) d ∙ ap pos (div-mul_cancel (suc d) h))

pub IsGreatestCommonDivisor-from_IsGcd : (a b g : ℕ) → 0 < g → IsGcd a b g
    → IsGreatestCommonDivisor (pos a) (pos b) (pos g)
IsGreatestCommonDivisor-from_IsGcd a b g some h = record {
  positive = omega (arith, ints);
  divides_first = Divides-from_dvd (pos g) a h.0;
  divides_second = Divides-from_dvd (pos g) b h.1;
  greatest = λ d p q. Divides-from_dvd d g
      (h.2 (unsigned_abs d) (dvd-from_Divides d (pos a) p) (dvd-from_Divides d (pos b) q));
}

pub IsGcd-from_IsGreatestCommonDivisor : (a b g : ℕ)
    → IsGreatestCommonDivisor (pos a) (pos b) (pos g) → IsGcd a b g
IsGcd-from_IsGreatestCommonDivisor a b g h = (
  dvd-from_Divides (pos g) (pos a) h.divides_first,
  dvd-from_Divides (pos g) (pos b) h.divides_second,
  λ d p q. dvd-from_Divides (pos d) (pos g)
      (h.greatest (pos d) (Divides-from_dvd (pos d) a p) (Divides-from_dvd (pos d) b q)),
)

-- ---- the greatest common divisor divided out

IsGcd-divided : (a b g : ℕ) → 0 < g → IsGcd (a * g) (b * g) g → IsGcd a b 1
IsGcd-divided a b g some h = (
  one-dvd a,
  one-dvd b,
  λ d p q.
      let both : d * g ∣ g = h.2 (d * g) (mul-dvd-mul_right d p g) (mul-dvd-mul_right d q g) in
      let once : g ≡ 1 * g = omega arith in
      dvd_of_mul-dvd-mul_right d some (subst (λ (m : ℕ). d * g ∣ m) once both),
)

-- what is left of a and b once g is divided out of both
pub record IsReduced (a b t u : ℕ) : Type 0 where
  pub same : t * b ≡ a * u
  pub lowest : IsGcd t u 1
  pub top_within : t ≤ a
  pub bottom_within : u ≤ b
  pub positive : 0 < u
  pub zero : a ≡ 0 → (t ≡ 0) × (u ≡ 1)

reduced : (t u g : ℕ) → 0 < g → 0 < u * g → IsGcd (t * g) (u * g) g → IsReduced (t * g) (u * g) t u
reduced t u g some bottom h =
    let lowest : IsGcd t u 1 = IsGcd-divided t u g some h in
    let positive : 0 < u = pos_of_mul u g bottom in
    let nothing : t * g ≡ 0 → t ≡ 0 = λ e. zero_of_mul t g some e in
    record {
      same = omega arith;
      lowest = lowest;
      top_within = within t g some;
      bottom_within = within u g some;
      positive = positive;
      zero = λ e.
          let none : t ≡ 0 = nothing e in
          let divides_top : u ∣ t = subst (λ (m : ℕ). u ∣ m) (sym none) (dvd-zero u) in
          let one : u ≤ 1 = le_of_dvd (lit< tt) (lowest.2 u divides_top (dvd_refl u)) in
          (none, omega arith);
    }
  where
    within : (n k : ℕ) → 0 < k → n ≤ n * k
    within n k p = omega (arith, mul-le-mul_left n p)

    pos_of_mul : (n k : ℕ) → 0 < n * k → 0 < n
    pos_of_mul zero k p = absurd (omega arith)
    pos_of_mul (suc n) k p = omega arith

    zero_of_mul : (n k : ℕ) → 0 < k → n * k ≡ 0 → n ≡ 0
    zero_of_mul n k p e = omega (arith, within n k p)

pub IsReduced-from_IsGcd : (a b g : ℕ) → 0 < g → 0 < b → IsGcd a b g → IsReduced a b (a / g) (b / g)
IsReduced-from_IsGcd a b g some bottom h =
    let top_whole : a / g * g ≡ a = div-mul_cancel g h.0 in
    let bottom_whole : b / g * g ≡ b = div-mul_cancel g h.1 in
    let P : ℕ → ℕ → Type 0 = λ m n. 0 < n → IsGcd m n g → IsReduced m n (a / g) (b / g) in
    let on_multiples : P (a / g * g) (b / g * g) = reduced (a / g) (b / g) g some in
    let first : P a (b / g * g) = subst (λ (m : ℕ). P m (b / g * g)) top_whole on_multiples in
    let second : P a b = subst (λ (n : ℕ). P a n) bottom_whole first in
    second bottom h

-- the same of whole numbers, in the words of the contracts
pub record IsReducedFraction (top bottom t u : ℤ) : Type 0 where
  pub same : SameQuotient t u top bottom
  pub lowest : IsInLowestTerms t u
  pub top_from_0 : pos 0 ≤ℤ t
  pub bottom_from_1 : pos 1 ≤ℤ u
  pub top_within : t ≤ℤ top
  pub bottom_within : u ≤ℤ bottom
  pub zero : top ≡ pos 0 → (t ≡ pos 0) × (u ≡ pos 1)

pub IsReducedFraction-divided : (top bottom g : ℤ) → pos 0 ≤ℤ top → pos 1 ≤ℤ bottom
    → IsGreatestCommonDivisor top bottom g
    → IsReducedFraction top bottom (int_div top g) (int_div bottom g)
IsReducedFraction-divided (pos a) (pos b) (pos g) p q h =
    let some : 0 < g = omega (arith, ints, h.positive) in
    let bottom : 0 < b = omega (arith, ints) in
    let parts : IsReduced a b (a / g) (b / g) =
    IsReduced-from_IsGcd a b g some bottom (IsGcd-from_IsGreatestCommonDivisor a b g h) in
    record {
      same = ap pos parts.same;
      lowest = IsGreatestCommonDivisor-from_IsGcd (a / g) (b / g) 1 (lit< tt) parts.lowest;
      top_from_0 = omega (arith, ints);
      bottom_from_1 = omega (arith, ints, parts.positive);
      top_within = omega (arith, ints, parts.top_within);
      bottom_within = omega (arith, ints, parts.bottom_within);
      zero = λ e.
          let none : a ≡ 0 = omega (arith, ints) in
          let both = parts.zero none in
          (ap pos both.0, ap pos both.1);
    }
IsReducedFraction-divided (pos a) (pos b) (negsuc g) p q h =
    absurd (omega (arith, ints, h.positive))
IsReducedFraction-divided (pos a) (negsuc b) g p q h = absurd (omega (arith, ints))
IsReducedFraction-divided (negsuc a) b g p q h = absurd (omega (arith, ints))

-- the same of what the code computes
pub IsReducedFraction-computed : (w : Width) (top bottom g : ℤ) → SFits w top → SFits w bottom
    → SFits w g → pos 0 ≤ℤ top → pos 1 ≤ℤ bottom
    → IsGreatestCommonDivisor (back w top) (back w bottom) g
    → IsReducedFraction top bottom (back w (int_div (back w top) (back w g)))
    (back w (int_div (back w bottom) (back w g)))
IsReducedFraction-computed w top bottom g top_fits bottom_fits g_fits p q h =
    let some : pos 0 <ℤ g = omega (arith, ints, h.positive) in
    let quotient = λ (a : ℤ) (f : SFits w a). quot_is w a g f g_fits (quot_fits w a g f some) in
    let first = subst (λ (a : ℤ). IsGreatestCommonDivisor a (back w bottom) g)
    (to_z-of_z w top top_fits) h in
    let both =
    subst (λ (b : ℤ). IsGreatestCommonDivisor top b g) (to_z-of_z w bottom bottom_fits) first in
    let divided = IsReducedFraction-divided top bottom g p q both in
    let top_done = subst (λ (t : ℤ). IsReducedFraction top bottom t (int_div bottom g))
    (sym (quotient top top_fits)) divided in
    subst (λ (u : ℤ). IsReducedFraction top bottom (back w (int_div (back w top) (back w g))) u)
    (sym (quotient bottom bottom_fits)) top_done

-- ---- Euclid's step

-- x and y are at least 0 and not both 0, and have the greatest common divisor of a and b
pub record SharesDivisors (a b x y : ℤ) : Type 0 where
  pub first_from_0 : pos 0 ≤ℤ x
  pub second_from_0 : pos 0 ≤ℤ y
  pub not_both_0 : 0 < unsigned_abs x + unsigned_abs y
  pub same : (g : ℕ) → IsGcd (unsigned_abs x) (unsigned_abs y) g
      → IsGcd (unsigned_abs a) (unsigned_abs b) g

pub SharesDivisors-step : (a b x y : ℤ) → ¬ (y ≡ pos 0) → SharesDivisors a b x y
    → SharesDivisors a b y (int_rem x y)
SharesDivisors-step a b (pos m) (pos n) some h =
    let divisor : 0 < n = pos_of_ne-zero (λ e. some (ap pos e)) in
    record {
      first_from_0 = h.second_from_0;
      second_from_0 = omega (arith, ints);
      not_both_0 = omega arith;
      same = λ g p. h.same g (IsGcd-from_mod m n g p);
    }
SharesDivisors-step a b (pos m) (negsuc n) some h = absurd (omega (arith, ints, h.second_from_0))
SharesDivisors-step a b (negsuc m) y some h = absurd (omega (arith, ints, h.first_from_0))

-- at the end what is left is the greatest common divisor
pub IsGreatestCommonDivisor-at_end : (a b x y : ℤ) → pos 0 ≤ℤ a → pos 0 ≤ℤ b → y ≡ pos 0
    → SharesDivisors a b x y → IsGreatestCommonDivisor a b x
IsGreatestCommonDivisor-at_end (pos a) (pos b) (pos m) (pos n) p q e h =
    let none : n ≡ 0 = omega (arith, ints) in
    IsGreatestCommonDivisor-from_IsGcd a b m (omega (arith, h.not_both_0))
    (h.same m (IsGcd-from_zero m n none))
IsGreatestCommonDivisor-at_end (pos a) (pos b) (pos m) (negsuc n) p q e h =
    absurd (omega (arith, ints))
IsGreatestCommonDivisor-at_end (pos a) (pos b) (negsuc m) y p q e h =
    absurd (omega (arith, ints, h.first_from_0))
IsGreatestCommonDivisor-at_end (pos a) (negsuc b) x y p q e h = absurd (omega (arith, ints))
IsGreatestCommonDivisor-at_end (negsuc a) b x y p q e h = absurd (omega (arith, ints))
