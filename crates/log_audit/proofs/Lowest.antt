-- A number has one fraction in lowest terms.
use Rattle.std.proofs.Common.{◌≡◌, ◌∙◌, ℕ, zero, suc, ◌*◌, ◌/◌, ◌%◌, ◌≤◌, ◌<◌, ℤ, pos, negsuc, ◌≤ℤ◌}
use Rattle.std.proofs.Common.{refl, ap, sym, subst, arith}
use Prim.Native.Nat.{◌∣◌}
use Rattle.std.proofs.Math.Nat.{div-mul_cancel, dvd-mul_left, dvd-mul_right, dvd_of_mul-dvd-mul_right}
use Rattle.std.proofs.Math.Nat.{mod-lt, mul-div_cancel, mul-dvd-mul_right}
use Rattle.std.proofs.lemmas.Int.{ints}
use Rattle.std.proofs.lemmas.Nat.Gcd.{IsGcd-from_mod, IsGcd-from_zero, dvd_antisymm, dvd_trans}
use Rattle.std.specs.Int.{IsGcd}
use Rattle.std.specs.Int.RustNames.{unsigned_abs}
use Rattle.dp_num.specs.Fractions.{IsInLowestTerms, SameQuotient}
use Rattle.dp_num.proofs.Divisors.{IsGcd-from_IsGreatestCommonDivisor}

-- any two numbers have a greatest common divisor, as Euclid finds it
gcd_exists : (steps a b : ℕ) → b ≤ steps → (g : ℕ) × IsGcd a b g
gcd_exists steps a zero few = (a, IsGcd-from_zero a zero refl)
gcd_exists zero a (suc b) few = absurd (omega (arith, few))
gcd_exists (suc steps) a (suc b) few =
    let below : a % suc b < suc b = mod-lt a (omega arith) in
    let found = gcd_exists steps (suc b) (a % suc b) (omega (arith, few, below)) in
    (found.0, IsGcd-from_mod a (suc b) found.0 found.1)

-- what divides a product and has no divisor in common with the first factor divides the second
divides_other : (t u k : ℕ) → 0 < k → IsGcd t u 1 → u ∣ t * k → u ∣ k
divides_other t u k some lowest divides =
    let found = gcd_exists (u * k) (t * k) (u * k) (omega arith) in
    let g = found.0 in
    let own : k ∣ g = found.1.2 k (dvd-mul_left k t) (dvd-mul_left k u) in
    let q = g / k in
    let is : q * k ≡ g = div-mul_cancel k own in
    let first : q ∣ t =
    dvd_of_mul-dvd-mul_right q some (subst (λ (m : ℕ). m ∣ t * k) (sym is) found.1.0) in
    let second : q ∣ u =
    dvd_of_mul-dvd-mul_right q some (subst (λ (m : ℕ). m ∣ u * k) (sym is) found.1.1) in
    let once : 1 * k ≡ k = omega arith in
    let to_k : g ∣ k =
    subst (λ (m : ℕ). m ∣ k) is
    (subst (λ (m : ℕ). q * k ∣ m) once (mul-dvd-mul_right q (lowest.2 q first second) k)) in
    let own_product : u ∣ u * k = dvd-mul_right u k in
    dvd_trans u (found.1.2 u divides own_product) to_k

-- two fractions in lowest terms that are one number
pub lowest_are_one : (t u s v : ℕ) → 0 < u → 0 < v → IsGcd t u 1 → IsGcd s v 1
    → t * v ≡ s * u → (t ≡ s) × (u ≡ v)
lowest_are_one t u s v some other first second same =
    let there : u ∣ v =
    divides_other t u v other first (subst (λ (m : ℕ). u ∣ m) (sym same) (dvd-mul_left u s)) in
    let back : v ∣ u =
    divides_other s v u some second (subst (λ (m : ℕ). v ∣ m) same (dvd-mul_left v t)) in
    let bottoms : u ≡ v = dvd_antisymm there back in (
      sym (mul-div_cancel t other)
          ∙ ap (λ (m : ℕ). m / v) (same ∙ ap (λ (m : ℕ). s * m) bottoms) ∙ mul-div_cancel s other,
      bottoms,
    )

pub lowest_terms_are_one : (a b c d : ℤ) → pos 0 ≤ℤ a → pos 1 ≤ℤ b → pos 0 ≤ℤ c → pos 1 ≤ℤ d
    → IsInLowestTerms a b → IsInLowestTerms c d → SameQuotient a b c d → (a ≡ c) × (b ≡ d)
lowest_terms_are_one (pos t) (pos u) (pos s) (pos v) top bottom other_top other_bottom first second
    same =
    let naturals = lowest_are_one t u s v (omega (arith, ints, bottom))
    (omega (arith, ints, other_bottom)) (IsGcd-from_IsGreatestCommonDivisor t u 1 first)
    (IsGcd-from_IsGreatestCommonDivisor s v 1 second) (ap unsigned_abs same) in
    (ap pos naturals.0, ap pos naturals.1)
lowest_terms_are_one (negsuc t) b c d top bottom other_top other_bottom first second same =
    absurd (omega (arith, ints, top))
lowest_terms_are_one (pos t) (negsuc u) c d top bottom other_top other_bottom first second same =
    absurd (omega (arith, ints, bottom))
lowest_terms_are_one (pos t) (pos u) (negsuc s) d top bottom other_top other_bottom first second
    same = absurd (omega (arith, ints, other_top))
lowest_terms_are_one (pos t) (pos u) (pos s) (negsuc v) top bottom other_top other_bottom first
    second same = absurd (omega (arith, ints, other_bottom))
