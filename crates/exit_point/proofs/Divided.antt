-- What is left of a number once a divisor is divided out, and divisors of a number's size.
use Rattle.std.proofs.Common.{◌≡◌, ℤ, pos, negsuc, neg_ℤ, ◌-ℤ◌, ◌*ℤ◌, ◌≤ℤ◌, ◌<ℤ◌, [], ◌∷◌, ap, sym}
use Rattle.std.proofs.Common.{◌∙◌, refl, arith}
use Rattle.std.specs.Int.{int_div_euclid}
use Rattle.std.specs.Int.RustNames.{unsigned_abs}
use Rattle.std.proofs.lemmas.Int.{by_lt_z, ints}
use Rattle.int_ring.proofs.Laws.{linear, mul_assoc, mul_nonneg, neg_mul}
use Rattle.int_ring.proofs.Quotients.{floor_is}
use Rattle.int_ring.proofs.Ring.{ring, reads}
use Rattle.plant_model.specs.Numbers.{IsWithin}
use Rattle.dp_num.specs.Fractions.{Divides, IsGreatestCommonDivisor}
use Rattle.wrench_geometry.specs.declared.vector.Vec3.{Vec3}
use Rattle.exit_point.specs.Corners.{DividesEach}

-- the floor of an exact quotient is the quotient
exact_is : (x g : ℤ) (h : Divides g x) → pos 1 ≤ℤ g → int_div_euclid x g ≡ h.0
exact_is x g h p =
    let is = h.1 in
    floor_is x g h.0 (omega (arith, ints)) (omega (arith, linear)) (omega (arith, linear))

pub exact : (x g : ℤ) → Divides g x → pos 1 ≤ℤ g → x ≡ g *ℤ int_div_euclid x g
exact x g h p = sym h.1 ∙ turn h.0 g ∙ ap (λ (z : ℤ). g *ℤ z) (sym (exact_is x g h p))
  where
    turn : (a b : ℤ) → a *ℤ b ≡ b *ℤ a
    turn a b = ring (a ∷ b ∷ []) (search reads depth 40) refl

pub divides_through : (a b c : ℤ) → Divides a b → Divides b c → Divides a c
divides_through a b c h k = (k.0 *ℤ h.0, mul_assoc k.0 h.0 a ∙ ap (λ (z : ℤ). k.0 *ℤ z) h.1 ∙ k.1)

abbrev pub divides_itself : (a : ℤ) → Divides a a
divides_itself a = (pos 1, omega (arith, ints))

pub divides_zero : (a : ℤ) → Divides a (pos 0)
divides_zero a = (pos 0, omega (arith, ints))

pub divides_number : (g x : ℤ) → Divides g (pos (unsigned_abs x)) → Divides g x
divides_number g (pos a) h = h
divides_number g (negsuc a) h = (neg_ℤ h.0, neg_mul h.0 g ∙ ap neg_ℤ h.1)

-- the greatest common divisor of sizes divides the numbers
pub three_divided : (g f a b c : ℤ) (w : Vec3) → IsGreatestCommonDivisor a b f →
    IsGreatestCommonDivisor f c g → a ≡ pos (unsigned_abs w.x) → b ≡ pos (unsigned_abs w.y) →
    c ≡ pos (unsigned_abs w.z) → DividesEach g w
three_divided g f a b c w h k p q r = record {
  x = divides_number g w.x (rw p at (divides_through g f a k.divides_first h.divides_first));
  y = divides_number g w.y (rw q at (divides_through g f b k.divides_first h.divides_second));
  z = divides_number g w.z (rw r at k.divides_second);
}

pub two_divided : (g b c : ℤ) (w : Vec3) → IsGreatestCommonDivisor b c g → w.x ≡ pos 0 →
    b ≡ pos (unsigned_abs w.y) → c ≡ pos (unsigned_abs w.z) → DividesEach g w
two_divided g b c w k o q r = record {
  x = rw o (divides_zero g);
  y = divides_number g w.y (rw q at k.divides_first);
  z = divides_number g w.z (rw r at k.divides_second);
}

pub one_divided : (g : ℤ) (w : Vec3) → w.x ≡ pos 0 → w.y ≡ pos 0 → g ≡ pos (unsigned_abs w.z) →
    DividesEach g w
one_divided g w o p r = record {
  x = rw o (divides_zero g);
  y = rw p (divides_zero g);
  z = divides_number g w.z (pos 1, (divides_itself g).1 ∙ r);
}

-- an exact quotient is within the bounds of the number
pub quotient_within : (m x g : ℤ) → Divides g x → pos 1 ≤ℤ g → IsWithin m x →
    IsWithin m (int_div_euclid x g)
quotient_within m x g h p w = by_lt_z (int_div_euclid x g) (pos 0) below above
  where
    is : x ≡ g *ℤ int_div_euclid x g
    is = exact x g h p

    below : int_div_euclid x g <ℤ pos 0 → IsWithin m (int_div_euclid x g)
    below l =
        let q = int_div_euclid x g in
        let more = mul_nonneg (g -ℤ pos 1) (neg_ℤ q) (omega (arith, ints)) (omega (arith, ints)) in
        let parts : (g -ℤ pos 1) *ℤ neg_ℤ q ≡ q -ℤ g *ℤ q =
        ring (g ∷ q ∷ []) (search reads depth 40) refl in
        let low = w.low in
        let high = w.high in
        record { low = omega (arith, linear, is, more, parts); high = omega (arith, linear) }

    above : pos 0 ≤ℤ int_div_euclid x g → IsWithin m (int_div_euclid x g)
    above l =
        let q = int_div_euclid x g in
        let more = mul_nonneg (g -ℤ pos 1) q (omega (arith, ints)) l in
        let parts : (g -ℤ pos 1) *ℤ q ≡ g *ℤ q -ℤ q =
        ring (g ∷ q ∷ []) (search reads depth 40) refl in
        let low = w.low in
        let high = w.high in
        record { low = omega (arith, linear); high = omega (arith, linear, is, more, parts) }
