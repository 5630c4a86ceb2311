-- Vectors whose components are equal, and components that are within bounds.
use Rattle.std.proofs.Common.{◌≡◌, ℤ, neg_ℤ, ◌≤ℤ◌, T, ◌&&◌, int_le, arith}
use Rattle.std.proofs.lemmas.Int.{ints}
use Rattle.int_ring.proofs.Laws.{linear}
use Rattle.int_ring.proofs.Machine.{Strips, machine, strip_known}
use Rattle.int_ring.proofs.Intervals.{Known, under_both}
use Rattle.plant_model.specs.Numbers.{IsWithin}
use Rattle.wrench_geometry.specs.declared.vector.Vec3.{Vec3}
use Rattle.wrench_geometry.specs.declared.vector.TheConstants.{MOST_FACTOR}
use Rattle.wrench_geometry.specs.declared.vertices.TheConstants.{MOST_DETERMINANT}
use Rattle.wrench_geometry.specs.Vectors.{IsVectorWithin, cross_of, det_of}
use Rattle.wrench_geometry.specs.Wrenches.{IsSum}
use Rattle.wrench_geometry.specs.Vertices.{IsShort}

pub same_vector : {a b : Vec3} → a.x ≡ b.x → a.y ≡ b.y → a.z ≡ b.z → a ≡ b
same_vector p q r = λ i. record { x = p i; y = q i; z = r i }

-- a number whose interval lies between the bounds is within them
known_within : (most z v l h : ℤ) → Known z v l h → T (int_le (neg_ℤ most) l && int_le h most) →
    IsWithin most z
known_within most z v l h k = under_both (int_le (neg_ℤ most) l) (int_le h most) (λ t. t)
    (λ t. t) fit
  where
    fit : T (int_le (neg_ℤ most) l) → T (int_le h most) → IsWithin most z
    fit s t =
        let a = k.is in
        let b = k.from_low in
        let c = k.to_high in
        record { low = omega (arith, linear); high = omega (arith, linear) }

-- z is within the bounds: `within (search machine depth 40) tt`
pub within : {most z : ℤ} (s : Strips z) →
    T (s.ok && (int_le (neg_ℤ most) s.low && int_le s.high most)) → IsWithin most z
within {most} {z} s = under_both s.ok (int_le (neg_ℤ most) s.low && int_le s.high most) s.known
    (λ t. t) (known_within most z s.value s.low s.high)

-- bounds that are at least as wide
pub wider : {f m : ℤ} {v : Vec3} (f' m' : ℤ) → f ≤ℤ f' → m ≤ℤ m' → IsVectorWithin f m v →
    IsVectorWithin f' m' v
wider f' m' h k w =
    let x = w.x in
    let y = w.y in
    let z = w.z in
    record {
      x = record { low = omega (arith, linear); high = omega (arith, linear) };
      y = record { low = omega (arith, linear); high = omega (arith, linear) };
      z = record { low = omega (arith, linear); high = omega (arith, linear) };
    }

-- what `search machine` takes of a number within bounds, bound by a `let`
abbrev pub bounded : {most z : ℤ} → IsWithin most z → Strips z
bounded {most} {z} w = strip_known z (record { bound = neg_ℤ most; holds = w.low })
    (record { bound = most; holds = w.high })

-- the normal of two sums is one whose products are taken in 64 bits
pub cross_is_short : (a b : Vec3) → IsSum a → IsSum b → IsShort (cross_of a b)
cross_is_short a b h k =
    record {
      x = within (search machine depth 40) tt;
      y = within (search machine depth 40) tt;
      z =
          within (search machine depth 40) tt;
    }

pub det_within : (a b c : Vec3) → IsSum a → IsSum b → IsSum c →
    IsWithin MOST_DETERMINANT (det_of a b c)
det_within a b c h k l = within (search machine depth 40) tt

pub factor_is : {v : Vec3} → IsSum v → IsVectorWithin MOST_FACTOR MOST_FACTOR v
factor_is w = wider MOST_FACTOR MOST_FACTOR (omega (arith, ints)) (omega (arith, ints)) w
