-- Thrusts whose products with points fit, and that those of a hull are such.
use Rattle.std.proofs.Common.{◌≡◌, ℤ, pos, neg_ℤ, ◌≤ℤ◌, ◌<ℤ◌, true, false, SFits, w32, arith}
use Rattle.std.specs.Prelude.{IsTrue}
use Rattle.std.proofs.lemmas.Int.{ints}
use lib.Signed.{lt_z, le_z}
use Rattle.int_ring.proofs.Laws.{linear}
use Rattle.int_ring.proofs.Machine.{Strips, strip_known}
use Rattle.int_ring.proofs.Intervals.{signed_from, signed_to}
use Rattle.plant_model.specs.Numbers.{IsWithin}
use Rattle.plant_model.specs.declared.thrust.Point.{Point}
use Rattle.plant_model.specs.declared.thrust.Thrust.{Thrust}
use Rattle.certificate.specs.Sides.{IsInTriangle, IsNear, IsOnWay}
use Rattle.certificate.specs.declared.hull.TheConstants.{FARTHEST}
use Rattle.certificate.proofs.Hulls.{IsMix, mix_of_triangle, mix_of_way, mix_within}

-- what `search machine` takes of a number within bounds, bound by a `let`
abbrev pub bounded : {most z : ℤ} → IsWithin most z → Strips z
bounded {most} {z} w =
    strip_known z (record { bound = neg_ℤ most; holds = w.low }) (record {
      bound = most;
      holds =
          w.high;
    })

-- a coordinate of a point of the type
pub coordinate : (z : ℤ) → SFits w32 z → IsWithin FARTHEST z
coordinate z h =
    let low = signed_from w32 z h in
    let high = signed_to w32 z h in
    record { low = omega (arith, linear); high = omega (arith, linear) }

near_of_mix : (p r : Point) (a : Thrust) (q : ℤ) → SFits w32 p.x → SFits w32 p.y → SFits w32 r.x →
    SFits w32 r.y → IsMix p r a q → IsNear a q
near_of_mix p r a q px py rx ry m =
    let from_0 : pos 0 ≤ℤ FARTHEST = omega (arith, linear) in
    record {
      x = mix_within m.k m.u m.v q FARTHEST a.x p.x r.x m.k_above_0 m.u_from_0 m.v_from_0 from_0
          m.within (coordinate p.x px) (coordinate r.x rx) m.x;
      y = mix_within m.k m.u m.v q FARTHEST a.y p.y r.y m.k_above_0 m.u_from_0 m.v_from_0 from_0
          m.within (coordinate p.y py) (coordinate r.y ry) m.y;
    }

pub near_of_way : (p : Point) (a : Thrust) (q : ℤ) → SFits w32 p.x → SFits w32 p.y → pos 1 ≤ℤ q →
    IsOnWay p a q → IsNear a q
near_of_way p a q px py from_1 way = near_of_mix p p a q px py px py (mix_of_way p a q from_1 way)

pub near_of_triangle : (p r : Point) (a : Thrust) (q : ℤ) → SFits w32 p.x → SFits w32 p.y →
    SFits w32 r.x → SFits w32 r.y → IsInTriangle p r a q → IsNear a q
near_of_triangle p r a q px py rx ry within =
    near_of_mix p r a q px py rx ry (mix_of_triangle p r a q within)

-- what a test between two numbers that are a and b says
pub passed : {a b x y : ℤ} → x ≡ a → y ≡ b → IsTrue (le_z x y) → a ≤ℤ b
passed {a} {b} {x} {y} e f t = grind (arith, ints)

pub passes : {a b x y : ℤ} → x ≡ a → y ≡ b → a ≤ℤ b → IsTrue (le_z x y)
passes {a} {b} {x} {y} e f h = grind (arith, ints)

pub failed : {a b x y : ℤ} → x ≡ a → y ≡ b → le_z x y ≡ false → b <ℤ a
failed {a} {b} {x} {y} e f t = grind (arith, ints)

pub passed_below : {a b x y : ℤ} → x ≡ a → y ≡ b → lt_z x y ≡ true → a <ℤ b
passed_below {a} {b} {x} {y} e f t = grind (arith, ints)

pub failed_below : {a b x y : ℤ} → x ≡ a → y ≡ b → lt_z x y ≡ false → b ≤ℤ a
failed_below {a} {b} {x} {y} e f t = grind (arith, ints)

pub not_both : {a b : ℤ} {P : Type 0} → a <ℤ b → b ≤ℤ a → P
not_both {a} {b} {P} h k = absurd (omega (arith, ints))
