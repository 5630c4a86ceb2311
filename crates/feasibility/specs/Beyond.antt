-- Demands that are farther than any sum of thrusts, and those that are met by the fixed thrusts.
use Rattle.std.specs.Prelude.{◌≡◌, ◌⊎◌, ℤ, pos, neg_ℤ, ◌<ℤ◌, List, map}
use Rattle.plant_model.specs.Numbers.{IsWithin}
use Rattle.plant_model.specs.declared.thrust.Point.{Point}
use Rattle.wrench_geometry.specs.declared.vector.Vec3.{Vec3}
use Rattle.wrench_geometry.specs.Vectors.{dot_of}
use Rattle.wrench_geometry.specs.Vertices.{IsShort}
use Rattle.wrench_geometry.specs.Wrenches.{IsSum}
use Rattle.certificate.specs.declared.outcome.Outcome.{Outcome}
use Rattle.certificate.specs.declared.outcome.Outcome.TheVariants.{Holds, Lost}
use Rattle.certificate.specs.Sides.{place_of}
use Rattle.feasibility.specs.Lowest.{IsPrimitive}

-- 0 where z is within the bound, 1 above it, and -1 below it
abbrev pub IsSide : ℤ → ℤ → ℤ → Type 0
IsSide most z side =
    ((side ≡ pos 0) × IsWithin most z)
    ⊎ (((side ≡ pos 1) × (most <ℤ z)) ⊎ ((side ≡ neg_ℤ (pos 1)) × (z <ℤ neg_ℤ most)))

-- along w, a direction in lowest terms, the vector is farther than any sum of thrusts
pub record IsBeyond (ahead w : Vec3) : Type 0 where
  pub short : IsShort w
  pub primitive : IsPrimitive w
  pub past : (v : Vec3) → IsSum v → dot_of w v <ℤ dot_of w ahead

-- the fixed thrusts over 1, in the first choice
abbrev pub IsStill : List Point → Outcome → Type 0
IsStill fixed (Holds choice q thrusts) =
    (choice ≡ 0) × (q ≡ pos 1) × (map place_of thrusts.list.items ≡ fixed)
IsStill fixed (Lost cuts) = ⊥
