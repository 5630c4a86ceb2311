use Rattle.std.proofs.Common.{◌≡◌, ℤ, pos, to_z, of_z, w32, w64}
use Rattle.int_ring.proofs.Machine.{strip, machine}
use Rattle.plant_model.specs.Numbers.{IsWithin}
use Rattle.wrench_geometry.proofs.sums.thrust_of.Goals as goal

same : (z : ℤ) → IsWithin (pos 2000) z → to_z w32 (of_z w32 (to_z w64 (of_z w64 z))) ≡ z
same z within = strip (search machine depth 40) tt

pub returns : goal.returns
returns c =
    let x = same c.args.image.x c.requires.x in
    let y = same c.args.image.y c.requires.y in
    λ i. record { x = x i; y = y i }
