-- The faults of a thruster, as its three tests have them.
use Rattle.std.proofs.Common.{◌≡◌, ℕ, ◌++◌, ◌∙◌, length, Bool, ap}
use Rattle.toml.specs.Data.{Data}
use Rattle.plant_model.specs.Rings.{are_sectors, is_ring}
use Rattle.plant_file.specs.declared.fault.Key.TheVariants.{Barred, Forbid, Ring}
use Rattle.plant_file.specs.declared.fault.PlantFault.TheVariants.{PieceBad, RingNotConvex}
use Rattle.plant_file.specs.declared.fault.PlantFault.TheVariants.{SectorBad}
use Rattle.plant_file.specs.Described.{naturals_at, pieces_in, points_at, sectors_at}
use Rattle.plant_file.specs.Faults.{judged}
use Rattle.plant_file.specs.PlantText.{are_barred, thruster_faults, unless}

module _ (index : ℕ) (d : Data) (ring sectors barred : Bool) where
  pub thruster_judged : is_ring (points_at Ring d) ≡ ring
      → are_sectors (length (points_at Ring d)) (sectors_at Forbid d) ≡ sectors
      → are_barred (length (pieces_in d)) (naturals_at Barred d) ≡ barred
      → judged (thruster_faults (index, d))
      ≡ judged (unless ring (RingNotConvex index) ++ unless sectors (SectorBad index)
      ++ unless barred (PieceBad index))
  thruster_judged is_the_ring are_the_sectors are_the_barred =
      let sectors_now =
      unless (are_sectors (length (points_at Ring d)) (sectors_at Forbid d))
      (SectorBad index) in
      let barred_now =
      unless (are_barred (length (pieces_in d)) (naturals_at Barred d)) (PieceBad index) in
      ap (λ (x : Bool). judged (unless x (RingNotConvex index) ++ sectors_now ++ barred_now))
      is_the_ring
      ∙ ap (λ (x : Bool).
      judged (unless ring (RingNotConvex index) ++ unless x (SectorBad index) ++ barred_now))
      are_the_sectors
      ∙ ap (λ (x : Bool).
      judged (unless ring (RingNotConvex index) ++ unless sectors (SectorBad index)
      ++ unless x (PieceBad index))) are_the_barred
