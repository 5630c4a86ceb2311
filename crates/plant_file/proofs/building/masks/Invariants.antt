-- The elements so far, and 0 past them.
use Rattle.std.proofs.Common.{◌≡◌, map, take}
use Rattle.toml.specs.View.{view}
use Rattle.plant_model.specs.declared.limits.TheConstants.{MOST_THRUSTERS}
use Rattle.plant_file.specs.declared.fault.Key.TheVariants.{Barred}
use Rattle.plant_file.specs.Described.{filled, mask_of, naturals_at}
use Rattle.plant_file.proofs.building.masks.Given as goal

abbrev pub invariant-loop-place : goal.invariant-loop-place
invariant-loop-place l =
    l.masks
    ≡ filled MOST_THRUSTERS 0
    (map (λ d. mask_of (naturals_at Barred d)) (map view (take l.place l.elements)))
