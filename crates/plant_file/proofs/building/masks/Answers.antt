use Rattle.std.proofs.Common.{arith}
use Rattle.toml.specs.View.{view}
use Rattle.plant_model.specs.declared.limits.TheConstants.{MOST_PIECES, MOST_THRUSTERS}
use Rattle.plant_file.specs.declared.fault.Key.TheVariants.{Barred}
use Rattle.plant_file.specs.Described.{mask_of, naturals_at}
use Rattle.plant_file.specs.PlantText.{are_barred}
use Rattle.plant_file.proofs.BuiltLemmas.{all_at, filled_more}
use Rattle.plant_file.proofs.building.masks.Goals as goal

pub mask-requires : goal.mask-requires
mask-requires c =
    all_at view (λ d. are_barred MOST_PIECES (naturals_at Barred d)) c.args.elements.now
    c.loop-place.place c.index-elements-place.result c.loop-place-test.true
    c.index-elements-place.is c.requires.barred

pub loop-place-preserved : goal.loop-place-preserved
loop-place-preserved c =
    filled_more (λ d. mask_of (naturals_at Barred d)) view c.args.elements.now c.loop-place.place
    MOST_THRUSTERS 0 c.index-elements-place.result c.loop-place.masks c.mask.result
    c.loop-place-test.true (omega arith) c.index-elements-place.is c.loop-place.invariant
    c.mask.ensures
