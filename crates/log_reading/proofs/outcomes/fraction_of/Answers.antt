-- By the two tests.
use Rattle.std.proofs.lemmas.Int.{to_z-of_z}
use Rattle.std.specs.Int.{w64}
use Rattle.certificate.proofs.Reach.{passed_below}
use Rattle.log_reading.proofs.OutcomeFields.{fraction_made, no_bottom, no_top}
use Rattle.log_reading.proofs.outcomes.fraction_of.Goals as goal
use Rattle.log_reading.proofs.outcomes.fraction_of.Goals.{then-top-lt0-via-then-top-lt0, then-top-lt0-via-else-top-lt0+then-bottom-lt1}
use Rattle.std.proofs.Common.{refl}

pub returns-then-top-lt0 : goal.returns-then-top-lt0
returns-then-top-lt0 c =
    let top = c.args.top in
    let bottom = c.args.bottom in
    elim c.then-top-lt0.branch [
      | then-top-lt0-via-then-top-lt0 w ↦
          no_top top bottom (passed_below (to_z-of_z w64 top c.ranges.top) refl w.if-top-lt0.true)
      | then-top-lt0-via-else-top-lt0+then-bottom-lt1 w ↦
          no_bottom top bottom
          (passed_below (to_z-of_z w64 bottom c.ranges.bottom) refl w.if-bottom-lt1.true)
    ]

pub returns : goal.returns
returns c =
    fraction_made _ c.args.top c.args.bottom (to_z-of_z w64 c.args.top c.ranges.top)
    (to_z-of_z w64 c.args.bottom c.ranges.bottom)
