use Rattle.std.proofs.Common.{false}
use Rattle.std.proofs.Common.{arith}
use Rattle.toml.specs.View.{view}
use Rattle.plant_file.specs.Described.{truth_at}
use Rattle.plant_file.proofs.BuiltLemmas.{filled_more}
use Rattle.plant_file.proofs.parts.flags.Goals as goal

pub loop-place-preserved : goal.loop-place-preserved
loop-place-preserved g c =
    filled_more (truth_at c.args.key) view c.args.elements.now c.loop-place.place g.row.N false
    c.index-elements-place.result c.loop-place.flags c.truth_at.result
    c.loop-place-test.true (omega (arith, c.requires)) c.index-elements-place.is
    c.loop-place.invariant c.truth_at.ensures
