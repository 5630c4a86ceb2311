use Rattle.std.proofs.Common.{sym, ◌∙◌}
use Rattle.toml.specs.View.{table_view}
use Rattle.plant_file.specs.Faults.{part_faults}
use Rattle.plant_file.specs.Keys.{arrays}
use Rattle.plant_file.proofs.JudgedLemmas.{walk_failed, walk_goes_on}
use Rattle.plant_file.proofs.judging.judge_parts.Goals as goal

pub returns-in_err-judge_part : goal.returns-in_err-judge_part
returns-in_err-judge_part c =
    walk_failed (part_faults c.args.format (table_view c.args.document.now)) arrays
    c.loop-part.part-index _ c.loop-part-test.true _ _
    c.from_residual.ensures.1 (sym c.judge_part.ensures ∙ c.in_err-judge_part.was)
    c.loop-part.invariant

pub loop-part-preserved : goal.loop-part-preserved
loop-part-preserved c =
    walk_goes_on (part_faults c.args.format (table_view c.args.document.now)) arrays
    c.loop-part.part-index _ c.loop-part-test.true
    (sym c.judge_part.ensures ∙ c.in_ok-judge_part.was) c.loop-part.invariant
