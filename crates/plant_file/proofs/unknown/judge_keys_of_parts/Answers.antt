use Rattle.std.proofs.Common.{sym, ◌∙◌}
use Rattle.toml.specs.View.{table_view}
use Rattle.plant_file.specs.Faults.{unknown_in_part}
use Rattle.plant_file.specs.Keys.{arrays}
use Rattle.plant_file.proofs.JudgedLemmas.{walk_failed, walk_goes_on}
use Rattle.plant_file.proofs.unknown.judge_keys_of_parts.Goals as goal

pub returns-in_err-judge_keys_of_part : goal.returns-in_err-judge_keys_of_part
returns-in_err-judge_keys_of_part c =
    walk_failed (unknown_in_part c.args.format (table_view c.args.document.now)) arrays
    c.loop-part.part-index _ c.loop-part-test.true _ _
    c.from_residual.ensures.1 (sym c.judge_keys_of_part.ensures ∙ c.in_err-judge_keys_of_part.was)
    c.loop-part.invariant

pub loop-part-preserved : goal.loop-part-preserved
loop-part-preserved c =
    walk_goes_on (unknown_in_part c.args.format (table_view c.args.document.now)) arrays
    c.loop-part.part-index _ c.loop-part-test.true
    (sym c.judge_keys_of_part.ensures ∙ c.in_ok-judge_keys_of_part.was) c.loop-part.invariant
