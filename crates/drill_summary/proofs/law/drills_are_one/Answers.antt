-- One summary of all histories of a drill.
use Rattle.std.specs.Prelude.{map}
use Rattle.plant_model.specs.Demo.{demo_parts}
use Rattle.plant_core.specs.declared.call.Call.TheVariants as calls
use Rattle.drill_streams.specs.Streams.{drill_operators, drill_sensors}
use Rattle.drill_summary.proofs.Drills.{drill-apart}
use Rattle.drill_summary.proofs.Summed.{one-summary}
use Rattle.drill_summary.proofs.law.drills_are_one.Goals as goal

pub returns : goal.returns
returns c = λ limit seed size history other few stands stands_other.
    one-summary demo_parts limit (map calls.Telegram (drill_sensors seed size))
    (map calls.Telegram (drill_operators seed size)) history other (drill-apart seed size few)
    stands stands_other
