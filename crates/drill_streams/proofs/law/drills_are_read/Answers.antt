-- The streams of each drill.
use Rattle.drill_streams.proofs.Drills.{has-operators, has-sensors}
use Rattle.drill_streams.proofs.law.drills_are_read.Goals as goal

pub returns : goal.returns
returns c = λ seed size few. (has-sensors seed size few, has-operators seed size)
