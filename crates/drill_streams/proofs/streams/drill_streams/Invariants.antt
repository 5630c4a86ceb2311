-- The streams so far are those of a drill of so many steps.
use Rattle.drill_streams.specs.Streams.{drill_after}
use Rattle.drill_streams.proofs.SoFar.{IsSoFar}
use Rattle.drill_streams.proofs.streams.drill_streams.Given as goal

abbrev pub invariant-loop-done : goal.invariant-loop-done
invariant-loop-done l =
    IsSoFar l.draws.number l.sensors.items l.operators.items (drill_after l.seed l.done)
