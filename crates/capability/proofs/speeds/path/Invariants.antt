use Rattle.capability.proofs.Paths.{IsPathBelow}
use Rattle.capability.proofs.speeds.path.Given as goal

abbrev pub invariant-loop-speed : goal.invariant-loop-speed
invariant-loop-speed l = IsPathBelow l.plant l.base l.angle l.speed l.path.items
