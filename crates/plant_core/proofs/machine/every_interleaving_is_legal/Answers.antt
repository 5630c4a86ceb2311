-- Calls that are applied to a core at its opening.
use Rattle.std.proofs.Common.{[]}
use Rattle.plant_core.proofs.Interleaving.{reaches-answered}
use Rattle.plant_core.proofs.machine.every_interleaving_is_legal.Goals as goal

pub returns : goal.returns
returns c = λ plant limit applied are.
    let reached = reaches-answered plant limit [] applied tt are in (reached.core, reached.legal)
