-- The thrusters so far are named.
use Rattle.std.proofs.Common.{All, IsTrue, take}
use Rattle.plant_model.specs.Names.{is_name}
use Rattle.log_audit.proofs.head.thrusters_are_named.Given as goal

abbrev pub invariant-loop-thruster : goal.invariant-loop-thruster
invariant-loop-thruster l =
    All (λ thruster. IsTrue (is_name thruster.name)) (take l.thruster-index l.fn.plant.thrusters.items)
