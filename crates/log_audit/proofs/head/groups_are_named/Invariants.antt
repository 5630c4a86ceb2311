-- The groups so far are named.
use Rattle.std.proofs.Common.{All, IsTrue, take}
use Rattle.plant_model.specs.Names.{is_name}
use Rattle.log_audit.proofs.head.groups_are_named.Given as goal

abbrev pub invariant-loop-group : goal.invariant-loop-group
invariant-loop-group l =
    All (λ group. IsTrue (is_name group.name)) (take l.group-index l.fn.plant.groups.items)
