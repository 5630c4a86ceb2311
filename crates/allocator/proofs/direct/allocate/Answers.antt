use Rattle.std.proofs.Common.{sym, subst}
use Rattle.allocator.specs.Reaches.{AreAtRest}
use Rattle.allocator.proofs.Resting.{intact_at_rest}
use Rattle.allocator.proofs.direct.allocate.Goals as goal

pub allotted-requires-clause-rest : goal.allotted-requires-clause-rest
allotted-requires-clause-rest c =
    subst AreAtRest (sym c.surviving.ensures.fixed)
    (intact_at_rest c.args.plant.now c.args.status.now)
