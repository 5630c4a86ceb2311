-- The demands of a path are within their limits.
use Rattle.std.proofs.Common.{subst, sym}
use Rattle.capability.specs.Paths.{IsPath}
use Rattle.capability.proofs.Paths.{demands}
use Rattle.capability_bench.proofs.held.Goals as goal

pub held_by_exits-requires : goal.held_by_exits-requires
held_by_exits-requires c = record {
  demands = demands c.args.plant.now c.base-in-Exits.result c.args.angle c.as_slice.result.now
      (subst (IsPath c.args.plant.now c.base-in-Exits.result c.args.angle)
      (sym c.as_slice.ensures.value) c.path.ensures);
}
