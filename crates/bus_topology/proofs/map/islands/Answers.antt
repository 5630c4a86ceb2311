use Rattle.std.proofs.Common.{◌≡◌, ℕ, length, subst, arith}
use Rattle.std.proofs.lemmas.Grind.{common_steps}
use Rattle.bus_topology.specs.Islands.{IsMapSoFar}
use Rattle.bus_topology.proofs.Maps.{map_when_taken}
use Rattle.bus_topology.proofs.map.islands.Goals as goal

pub returns : goal.returns
returns c =
    let all : c.loop-place.place ≡ length c.args.plant.now.ties.items =
    grind (arith, common_steps) in
    map_when_taken c.args.plant.now c.args.standing.now c.loop-place.islands.of
    (subst (λ (taken : ℕ). IsMapSoFar c.args.plant.now c.args.standing.now taken
    c.loop-place.islands.of) all c.loop-place.invariant)
