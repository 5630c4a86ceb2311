use Rattle.std.proofs.Common.{◌≡◌, ◌+◌, length, slice_get, Some, true, refl, rules, arith, subst}
use Rattle.std.proofs.Common.{sym}
use Rattle.std.proofs.lemmas.Grind.{common_steps}
use Rattle.std.proofs.lemmas.Option.{slice_get_read, gets}
use Rattle.bus_topology.specs.Islands.{IsLive, IsMapSoFar}
use Rattle.bus_topology.proofs.Maps.{joins_its_ends, live_ends, map_kept, map_merged, merged_map}
use Rattle.bus_topology.proofs.map.IslandMap.take_tie.Goals as goal
use Rattle.bus_topology.proofs.map.IslandMap.take_tie.Goals.{else-standing-place-via-then-standing-place+then-is_live+else-is_live-2}
use Rattle.bus_topology.proofs.map.IslandMap.take_tie.Goals.{else-standing-place-via-then-standing-place+else-is_live}
use Rattle.bus_topology.proofs.map.IslandMap.take_tie.Goals.{else-standing-place-via-else-standing-place}

pub returns-then-is_live-2 : goal.returns-then-is_live-2
returns-then-is_live-2 c =
    let long : length c.args.self.now.of ≡ 8 = search rules in
    let closed : slice_get c.args.standing.now.closed c.args.place ≡ Some true =
    grind (arith, common_steps, gets) in
    let first : IsLive c.args.plant.now c.args.standing.now c.index-deref-place.result.first =
    search rules in
    let second : IsLive c.args.plant.now c.args.standing.now c.index-deref-place.result.second =
    search rules in
    let items : c.deref.result.now ≡ c.args.plant.now.ties.items = cc in
    let is_tie =
    slice_get_read c.args.plant.now.ties.items _ c.args.place c.index-deref-place.result refl
    c.requires.place (rw items at c.index-deref-place.is) in
    let is : c.renumber.new.self.of ≡ merged_map c.args.self.now.of c.index-deref-place.result =
    cc in
    subst (IsMapSoFar c.args.plant.now c.args.standing.now (c.args.place + 1)) (sym is)
    (map_merged c.args.plant.now c.args.standing.now c.args.self.now.of c.args.place
    c.index-deref-place.result long c.requires.so_far is_tie
    (joins_its_ends c.args.plant.now c.args.standing.now c.args.place c.index-deref-place.result
    is_tie closed first second))

pub returns-else-standing-place : goal.returns-else-standing-place
returns-else-standing-place c =
    let items : c.deref.result.now ≡ c.args.plant.now.ties.items = cc in
    let is_tie =
    slice_get_read c.args.plant.now.ties.items _ c.args.place c.index-deref-place.result refl
    c.requires.place (rw items at c.index-deref-place.is) in
    map_kept c.args.plant.now c.args.standing.now c.args.self.now.of c.args.place c.requires.so_far
    (λ a b j.
    let ends =
    live_ends c.args.plant.now c.args.standing.now c.args.place c.index-deref-place.result a b
    is_tie j in
    elim c.else-standing-place.branch [
      | else-standing-place-via-then-standing-place+then-is_live+else-is_live-2 w ↦
          (let yes = w.is_live-then-is_live.ensures.1 ends.1 in cc)
      | else-standing-place-via-then-standing-place+else-is_live w ↦
          (let yes = w.is_live.ensures.1 ends.0 in cc)
      | else-standing-place-via-else-standing-place w ↦
          (let closed = j.closed in grind (arith, common_steps, gets))
    ])
