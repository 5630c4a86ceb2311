use Rattle.std.proofs.Common.{◌≡◌, ◌∙◌, sym, rules, map, to_z, of_z, w64}
use Rattle.std.proofs.lemmas.Int.{to_z-of_z}
use Rattle.thrust_region.specs.Pieces.{points_of}
use Rattle.feasibility.proofs.Reached.{reduced_as}
use Rattle.allocator.specs.Reaches.{denominator_of}
use Rattle.allocator.proofs.Shares.{shares_give}
use Rattle.allocator.proofs.thrusts.given.Goals as goal

pub returns-clause-gives : goal.returns-clause-gives
returns-clause-gives c question one_each rest same_fixed chosen reached =
    let reach = c.args.reach.now in
    let m_is : to_z w64 (of_z w64 c.denominator.result) ≡ denominator_of reach.exit =
    to_z-of_z w64 _ (search rules) ∙ c.denominator.ensures in
    let q_is : to_z w64 (of_z w64 c.lowest-q.result.q) ≡ c.lowest-q.result.q = to_z-of_z w64 _
    (search rules) in
    shares_give question reach.choice reach.exit reach.part.top reach.part.bottom _ one_each rest
    reached.there reached.exits reached.same (map points_of c.args.chosen.now.pieces.items)
    c.args.fixed.now c.lowest-q.result.thrusts.list.items chosen same_fixed
    (reduced_as m_is c.means.ensures (sym q_is) c.lowest-q.ensures)
