use Rattle.std.proofs.Common.{◌≡◌, sym, rules, map, to_z, of_z, w64}
use Rattle.std.proofs.lemmas.Int.{to_z-of_z}
use Rattle.thrust_region.specs.Pieces.{points_of}
use Rattle.feasibility.proofs.Reached.{reached_valid, reduced_as}
use Rattle.feasibility.proofs.step.held.Goals as goal

pub returns-clause-valid : goal.returns-clause-valid
returns-clause-valid c question ahead reached =
    let exit = c.args.exit.now in
    let pieces = map points_of c.args.chosen.now.pieces.items in
    let t_is : to_z w64 (of_z w64 exit.t) ≡ exit.t = to_z-of_z w64 _ (search rules) in
    let q_is : to_z w64 (of_z w64 c.lowest-q.result.q) ≡ c.lowest-q.result.q = to_z-of_z w64 _
    (search rules) in
    reached_valid question ahead c.args.number pieces c.args.fixed.now exit _
    c.lowest-q.result.thrusts reached
    (reduced_as t_is c.means.ensures (sym q_is) c.lowest-q.ensures)

pub returns-clause-lowest : goal.returns-clause-lowest
returns-clause-lowest c =
    let q_is : to_z w64 (of_z w64 c.lowest-q.result.q) ≡ c.lowest-q.result.q = to_z-of_z w64 _
    (search rules) in
    rw q_is c.lowest-q.ensures.are_lowest
