use Rattle.std.proofs.Common.{◌≡◌, ◌≢◌, ◌∙◌, sym, subst}
use Rattle.wrench_geometry.specs.declared.vector.Vec3.{Vec3}
use Rattle.exit_point.specs.Faces.{IsLeastAlong, faces_of, rest_of}
use Rattle.exit_point.specs.Orders.{AreFarthest}
use Rattle.exit_point.proofs.Compared.{apart_from_test, same_from_test}
use Rattle.exit_point.proofs.Ends.{between_three, between_two}
use Rattle.exit_point.proofs.candidates.on_edge.Goals as goal

pub between_two-requires-clause-between : goal.between_two-requires-clause-between
between_two-requires-clause-between c =
    let sums = c.args.sums.now in
    let cut = c.args.cut in
    let beside = c.args.beside in
    let corner = c.requires.corner.chosen.point in
    let second = c.farthest-second.ensures.corner.chosen.point in
    let third = c.farthest-third.ensures.corner.chosen.point in
    let P : Vec3 → Type 0 = λ p. IsLeastAlong (faces_of cut.w sums c.args.corner.places.items)
    (rest_of cut.top c.args.d cut.bottom p) beside.u beside.top beside.bottom in
    let Q : Vec3 → Type 0 = λ t. AreFarthest (record { w = cut.w; u = beside.u; t = t }) sums
    c.farthest-second.result.places.items in
    let same : c.farthest-second.result.point ≡ c.farthest-third.result.point =
    same_from_test _ _ c.if-eq.ensures in
    rw (corner, second)
    (between_two sums c.args.d cut beside.u beside.top beside.bottom c.args.corner.places.items
    c.farthest-second.result.places.items c.farthest-third.result.places.items c.requires.cut
    c.requires.top c.requires.farthest
    (subst Q c.opposite-behind.ensures c.farthest-second.ensures.farthest)
    c.farthest-third.ensures.farthest (subst P corner c.requires.least)
    (sym second ∙ same ∙ third))

pub between_three-requires-clause-between : goal.between_three-requires-clause-between
between_three-requires-clause-between c =
    let sums = c.args.sums.now in
    let cut = c.args.cut in
    let beside = c.args.beside in
    let corner = c.requires.corner.chosen.point in
    let second = c.farthest-second.ensures.corner.chosen.point in
    let third = c.farthest-third.ensures.corner.chosen.point in
    let P : Vec3 → Type 0 = λ p. IsLeastAlong (faces_of cut.w sums c.args.corner.places.items)
    (rest_of cut.top c.args.d cut.bottom p) beside.u beside.top beside.bottom in
    let Q : Vec3 → Type 0 = λ t. AreFarthest (record { w = cut.w; u = beside.u; t = t }) sums
    c.farthest-second.result.places.items in
    let apart : c.farthest-second.result.point ≢ c.farthest-third.result.point =
    apart_from_test _ _ c.if-eq.ensures in
    rw (corner, second, third)
    (between_three sums c.args.d cut beside.u beside.top beside.bottom c.args.corner.places.items
    c.farthest-second.result.places.items c.farthest-third.result.places.items c.requires.cut
    c.requires.top c.requires.farthest
    (subst Q c.opposite-behind.ensures c.farthest-second.ensures.farthest)
    c.farthest-third.ensures.farthest (subst P corner c.requires.least)
    (λ one. apart (second ∙ one ∙ sym third)))
