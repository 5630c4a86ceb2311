use Rattle.std.proofs.Common.{◌≡◌, ◌∙◌, ap, sym, subst, arith, rules, to_z, of_z, w64}
use Rattle.std.proofs.lemmas.Int.{ints, to_z-of_z}
use Rattle.wrench_geometry.specs.declared.vector.Vec3.{Vec3}
use Rattle.wrench_geometry.specs.Vectors.{dot_of, zero_vector}
use Rattle.wrench_geometry.proofs.Bounds.{same_vector}
use Rattle.exit_point.specs.Faces.{vector_of}
use Rattle.exit_point.specs.Orders.{AreFarthest}
use Rattle.exit_point.proofs.Ends.{ahead_not_zero, exit_at_meeting, exit_at_start, face_flat}
use Rattle.exit_point.proofs.Ends.{meets_corner, top_from_0}
use Rattle.exit_point.proofs.candidates.exit.Goals as goal

pub returns-then-cut-eq0 : goal.returns-then-cut-eq0
returns-then-cut-eq0 c =
    let at = c.at_corner.ensures in
    exit_at_start c.args.sums.now c.args.d c.at_corner.result c.least_cut-cut.result
    c.origin.result.point c.least_cut-cut.ensures.least
    (omega (arith, ints, c.if-cut-eq0.true)) c.origin.ensures.origin at.cut at.q at.t at.weights
    at.sum

pub rest_past-rest-requires-clause-top : goal.rest_past-rest-requires-clause-top
rest_past-rest-requires-clause-top c =
    let is = c.least_cut-cut.ensures.least in
    let low = top_from_0 c.args.sums.now c.args.d c.least_cut-cut.result is in
    let high = is.top_below in
    record { low = omega (arith, ints, low); high = omega (arith, ints, high) }

pub at_corner-requires-then-rest-eq0-3-clause-share :
    goal.at_corner-requires-then-rest-eq0-3-clause-share
at_corner-requires-then-rest-eq0-3-clause-share c =
    let is = c.least_cut-cut.ensures.least in
    let low = is.bottom_from_1 in
    let high = is.bottom_below in
    let q : to_z w64 (of_z w64 c.least_cut-cut.result.bottom) ≡ c.least_cut-cut.result.bottom =
    to_z-of_z w64 _ (search rules) in
    record { low = omega (arith, ints, low, q); high = omega (arith, ints, high, q) }

pub returns-then-rest-eq0-3 : goal.returns-then-rest-eq0-3
returns-then-rest-eq0-3 c =
    let cut = c.least_cut-cut.result in
    let at = c.at_corner-then-rest-eq0-3.ensures in
    let none : vector_of c.rest_past-rest.result ≡ zero_vector =
    same_vector (omega (arith, ints, c.if-rest-eq0.true))
    (omega (arith, ints, c.if-rest-eq0-2.true)) (omega (arith, ints, c.if-rest-eq0-3.true)) in
    exit_at_meeting c.args.sums.now c.args.d c.at_corner-then-rest-eq0-3.result cut
    c.farthest-corner.result.point _ _ c.least_cut-cut.ensures.least
    (to_z-of_z w64 cut.bottom (search rules)) (to_z-of_z w64 cut.top (search rules))
    (meets_corner cut.top c.args.d cut.bottom c.farthest-corner.result.point
    (sym c.rest_past-rest.ensures.value ∙ none))
    at.cut at.q at.t at.weights at.sum

pub on_edge-requires-clause-farthest : goal.on_edge-requires-clause-farthest
on_edge-requires-clause-farthest c =
    let none = c.default-none.ensures in
    let P : Vec3 → Type 0 = λ n. AreFarthest
    (record { w = c.least_cut-cut.result.w; u = n; t = n }) c.args.sums.now
    c.farthest-corner.result.places.items in
    subst P (same_vector {b = zero_vector} none.0 none.1.0 none.1.1)
    c.farthest-corner.ensures.farthest

pub least_beside-beside-requires-clause-face : goal.least_beside-beside-requires-clause-face
least_beside-beside-requires-clause-face c =
    let sums = c.args.sums.now in
    let cut = c.least_cut-cut.result in
    let is = c.least_cut-cut.ensures.least in
    let none = c.default-none.ensures in
    let P : Vec3 → Type 0 = λ n. AreFarthest
    (record { w = cut.w; u = n; t = n }) sums c.farthest-corner.result.places.items in
    let farthest = subst P (same_vector {b = zero_vector} none.0 none.1.0 none.1.1)
    c.farthest-corner.ensures.farthest in
    record {
      corner = c.farthest-corner.ensures.corner;
      farthest = farthest;
      rest = c.rest_past-rest.ensures.within;
      flat = ap (dot_of cut.w) c.rest_past-rest.ensures.value
          ∙ face_flat sums c.args.d cut c.farthest-corner.result.places.items
          c.farthest-corner.result.point is farthest
          c.farthest-corner.ensures.corner.chosen.point;
      not_zero = ahead_not_zero sums c.args.d cut is;
    }

pub on_edge-requires-clause-top : goal.on_edge-requires-clause-top
on_edge-requires-clause-top c =
    let low = top_from_0 c.args.sums.now c.args.d c.least_cut-cut.result
    c.least_cut-cut.ensures.least in
    omega (arith, ints, low, c.if-cut-eq0.false)
