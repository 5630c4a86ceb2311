use Rattle.std.proofs.Common.{◌≡◌, ◌≤ℤ◌, ◌∙◌, ℤ, pos, inl, ap, ap₂, sym, arith, to_z, of_z, rules}
use Rattle.std.specs.Int.{w128}
use Rattle.std.proofs.lemmas.Int.{ints, to_z-of_z}
use Rattle.wrench_geometry.specs.Vectors.{difference_of, dot_of, support_of}
use Rattle.separation.proofs.Supports.{support_from_0}
use Rattle.exit_point.specs.declared.orders.Order.{Order}
use Rattle.exit_point.specs.Faces.{along_only, faces_at, vector_of}
use Rattle.exit_point.proofs.FacePoints.{faces_are, faces_reach_to}
use Rattle.exit_point.proofs.Tilts.{plain_of_tilt}
use Rattle.exit_point.proofs.face_cuts.cut_of.Goals as goal

pub dot-requires : goal.dot-requires
dot-requires c = inl (plain_of_tilt c.requires.tilt)

from_1 : {z s : ℤ} → z ≡ s → pos 1 ≤ℤ s → pos 1 ≤ℤ z
from_1 {z} {s} e g = omega (arith, ints)

from_0 : {z s : ℤ} → z ≡ s → pos 0 ≤ℤ s → pos 0 ≤ℤ z
from_0 {z} {s} e g = omega (arith, ints)

pub returns-clause-cut : goal.returns-clause-cut
returns-clause-cut c =
    let lists = c.args.sums.now in
    let face = c.args.face.now in
    let u = c.args.u in
    let order : Order = record { w = face.w; u = u; t = c.default.result } in
    let first = c.requires.face.farthest in
    let along : to_z w128 (of_z w128 c.along.result) ≡ dot_of u (vector_of face.rest) =
    to_z-of_z w128 _ (search rules) ∙ c.along.ensures in
    let top : to_z w128 (of_z w128 c.dot.result) ≡ support_of (faces_at lists face) u =
    to_z-of_z w128 _ (search rules) ∙ c.dot.ensures
    ∙ ap (dot_of u) (c.difference-past.ensures
    ∙ ap₂ difference_of c.farthest.ensures.corner.chosen.point
    c.requires.face.corner.chosen.point)
    ∙ sym (faces_reach_to (along_only face.w) order lists face.corner.places.items
    c.farthest.result.places.items
    (faces_are (along_only face.w) lists face.corner.places.items first) first
    c.farthest.ensures.farthest) in
    record {
      tilt = c.requires.tilt;
      bottom = along;
      top = top;
      ahead = from_1 along c.requires.ahead;
      from_0 = from_0 top (support_from_0 (faces_at lists face) u);
    }
