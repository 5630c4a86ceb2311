use Rattle.std.proofs.Common.{subst}
use Rattle.wrench_geometry.specs.declared.vector.Vec3.{Vec3}
use Rattle.exit_point.specs.Faces.{IsNoMore, IsNoMoreAlong}
use Rattle.exit_point.proofs.NoMore.{along_lesser, no_more_trans}
use Rattle.exit_point.proofs.Tilts.{factor_of_direction, tilt_of_x, tilt_of_y, tilt_of_z}
use Rattle.exit_point.proofs.face_cuts.least_across.Goals as goal

pub cross-requires-3-clause-b : goal.cross-requires-3-clause-b
cross-requires-3-clause-b c = factor_of_direction c.requires.direction

pub least_along-first-requires-clause-tilt : goal.least_along-first-requires-clause-tilt
least_along-first-requires-clause-tilt c =
    rw c.cross.ensures (tilt_of_x c.args.e c.requires.direction)

pub least_along-second-requires-clause-tilt : goal.least_along-second-requires-clause-tilt
least_along-second-requires-clause-tilt c =
    rw c.cross-2.ensures (tilt_of_y c.args.e c.requires.direction)

pub least_along-requires-clause-tilt : goal.least_along-requires-clause-tilt
least_along-requires-clause-tilt c =
    rw c.cross-3.ensures (tilt_of_z c.args.e c.requires.direction)

pub returns-clause-at_most : goal.returns-clause-at_most
returns-clause-at_most c =
    let first = c.least_along-first.ensures in
    let second = c.least_along-second.ensures in
    let third = c.least_along.ensures in
    no_more_trans c.least_along.result c.least_along-second.result c.args.cut
    third.cut.ahead second.cut.ahead c.requires.cut.ahead third.at_most
    (no_more_trans c.least_along-second.result c.least_along-first.result c.args.cut
    second.cut.ahead first.cut.ahead c.requires.cut.ahead second.at_most first.at_most)

pub returns-clause-at_most_normals : goal.returns-clause-at_most_normals
returns-clause-at_most_normals c =
    let sums = c.args.sums.now in
    let face = c.args.face.now in
    let a = c.least_along-first.result in
    let b = c.least_along-second.result in
    let e = c.least_along.result in
    let first = c.least_along-first.ensures in
    let second = c.least_along-second.ensures in
    let third = c.least_along.ensures in
    let to_first : IsNoMore e a = no_more_trans e b a
    third.cut.ahead second.cut.ahead first.cut.ahead third.at_most second.at_most in
    let P : Vec3 → Type 0 = IsNoMoreAlong sums face a in
    let Q : Vec3 → Type 0 = IsNoMoreAlong sums face b in
    let R : Vec3 → Type 0 = IsNoMoreAlong sums face e in
    record {
      x = along_lesser sums face e a third.cut first.cut to_first _
          (subst P c.cross.ensures first.at_most_normal);
      y = along_lesser sums face e b third.cut second.cut third.at_most _
          (subst Q c.cross-2.ensures second.at_most_normal);
      z = subst R c.cross-3.ensures third.at_most_normal;
    }
