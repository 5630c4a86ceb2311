use Rattle.std.proofs.Common.{take}
use Rattle.exit_point.specs.Faces.{IsFaceCut}
use Rattle.exit_point.proofs.FaceDirections.{AreAxesSeen}
use Rattle.exit_point.proofs.NoMore.{IsNoMoreOfLists}
use Rattle.exit_point.proofs.face_cuts.least_beside.Given as goal

abbrev pub invariant-loop-i : goal.invariant-loop-i
invariant-loop-i l = record {
  cut : IsFaceCut l.sums l.face l.least;
  axes : AreAxesSeen l.sums l.face l.least;
  pairs : IsNoMoreOfLists l.sums l.face l.least (take l.i l.images-items)
      (take l.i l.face.corner.places.items);
}
