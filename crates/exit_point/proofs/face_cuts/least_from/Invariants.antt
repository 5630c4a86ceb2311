use Rattle.std.proofs.Common.{take}
use Rattle.exit_point.specs.Faces.{IsFaceCut, IsNoMore}
use Rattle.exit_point.proofs.NoMore.{IsNoMoreWith}
use Rattle.exit_point.proofs.face_cuts.least_from.Given as goal

abbrev pub invariant-loop-other : goal.invariant-loop-other
invariant-loop-other l = record {
  cut : IsFaceCut l.sums l.face l.least;
  at_most : IsNoMore l.least l.fn.cut;
  others : IsNoMoreWith l.sums l.face l.least l.chosen l.point (take l.other-index l.images);
}
