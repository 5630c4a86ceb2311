use Rattle.std.proofs.Common.{take}
use Rattle.exit_point.specs.Faces.{IsFaceCut, IsNoMore, IsNoMoreAmong}
use Rattle.exit_point.proofs.face_cuts.least_of.Given as goal

abbrev pub invariant-loop-point : goal.invariant-loop-point
invariant-loop-point l = record {
  cut : IsFaceCut l.sums l.face l.least;
  at_most : IsNoMore l.least l.fn.cut;
  pairs : IsNoMoreAmong l.sums l.face l.least l.images l.chosen (take l.point-index l.images);
}
