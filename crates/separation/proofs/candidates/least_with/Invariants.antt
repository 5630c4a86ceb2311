use Rattle.std.proofs.Common.{◌+◌, ◌≤◌, take}
use Rattle.std.specs.Prelude.{All}
use Rattle.wrench_geometry.specs.declared.vector.Vec3.{Vec3}
use Rattle.wrench_geometry.specs.Vectors.{cross_of}
use Rattle.wrench_geometry.specs.Cuts.{IsCut}
use Rattle.separation.specs.Candidates.{IsAtMost, IsAtMostAlong}
use Rattle.separation.proofs.candidates.least_with.Given as goal

abbrev pub invariant-loop-other : goal.invariant-loop-other
invariant-loop-other g l = record {
  parts : IsCut l.sums l.d l.least;
  at_most : IsAtMost l.least l.fn.cut;
  at_most_others : All
      (λ (other : Vec3). IsAtMostAlong l.sums l.d l.least (cross_of l.direction other))
      (take l.other-index l.others);
  steps : l.steps ≤ l.initial.steps + l.other-index;
}
