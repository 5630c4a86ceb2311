use Rattle.std.proofs.Common.{take, sym, subst, arith}
use Rattle.std.proofs.lemmas.List.{take_all}
use Rattle.std.proofs.lemmas.List.Elements.{All-more, All-same, All-weaker}
use Rattle.wrench_geometry.specs.declared.vector.Vec3.{Vec3}
use Rattle.wrench_geometry.specs.Vectors.{cross_of}
use Rattle.separation.specs.Candidates.{IsAtMostAlong, IsNormal}
use Rattle.separation.proofs.Bounds.{cross_normal}
use Rattle.separation.proofs.CutOrder.{along_trans, at_most_trans}
use Rattle.separation.proofs.candidates.least_with.Goals as goal

pub least_along-least-requires-clause-normal : goal.least_along-least-requires-clause-normal
least_along-least-requires-clause-normal g c =
    subst IsNormal (sym c.cross.ensures)
    (cross_normal _ _ c.requires.direction
    (c.requires.others c.loop-other.other-index _ (omega arith)))

pub loop-other-preserved : goal.loop-other-preserved
loop-other-preserved g c =
    let sums = c.args.sums.now in
    let d = c.args.d in
    let before = c.loop-other.invariant in
    let after = c.least_along-least.ensures in
    let least = c.least_along-least.result in
    let along : Vec3 → Type 0 = λ other. IsAtMostAlong sums d least
    (cross_of c.args.direction other) in
    let P : Vec3 → Type 0 = IsAtMostAlong sums d least in
    record {
      parts = after.cut;
      at_most = at_most_trans least c.loop-other.least c.args.cut after.cut.bottom_from_1
          before.parts.bottom_from_1 c.requires.cut.bottom_from_1 after.at_most before.at_most;
      at_most_others =
          All-more along c.args.others.now c.loop-other.other-index _ (omega arith)
          (All-weaker _ along
          (λ other. along_trans sums d (cross_of c.args.direction other) least
          c.loop-other.least after.cut.bottom_from_1 before.parts.bottom_from_1 after.at_most)
          (take c.loop-other.other-index c.args.others.now) before.at_most_others)
          (subst P c.cross.ensures after.at_most_normal);
      steps = omega (arith, after.few_steps, before.steps);
    }

pub returns-clause-at_most_others : goal.returns-clause-at_most_others
returns-clause-at_most_others g c =
    let along : Vec3 → Type 0 = λ other. IsAtMostAlong c.args.sums.now c.args.d c.loop-other.least
    (cross_of c.args.direction other) in
    All-same along c.args.others.now _
    (sym (take_all c.loop-other.other-index c.args.others.now c.loop-other-test.false))
    c.loop-other.invariant.at_most_others
