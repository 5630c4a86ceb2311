use Rattle.std.proofs.Common.{◌∙◌, ap, ◌∷◌, [], ◌++◌}
use Rattle.arrayvec.specs.ArrayVec.{ArrayVec}
use Rattle.wrench_geometry.specs.declared.vector.Vec3.{Vec3}
use Rattle.feasibility.proofs.Steps.{one_more_are}
use Rattle.feasibility.proofs.choosing.take.Goals as goal

pub returns-then-not-takes-clause-cut : goal.returns-then-not-takes-clause-cut
returns-then-not-takes-clause-cut c =
    let same = c.takes.ensures.same c.if-not-takes.true in
    one_more_are c.args.plant.now c.args.regions.now c.args.ahead c.args.cuts.now.items
    c.push.new.self.items c.args.own c.requires.cut c.requires.there c.requires.short
    c.requires.primitive
    (c.push.ensures.items
    ∙ ap (λ (a : ArrayVec Vec3). a.items ++ c.args.own ∷ []) same)
