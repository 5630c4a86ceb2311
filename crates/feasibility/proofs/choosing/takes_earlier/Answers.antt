use Rattle.std.proofs.Common.{◌≡◌, ◌∙◌, ◌-◌, ◌<◌, List, ap, subst, sym, arith, get_or, length}
use Rattle.arrayvec.specs.ArrayVec.{ArrayVec}
use Rattle.wrench_geometry.specs.declared.vector.Vec3.{Vec3}
use Rattle.wrench_geometry.specs.Vectors.{zero_vector}
use Rattle.feasibility.specs.Lowest.{IsPrimitive}
use Rattle.feasibility.proofs.choosing.takes_earlier.Goals as goal

pub takes-requires-clause-primitive : goal.takes-requires-clause-primitive
takes-requires-clause-primitive c =
    let list = c.args.cuts.now.items in
    let n = c.len-count.result - 1 - c.loop-back.back in
    let items : c.deref.result.now ≡ list =
    c.deref.ensures.0 ∙ ap (λ (a : ArrayVec Vec3). a.items) c.loop-back.invariant in
    let below : n < length list =
    omega (arith, c.len-count.ensures.value, c.loop-back-test.true) in
    subst (λ (l : List Vec3). IsPrimitive (get_or l n zero_vector)) (sym items)
    (c.requires.cut.cut.primitive n below)
