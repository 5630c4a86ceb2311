use Rattle.std.proofs.Common.{arith, subst, List}
use Rattle.std.proofs.lemmas.List.{take_all}
use Rattle.wrench_geometry.specs.declared.vector.Vec3.{Vec3}
use Rattle.wrench_geometry.specs.Wrenches.{image_at}
use Rattle.exit_point.specs.Orders.{IsFarthest, IsNoFarther}
use Rattle.exit_point.proofs.Farthest.{next_farthest, no_farther_itself, none_farther, past_last}
use Rattle.exit_point.proofs.orders.farthest_place.Goals as goal
use Rattle.exit_point.proofs.orders.farthest_place.Goals.{then-is_farther, else-is_farther}

pub loop-i-init : goal.loop-i-init
loop-i-init c = record {
  place = omega arith;
  farthest = none_farther c.args.order _ (past_last c.args.images.now);
}

pub loop-i-preserved : goal.loop-i-preserved
loop-i-preserved c =
    let list = c.args.images.now in
    let i = c.loop-i.i in
    let v = image_at list c.loop-i.place in
    let x = image_at list i in
    elim c.if-is_farther.branch [
      | then-is_farther b ↦
          (let farther : IsNoFarther c.args.order v x =
          rw (← c.image_at.ensures, ← c.image_at-in-loop-i.ensures)
          (c.is_farther.ensures.farther b.if-is_farther.true) in
          rw b.place-is (record {
            place = omega arith;
            farthest = next_farthest c.args.order list i v x (omega arith)
                c.loop-i.invariant.farthest farther (no_farther_itself c.args.order x);
          }))
      | else-is_farther b ↦
          (let stays : IsNoFarther c.args.order x v =
          rw (← c.image_at.ensures, ← c.image_at-in-loop-i.ensures)
          (c.is_farther.ensures.no_farther b.if-is_farther.false) in
          rw b.place-is (record {
            place = c.loop-i.invariant.place;
            farthest = next_farthest c.args.order list i v v (omega arith)
                c.loop-i.invariant.farthest (no_farther_itself c.args.order v) stays;
          }))
    ]

pub returns-clause-farthest : goal.returns-clause-farthest
returns-clause-farthest c =
    let P : List Vec3 → Type 0 = λ list. IsFarthest c.args.order list
    (image_at c.args.images.now c.loop-i.place) in
    subst P (take_all c.loop-i.i c.args.images.now (omega arith))
    c.loop-i.invariant.farthest
