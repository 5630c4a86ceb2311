-- A place goes over from the rest of the walk to the run.
use Rattle.std.proofs.Common.{◌≡◌, ◌∙◌, ap, sym, refl, arith, length, map, ◌-◌, []}
use Rattle.plant_model.specs.Rings.{origin, point_at}
use Rattle.thrust_region.proofs.Lists.{goes_over, nothing_left}
use Rattle.thrust_region.proofs.Runs.{begins_at, points_go_on, points_end, run-walk}
use Rattle.thrust_region.proofs.cutting.run_from.Goals as goal

pub loop-preserved : goal.loop-preserved
loop-preserved c = record {
  place = omega arith;
  counted = omega arith;
  whole = rw c.push.ensures.items
      (goes_over _ _ _ _ _ (points_go_on c.args.ring.now (begins_at c.args.sectors.now)
      c.loop.counter c.loop.place origin (omega arith) c.loop.invariant.place
      (sym c.begins.ensures ∙ c.if-begins.false)) c.loop.invariant.whole);
}

pub returns-after-loop : goal.returns-after-loop
returns-after-loop c =
    let none : length c.args.ring.now - c.loop.counter ≡ 0 = omega arith in
    nothing_left _ _ _ (rw none refl) c.loop.invariant.whole
    ∙ ap (map (point_at c.args.ring.now))
    (sym (run-walk (begins_at c.args.sectors.now) (length c.args.ring.now) c.args.start
    c.requires.place))

pub returns-then-begins : goal.returns-then-begins
returns-then-begins c =
    c.push.ensures.items
    ∙ nothing_left _ [] _ refl (goes_over _ _ _ _ _
    (points_end c.args.ring.now (begins_at c.args.sectors.now) c.loop.counter c.loop.place
    origin (omega arith) c.loop.invariant.place (sym c.begins.ensures ∙ c.if-begins.true))
    c.loop.invariant.whole)
    ∙ ap (map (point_at c.args.ring.now))
    (sym (run-walk (begins_at c.args.sectors.now) (length c.args.ring.now) c.args.start
    c.requires.place))
