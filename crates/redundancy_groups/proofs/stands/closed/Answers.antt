use Rattle.std.proofs.Common.{◌<◌, false, length, rules, arith}
use Rattle.std.proofs.lemmas.List.FromFn.{fill_by_all}
use Rattle.plant_model.specs.declared.limits.TheConstants.{MOST_TIES}
use Rattle.redundancy_groups.specs.Standing.{is_closed_after}
use Rattle.redundancy_groups.proofs.Places.{filled_more}
use Rattle.redundancy_groups.proofs.stands.closed.Goals as goal

pub loop-place-preserved : goal.loop-place-preserved
loop-place-preserved c =
    let here : c.loop-place.place < length c.loop-place.closed =
    omega (arith, c.loop-place.invariant.long) in
    record {
      long = search (rules, c.loop-place.invariant.long);
      is = filled_more (is_closed_after c.args.parts.now c.args.status.now c.args.loss)
          c.loop-place.closed c.loop-place.place c.is_closed.result here c.is_closed.ensures
          c.loop-place.invariant.is;
    }

pub returns : goal.returns
returns c =
    fill_by_all (is_closed_after c.args.parts.now c.args.status.now c.args.loss) c.loop-place.closed
    MOST_TIES false c.loop-place.invariant.long
    (λ k h. c.loop-place.invariant.is k (omega arith))
