use Rattle.std.proofs.Common.{◌<◌, false, length, rules, arith}
use Rattle.std.proofs.lemmas.List.FromFn.{fill_by_all}
use Rattle.plant_model.specs.declared.limits.TheConstants.{MOST_GENERATORS}
use Rattle.redundancy_groups.specs.Standing.{runs_after}
use Rattle.redundancy_groups.proofs.Places.{filled_more}
use Rattle.redundancy_groups.proofs.stands.running.Goals as goal

pub loop-place-preserved : goal.loop-place-preserved
loop-place-preserved c =
    let here : c.loop-place.place < length c.loop-place.running =
    omega (arith, c.loop-place.invariant.long) in
    record {
      long = search (rules, c.loop-place.invariant.long);
      is = filled_more (runs_after c.args.parts.now c.args.status.now c.args.loss)
          c.loop-place.running c.loop-place.place c.runs.result here c.runs.ensures
          c.loop-place.invariant.is;
    }

pub returns : goal.returns
returns c =
    fill_by_all (runs_after c.args.parts.now c.args.status.now c.args.loss) c.loop-place.running
    MOST_GENERATORS false c.loop-place.invariant.long
    (λ k h. c.loop-place.invariant.is k (omega arith))
