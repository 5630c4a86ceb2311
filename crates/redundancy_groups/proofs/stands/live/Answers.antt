use Rattle.std.proofs.Common.{◌<◌, false, length, rules, arith}
use Rattle.std.proofs.lemmas.List.FromFn.{fill_by_all}
use Rattle.plant_model.specs.declared.limits.TheConstants.{MOST_SECTIONS}
use Rattle.redundancy_groups.specs.Standing.{is_live_after}
use Rattle.redundancy_groups.proofs.Places.{filled_more}
use Rattle.redundancy_groups.proofs.stands.live.Goals as goal

pub loop-section-preserved : goal.loop-section-preserved
loop-section-preserved c =
    let here : c.loop-section.section < length c.loop-section.live =
    omega (arith, c.loop-section.invariant.long) in
    record {
      long = search (rules, c.loop-section.invariant.long);
      is = filled_more (is_live_after c.args.parts.now c.args.loss) c.loop-section.live
          c.loop-section.section c.is_live.result here c.is_live.ensures
          c.loop-section.invariant.is;
    }

pub returns : goal.returns
returns c =
    fill_by_all (is_live_after c.args.parts.now c.args.loss) c.loop-section.live MOST_SECTIONS false
    c.loop-section.invariant.long
    (λ k h. c.loop-section.invariant.is k (omega arith))
