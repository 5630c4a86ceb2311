use Rattle.std.proofs.Common.{◌∙◌, ◌≤◌, List, length, ap, sym, subst, map, arith}
use Rattle.std.specs.List.{enumerate_from}
use Rattle.std.proofs.lemmas.List.{length-map}
use Rattle.std.proofs.lemmas.List.FromFn.{length-enumerate_from}
use Rattle.plant_model.specs.declared.limits.TheConstants.{MOST_CHOICES}
use Rattle.plant_model.specs.declared.plant.Parts.{Parts}
use Rattle.plant_model.specs.declared.thrust.Point.{Point}
use Rattle.thrust_region.specs.Choices.{choices_of}
use Rattle.thrust_region.specs.Pieces.{all_points}
use Rattle.redundancy_groups.specs.Standing.{standing_of}
use Rattle.redundancy_groups.specs.Surviving.{fixed_at, pieces_at}
use Rattle.redundancy_groups.proofs.Choices.{choices_between, count_at}
use Rattle.redundancy_groups.proofs.Plants.{few_choices, thrusters_fit}
use Rattle.redundancy_groups.proofs.regions.surviving.Goals as goal

pub invariant_of-result : goal.invariant_of-result
invariant_of-result c =
    let p = c.args.plant.now in
    let s = standing_of p c.args.status.now c.args.loss in
    let barred = c.args.status.now.barred in
    let between =
    choices_between (pieces_at p s barred) (count_at p s barred) 0 p.thrusters.items
    (thrusters_fit p c.parts.ensures.fit) in
    let few = few_choices p c.parts.ensures.fit in
    let same = c.lists-list.ensures.value in
    record {
      some = subst (λ (l : List (List (List Point))). 1 ≤ choices_of l) (sym same) between.0;
      few = subst (λ (l : List (List (List Point))). choices_of l ≤ MOST_CHOICES) (sym same)
          (omega (arith, between.1));
      within = c.lists-list.ensures.within;
    }

pub returns-clause-one_list_each : goal.returns-clause-one_list_each
returns-clause-one_list_each c =
    let p = c.args.plant.now in
    let s = standing_of p c.args.status.now c.args.loss in
    sym (length-map c.lists-list.result.items all_points) ∙ ap length c.lists-list.ensures.value
    ∙ length-map (enumerate_from 0 p.thrusters.items) (pieces_at p s c.args.status.now.barred)
    ∙ length-enumerate_from 0 p.thrusters.items

pub returns-clause-one_fixed_each : goal.returns-clause-one_fixed_each
returns-clause-one_fixed_each c =
    let p = c.args.plant.now in
    ap length c.fixed_thrusts-fixed.ensures
    ∙ ap (λ (q : Parts).
    length (map (fixed_at q c.args.status.now c.args.loss)
    (enumerate_from 0 q.thrusters.items))) c.parts.ensures.parts
    ∙ length-map (enumerate_from 0 p.thrusters.items) (fixed_at p c.args.status.now c.args.loss)
    ∙ length-enumerate_from 0 p.thrusters.items
