-- A mean of a choice's images is feasible, and so is what a tent covers.
use Rattle.std.proofs.Common.{◌≡◌, ◌∙◌, ℕ, ◌<◌, List, length, map, ap, sym, subst, arith}
use Rattle.std.specs.Prelude.{IfSome, Option, None, Some}
use Rattle.plant_model.specs.declared.plant.Parts.{Parts}
use Rattle.plant_model.specs.declared.thrust.Point.{Point}
use Rattle.thrust_region.specs.Choices.{choice_of, choices_of}
use Rattle.thrust_region.specs.Pieces.{all_points}
use Rattle.thrust_region.specs.declared.regions.Regions.{Regions}
use Rattle.wrench_geometry.specs.declared.vector.Vec3.{Vec3}
use Rattle.wrench_geometry.specs.Chosen.{images_of, levers_of}
use Rattle.wrench_geometry.specs.Vectors.{scaled_by, sum_of}
use Rattle.exit_point.specs.declared.tents.Tent.{Tent}
use Rattle.exit_point.specs.Tents.{Covers, IsMean, IsTent}
use Rattle.certificate.specs.Beside.{LieBelow}
use Rattle.certificate.specs.Outcomes.{IsAhead, IsFeasible, IsOneEach, Question}
use Rattle.certificate.specs.Outcomes.{question_of, total_of}
use Rattle.certificate.proofs.Choosing.{length-choice, stands_in_some}
use Rattle.feasibility.specs.Means.{means_beside}
use Rattle.feasibility.specs.Tents.{IsTentOver}
use Rattle.feasibility.proofs.Means.{length-means, means_lie, total_of_means}
use Rattle.feasibility.proofs.Reached.{back_together}
use Rattle.feasibility.proofs.Steps.{one_each}

mean_feasible : (question : Question) (number : ℕ) (ahead : Vec3) → IsOneEach question →
    number < choices_of question.regions →
    IsMean (images_of question.levers (choice_of question.regions number)) ahead →
    IsAhead question ahead → IsFeasible question
mean_feasible question number ahead each there mean is_ahead =
    let levers = question.levers in
    let regions = question.regions in
    let fixed = question.fixed in
    let pieces = choice_of regions number in
    let regions_each = each.regions in
    let fixed_each = each.fixed in
    let pieces_each : length pieces ≡ length levers = length-choice regions number there
    ∙ each.regions in
    let thrusts = means_beside mean.rows pieces mean.t fixed in
    let long : length thrusts ≡ length levers =
    length-means mean.q mean.t levers mean.rows pieces fixed pieces_each each.fixed mean.weights in
    let lie : LieBelow pieces fixed thrusts mean.t (length levers) =
    means_lie mean.q mean.t levers mean.rows pieces fixed mean.enough pieces_each each.fixed
    mean.weights in
    record {
      q = mean.t;
      thrusts = thrusts;
      meets = record {
        from_1 = mean.from_1;
        one_each = long;
        lie = stands_in_some mean.t regions fixed thrusts number there
            (each.fixed ∙ sym each.regions) (long ∙ sym each.regions)
            (λ i below. lie i (omega (arith, below, each.regions)));
        sum = total_of_means mean.q mean.t levers mean.rows pieces fixed pieces_each each.fixed
            mean.weights
            ∙ ap (λ (v : Vec3). sum_of v (scaled_by mean.t (total_of levers fixed)))
            (mean.meets ∙ ap (scaled_by mean.t) is_ahead)
            ∙ back_together mean.t question.demand (total_of levers fixed);
      };
    }

is_tent_over : (plant : Parts) (regions : Regions) (number : ℕ) (pieces : List (List Point))
    (lists : List (List Vec3)) (tent : Tent) →
    length regions.list.items ≡ length plant.thrusters.items →
    length regions.fixed.items ≡ length plant.thrusters.items →
    number < choices_of (map all_points regions.list.items) →
    pieces ≡ choice_of (map all_points regions.list.items) number →
    lists ≡ images_of (levers_of plant) pieces → IsTent lists tent →
    IsTentOver plant regions tent
is_tent_over plant regions number pieces lists tent region_each fixed_each there chosen images is
    ahead covers demand is_ahead =
    mean_feasible (question_of plant regions demand) number ahead
    (one_each plant regions demand region_each fixed_each) there
    (subst (λ (l : List (List Vec3)). IsMean l ahead)
    (images ∙ ap (images_of (levers_of plant)) chosen) (is ahead covers)) is_ahead

pub some_tent_over : (plant : Parts) (regions : Regions) (number : ℕ) (pieces : List (List Point))
    (lists : List (List Vec3)) (found : Option Tent) →
    length regions.list.items ≡ length plant.thrusters.items →
    length regions.fixed.items ≡ length plant.thrusters.items →
    number < choices_of (map all_points regions.list.items) →
    pieces ≡ choice_of (map all_points regions.list.items) number →
    lists ≡ images_of (levers_of plant) pieces → IfSome found (IsTent lists) →
    IfSome found (IsTentOver plant regions)
some_tent_over plant regions number pieces lists None e f there chosen images is = tt
some_tent_over plant regions number pieces lists (Some tent) e f there chosen images is =
    is_tent_over plant regions number pieces lists tent e f there chosen images is
