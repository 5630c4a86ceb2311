-- What valid outcomes show.
use Rattle.std.proofs.Common.{◌∙◌, ℕ, ℤ, arith}
use Rattle.plant_model.specs.declared.thrust.Thrusts.{Thrusts}
use Rattle.certificate.specs.declared.outcome.Cuts.{Cuts}
use Rattle.certificate.specs.declared.outcome.Outcome.{Outcome}
use Rattle.certificate.specs.declared.outcome.Outcome.TheVariants.{Holds, Lost}
use Rattle.certificate.specs.declared.outcome.Place.TheVariants.{Denominator, Choice, ThrustCount}
use Rattle.certificate.specs.declared.outcome.Place.TheVariants.{Thruster, Sum, Cut}
use Rattle.certificate.specs.Outcomes.{IsFeasible, IsOneEach, IsShown, IsValid, Question}
use Rattle.certificate.proofs.Choosing.{length-choice, stands_in_choice, stands_in_some}
use Rattle.certificate.proofs.Duality.{not_separated}

pub holds_shows : (question : Question) → IsOneEach question → (choice : ℕ) (q : ℤ)
    (thrusts : Thrusts) → IsValid question (Holds choice q thrusts) → IsFeasible question
holds_shows question one_each choice q thrusts valid =
    let count = valid ThrustCount in
    let regions = one_each.regions in
    let fixed = one_each.fixed in
    record {
      q = q;
      thrusts = thrusts.list.items;
      meets = record {
        from_1 = valid Denominator;
        one_each = valid ThrustCount;
        lie = stands_in_some q question.regions question.fixed thrusts.list.items choice
            (valid Choice) (omega arith) (omega arith)
            (λ i below. valid (Thruster i) (omega arith));
        sum = valid Sum;
      };
    }

pub lost_shows : (question : Question) → IsOneEach question → (cuts : Cuts) →
    IsValid question (Lost cuts) → ¬ IsFeasible question
lost_shows question one_each cuts valid feasible =
    let meets = feasible.meets in
    let chosen = stands_in_choice feasible.q question.regions question.fixed feasible.thrusts
    meets.lie in
    not_separated _ feasible.q question.demand question.levers _ question.fixed feasible.thrusts
    meets.from_1 (length-choice question.regions chosen.0 chosen.1 ∙ one_each.regions) chosen.2
    meets.sum (valid (Cut chosen.0) chosen.1)

pub valid_shows : (question : Question) → IsOneEach question → (outcome : Outcome) →
    IsValid question outcome → IsShown question outcome
valid_shows question one_each (Holds choice q thrusts) valid =
    holds_shows question one_each choice q thrusts valid
valid_shows question one_each (Lost cuts) valid = lost_shows question one_each cuts valid
