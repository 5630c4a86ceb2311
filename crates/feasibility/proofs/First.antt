-- By a choice that is cut off no Holds is valid.
use Rattle.std.proofs.Common.{◌≡◌, ◌∙◌, ℕ, zero, suc, ◌<◌, ℤ, ◌<ℤ◌, List, [], ◌∷◌, length, get_or}
use Rattle.std.proofs.Common.{subst, arith}
use Rattle.std.specs.Prelude.{slice_index_or}
use Rattle.plant_model.specs.Lies.{LiesIn}
use Rattle.plant_model.specs.Rings.{origin}
use Rattle.plant_model.specs.declared.plant.Parts.{Parts}
use Rattle.plant_model.specs.declared.thrust.Point.{Point}
use Rattle.plant_model.specs.declared.thrust.Thrust.{Thrust}
use Rattle.plant_model.specs.declared.thrust.Thrusts.{Thrusts}
use Rattle.thrust_region.specs.Choices.{choice_of}
use Rattle.thrust_region.specs.declared.regions.Regions.{Regions}
use Rattle.wrench_geometry.specs.Chosen.{images_of}
use Rattle.wrench_geometry.specs.Vectors.{dot_of, support_of, zero_vector}
use Rattle.wrench_geometry.specs.declared.vector.Vec3.{Vec3}
use Rattle.certificate.specs.declared.outcome.Outcome.{Outcome}
use Rattle.certificate.specs.declared.outcome.Outcome.TheVariants.{Holds, Lost}
use Rattle.certificate.specs.declared.outcome.Place.TheVariants.{Choice, Denominator, Sum}
use Rattle.certificate.specs.declared.outcome.Place.TheVariants.{Thruster, ThrustCount}
use Rattle.certificate.specs.Outcomes.{EachStands, IsOneEach, IsValid, Question, Separates}
use Rattle.certificate.specs.Outcomes.{no_thrust, question_of, without}
use Rattle.certificate.proofs.Choosing.{length-choice}
use Rattle.certificate.proofs.Duality.{not_separated}
use Rattle.feasibility.specs.First.{IsByFirstAhead, IsHeldBy}
use Rattle.feasibility.specs.Steps.{CutOffBelow}
use Rattle.feasibility.proofs.Steps.{one_each}

-- thrusts that lie in the pieces at each place lie in the pieces
stands_at : (q : ℤ) (pieces : List (List Point)) (fixed : List Point) (thrusts : List Thrust) →
    length fixed ≡ length pieces → length thrusts ≡ length pieces →
    ((i : ℕ) → i < length pieces → LiesIn (slice_index_or pieces i [])
    (without q (slice_index_or fixed i origin) (slice_index_or thrusts i no_thrust)) q) →
    EachStands (λ piece a. LiesIn piece a q) q pieces fixed thrusts
stands_at q [] [] [] f t each = tt
stands_at q [] (p ∷ fixed) thrusts f t each = absurd (omega arith)
stands_at q [] [] (a ∷ thrusts) f t each = absurd (omega arith)
stands_at q (piece ∷ pieces) [] thrusts f t each = absurd (omega arith)
stands_at q (piece ∷ pieces) (p ∷ fixed) [] f t each = absurd (omega arith)
stands_at q (piece ∷ pieces) (p ∷ fixed) (a ∷ thrusts) f t each = (
  each zero (omega arith),
  stands_at q pieces fixed thrusts (omega arith) (omega arith) (λ i h. each (suc i) (omega arith)),
)

not_held : (question : Question) → IsOneEach question → (k : ℕ) (w : Vec3) →
    Separates question (choice_of question.regions k) w → (r : ℤ) (others : Thrusts) →
    IsValid question (Holds k r others) → ⊥
not_held question one k w separates r others valid =
    let pieces = choice_of question.regions k in
    let long = length-choice question.regions k (valid Choice) in
    let regions = one.regions in
    let fixed = one.fixed in
    let count = valid ThrustCount in
    not_separated w r question.demand question.levers pieces question.fixed others.list.items
    (valid Denominator) (long ∙ regions)
    (stands_at r pieces question.fixed others.list.items (omega arith) (omega arith)
    (λ i below. valid (Thruster i) (omega arith)))
    (valid Sum) separates

-- so the first choice after those that are cut off is the first that holds
pub first_after : (plant : Parts) (regions : Regions) (ahead : Vec3) (k : ℕ) (list : List Vec3)
    (outcome : Outcome) → length regions.list.items ≡ length plant.thrusters.items →
    length regions.fixed.items ≡ length plant.thrusters.items →
    CutOffBelow plant regions ahead k list → IsHeldBy k outcome →
    IsByFirstAhead plant regions ahead outcome
first_after plant regions ahead k list (Lost cuts) lists fixed so_far by = absurd by
first_after plant regions ahead k list (Holds choice q thrusts) lists fixed so_far by =
    λ demand is_ahead i r others before.
    let question = question_of plant regions demand in
    let w = get_or list i zero_vector in
    not_held question (one_each plant regions demand lists fixed) i w
    (subst (λ (v : Vec3). support_of (images_of question.levers (choice_of question.regions i)) w
    <ℤ dot_of w v) is_ahead (so_far.short i (omega (arith, before, by)))) r others
