-- What a Lost is judged by, place by place.
use Rattle.std.proofs.Common.{◌≡◌, inl, inr, ℕ, ◌<◌, ◌<ℤ◌, List, length, subst, arith}
use Rattle.std.specs.Prelude.{slice_index_or}
use Rattle.thrust_region.specs.Choices.{choice_of, choices_of}
use Rattle.wrench_geometry.specs.Vectors.{dot_of, support_of, zero_vector}
use Rattle.plant_model.specs.declared.thrust.Point.{Point}
use Rattle.wrench_geometry.specs.declared.vector.Vec3.{Vec3}
use Rattle.wrench_geometry.specs.Chosen.{images_of}
use Rattle.certificate.specs.declared.outcome.Cuts.{Cuts}
use Rattle.certificate.specs.declared.outcome.Outcome.TheVariants.{Lost}
use Rattle.certificate.specs.declared.outcome.Place.{Place}
use Rattle.certificate.specs.declared.outcome.Place.TheVariants.{Denominator, Choice, ThrustCount}
use Rattle.certificate.specs.declared.outcome.Place.TheVariants.{Thruster, Sum, CutCount, Cut}
use Rattle.certificate.specs.Outcomes.{IsAhead, IsBefore, IsFirstFault, IsMet, IsValid, Question}
use Rattle.certificate.specs.Outcomes.{Separates}

-- the cuts of the choices below k separate them
abbrev pub SeparateBelow : Question → Cuts → ℕ → Type 0
SeparateBelow question cuts k = (i : ℕ) → i < k →
    Separates question (choice_of question.regions i) (slice_index_or cuts.list.items i zero_vector)

-- along its direction each choice below k is not as far as a vector
abbrev pub FallShort : List Point → List (List (List Point)) → Vec3 → List Vec3 → ℕ → Type 0
FallShort levers regions ahead directions k =
    (i : ℕ) → i < k →
    support_of (images_of levers (choice_of regions i)) (slice_index_or directions i zero_vector)
    <ℤ dot_of (slice_index_or directions i zero_vector) ahead

pub separate_below : (question : Question) (cuts : Cuts) (ahead : Vec3) (k : ℕ) →
    IsAhead question ahead → FallShort question.levers question.regions ahead cuts.list.items k →
    SeparateBelow question cuts k
separate_below question cuts ahead k is short i below =
    let w = slice_index_or cuts.list.items i zero_vector in
    subst (λ (v : Vec3). support_of (images_of question.levers (choice_of question.regions i)) w
    <ℤ dot_of w v) is (short i below)

module _ (question : Question) (cuts : Cuts) where
  pub lost_valid : length cuts.list.items ≡ choices_of question.regions →
      SeparateBelow question cuts (choices_of question.regions) → IsValid question (Lost cuts)
  lost_valid count each Denominator = tt
  lost_valid count each Choice = tt
  lost_valid count each ThrustCount = tt
  lost_valid count each (Thruster i) = tt
  lost_valid count each Sum = tt
  lost_valid count each CutCount = count
  lost_valid count each (Cut k) = λ below. each k below

  before_count : (p : Place) → IsBefore p CutCount → IsMet question (Lost cuts) p
  before_count Denominator before = tt
  before_count Choice before = tt
  before_count ThrustCount before = tt
  before_count (Thruster i) before = tt
  before_count Sum before = tt
  before_count CutCount (inl before) = absurd (omega arith)
  before_count CutCount (inr before) = absurd (omega arith)
  before_count (Cut k) (inl before) = absurd (omega arith)
  before_count (Cut k) (inr before) = absurd (omega arith)

  pub fails_at_count : (length cuts.list.items ≡ choices_of question.regions → ⊥) →
      IsFirstFault question (Lost cuts) CutCount
  fails_at_count other = record { fails = other; first = before_count }

  before_cut : (k : ℕ) → length cuts.list.items ≡ choices_of question.regions →
      SeparateBelow question cuts k → (p : Place) → IsBefore p (Cut k) →
      IsMet question (Lost cuts) p
  before_cut k count each Denominator before = tt
  before_cut k count each Choice before = tt
  before_cut k count each ThrustCount before = tt
  before_cut k count each (Thruster i) before = tt
  before_cut k count each Sum before = tt
  before_cut k count each CutCount before = count
  before_cut k count each (Cut i) (inl before) = absurd (omega arith)
  before_cut k count each (Cut i) (inr before) = λ below. each i (omega (arith, before.1))

  pub fails_at_cut : (k : ℕ) → length cuts.list.items ≡ choices_of question.regions →
      k < choices_of question.regions → SeparateBelow question cuts k →
      (Separates question (choice_of question.regions k)
      (slice_index_or cuts.list.items k zero_vector) → ⊥) →
      IsFirstFault question (Lost cuts) (Cut k)
  fails_at_cut k count below each none = record {
    fails = λ met. none (met below);
    first =
        before_cut k count each;
  }
