-- What a Holds is judged by, place by place.
use Rattle.std.proofs.Common.{◌≡◌, inl, inr, ℕ, ◌<◌, ℤ, pos, ◌≤ℤ◌, List, length, map, subst, arith}
use Rattle.plant_model.specs.declared.thrust.Point.{Point}
use Rattle.plant_model.specs.declared.thrust.Thrust.{Thrust}
use Rattle.plant_model.specs.declared.thrust.Thrusts.{Thrusts}
use Rattle.thrust_region.specs.Choices.{choice_of, choices_of}
use Rattle.wrench_geometry.specs.Vectors.{scaled_by}
use Rattle.certificate.specs.declared.outcome.Outcome.TheVariants.{Holds}
use Rattle.certificate.specs.declared.outcome.Place.{Place}
use Rattle.certificate.specs.declared.outcome.Place.TheVariants.{Denominator, Choice, ThrustCount}
use Rattle.certificate.specs.declared.outcome.Place.TheVariants.{Thruster, Sum, CutCount, Cut}
use Rattle.certificate.specs.Beside.{IsFirstAstray, LieBelow}
use Rattle.certificate.specs.Outcomes.{IsBefore, IsFirstFault, IsMet, IsValid, Question, total_of}
use Rattle.certificate.specs.Sides.{place_of}

-- what a Holds says before its thrusts: the denominator, the choice, and how many thrusts there are
pub record IsCounted (question : Question) (number : ℕ) (q : ℤ) (thrusts : Thrusts) : Type 0 where
  pub from_1 : pos 1 ≤ℤ q
  pub there : number < choices_of question.regions
  pub one_each : length thrusts.list.items ≡ length question.levers

-- what is said of chosen pieces, fixed thrusts, thrusts and a denominator is said of their equals
pub said_of_equals : (R : List (List Point) → List Point → List Thrust → ℤ → Type 0)
    {pieces others : List (List Point)} {fixed same : List Point} {thrusts alike : List Thrust}
    {q r : ℤ} → pieces ≡ others → fixed ≡ same → thrusts ≡ alike → q ≡ r →
    R pieces fixed thrusts q → R others same alike r
said_of_equals R {pieces} {others} {fixed} {same} {thrusts} {alike} {q} {r} e f g h said =
    subst (R others same alike) h (subst (λ (t : List Thrust). R others same t q) g
    (subst (λ (p : List Point). R others p thrusts q) f
    (subst (λ (p : List (List Point)). R p fixed thrusts q) e said)))

module _ (question : Question) (number : ℕ) (q : ℤ) (thrusts : Thrusts) where
  pub holds_valid : IsCounted question number q thrusts →
      LieBelow (choice_of question.regions number) question.fixed thrusts.list.items q
      (length thrusts.list.items) →
      total_of question.levers (map place_of thrusts.list.items) ≡ scaled_by q question.demand →
      IsValid question (Holds number q thrusts)
  holds_valid counted each sum Denominator = counted.from_1
  holds_valid counted each sum Choice = counted.there
  holds_valid counted each sum ThrustCount = counted.one_each
  holds_valid counted each sum (Thruster i) = λ below. each i (omega (arith, counted.one_each))
  holds_valid counted each sum Sum = sum
  holds_valid counted each sum CutCount = tt
  holds_valid counted each sum (Cut k) = tt

  before_thruster : (i : ℕ) → IsCounted question number q thrusts →
      LieBelow (choice_of question.regions number) question.fixed thrusts.list.items q i →
      (p : Place) → IsBefore p (Thruster i) → IsMet question (Holds number q thrusts) p
  before_thruster i counted each Denominator before = counted.from_1
  before_thruster i counted each Choice before = counted.there
  before_thruster i counted each ThrustCount before = counted.one_each
  before_thruster i counted each (Thruster j) (inl before) = absurd (omega arith)
  before_thruster i counted each (Thruster j) (inr before) =
      λ below. each j (omega (arith, before.1))
  before_thruster i counted each Sum (inl before) = absurd (omega arith)
  before_thruster i counted each Sum (inr before) = absurd (omega (arith, before.0))
  before_thruster i counted each CutCount before = tt
  before_thruster i counted each (Cut k) before = tt

  pub fails_at_thruster : (i : ℕ) → IsCounted question number q thrusts →
      IsFirstAstray (choice_of question.regions number) question.fixed thrusts.list.items q i →
      IsFirstFault question (Holds number q thrusts) (Thruster i)
  fails_at_thruster i counted astray = record {
    fails = λ met. astray.astray (met (omega (arith, astray.there, counted.one_each)));
    first = before_thruster i counted astray.first;
  }

  before_sum : IsCounted question number q thrusts →
      LieBelow (choice_of question.regions number) question.fixed thrusts.list.items q
      (length thrusts.list.items) →
      (p : Place) → IsBefore p Sum → IsMet question (Holds number q thrusts) p
  before_sum counted each Denominator before = counted.from_1
  before_sum counted each Choice before = counted.there
  before_sum counted each ThrustCount before = counted.one_each
  before_sum counted each (Thruster j) before = λ below. each j (omega (arith, counted.one_each))
  before_sum counted each Sum (inl before) = absurd (omega arith)
  before_sum counted each Sum (inr before) = absurd (omega (arith, before.1))
  before_sum counted each CutCount before = tt
  before_sum counted each (Cut k) before = tt

  pub fails_at_sum : IsCounted question number q thrusts →
      LieBelow (choice_of question.regions number) question.fixed thrusts.list.items q
      (length thrusts.list.items) →
      (total_of question.levers (map place_of thrusts.list.items) ≡ scaled_by q question.demand →
      ⊥) →
      IsFirstFault question (Holds number q thrusts) Sum
  fails_at_sum counted each other = record { fails = other; first = before_sum counted each }
