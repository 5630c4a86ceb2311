-- An outcome has one first fault.
use Rattle.std.proofs.Common.{◌≡◌, ◌∙◌, inl, inr, ℕ, ◌<◌, ◌==◌, if◌then◌else◌, refl, ap₂, sym, arith}
use Rattle.std.proofs.lemmas.Bool.Decides.{nat_tests}
use Rattle.certificate.specs.Outcomes.{IsBefore, IsFirstFault, Question, kind_of, number_of}
use Rattle.certificate.specs.declared.outcome.Outcome.{Outcome}
use Rattle.certificate.specs.declared.outcome.Place.{Place}
use Rattle.certificate.specs.declared.outcome.Place.TheVariants.{Denominator, Choice, ThrustCount}
use Rattle.certificate.specs.declared.outcome.Place.TheVariants.{Thruster, Sum, CutCount, Cut}

same_number : (m n : ℕ) → (m < n → ⊥) → (n < m → ⊥) → m ≡ n
same_number m n below above =
    first_of (omega (arith, below, above), grind (arith, nat_tests, below, above))

abbrev place_from : ℕ → ℕ → Place
place_from kind number = if kind == 0 then Denominator else (if kind == 1 then Choice
    else (if kind == 2 then ThrustCount else (if kind == 3 then Thruster number
    else (if kind == 4 then Sum else (if kind == 5 then CutCount else Cut number)))))

place_again : (place : Place) → place_from (kind_of place) (number_of place) ≡ place
place_again Denominator = refl
place_again Choice = refl
place_again ThrustCount = refl
place_again (Thruster i) = refl
place_again Sum = refl
place_again CutCount = refl
place_again (Cut k) = refl

-- of two places one is before the other, or they are one
pub one_place : (place other : Place) → (IsBefore place other → ⊥) → (IsBefore other place → ⊥)
    → place ≡ other
one_place place other before behind =
    let kinds = same_number (kind_of place) (kind_of other) (λ less. before (inl less))
    (λ less. behind (inl less)) in
    let numbers = same_number (number_of place) (number_of other)
    (λ less. before (inr (kinds, less))) (λ less. behind (inr (sym kinds, less))) in
    sym (place_again place) ∙ ap₂ place_from kinds numbers ∙ place_again other

pub one_first_fault : (question : Question) (outcome : Outcome) (place other : Place)
    → IsFirstFault question outcome place → IsFirstFault question outcome other → place ≡ other
one_first_fault question outcome place other first second =
    one_place place other (λ before. first.fails (second.first place before))
    (λ behind. second.fails (first.first other behind))
