-- Which allocations are right beside one that is.
use Rattle.std.proofs.Common.{◌≡◌, ◌∙◌, ◌⊎◌, inl, inr, ℕ, ◌<◌, ℤ, pos, List, sym, subst}
use Rattle.dp_num.specs.Fractions.{IsInLowestTerms}
use Rattle.plant_model.specs.declared.thrust.Thrust.{Thrust}
use Rattle.thrust_region.specs.Choices.{choices_of}
use Rattle.wrench_geometry.specs.Vectors.{zero_vector}
use Rattle.certificate.specs.Outcomes.{Question}
use Rattle.thrust_allocation.specs.Allocations.{AsksNothing, CanGive, Gives, IsGreatest, IsPart}
use Rattle.thrust_allocation.specs.Allocations.{IsRight}
use Rattle.thrust_allocation.specs.declared.allocation.Allocation.{Allocation}
use Rattle.log_audit.specs.Rights.{HasSameThrusts, IsGiven}
use Rattle.log_audit.specs.Twins.{GivesAlike}

-- what is said of two numbers is said of their equals
said_of_both : (P : ℤ → ℤ → Type 0) {a b c d : ℤ} → a ≡ c → b ≡ d → P a b → P c d
said_of_both P {a} {b} {c} {d} e f said = subst (P c) f (subst (λ (z : ℤ). P z b) e said)

gives_as : (question : Question) {k n : ℕ} {a b c d q r : ℤ} {thrusts others : List Thrust}
    → k ≡ n → a ≡ c → b ≡ d → q ≡ r → thrusts ≡ others → Gives question k a b q thrusts
    → Gives question n c d r others
gives_as question {k} {n} {a} {b} {c} {d} {q} {r} {thrusts} {others} e f g h i said =
    subst (Gives question n c d r) i
    (subst (λ (z : ℤ). Gives question n c d z thrusts) h
    (said_of_both (λ (x y : ℤ). Gives question n x y q thrusts) f g
    (subst (λ (j : ℕ). Gives question j a b q thrusts) e said)))

module _ (question : Question) (a b : Allocation) where
  -- the same part in the same choice is right by other thrusts that give it
  pub right_like : IsRight question a → GivesAlike a b → IsGiven question b
      → (question.demand ≡ zero_vector → AsksNothing question b)
      → (b.fraction.top ≡ pos 0 → AsksNothing question b) → IsRight question b
  right_like right alike given no_demand no_part = record {
    part = said_of_both IsPart alike.top alike.bottom right.part;
    lowest = said_of_both IsInLowestTerms alike.top alike.bottom right.lowest;
    choice = subst (λ (k : ℕ). k < choices_of question.regions) alike.choice right.choice;
    gives = given;
    greatest = said_of_both (IsGreatest question) alike.top alike.bottom right.greatest;
    first = λ choice below. said_of_both (λ (x y : ℤ). ¬ CanGive question choice x y) alike.top
        alike.bottom
        (right.first choice (subst (λ (k : ℕ). choice < k) (sym alike.choice) below));
    no_demand = λ e. (
      record {
        top = sym alike.top ∙ (right.no_demand e).0.top;
        bottom = sym alike.bottom ∙ (right.no_demand e).0.bottom;
      },
      no_demand e,
    );
    no_part = no_part;
  }

  nothing_like : GivesAlike a b → HasSameThrusts a b → AsksNothing question a
      → AsksNothing question b
  nothing_like alike same nothing = record {
    choice = sym alike.choice ∙ nothing.choice;
    q = sym same.q ∙ nothing.q;
    thrusts = sym same.thrusts ∙ nothing.thrusts;
  }

  -- and by the same thrusts
  pub same_thrusts_right : IsRight question a → GivesAlike a b → HasSameThrusts a b
      → IsRight question b
  same_thrusts_right right alike same =
      right_like right alike
      (gives_as question alike.choice alike.top alike.bottom same.q same.thrusts right.gives)
      (λ e. nothing_like alike same (right.no_demand e).1)
      (λ e. nothing_like alike same (right.no_part (alike.top ∙ e)))

  both_nothing : AsksNothing question a → AsksNothing question b → HasSameThrusts a b
  both_nothing first second =
      record { q = first.q ∙ sym second.q; thrusts = first.thrusts ∙ sym second.thrusts }

  -- where nothing is given, there are no other thrusts
  pub nothing_same : IsRight question a → IsRight question b → GivesAlike a b
      → (question.demand ≡ zero_vector) ⊎ (b.fraction.top ≡ pos 0) → HasSameThrusts a b
  nothing_same first second alike (inl none) =
      both_nothing (first.no_demand none).1 (second.no_demand none).1
  nothing_same first second alike (inr none) =
      both_nothing (first.no_part (alike.top ∙ none)) (second.no_part none)
