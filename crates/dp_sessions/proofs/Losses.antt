-- Verdicts for the groups so far.
use Rattle.std.proofs.Common.{◌≡◌, ℕ, zero, suc, ◌+◌, ◌<◌, List, [], ◌∷◌, ◌++◌, length, Bool, true}
use Rattle.std.proofs.Common.{false, ◌||◌, ap, subst, sym, arith}
use Rattle.std.specs.List.{list_any}
use Rattle.std.proofs.lemmas.List.{length-append}
use Rattle.plant_model.specs.declared.plant.Parts.{Parts}
use Rattle.plant_model.specs.declared.status.Loss.{Loss}
use Rattle.plant_model.specs.declared.status.Loss.TheVariants.{Intact, Group}
use Rattle.plant_model.specs.declared.status.Status.{Status}
use Rattle.plant_model.specs.declared.wrench.Wrench.{Wrench}
use Rattle.certificate.specs.Losses.{question_after}
use Rattle.certificate.specs.Outcomes.{IsFeasible}
use Rattle.certificate.specs.declared.outcome.Outcome.{Outcome}
use Rattle.certificate.specs.declared.outcome.Outcome.TheVariants.{Holds, Lost}
use Rattle.log_text.specs.declared.findings.Findings.{Findings}
use Rattle.dp_sessions.specs.Checks.{AreRight, AreVerdicts, EachGroup, IsHeld, IsSo, IsVerdict}
use Rattle.dp_sessions.specs.Checks.{asked_after, has_lost, is_lost}

-- a verdict for the loss of each group below this number
pub record VerdictsBelow (plant : Parts) (demand : Wrench) (number : ℕ) (outcomes : List Outcome)
    : Type 0 where
  pub count : length outcomes ≡ number
  pub each : EachGroup (λ loss. IsVerdict (asked_after plant demand loss)) 0 outcomes

-- one group more
each_more : (R : Loss → Outcome → Type 0) (number : ℕ) (outcomes : List Outcome)
    (outcome : Outcome) → EachGroup R number outcomes → R (Group (number + length outcomes)) outcome
    → EachGroup R number (outcomes ++ outcome ∷ [])
each_more R number [] outcome each last =
    (subst (λ (n : ℕ). R (Group n) outcome) (omega arith) last, tt)
each_more R number (o ∷ outcomes) outcome each last = (
  each.0,
  each_more R (number + 1) outcomes outcome each.1
      (subst (λ (n : ℕ). R (Group n) outcome) (omega arith) last),
)

-- what an analysis answers of the plant as it opens
pub verdict_at : (plant : Parts) (status : Status) (demand : Wrench) (loss : Loss)
    (outcome : Outcome) → status ≡ plant.opening
    → IsVerdict (question_after plant status loss demand) outcome
    → IsVerdict (asked_after plant demand loss) outcome
verdict_at plant status demand loss outcome opens verdict =
    subst (λ (s : Status). IsVerdict (question_after plant s loss demand) outcome) opens verdict

pub one_verdict_more : (plant : Parts) (demand : Wrench) (number : ℕ)
    (outcomes more : List Outcome) (outcome : Outcome) → more ≡ outcomes ++ outcome ∷ []
    → IsVerdict (asked_after plant demand (Group number)) outcome
    → VerdictsBelow plant demand number outcomes → VerdictsBelow plant demand (number + 1) more
one_verdict_more plant demand number outcomes more outcome is verdict below =
    let here : 0 + length outcomes ≡ number = omega (arith, below.count) in
    record {
      count = omega (arith, ap length is, length-append outcomes (outcome ∷ []), below.count);
      each = subst (EachGroup (λ loss. IsVerdict (asked_after plant demand loss)) 0) (sym is)
          (each_more (λ loss. IsVerdict (asked_after plant demand loss)) 0 outcomes outcome
          below.each (subst (λ (n : ℕ). IsVerdict (asked_after plant demand (Group n)) outcome)
          (sym here) verdict));
    }

-- ---- losses

-- some group's loss leaves too little
some_lost : (plant : Parts) (demand : Wrench) (number : ℕ) (outcomes : List Outcome)
    → EachGroup (λ loss. IsVerdict (asked_after plant demand loss)) number outcomes
    → list_any is_lost outcomes ≡ true
    → (n : ℕ) × (n < number + length outcomes)
    × (IsFeasible (asked_after plant demand (Group n)) → ⊥)
some_lost plant demand number [] each any = cc
some_lost plant demand number (Lost cuts ∷ outcomes) each any =
    (number, omega arith, each.0.lost.0 tt)
some_lost plant demand number (Holds choice q thrusts ∷ outcomes) each any =
    let later = some_lost plant demand (number + 1) outcomes each.1 any in
    (later.0, omega (arith, later.1), later.2)

-- none does
none_lost : (plant : Parts) (demand : Wrench) (number : ℕ) (outcomes : List Outcome)
    → EachGroup (λ loss. IsVerdict (asked_after plant demand loss)) number outcomes
    → list_any is_lost outcomes ≡ false → (k : ℕ) → k < length outcomes
    → IsFeasible (asked_after plant demand (Group (number + k)))
none_lost plant demand number [] each any k below = absurd (omega arith)
none_lost plant demand number (Lost cuts ∷ outcomes) each any k below = cc
none_lost plant demand number (Holds choice q thrusts ∷ outcomes) each any zero below =
    subst (λ (n : ℕ). IsFeasible (asked_after plant demand (Group n))) (omega arith)
    (each.0.holds.0 tt)
none_lost plant demand number (Holds choice q thrusts ∷ outcomes) each any (suc k) below =
    subst (λ (n : ℕ). IsFeasible (asked_after plant demand (Group n))) (omega arith)
    (none_lost plant demand (number + 1) outcomes each.1 any k (omega (arith, below)))

so_where : (plant : Parts) (demand : Wrench) (intact : Outcome) (outcomes : List Outcome)
    (lost : Bool) → IsVerdict (asked_after plant demand Intact) intact
    → AreVerdicts plant demand outcomes → (is_lost intact || list_any is_lost outcomes) ≡ lost
    → IsSo lost plant demand
so_where plant demand (Lost cuts) outcomes true verdict groups is =
    (Intact, tt, verdict.lost.0 tt)
so_where plant demand (Lost cuts) outcomes false verdict groups is = cc
so_where plant demand (Holds choice q thrusts) outcomes true verdict groups is =
    let some = some_lost plant demand 0 outcomes groups.each is in
    (Group some.0, omega (arith, some.1, groups.one_each), some.2)
so_where plant demand (Holds choice q thrusts) outcomes false verdict groups is =
    held
  where
    held : IsHeld plant demand
    held Intact there = verdict.holds.0 tt
    held (Group n) there =
        subst (λ (k : ℕ). IsFeasible (asked_after plant demand (Group k))) (omega arith)
        (none_lost plant demand 0 outcomes groups.each is n (omega (arith, there, groups.one_each)))

-- the demand is lost somewhere where some outcome is a Lost, else it is held
pub so : (plant : Parts) (demand : Wrench) (findings : Findings) (lost : Bool)
    → AreRight plant demand findings → lost ≡ has_lost findings → IsSo lost plant demand
so plant demand findings lost right is =
    so_where plant demand findings.intact findings.groups.items lost right.intact right.groups
    (sym is)
