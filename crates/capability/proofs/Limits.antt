-- Where a path stops by one loss after another, and what that says of the greatest wind speed.
use Rattle.std.proofs.Common.{◌≡◌, ◌∙◌, ◌⊎◌, inl, inr, ℕ, ◌+◌, ◌<◌, ◌≤◌, ◌++◌, List, [], ◌∷◌, length}
use Rattle.std.proofs.Common.{length-append, take, Option, Some, None, refl, sym, ap, subst, below_more}
use Rattle.std.proofs.Common.{arith}
use Rattle.std.specs.Prelude.{IfSome}
use Rattle.std.proofs.lemmas.Bool.{cases_lt}
use Rattle.std.proofs.lemmas.List.{length-take}
use Rattle.std.proofs.lemmas.Option.{none-some, same_Some}
use Rattle.plant_model.specs.Versions.{IsDemand}
use Rattle.plant_model.specs.declared.limits.TheConstants.{MOST_WIND_SPEED}
use Rattle.plant_model.specs.declared.plant.Parts.{Parts}
use Rattle.plant_model.specs.declared.status.Loss.{Loss}
use Rattle.plant_model.specs.declared.status.Loss.TheVariants.{Intact, Group}
use Rattle.plant_model.specs.declared.wrench.Wrench.{Wrench}
use Rattle.redundancy_groups.specs.Standing.{IsLossOf}
use Rattle.certificate.specs.Losses.{question_after}
use Rattle.certificate.specs.Outcomes.{IsFeasible, IsValid, Question}
use Rattle.certificate.specs.declared.outcome.Outcome.{Outcome}
use Rattle.capability.specs.Limits.{AreOfEach, AreShown, EachLoss, IsAnswer, IsFirstLost}
use Rattle.capability.specs.Limits.{IsFirstUnmet, IsGreatestSpeed, IsHeld, IsHeldTo, IsNext}
use Rattle.capability.specs.Limits.{IsStep, IsStopped, Shows, StopsAt, StopsBy, Weather, after}
use Rattle.capability.specs.Limits.{Withstands}
use Rattle.capability.specs.Limits.{asked_in, demand_in, number_of}
use Rattle.capability.specs.Paths.{IsMetUpTo, IsPath, along}
use Rattle.capability.specs.declared.limit.Next.{Next}
use Rattle.capability.specs.declared.limit.Step.{Step}
use Rattle.capability.specs.declared.limit.Step.TheVariants.{Beyond, Lost}
use Rattle.capability.specs.declared.limit.Stop.{Stop}
use Rattle.capability.specs.declared.speeds.TheConstants.{SPEEDS}
use Rattle.capability.proofs.Paths.{along_front}

-- ---- losses and their numbers

same_loss : (a b : Loss) → number_of a ≡ number_of b → a ≡ b
same_loss Intact Intact e = refl
same_loss Intact (Group n) e = absurd (omega (arith, e))
same_loss (Group m) Intact e = absurd (omega (arith, e))
same_loss (Group m) (Group n) e = ap (λ (k : ℕ). Group k) (omega (arith, e))

-- what is so of the losses before one and of this is so of all up to it
up_to : (P : Loss → Type 0) (loss : Loss) →
    ((other : Loss) → number_of other < number_of loss → P other) → P loss →
    (other : Loss) → number_of other < number_of loss + 1 → P other
up_to P loss old new other below =
    below_more (λ (n : ℕ). (l : Loss) → number_of l ≡ n → P l) (number_of loss)
    (λ n less l e. old l (omega (arith, less, e)))
    (λ l e. subst P (sym (same_loss l loss e)) new) (number_of other) below other refl

numbered : (plant : Parts) (loss : Loss) → IsLossOf plant loss →
    number_of loss < length plant.groups.items + 1
numbered plant Intact of_plant = omega arith
numbered plant (Group n) of_plant = omega (arith, of_plant)

of_number : (plant : Parts) (loss : Loss) → number_of loss < length plant.groups.items + 1 →
    IsLossOf plant loss
of_number plant Intact below = tt
of_number plant (Group n) below = omega (arith, below)

-- ---- where a path stops

module _ (ask : Loss → Wrench → Question) (path : List Wrench) where
  pub not_stopped : StopsAt ask path 0 (record { speed = length path; loss = None })
  not_stopped = record {
    to = omega arith;
    before = λ loss below speed short. absurd (omega (arith, below));
    none = λ e. refl;
    some = tt;
  }

  still_first : (k speed : ℕ) (found : Option Loss) → IfSome found (IsFirstUnmet ask path k speed) →
      IfSome found (IsFirstUnmet ask path (k + 1) speed)
  still_first k speed None first = first
  still_first k speed (Some loss) first =
      let below = first.below in
      record {
        below = omega (arith, below);
        within = first.within;
        unmet = first.unmet;
        first = first.first;
      }

  module _ (loss : Loss) (stop : Stop) (speed : ℕ)
      (so_far : StopsAt ask path (number_of loss) stop)
      (met : IsMetUpTo (ask loss) (take stop.speed path) speed) where
    front : length (take stop.speed path) ≡ stop.speed
    front = let to = so_far.to in omega (arith, length-take stop.speed path, to)

    here : (v : ℕ) → v < speed → IsFeasible (ask loss (along path v))
    here v below =
        let to = met.to in
        subst (λ (d : Wrench). IsFeasible (ask loss d))
        (along_front path stop.speed v (omega (arith, below, to, front))) (met.before v below)

    pub still_stops : stop.speed ≤ speed → StopsAt ask path (number_of loss + 1) stop
    still_stops late = record {
      to = so_far.to;
      before = up_to (λ other. (v : ℕ) → v < stop.speed → IsFeasible (ask other (along path v)))
          loss so_far.before (λ v below. here v (omega (arith, below, late)));
      none = so_far.none;
      some = still_first (number_of loss) stop.speed stop.loss so_far.some;
    }

    pub stops_earlier : speed < stop.speed →
        StopsAt ask path (number_of loss + 1) (record { speed = speed; loss = Some loss })
    stops_earlier early =
        let to = so_far.to in
        record {
          to = omega (arith, early, to);
          before = up_to (λ other. (v : ℕ) → v < speed → IsFeasible (ask other (along path v))) loss
              (λ other below v short. so_far.before other below v (omega (arith, short, early)))
              here;
          none = λ e. absurd (none-some loss (sym e));
          some = record {
            below = omega arith;
            within = omega (arith, early, to);
            unmet = λ feasible. met.ends (omega (arith, early, front))
                (subst (λ (d : Wrench). IsFeasible (ask loss d))
                (sym (along_front path stop.speed speed early)) feasible);
            first = λ other below. so_far.before other below speed early;
          };
        }

-- ---- the greatest speed

module _ (w : Weather) (path : List Wrench) (is : IsPath w.plant w.base w.angle path) (stop : Stop)
    (stops : StopsAt (question_after w.plant w.status) path (length w.plant.groups.items + 1) stop)
  where
    meets_at : (loss : Loss) (speed : ℕ) → speed < length path →
        IsFeasible (question_after w.plant w.status loss (along path speed)) →
        Withstands w loss speed
    meets_at loss speed there feasible = record {
      within = subst IsDemand (is.each speed there) (is.within speed there);
      meets = subst (λ (d : Wrench). IsFeasible (question_after w.plant w.status loss d))
          (is.each speed there) feasible;
    }

    held_below : (speed : ℕ) → speed < stop.speed → IsHeld w speed
    held_below speed below loss of_plant =
        let to = stops.to in
        meets_at loss speed (omega (arith, below, to))
        (stops.before loss (numbered w.plant loss of_plant) speed below)

    unmet_at : (loss : Loss) → stop.loss ≡ Some loss →
        IsFirstUnmet (question_after w.plant w.status) path (length w.plant.groups.items + 1)
        stop.speed loss
    unmet_at loss e =
        subst (λ (found : Option Loss). IfSome found
        (IsFirstUnmet (question_after w.plant w.status) path (length w.plant.groups.items + 1)
        stop.speed)) e stops.some

    fails_at : (loss : Loss) → stop.loss ≡ Some loss → Withstands w loss stop.speed → ⊥
    fails_at loss e withstands =
        let first = unmet_at loss e in
        first.unmet
        (subst (λ (d : Wrench). IsFeasible (question_after w.plant w.status loss d))
        (sym (is.each stop.speed first.within)) withstands.meets)

    beyond_at : stop.loss ≡ None → stop.speed < SPEEDS → IsDemand (demand_in w stop.speed) → ⊥
    beyond_at e short within =
        let all = stops.none e in
        is.ends (omega (arith, all, short))
        (subst (λ (n : ℕ). IsDemand (demand_in w n)) all within)

    not_held : (found : Option Loss) → stop.loss ≡ found → stop.speed < SPEEDS →
        IsHeld w stop.speed → ⊥
    not_held None e short held = beyond_at e short (held Intact tt).within
    not_held (Some loss) e short held =
        fails_at loss e (held loss (of_number w.plant loss (unmet_at loss e).below))

    pub none_held : stop.speed ≡ 0 → IsGreatestSpeed w None
    none_held e held =
        not_held stop.loss refl (omega (arith, e)) (subst (IsHeld w) (sym e) held)

    pub greatest_held : (speed : ℕ) → stop.speed ≡ speed + 1 → IsGreatestSpeed w (Some speed)
    greatest_held speed e = (
      (let to = stops.to in let few = is.few in omega (arith, e, to, few)),
      (λ v below. held_below v (omega (arith, e, below))),
      (λ v few held. greatest v few held (cases_lt speed v)),
    )
      where
        greatest : (v : ℕ) → v ≤ MOST_WIND_SPEED → IsHeldTo w v → (speed < v) ⊎ (v ≤ speed) →
            v ≤ speed
        greatest v few held (inr below) = below
        greatest v few held (inl above) = absurd
            (not_held stop.loss refl (omega (arith, e, above, few))
            (held stop.speed (omega (arith, e, above))))

    -- ---- what ends it

    first_lost : (next : Next) (step : Step) → next.step ≡ step →
        StopsBy (question_after w.plant w.status) path stop next.loss step →
        IsFirstLost w stop.speed next
    first_lost next Beyond is_step by =
        let beyond = beyond_at by.0 by.1 in
        let intact = by.2 in
        record {
          of_plant = subst (IsLossOf w.plant) (sym intact) tt;
          fails = λ withstands. beyond withstands.within;
          first = λ loss of_plant below. absurd (before_none loss (subst
              (λ (l : Loss). number_of loss < number_of l) intact below));
          step = subst (λ (s : Step). IsStep w next.loss stop.speed s) (sym is_step) beyond;
        }
      where
        before_none : (loss : Loss) → number_of loss < 0 → ⊥
        before_none loss below = omega (arith, below)
    first_lost next (Lost outcome) is_step by =
        let first = unmet_at next.loss by.0 in
        let there = first.within in
        record {
          of_plant = of_number w.plant next.loss first.below;
          fails = fails_at next.loss by.0;
          first = λ loss of_plant below. meets_at loss stop.speed there (first.first loss below);
          step = subst (λ (s : Step). IsStep w next.loss stop.speed s) (sym is_step) (
            subst IsDemand (is.each stop.speed there) (is.within stop.speed there),
            subst (λ (d : Wrench). IsValid (question_after w.plant w.status next.loss d) outcome)
                (is.each stop.speed there) by.1,
            by.2,
          );
        }

    ends_short : (next : Next) (step : Step) →
        StopsBy (question_after w.plant w.status) path stop next.loss step → stop.speed < SPEEDS
    ends_short next Beyond by = by.1
    ends_short next (Lost outcome) by =
        let there = (unmet_at next.loss by.0).within in
        let few = is.few in
        omega (arith, there, few)

    pub next_is : (speed : Option ℕ) (next : Option Next) → after speed ≡ stop.speed →
        IsStopped (question_after w.plant w.status) path stop next → IsNext w speed next
    next_is None None e stopped = (let all = stopped.1 in absurd (omega (arith, e, all)))
    next_is (Some speed) None e stopped =
        let all = stopped.1 in
        let to = stops.to in
        let few = is.few in
        ap (λ (n : ℕ). Some n) (omega (arith, e, all, to, few))
    next_is None (Some next) e stopped = (
      (λ is_most. none-some MOST_WIND_SPEED is_most),
      subst (λ (n : ℕ). IsFirstLost w n next) (sym e) (first_lost next next.step refl stopped),
    )
    next_is (Some speed) (Some next) e stopped = (
      (λ is_most. (let short = ends_short next next.step stopped in
          let same = same_Some speed MOST_WIND_SPEED is_most in omega (arith, e, short, same))),
      subst (λ (n : ℕ). IsFirstLost w n next) (sym e) (first_lost next next.step refl stopped),
    )

-- ---- what shows it

each_weaker : (R S : Loss → Outcome → Type 0) (bound group : ℕ) (outcomes : List Outcome) →
    group + length outcomes ≤ bound →
    ((n : ℕ) → n < bound → (outcome : Outcome) → R (Group n) outcome → S (Group n) outcome) →
    EachLoss R group outcomes → EachLoss S group outcomes
each_weaker R S bound group [] few weaker each = tt
each_weaker R S bound group (outcome ∷ outcomes) few weaker each = (
  weaker group (omega (arith, few)) outcome each.0,
  each_weaker R S bound (group + 1) outcomes (omega (arith, few)) weaker each.1,
)

-- of no loss and of the losses of the groups below this number
pub record AreBelow (R : Loss → Outcome → Type 0) (count : ℕ) (outcomes : List Outcome) : Type 0
  where
    pub intact : Outcome
    pub groups : List Outcome
    pub are : outcomes ≡ intact ∷ groups
    pub counted : length groups ≡ count
    pub first : R Intact intact
    pub each : EachLoss R 0 groups

pub intact_alone : (R : Loss → Outcome → Type 0) (outcomes more : List Outcome) (outcome : Outcome) →
    outcomes ≡ [] → more ≡ outcomes ++ outcome ∷ [] → R Intact outcome → AreBelow R 0 more
intact_alone R outcomes more outcome none is first = record {
  intact = outcome;
  groups = [];
  are = is ∙ ap (λ (l : List Outcome). l ++ outcome ∷ []) none;
  counted = refl;
  first = first;
  each = tt;
}

each_more : (R : Loss → Outcome → Type 0) (group : ℕ) (outcomes : List Outcome)
    (outcome : Outcome) → EachLoss R group outcomes → R (Group (group + length outcomes)) outcome →
    EachLoss R group (outcomes ++ outcome ∷ [])
each_more R group [] outcome each last =
    (subst (λ (n : ℕ). R (Group n) outcome) (omega arith) last, tt)
each_more R group (o ∷ outcomes) outcome each last = (
  each.0,
  each_more R (group + 1) outcomes outcome each.1
      (subst (λ (n : ℕ). R (Group n) outcome) (omega arith) last),
)

pub one_outcome_more : (R : Loss → Outcome → Type 0) (count : ℕ) (outcomes more : List Outcome)
    (outcome : Outcome) → more ≡ outcomes ++ outcome ∷ [] → R (Group count) outcome →
    AreBelow R count outcomes → AreBelow R (count + 1) more
one_outcome_more R count outcomes more outcome is last below =
    let counted = below.counted in
    record {
      intact = below.intact;
      groups = below.groups ++ outcome ∷ [];
      are = is ∙ ap (λ (l : List Outcome). l ++ outcome ∷ []) below.are;
      counted = omega (arith, length-append below.groups (outcome ∷ []), counted);
      first = below.first;
      each = each_more R 0 below.groups outcome below.each
          (subst (λ (n : ℕ). R (Group n) outcome) (omega (arith, counted)) last);
    }

pub all_of_each : (plant : Parts) (R : Loss → Outcome → Type 0) (count : ℕ)
    (outcomes : List Outcome) → count ≡ length plant.groups.items → AreBelow R count outcomes →
    AreOfEach plant R outcomes
all_of_each plant R count outcomes all below = record {
  intact = below.intact;
  groups = below.groups;
  are = below.are;
  one_each = below.counted ∙ all;
  first = below.first;
  each = below.each;
}

module _ (w : Weather) (path : List Wrench) (is : IsPath w.plant w.base w.angle path) (stop : Stop)
    (stops : StopsAt (question_after w.plant w.status) path (length w.plant.groups.items + 1) stop)
  where
    pub shown : (speed : ℕ) (outcomes : List Outcome) → stop.speed ≡ speed + 1 →
        AreOfEach w.plant
        (λ loss. IsAnswer (question_after w.plant w.status loss (along path speed))) outcomes →
        AreShown w (Some speed) outcomes
    shown speed outcomes e answers =
        let one_each = answers.one_each in
        record {
          intact = answers.intact;
          groups = answers.groups;
          are = answers.are;
          one_each = one_each;
          first = shows Intact tt answers.intact answers.first;
          each = each_weaker
              (λ loss. IsAnswer (question_after w.plant w.status loss (along path speed)))
              (λ loss. Shows (asked_in w loss speed)) (length w.plant.groups.items) 0 answers.groups
              (omega (arith, one_each))
              (λ n below outcome answer. shows (Group n) below outcome answer) answers.each;
        }
      where
        shows : (loss : Loss) → IsLossOf w.plant loss → (outcome : Outcome) →
            IsAnswer (question_after w.plant w.status loss (along path speed)) outcome →
            Shows (asked_in w loss speed) outcome
        shows loss of_plant outcome answer =
            let to = stops.to in
            record {
              valid = subst (λ (d : Wrench). IsValid (question_after w.plant w.status loss d) outcome)
                  (is.each speed (omega (arith, e, to))) answer.valid;
              holds = answer.holds.1 (stops.before loss (numbered w.plant loss of_plant) speed
                  (omega (arith, e)));
            }
