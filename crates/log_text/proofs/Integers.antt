-- A check as a value has no float.
use Rattle.std.proofs.Common.{◌≡◌, ℤ, pos, negsuc, List, [], ◌∷◌, map, false, refl}
use Rattle.std.specs.List.{zip}
use Rattle.serde_json.specs.Data.{Data, number}
use Rattle.serde_json.specs.Find.{of_integer}
use Rattle.serde_json.specs.View.{items_of}
use Rattle.serde_json.specs.Written.{has_float, items_have_float}
use Rattle.plant_model.specs.declared.parts.Group.{Group}
use Rattle.plant_model.specs.declared.plant.Parts.{Parts}
use Rattle.plant_model.specs.declared.thrust.Thrusts.{Thrusts}
use Rattle.plant_model.specs.declared.wrench.Wrench.{Wrench}
use Rattle.certificate.specs.declared.outcome.Cuts.{Cuts}
use Rattle.certificate.specs.declared.outcome.Outcome.{Outcome}
use Rattle.certificate.specs.declared.outcome.Outcome.TheVariants.{Holds, Lost}
use Rattle.thrust_allocation.specs.declared.allocation.Allocation.{Allocation}
use Rattle.log_text.specs.Json.{allocation_data, check_data, cut_data, cuts_data, demand_data}
use Rattle.log_text.specs.Json.{loss_data, losses_data, outcome_data, thrust_data, thrusts_data}
use Rattle.log_text.specs.declared.findings.Findings.{Findings}

no_float-items : {A : Type 0} (f : A → Data) → ((x : A) → has_float (f x) ≡ false)
    → (xs : List A) → items_have_float (items_of (map f xs)) ≡ false
no_float-items f h [] = refl
no_float-items f h (x ∷ xs) = rw (h x, no_float-items f h xs) refl

no_float-integer : (z : ℤ) → has_float (number (of_integer z)) ≡ false
no_float-integer (pos n) = refl
no_float-integer (negsuc n) = refl

no_float-thrusts : (thrusts : Thrusts) → has_float (thrusts_data thrusts) ≡ false
no_float-thrusts thrusts = no_float-items thrust_data (λ thrust. refl) thrusts.list.items

no_float-cuts : (cuts : Cuts) → has_float (cuts_data cuts) ≡ false
no_float-cuts cuts = no_float-items cut_data (λ cut. refl) cuts.list.items

no_float-outcome : (outcome : Outcome) → has_float (outcome_data outcome) ≡ false
no_float-outcome (Holds choice q thrusts) = rw (no_float-thrusts thrusts) refl
no_float-outcome (Lost cuts) = rw (no_float-cuts cuts) refl

no_float-loss : (loss : Group × Outcome) → has_float (loss_data loss) ≡ false
no_float-loss loss = rw (no_float-outcome loss.1) refl

no_float-losses : (groups : List Group) (outcomes : List Outcome)
    → has_float (losses_data groups outcomes) ≡ false
no_float-losses groups outcomes = no_float-items loss_data no_float-loss (zip groups outcomes)

no_float-demand : (demand : Wrench) → has_float (demand_data demand) ≡ false
no_float-demand demand =
    rw (no_float-integer demand.x, no_float-integer demand.y, no_float-integer demand.n) refl

no_float-allocation : (a : Allocation) → has_float (allocation_data a) ≡ false
no_float-allocation a = rw (no_float-thrusts a.thrusts) refl

pub no_float-check : (plant : Parts) (demand : Wrench) (findings : Findings)
    → has_float (check_data plant demand findings) ≡ false
no_float-check plant demand findings =
    rw (
      no_float-allocation findings.allocation,
      no_float-demand demand,
      no_float-losses plant.groups.items findings.groups.items,
      no_float-outcome findings.intact,
    ) refl
