-- Histories that differ at most in the denominators and thrusts of commands.
use Rattle.std.specs.Prelude.{◌≡◌, ℕ, List, [], ◌∷◌, Bool, true, false}
use Rattle.plant_model.specs.declared.plant.Parts.{Parts}
use Rattle.plant_model.specs.declared.status.Loss.TheVariants.{Intact}
use Rattle.plant_model.specs.declared.status.Status.{Status}
use Rattle.plant_model.specs.declared.wrench.Wrench.{Wrench}
use Rattle.thrust_allocation.specs.Allocations.{IsRight}
use Rattle.thrust_allocation.specs.declared.allocation.Allocation.{Allocation}
use Rattle.certificate.specs.Losses.{question_after}
use Rattle.certificate.specs.Outcomes.{Question}
use Rattle.plant_core.specs.Machine.{IsAllowed, Stand, stand_after}
use Rattle.plant_core.specs.declared.call.Call.{Call}
use Rattle.plant_core.specs.declared.call.Entry.{Entry}
use Rattle.plant_core.specs.declared.call.Reply.{Reply}
use Rattle.plant_core.specs.declared.call.Reply.TheVariants.{Commanded}

-- the same part of a demand in the same choice, by whatever thrusts
pub record GivesAlike (given other : Allocation) : Type 0 where
  pub top : given.fraction.top ≡ other.fraction.top
  pub bottom : given.fraction.bottom ≡ other.fraction.bottom
  pub choice : given.choice ≡ other.choice

pub record AreCommandsAlike (number other_number : ℕ) (demand other_demand : Wrench)
    (given other : Allocation) : Type 0 where
  pub version : number ≡ other_number
  pub asked : demand ≡ other_demand
  pub gives : GivesAlike given other

-- two commands alike, or the same reply
abbrev pub AreAlike : Reply → Reply → Type 0
AreAlike (Commanded version demand given) (Commanded other_version other_demand other) =
    AreCommandsAlike version other_version demand other_demand given other
AreAlike reply other = reply ≡ other

pub record AreTwins (entry other : Entry) : Type 0 where
  pub caller : entry.caller ≡ other.caller
  pub call : entry.call ≡ other.call
  pub reply : AreAlike entry.reply other.reply

-- entry by entry
abbrev pub Twins : List Entry → List Entry → Type 0
Twins [] [] = Unit {0}
Twins [] (other ∷ others) = ⊥
Twins (entry ∷ entries) [] = ⊥
Twins (entry ∷ entries) (other ∷ others) = AreTwins entry other × Twins entries others

-- how the machine stands doesn't depend on the thrusts of its commands
abbrev pub TwinsStandAlike : Type 0
TwinsStandAlike = (plant : Parts) (history other : List Entry) → Twins history other
    → stand_after plant history ≡ stand_after plant other

-- to a call there is one reply, but for the thrusts of a command
abbrev pub RepliesAreAlike : Type 0
RepliesAreAlike = (plant : Parts) (limit : ℕ) (stand : Stand) (call : Call) (reply other : Reply)
    → IsAllowed plant limit stand call reply → IsAllowed plant limit stand call other
    → AreAlike reply other

-- of a demand there is one greatest part, and one first choice in which it can be given
abbrev pub RightsAreAlike : Type 0
RightsAreAlike = (question : Question) (given other : Allocation) → IsRight question given
    → IsRight question other → GivesAlike given other

-- a command beside the machine's own: of the same version and demand, with an allocation that is right
pub record IsAlsoCommand (question : Question) (number other_number : ℕ) (demand other_demand : Wrench)
    (other : Allocation) : Type 0 where
  pub version : number ≡ other_number
  pub asked : demand ≡ other_demand
  pub right : IsRight question other

-- a reply that the machine may give as well as its own
abbrev pub IsAlsoRight : Parts → Status → Reply → Reply → Type 0
IsAlsoRight plant status (Commanded version demand given)
    (Commanded other_version other_demand other) =
    IsAlsoCommand (question_after plant status Intact demand) version other_version demand other_demand
    other
IsAlsoRight plant status reply other = reply ≡ other

-- a command of the machine's own gives the greatest part of its demand
abbrev pub IsOwnRight : Parts → Status → Reply → Type 0
IsOwnRight plant status (Commanded version demand given) =
    IsRight (question_after plant status Intact demand) given
IsOwnRight plant status reply = Unit {0}

abbrev pub is_command : Reply → Bool
is_command (Commanded version demand given) = true
is_command reply = false
