-- Laws of all histories.
use Rattle.std.specs.Prelude.{◌≡◌, ◌↔◌, ℕ, ◌<◌, ◌≤◌, List, [], ◌∷◌, ◌++◌, length}
use Rattle.std.specs.Prelude.{◌==◌, if◌then◌else◌, Option, Some, None}
use Rattle.std.specs.List.{filter, fold}
use Rattle.plant_model.specs.declared.plant.Parts.{Parts}
use Rattle.plant_model.specs.declared.limits.TheConstants.{MOST_GROUPS}
use Rattle.certificate.specs.Outcomes.{IsValid}
use Rattle.certificate.specs.declared.outcome.Outcome.{Outcome}
use Rattle.plant_core.specs.Board.{asked_of, holds, verdict_of}
use Rattle.plant_core.specs.Machine.{CoreView, IsAllowed, IsCall, IsEntry, IsLegal}
use Rattle.plant_core.specs.Machine.{after_reply, is_answer, next, stand_after}
use Rattle.plant_core.specs.Machine.{stand_of, state_after}
use Rattle.plant_core.specs.declared.call.Call.{Call}
use Rattle.plant_core.specs.declared.call.Call.TheVariants as calls
use Rattle.plant_core.specs.declared.call.Entry.{Entry}
use Rattle.plant_core.specs.declared.call.Reply.{Reply}
use Rattle.plant_core.specs.declared.call.Reply.TheVariants as replies
use Rattle.plant_core.specs.declared.state.Verdict.{Verdict}

-- ---- steps

abbrev pub EmptyIsLegal : Type 0
EmptyIsLegal = (plant : Parts) (limit : ℕ) → IsLegal plant limit []

-- the history before the last entry is legal, and the last entry may stand after it
abbrev pub LegalBySteps : Type 0
LegalBySteps = (plant : Parts) (limit : ℕ) (history : List Entry) (entry : Entry)
    → IsLegal plant limit (history ++ entry ∷ [])
    ↔ (IsLegal plant limit history × IsEntry plant limit (stand_after plant history) entry)

-- how the machine stands after the last entry follows from how it stood before it
abbrev pub StandBySteps : Type 0
StandBySteps = (plant : Parts) (history : List Entry) (entry : Entry)
    → stand_after plant (history ++ entry ∷ []) ≡ next plant (stand_after plant history) entry

-- ---- calls of any callers

-- Calls that were applied to a core one after another, by whatever callers, with their replies: each
-- call was within its ranges, and its reply is one that the core as it then stood allows.
abbrev pub AreApplied : CoreView → List Entry → Type 0
AreApplied core [] = Unit {0}
AreApplied core (call ∷ more) = IsCall core.plant call.call
    × IsAllowed core.plant core.limit (stand_of core) call.call call.reply
    × AreApplied (after_reply core call) more

-- the calls that were answered, in their order
abbrev pub answered : List Entry → List Entry
answered calls = filter (λ call. is_answer call.reply) calls

-- a plant at its opening
abbrev pub started : Parts → ℕ → CoreView
started plant limit = record { plant = plant; limit = limit; history = [] }

-- However the calls of control loop, operators and workers interleave, the history has the answered
-- calls in the order in which they were applied, and is legal.
abbrev pub EveryInterleavingIsLegal : Type 0
EveryInterleavingIsLegal = (plant : Parts) (limit : ℕ) (applied : List Entry)
    → AreApplied (started plant limit) applied
    → (fold after_reply (started plant limit) applied
    ≡ record { plant = plant; limit = limit; history = answered applied })
    × IsLegal plant limit (answered applied)

-- ---- verdicts

-- the verdict is about the version that is the latest after this history, and valid for it and the
-- loss of the group
pub record IsShownVerdict (plant : Parts) (before : List Entry) (number place : ℕ)
    (outcome : Outcome) : Type 0 where
  pub version : number ≡ (state_after plant before).latest.number
  pub group : place < length plant.groups.items
  pub valid : IsValid (asked_of plant (state_after plant before) place) outcome

abbrev pub ShownVerdictsAreValid : Type 0
ShownVerdictsAreValid = (plant : Parts) (limit : ℕ) (before after : List Entry)
    (caller version group : ℕ) (outcome : Outcome)
    → IsLegal plant limit (before ++ record {
      caller = caller;
      call = calls.Publish version group outcome;
      reply = replies.Shown;
    } ∷ after) → IsShownVerdict plant before version group outcome

-- the verdict that a call shows of a group, where it shows one
abbrev pub published : ℕ → Call → Option Verdict
published group (calls.Publish version other outcome) =
    if other == group then Some (record { version = version; holds = holds outcome }) else None
published group _ = None

abbrev pub shown_by : ℕ → Call → Reply → Option Verdict
shown_by group call replies.Shown = published group call
shown_by group call _ = None

abbrev pub instead : Option Verdict → Option Verdict → Option Verdict
instead last None = last
instead last (Some verdict) = Some verdict

-- the last verdict that the history shows of a group, where it shows one
abbrev pub last_shown : ℕ → List Entry → Option Verdict
last_shown group history =
    fold (λ last entry. instead last (shown_by group entry.call entry.reply)) None history

-- the board of a legal history has of each group the last verdict that the history shows
abbrev pub CellsAreLastShown : Type 0
CellsAreLastShown = (plant : Parts) (limit : ℕ) (history : List Entry) (group : ℕ)
    → length plant.groups.items ≤ MOST_GROUPS → IsLegal plant limit history
    → group < length plant.groups.items
    → verdict_of (state_after plant history) group ≡ last_shown group history
