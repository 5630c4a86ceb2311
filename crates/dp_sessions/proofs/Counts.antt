-- How many telegrams and notes a history counts.
use Rattle.std.proofs.Common.{◌≡◌, ℕ, ◌+◌, List, [], ◌∷◌, length, Bool, true, false, cond, refl}
use Rattle.std.proofs.Common.{arith}
use Rattle.std.specs.List.{filter, fold}
use Rattle.certificate.specs.declared.outcome.Outcome.{Outcome}
use Rattle.plant_model.specs.declared.plant.Parts.{Parts}
use Rattle.plant_core.specs.Board.{after_publish}
use Rattle.plant_core.specs.Machine.{Stand, after_call, is_event, next, opening_stand, state_after}
use Rattle.plant_core.specs.declared.call.Call.{Call}
use Rattle.plant_core.specs.declared.call.Call.TheVariants as calls
use Rattle.plant_core.specs.declared.call.Entry.{Entry}
use Rattle.plant_core.specs.declared.call.Reply.{Reply}
use Rattle.plant_core.specs.declared.call.Reply.TheVariants.{Shown}
use Rattle.plant_core.specs.declared.state.State.{State}
use Rattle.dp_sessions.specs.Sessions.{events_in}
use Rattle.dp_sessions.proofs.Counted.{keeps-telegram}

-- a verdict doesn't count
uncounted-publish : (state : State) (version group : ℕ) (outcome : Outcome) (reply : Reply)
    → (after_publish state version group outcome reply).events ≡ state.events
uncounted-publish state version group outcome Shown = refl
uncounted-publish state version group outcome _ = refl

counts-call : (plant : Parts) (state : State) (call : Call) (reply : Reply)
    → (after_call plant state call reply).events ≡ state.events + cond (is_event call) 1 0
counts-call plant state (calls.Telegram telegram) reply =
    let keeps = keeps-telegram plant state telegram in
    omega (arith, keeps.events)
counts-call plant state (calls.Note note) reply = refl
counts-call plant state (calls.Publish version group outcome) reply =
    omega (arith, uncounted-publish state version group outcome reply)
counts-call plant state calls.Close reply = omega arith

length-one_of : (b : Bool) (entry : Entry) (kept : List Entry)
    → length (cond b (entry ∷ kept) kept) ≡ cond b 1 0 + length kept
length-one_of true entry kept = omega arith
length-one_of false entry kept = omega arith

-- a telegram or a note more, where the first entry is one
pub events-first : (entry : Entry) (history : List Entry)
    → events_in (entry ∷ history) ≡ cond (is_event entry.call) 1 0 + events_in history
events-first entry history = length-one_of (is_event entry.call) entry
    (filter (λ (e : Entry). is_event e.call) history)

counts-from : (plant : Parts) (stand : Stand) (history : List Entry)
    → (fold (next plant) stand history).state.events ≡ stand.state.events + events_in history
counts-from plant stand [] = omega arith
counts-from plant stand (entry ∷ history) = omega (
  arith,
  counts-call plant stand.state entry.call entry.reply,
  counts-from plant (next plant stand entry) history,
  events-first entry history,
)

-- as many telegrams and notes are counted as the history has
pub events-counted : (plant : Parts) (history : List Entry)
    → (state_after plant history).events ≡ events_in history
events-counted plant history =
    omega (arith, counts-from plant (opening_stand plant) history)
