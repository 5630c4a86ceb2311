-- A session that was ended, and one whose history is full.
use Rattle.std.proofs.Common.{◌≡◌, ◌≢◌, ℕ, ◌+◌, ◌<◌, ◌≤◌, List, [], ◌∷◌, ◌++◌, length, Bool, true}
use Rattle.std.proofs.Common.{false, ◌&&◌, nat_le, refl, ◌∙◌, ap, arith}
use Rattle.std.specs.List.{All, filter, fold}
use Rattle.std.proofs.lemmas.Bool.Decides.{nat_tests}
use Rattle.std.proofs.lemmas.List.{length-append}
use Rattle.std.proofs.lemmas.List.Elements.{All-head, All-tail, filter-append}
use mathlib.Core.List.{IsPrefix}
use Rattle.plant_model.specs.declared.plant.Parts.{Parts}
use Rattle.plant_core.specs.Machine.{IsAllowedWhere, IsLegal, IsLegalFrom, Stand}
use Rattle.plant_core.specs.Machine.{after_call, is_answer, is_event, is_full, next, opening_stand}
use Rattle.plant_core.specs.Machine.{stand_after, state_after}
use Rattle.plant_core.specs.declared.call.Call.{Call}
use Rattle.plant_core.specs.declared.call.Call.TheVariants as calls
use Rattle.plant_core.specs.declared.call.Entry.{Entry}
use Rattle.plant_core.specs.declared.call.Reply.{Reply}
use Rattle.plant_core.specs.declared.call.Reply.TheVariants.{Shown}
use Rattle.plant_core.specs.declared.state.State.{State}
use Rattle.plant_core.proofs.Replies.{answer-reply}
use Rattle.turn_lock.proofs.Lists.{All-prefix}
use Rattle.plant_book.specs.Books.{BookShown}
use Rattle.dp_sessions.specs.Sessions.{events_in}
use Rattle.dp_sessions.proofs.Counted.{keeps-telegram}
use Rattle.dp_sessions.proofs.Counts.{events-counted}
use Rattle.watch_session.specs.Loops.{IsRefused}

-- ---- a session that wasn't ended

open-call : (plant : Parts) (state : State) (call : Call) (reply : Reply) → call ≢ calls.Close
    → (after_call plant state call reply).is_closed ≡ state.is_closed
open-call plant state (calls.Telegram telegram) reply other =
    (keeps-telegram plant state telegram).is_closed
open-call plant state (calls.Note note) reply other = refl
open-call plant state (calls.Publish version group outcome) Shown other = refl
open-call plant state (calls.Publish version group outcome) reply other = refl
open-call plant state calls.Close reply other = absurd (other refl)

open-from : (plant : Parts) (stand : Stand) (history : List Entry)
    → stand.state.is_closed ≡ false → All (λ e. e.call ≢ calls.Close) history
    → (fold (next plant) stand history).state.is_closed ≡ false
open-from plant stand [] is_open none = is_open
open-from plant stand (entry ∷ history) is_open none =
    let P : Entry → Type 0 = λ e. e.call ≢ calls.Close in
    open-from plant (next plant stand entry) history
    (open-call plant stand.state entry.call entry.reply (All-head P entry history none) ∙ is_open)
    (All-tail P entry history none)

-- a history with no Close
pub open-after : (plant : Parts) (history : List Entry) → All (λ e. e.call ≢ calls.Close) history
    → (state_after plant history).is_closed ≡ false
open-after plant history none = open-from plant (opening_stand plant) history refl none

-- ---- a history that is full

-- a call that isn't answered in a session that wasn't ended found the history full
full-where : (closed full : Bool) (plant : Parts) (stand : Stand) (call : Call) (reply : Reply)
    → closed ≡ false → is_answer reply ≡ false → IsAllowedWhere closed full plant stand call reply
    → full ≡ true
full-where true full plant stand call reply is_open none allowed = absurd (cc)
full-where false true plant stand call reply is_open none allowed = refl
full-where false false plant stand call reply is_open none allowed =
    let some = answer-reply plant stand call reply allowed in absurd (cc)

full-count : (event : Bool) (limit events : ℕ) → (event && nat_le limit events) ≡ true
    → limit ≤ events
full-count true limit events full = grind (arith, nat_tests)
full-count false limit events full = absurd (cc)

events-append : (front back : List Entry)
    → events_in (front ++ back) ≡ events_in front + events_in back
events-append front back =
    let own = λ (e : Entry). is_event e.call in
    ap length (filter-append own front back) ∙ length-append (filter own front) (filter own back)

pub events-prefix : (front whole : List Entry) → IsPrefix front whole
    → events_in front ≤ events_in whole
events-prefix front whole prefix =
    omega (arith, ap events_in prefix.1, events-append front prefix.0)

-- what a pass has seen is full, where a call wasn't answered
pub refused-full : (pass : BookShown) (whole : List Entry) → IsRefused pass
    → IsPrefix pass.shown.seen whole → All (λ e. e.call ≢ calls.Close) whole
    → pass.shown.base.limit ≤ events_in whole
refused-full pass whole refused seen none =
    let plant = pass.shown.base.plant in
    let limit = pass.shown.base.limit in
    let stand = stand_after plant refused.before in
    let P : Entry → Type 0 = λ e. e.call ≢ calls.Close in
    let none_before = All-prefix P refused.before pass.shown.seen refused.seen
    (All-prefix P pass.shown.seen whole seen none) in
    let full = full-where stand.state.is_closed (is_full limit stand.state refused.call) plant stand
    refused.call refused.reply (open-after plant refused.before none_before) refused.unanswered
    refused.allowed in
    omega (
      arith,
      full-count (is_event refused.call) limit stand.state.events full,
      events-counted plant refused.before,
      events-prefix refused.before pass.shown.seen refused.seen,
      events-prefix pass.shown.seen whole seen,
    )

-- ---- a legal history is within its limit

-- an answered call had room
room-where : (closed full : Bool) (plant : Parts) (stand : Stand) (call : Call) (reply : Reply)
    → is_answer reply ≡ true → IsAllowedWhere closed full plant stand call reply → full ≡ false
room-where true full plant stand call reply some allowed = absurd (cc (ap is_answer allowed))
room-where false true plant stand call reply some allowed = absurd (cc (ap is_answer allowed))
room-where false false plant stand call reply some allowed = refl

few-call : (plant : Parts) (limit : ℕ) (state : State) (call : Call) (reply : Reply)
    → state.events ≤ limit → is_full limit state call ≡ false
    → (after_call plant state call reply).events ≤ limit
few-call plant limit state (calls.Telegram telegram) reply few room =
    let below : (nat_le limit state.events ≡ false) → state.events < limit = λ e.
    grind (arith, nat_tests) in
    let keeps = keeps-telegram plant state telegram in
    omega (arith, below room, keeps.events)
few-call plant limit state (calls.Note note) reply few room =
    let below : (nat_le limit state.events ≡ false) → state.events < limit = λ e.
    grind (arith, nat_tests) in
    omega (arith, below room)
few-call plant limit state (calls.Publish version group outcome) Shown few room = few
few-call plant limit state (calls.Publish version group outcome) reply few room = few
few-call plant limit state calls.Close reply few room = few

few-from : (plant : Parts) (limit : ℕ) (stand : Stand) (history : List Entry)
    → stand.state.events ≤ limit → IsLegalFrom plant limit stand history
    → (fold (next plant) stand history).state.events ≤ limit
few-from plant limit stand [] few legal = few
few-from plant limit stand (entry ∷ history) few legal =
    let room = room-where stand.state.is_closed (is_full limit stand.state entry.call) plant stand
    entry.call entry.reply legal.0.answered legal.0.allowed in
    few-from plant limit (next plant stand entry) history
    (few-call plant limit stand.state entry.call entry.reply few room) legal.1

pub few-legal : (plant : Parts) (limit : ℕ) (history : List Entry) → IsLegal plant limit history
    → events_in history ≤ limit
few-legal plant limit history legal =
    let few = few-from plant limit (opening_stand plant) history (omega arith) legal in
    omega (arith, few, events-counted plant history)
