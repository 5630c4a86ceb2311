-- An item that is asked of an open core, and what it is answered.
use Rattle.std.proofs.Common.{◌≡◌, ◌≢◌, ℕ, ◌≤◌, List, [], ◌∷◌, ◌++◌, Bool, cond, true, false}
use Rattle.std.proofs.Common.{refl, sym, ◌∙◌, ap, subst, arith, ◌==◌, append_assoc, length, ◌-◌}
use Rattle.std.proofs.Common.{None, Some, Option}
use Rattle.std.specs.List.{slice_get}
use Rattle.std.proofs.lemmas.List.{length-append}
use Rattle.std.proofs.lemmas.Bool.Decides.{nat_tests}
use Rattle.frame.specs.declared.item.Item.{Item}
use Rattle.plant_model.specs.declared.plant.Parts.{Parts}
use Rattle.plant_core.specs.Machine.{CoreView, IsAllowed, IsAllowedWhere, Stand, after_call}
use Rattle.plant_core.specs.Machine.{after_reply, is_answer, is_event, is_full, next, stand_of}
use Rattle.plant_core.specs.Machine.{state_of}
use Rattle.plant_core.specs.declared.call.Call.{Call}
use Rattle.plant_core.specs.declared.call.Call.TheVariants as calls
use Rattle.plant_core.specs.declared.call.Entry.{Entry}
use Rattle.plant_core.specs.declared.call.Reply.{Reply}
use Rattle.plant_core.specs.declared.call.Reply.TheVariants.{JournalFull}
use Rattle.plant_core.specs.declared.state.State.{State}
use Rattle.plant_core.proofs.Histories.{stand_after-push}
use Rattle.plant_core.proofs.Replies.{answer-reply}
use Rattle.dp_sessions.specs.Sessions.{AreCurrent, AreVerdictsOn, Asked, IsFollowedWhere, asked}
use Rattle.dp_sessions.specs.Sessions.{asked_for}
use Rattle.dp_sessions.specs.Steps.{AddsBlock, AddsVerdicts, HasAnswered, HasBegun, IsRunning}
use Rattle.dp_sessions.specs.Steps.{NoneIsShown, TakesItem}
use Rattle.dp_sessions.specs.Writing.{WritesFrames}
use Rattle.dp_sessions.specs.declared.session.Ending.TheVariants.{Write}
use Rattle.dp_io.specs.Shown.{NoneFailed, Shown, TookPart}
use Rattle.log_text.specs.Commands.{command_text}
use Rattle.dp_sessions.proofs.Begun.{begun-entry}
use Rattle.dp_words.proofs.Parts.{part-whole}
use Rattle.dp_sessions.proofs.Blocks.{event-asked}
use Rattle.dp_sessions.proofs.Counted.{keeps-telegram}
use Rattle.dp_sessions.proofs.Rounds.{current_after, none_shown_after}
use Rattle.dp_sessions.proofs.Taken.{grew-none}
use Rattle.dp_words.proofs.Texted.{showed}

-- ---- replies

-- the history with an entry that is an answer
after-answer : (core new : CoreView) (entry : Entry) → is_answer entry.reply ≡ true
    → new ≡ after_reply core entry → new ≡ record core { history = core.history ++ entry ∷ [] }
after-answer core new entry answer is =
    is ∙ ap (λ b. cond b (record core { history = core.history ++ entry ∷ [] }) core) answer

-- and with one that isn't
after-none : (core new : CoreView) (entry : Entry) → is_answer entry.reply ≡ false
    → new ≡ after_reply core entry → new ≡ core
after-none core new entry none is =
    is ∙ ap (λ b. cond b (record core { history = core.history ++ entry ∷ [] }) core) none

-- what a call may be answered where no session was ended: the history is full, or it is an answer
pub record IsOpenReply (limit : ℕ) (state : State) (reply : Reply) : Type 0 where
  pub answer : reply ≢ JournalFull → is_answer reply ≡ true
  pub full : reply ≡ JournalFull → limit ≤ state.events

full-where : (limit : ℕ) (state : State) (call : Call) → is_full limit state call ≡ true
    → limit ≤ state.events
full-where limit state (calls.Telegram telegram) full = grind (arith, nat_tests)
full-where limit state (calls.Note note) full = grind (arith, nat_tests)
full-where limit state (calls.Publish version group outcome) full = cc
full-where limit state calls.Close full = cc

open-reply-where : (full : Bool) (plant : Parts) (limit : ℕ) (stand : Stand) (call : Call)
    (reply : Reply) → (full ≡ true → limit ≤ stand.state.events)
    → IsAllowedWhere false full plant stand call reply → IsOpenReply limit stand.state reply
open-reply-where true plant limit stand call reply filled is = record {
  answer = λ other. absurd (other is);
  full = λ e. filled refl;
}
open-reply-where false plant limit stand call reply filled is =
    let answer = answer-reply plant stand call reply is in
    record { answer = λ other. answer; full = λ e. cc (ap is_answer (sym e) ∙ answer) }

open-reply : (plant : Parts) (limit : ℕ) (stand : Stand) (call : Call) (reply : Reply)
    → stand.state.is_closed ≡ false → IsAllowed plant limit stand call reply
    → IsOpenReply limit stand.state reply
open-reply plant limit stand call reply is_open allowed =
    open-reply-where (is_full limit stand.state call) plant limit stand call reply
    (full-where limit stand.state call)
    (subst (λ (b : Bool). IsAllowedWhere b (is_full limit stand.state call) plant stand call reply)
    is_open allowed)

-- an item was asked for, and what was answered is known
pub record IsAsked (old new : CoreView) (item : Item) (asks : Asked) (reply : Reply) : Type 0 where
  pub running : IsRunning old
  pub asks_is : asks ≡ asked_for item
  pub allowed : IsAllowed old.plant old.limit (stand_of old) asks.1 reply
  pub history : new ≡ after_reply old (record { caller = asks.0; call = asks.1; reply = reply })

open-asked : (old new : CoreView) (item : Item) (asks : Asked) (reply : Reply)
    → IsAsked old new item asks reply → IsOpenReply old.limit (state_of old) reply
open-asked old new item asks reply is = open-reply old.plant old.limit (stand_of old) asks.1 reply
    is.running.is_open is.allowed

-- a history that has no room for the item stays as it is
pub record IsRefused (old new : CoreView) : Type 0 where
  pub unchanged : new ≡ old
  pub limit : old.limit ≤ (state_of old).events

pub refused : (old new : CoreView) (item : Item) (asks : Asked) (reply : Reply)
    → IsAsked old new item asks reply → reply ≡ JournalFull → IsRefused old new
refused old new item asks reply is full =
    let entry : Entry = record { caller = asks.0; call = asks.1; reply = reply } in
    record {
      unchanged = after-none old new entry (ap is_answer full) is.history;
      limit = (open-asked old new item asks reply is).full full;
    }

-- the item's entry is the last one
pub record IsAnswered (old new : CoreView) (item : Item) (entry : Entry) : Type 0 where
  pub running : IsRunning old
  pub history : new ≡ record old { history = old.history ++ entry ∷ [] }
  pub asked : asked entry ≡ asked_for item

pub answered : (old new : CoreView) (item : Item) (asks : Asked) (reply : Reply)
    → IsAsked old new item asks reply → reply ≢ JournalFull
    → IsAnswered old new item (record { caller = asks.0; call = asks.1; reply = reply })
answered old new item asks reply is other =
    let entry : Entry = record { caller = asks.0; call = asks.1; reply = reply } in
    record {
      running = is.running;
      history = after-answer old new entry
          ((open-asked old new item asks reply is).answer other) is.history;
      asked = is.asks_is;
    }

-- ---- what the entry of an item leaves

-- a session is as open, and the same verdicts are shown
pub record Stays (before after : State) : Type 0 where
  pub is_closed : after.is_closed ≡ before.is_closed
  pub shown : after.shown ≡ before.shown

stays-event : (plant : Parts) (state : State) (call : Call) (reply : Reply)
    → is_event call ≡ true → Stays state (after_call plant state call reply)
stays-event plant state (calls.Telegram telegram) reply is =
    let keeps = keeps-telegram plant state telegram in
    record { is_closed = keeps.is_closed; shown = keeps.shown }
stays-event plant state (calls.Note note) reply is = record { is_closed = refl; shown = refl }
stays-event plant state (calls.Publish version group outcome) reply is = absurd (cc)
stays-event plant state calls.Close reply is = absurd (cc)

-- how the core stands with the item's entry
pub stands-answered : (old new : CoreView) (item : Item) (entry : Entry)
    → IsAnswered old new item entry → stand_of new ≡ next old.plant (stand_of old) entry
stands-answered old new item entry is =
    ap stand_of is.history ∙ stand_after-push old.plant old.history entry

stays-answered : (old new : CoreView) (item : Item) (entry : Entry)
    → IsAnswered old new item entry → Stays (state_of old) (state_of new)
stays-answered old new item entry is =
    subst (λ (s : Stand). Stays (state_of old) s.state)
    (sym (stands-answered old new item entry is))
    (stays-event old.plant (state_of old) entry.call entry.reply
    (event-asked entry item is.asked))

pub open-answered : (old new : CoreView) (item : Item) (entry : Entry)
    → IsAnswered old new item entry → (state_of new).is_closed ≡ false
open-answered old new item entry is =
    (stays-answered old new item entry is).is_closed ∙ is.running.is_open

pub plant-answered : (old new : CoreView) (item : Item) (entry : Entry)
    → IsAnswered old new item entry → new.plant ≡ old.plant
plant-answered old new item entry is = ap (λ (m : CoreView). m.plant) is.history

-- where it made a version, no cell of the board is current
pub unshown-answered : (old new : CoreView) (item : Item) (entry : Entry)
    → IsAnswered old new item entry
    → (state_of new).latest.number ≢ (state_of old).latest.number
    → NoneIsShown new.plant (state_of new)
unshown-answered old new item entry is moved =
    subst (λ (p : Parts). NoneIsShown p (state_of new))
    (sym (plant-answered old new item entry is))
    (none_shown_after old.plant (state_of old) (state_of new)
    (stays-answered old new item entry is).shown moved is.running.current)

-- ---- blocks

equal-numbers : (a b : ℕ) → a ≡ b → (a == b) ≡ true
equal-numbers a b is = grind (arith, nat_tests)

other-numbers : (a b : ℕ) → a ≢ b → (a == b) ≡ false
other-numbers a b is = grind (arith, nat_tests)

-- where the item's entry made no version, it is a block by itself
pub adds-entry : (old new : CoreView) (item : Item) (entry : Entry)
    → IsAnswered old new item entry
    → (state_of new).latest.number ≡ (state_of old).latest.number
    → AddsBlock old new item (record { entry = entry; verdicts = [] })
adds-entry old new item entry is stays =
    let latest = (next old.plant (stand_of old) entry).state.latest.number in
    let same : (state_of old).latest.number ≡ latest = sym stays
    ∙ ap (λ (s : Stand). s.state.latest.number) (stands-answered old new item entry is) in
    record {
      history = is.history;
      asked = is.asked;
      followed = subst (λ (b : Bool). IsFollowedWhere b old.plant latest [])
          (sym (equal-numbers (state_of old).latest.number latest same)) refl;
      running = record {
        is_open = open-answered old new item entry is;
        current = subst (λ (p : Parts). AreCurrent p (state_of new))
            (sym (plant-answered old new item entry is))
            (current_after old.plant (state_of old) (state_of new)
            (stays-answered old new item entry is).shown stays is.running.current);
      };
    }

-- and else the verdicts of the version follow it
pub adds-verdicts : (old new later : CoreView) (item : Item) (entry : Entry)
    → IsAnswered old new item entry
    → (state_of new).latest.number ≢ (state_of old).latest.number
    → (adds : AddsVerdicts new later)
    → AddsBlock old later item (record { entry = entry; verdicts = adds.verdicts })
adds-verdicts old new later item entry is moved adds =
    let latest = (next old.plant (stand_of old) entry).state.latest.number in
    let reached : (state_of new).latest.number ≡ latest =
    ap (λ (s : Stand). s.state.latest.number) (stands-answered old new item entry is) in
    let other : (state_of old).latest.number ≢ latest = λ e. moved (reached ∙ sym e) in
    let verdicts = adds.verdicts in
    let are : AreVerdictsOn old.plant latest verdicts =
    subst (λ (n : ℕ). AreVerdictsOn old.plant n verdicts) reached
    (subst (λ (p : Parts). AreVerdictsOn p (state_of new).latest.number verdicts)
    (plant-answered old new item entry is) adds.are) in
    record {
      history = adds.history
          ∙ ap (λ (m : CoreView). record m { history = m.history ++ verdicts }) is.history
          ∙ ap (λ (h : List Entry). record old { history = h })
          (append_assoc old.history (entry ∷ []) verdicts);
      asked = is.asked;
      followed = subst (λ (b : Bool). IsFollowedWhere b old.plant latest verdicts)
          (sym (other-numbers (state_of old).latest.number latest other)) are;
      running = adds.running;
    }

-- the item's entry, and what follows it, were added
pub record AddsEntry (old new : CoreView) (item : Item) (entry : Entry) : Type 0 where
  pub verdicts : List Entry
  pub adds : AddsBlock old new item (record { entry = entry; verdicts = verdicts })

-- the frames of the entry's command
pub record FramesOf (old : CoreView) (entry : Entry) (is_written : Bool) (out : Shown) : Type 0 where
  pub plant : Parts
  pub written : Entry
  pub plant_is : plant ≡ old.plant
  pub entry_is : written ≡ entry
  pub frames : WritesFrames is_written out (command_text plant written)

frames-of : (old : CoreView) (entry : Entry) (is_written : Bool) (out : Shown)
    → FramesOf old entry is_written out
    → WritesFrames is_written out (command_text old.plant entry)
frames-of old entry is_written out of =
    subst (λ (p : Parts). WritesFrames is_written out (command_text p entry)) of.plant_is
    (subst (λ (e : Entry). WritesFrames is_written out (command_text of.plant e)) of.entry_is
    of.frames)

pub takes-written : (old new : CoreView) (item : Item) (entry : Entry) (is_written : Bool)
    (out : Shown) → AddsEntry old new item entry → FramesOf old entry is_written out
    → is_written ≡ true → TakesItem None old new item out
takes-written old new item entry is_written out adds of is = (
  record { entry = entry; verdicts = adds.verdicts },
  adds.adds,
  (subst (λ (b : Bool). WritesFrames b out (command_text old.plant entry)) is
      (frames-of old entry is_written out of)).0,
)

-- the output didn't fail then
pub written-frames : (old : CoreView) (entry : Entry) (is_written : Bool) (out : Shown)
    → FramesOf old entry is_written out → is_written ≡ true → NoneFailed out
written-frames old entry is_written out of is =
    (subst (λ (b : Bool). WritesFrames b out (command_text old.plant entry)) is
    (frames-of old entry is_written out of)).1

pub takes-cut : (old new : CoreView) (item : Item) (entry : Entry) (is_written : Bool)
    (out : Shown) → AddsEntry old new item entry → FramesOf old entry is_written out
    → is_written ≡ false → TakesItem (Some Write) old new item out
takes-cut old new item entry is_written out adds of is = (
  record { entry = entry; verdicts = adds.verdicts },
  adds.adds,
  (subst (λ (b : Bool). WritesFrames b out (command_text old.plant entry)) is
      (frames-of old entry is_written out of)).0,
)

part-frames : (is_written : Bool) (out : Shown) (text : List ℕ) → WritesFrames is_written out text
    → TookPart out text
part-frames true out text wrote = part-whole out.before out.after text wrote.0
part-frames false out text wrote = (wrote.0.0, wrote.0.2)

-- whether the frames were written or not, what was written of them begins them
pub begun-frames : (start : Option (List ℕ)) (old new : CoreView) (answered : List Item)
    (item : Item) (entry : Entry) (is_written : Bool) (out : Shown)
    → HasAnswered start out.before old answered → IsAnswered old new item entry
    → FramesOf old entry is_written out
    → HasBegun start out.after new (answered ++ item ∷ [])
begun-frames start old new answered item entry is_written out has is of =
    begun-entry start old new answered item entry out has is.history is.asked
    (part-frames is_written out (command_text old.plant entry)
    (frames-of old entry is_written out of))

-- there was no memory for them
pub begun-unframed : (start now : Option (List ℕ)) (old new : CoreView) (answered : List Item)
    (item : Item) (entry : Entry) → HasAnswered start now old answered
    → IsAnswered old new item entry → HasBegun start now new (answered ++ item ∷ [])
begun-unframed start now old new answered item entry has is =
    begun-entry start old new answered item entry (showed now now 0 0) has is.history is.asked
    (0, grew-none now)

-- ---- the last entry

slice_get-seam : (front : List Entry) (entry : Entry)
    → slice_get (front ++ entry ∷ []) (length front) ≡ Some entry
slice_get-seam [] entry = refl
slice_get-seam (first ∷ front) entry = slice_get-seam front entry

-- what the history of a core has as its last entry
pub last-answered : (old new : CoreView) (item : Item) (entry : Entry) (history : List Entry)
    → IsAnswered old new item entry → history ≡ new.history
    → slice_get history (length history - 1) ≡ Some entry
last-answered old new item entry history is seen =
    let all : history ≡ old.history ++ entry ∷ [] =
    seen ∙ ap (λ (m : CoreView). m.history) is.history in
    let place : length history - 1 ≡ length old.history =
    omega (arith, ap length all, length-append old.history (entry ∷ [])) in
    ap (λ (h : List Entry). slice_get h (length history - 1)) all
    ∙ ap (λ (i : ℕ). slice_get (old.history ++ entry ∷ []) i) place
    ∙ slice_get-seam old.history entry
