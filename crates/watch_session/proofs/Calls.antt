-- What a caller asks for an item: a telegram or a note, of which the operators' have no frames.
use Rattle.std.proofs.Common.{◌≡◌, ◌≢◌, ℕ, ◌==◌, List, [], ◌∷◌, map, drop, length, Bool, true, false}
use Rattle.std.proofs.Common.{if◌then◌else◌, Result, Ok, Err, refl, sym, ◌∙◌, ap, subst}
use Rattle.std.specs.List.{All}
use Rattle.std.proofs.lemmas.List.{length-map}
use Rattle.std.proofs.lemmas.List.Elements.{All-cons, All-nil, All-weaker}
use Rattle.frame.specs.declared.item.Item.{Item}
use Rattle.frame.specs.declared.item.Item.TheVariants.{Body, Damaged}
use Rattle.plant_model.specs.declared.plant.Parts.{Parts}
use Rattle.telegram.specs.Telegrams.{telegram}
use Rattle.telegram.specs.declared.telegram.Reject.{Reject}
use Rattle.telegram.specs.declared.telegram.Telegram.{Telegram}
use Rattle.telegram.specs.declared.telegram.Telegram.TheVariants.{Position, Wind, Setpoint}
use Rattle.telegram.specs.declared.telegram.Telegram.TheVariants.{Thruster}
use Rattle.telegram.specs.declared.telegram.Telegram.TheVariants.{Generator, Tie, Mode, Manual}
use Rattle.telegram.specs.declared.telegram.Telegram.TheVariants.{Ack, Board, Bar}
use Rattle.plant_core.specs.Machine.{is_event}
use Rattle.plant_core.specs.declared.call.Call.{Call}
use Rattle.plant_core.specs.declared.call.Call.TheVariants as calls
use Rattle.plant_core.specs.declared.call.Note.TheVariants as notes
use Rattle.plant_core.specs.declared.call.Entry.{Entry}
use Rattle.plant_core.specs.declared.call.Reply.{Reply}
use Rattle.analysis_workers.specs.Verdicts.{ArePublished, IsPublish}
use Rattle.log_text.specs.Commands.{call_frames, command_text}
use Rattle.dp_sessions.specs.Sessions.{caller_of}
use Rattle.watch_session.specs.Asked.{call_for, call_of_body, call_on}
use Rattle.watch_session.specs.Threads.{calls_of}

-- ---- one item

event-on : (own : Bool) (t : Telegram)
    → is_event (if own then calls.Telegram t else calls.Note notes.Stray) ≡ true
event-on true t = refl
event-on false t = refl

event-body : (n : ℕ) (read : Result Telegram Reject) → is_event (call_of_body n read) ≡ true
event-body n (Ok t) = event-on (caller_of t == n) t
event-body n (Err reject) = refl

-- it is a telegram or a note
pub event-asked : (n : ℕ) (item : Item) → is_event (call_for n item) ≡ true
event-asked n (Body body) = event-body n (telegram body)
event-asked n (Damaged damage) = refl

silent-telegram : (plant : Parts) (reply : Reply) (t : Telegram)
    → call_frames plant (call_on 2 t) reply ≡ []
silent-telegram plant reply (Position moment x y heading) = refl
silent-telegram plant reply (Wind moment speed angle) = refl
silent-telegram plant reply (Setpoint x y heading) = refl
silent-telegram plant reply (Thruster name selected) = refl
silent-telegram plant reply (Generator name running) = refl
silent-telegram plant reply (Tie name closed) = refl
silent-telegram plant reply (Mode is_manual) = refl
silent-telegram plant reply (Manual demand) = refl
silent-telegram plant reply (Ack number) = refl
silent-telegram plant reply Board = refl
silent-telegram plant reply (Bar name piece barred) = refl

silent-body : (plant : Parts) (reply : Reply) (read : Result Telegram Reject)
    → call_frames plant (call_of_body 2 read) reply ≡ []
silent-body plant reply (Ok t) = silent-telegram plant reply t
silent-body plant reply (Err reject) = refl

-- what the operators ask has no frames
pub silent-asked : (plant : Parts) (reply : Reply) (item : Item)
    → call_frames plant (call_for 2 item) reply ≡ []
silent-asked plant reply (Body body) = silent-body plant reply (telegram body)
silent-asked plant reply (Damaged damage) = refl

-- ---- verdicts

uncounted-call : (call : Call) → IsPublish call → is_event call ≡ false
uncounted-call (calls.Publish version group outcome) is = refl
uncounted-call (calls.Telegram t) is = absurd is
uncounted-call (calls.Note note) is = absurd is
uncounted-call calls.Close is = absurd is

pub silent-call : (plant : Parts) (reply : Reply) (call : Call) → IsPublish call
    → call_frames plant call reply ≡ []
silent-call plant reply (calls.Publish version group outcome) is = refl
silent-call plant reply (calls.Telegram t) is = absurd is
silent-call plant reply (calls.Note note) is = absurd is
silent-call plant reply calls.Close is = absurd is

open-call : (call : Call) → IsPublish call → call ≢ calls.Close
open-call (calls.Publish version group outcome) is = λ e. cc
open-call (calls.Telegram t) is = absurd is
open-call (calls.Note note) is = absurd is
open-call calls.Close is = absurd is

-- ---- the entries of a caller

-- what holds of each call that may be asked holds of each entry
pub all-asked : (Q : Call → Type 0) (n : ℕ) (mine : List Entry) (answered : List Item)
    → calls_of mine ≡ map (call_for n) answered → ((item : Item) → Q (call_for n item))
    → All (λ e. Q e.call) mine
all-asked Q n [] answered are holds = All-nil (λ (e : Entry). Q e.call)
all-asked Q n (entry ∷ mine) [] are holds =
    absurd (cc (ap (λ (xs : List Call). length xs) are))
all-asked Q n (entry ∷ mine) (item ∷ answered) are holds =
    let first : entry.call ≡ call_for n item = ap (head_or entry.call) are in
    All-cons (λ (e : Entry). Q e.call) entry mine (subst Q (sym first) (holds item))
    (all-asked Q n mine answered (ap (drop 1) are) holds)
  where
    head_or : Call → List Call → Call
    head_or other [] = other
    head_or other (call ∷ more) = call

-- and as many entries as items
pub as-many : (n : ℕ) (mine : List Entry) (answered : List Item)
    → calls_of mine ≡ map (call_for n) answered → length mine ≡ length answered
as-many n mine answered are =
    sym (length-map mine (λ (e : Entry). e.call)) ∙ ap (λ (xs : List Call). length xs) are
    ∙ length-map answered (call_for n)

-- published verdicts aren't telegrams or notes, have no frames and end no session
pub uncounted-published : (entries : List Entry) → ArePublished entries
    → All (λ e. is_event e.call ≡ false) entries
uncounted-published entries published = All-weaker (λ (e : Entry). IsPublish e.call)
    (λ (e : Entry). is_event e.call ≡ false) (λ e is. uncounted-call e.call is) entries published

pub silent-published : (plant : Parts) (entries : List Entry) → ArePublished entries
    → All (λ e. command_text plant e ≡ []) entries
silent-published plant entries published = All-weaker (λ (e : Entry). IsPublish e.call)
    (λ (e : Entry). command_text plant e ≡ []) (λ e is. silent-call plant e.reply e.call is) entries
    published

pub open-published : (entries : List Entry) → ArePublished entries
    → All (λ e. e.call ≢ calls.Close) entries
open-published entries published = All-weaker (λ (e : Entry). IsPublish e.call)
    (λ (e : Entry). e.call ≢ calls.Close) (λ e is. open-call e.call is) entries published

-- what a caller asks for items ends no session
pub open-asked : (n : ℕ) (mine : List Entry) (answered : List Item)
    → calls_of mine ≡ map (call_for n) answered → All (λ e. e.call ≢ calls.Close) mine
open-asked n mine answered are = all-asked (λ (call : Call). call ≢ calls.Close) n mine answered are
    (λ item is. absurd (cc (event-asked n item, ap is_event is)))
