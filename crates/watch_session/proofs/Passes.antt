-- What a call of the book does to a loop's pass.
use Rattle.std.proofs.Common.{◌≡◌, ℕ, List, [], ◌∷◌, ◌++◌, Bool, true, false, if◌then◌else◌}
use Rattle.std.proofs.Common.{Option, Some, None, Result, Ok, Err, sym, ap, subst, ◌∙◌}
use Rattle.std.specs.Prelude.{MatchOption}
use Rattle.std.proofs.lemmas.List.{append-nil}
use Rattle.frame.specs.declared.item.Item.{Item}
use Rattle.dp_io.specs.Shown.{Shown}
use Rattle.plant_model.specs.declared.plant.Parts.{Parts}
use Rattle.plant_core.specs.Machine.{is_answer}
use Rattle.plant_core.specs.declared.call.Call.{Call}
use Rattle.plant_core.specs.declared.call.Entry.{Entry}
use Rattle.plant_core.specs.declared.call.Reply.{Reply}
use Rattle.plant_book.specs.Books.{BookShown}
use Rattle.plant_book.specs.Calls.{Serves, entry_for}
use Rattle.plant_book.specs.declared.served.Served.{Served}
use Rattle.analysis_workers.specs.Works.{GoesOn}
use Rattle.analysis_workers.proofs.Going.{goes-serving}
use Rattle.log_text.specs.Commands.{call_frames, command_text}
use Rattle.dp_sessions.specs.declared.session.Ending.TheVariants.{End, Fault, Long, Full, Write}
use Rattle.watch_session.specs.Asked.{call_for}
use Rattle.watch_session.specs.Loops.{Answers, IsRefused, TakesItem, WritesFrames, frames}
use Rattle.watch_session.specs.Loops.{reply_frames}
use Rattle.watch_session.specs.declared.stream.StreamEnd.{StreamEnd}
use Rattle.watch_session.specs.declared.stream.StreamEnd.TheVariants as halts

-- the entry of a call with this reply
abbrev pub entry_of : ℕ → Call → Reply → Entry
entry_of caller call reply = record { caller = caller; call = call; reply = reply }

where-answered : (caller : ℕ) (call : Call) (reply : Reply) (answered : Bool)
    → is_answer reply ≡ answered
    → entry_for caller call reply ≡ (if answered then entry_of caller call reply ∷ [] else [])
where-answered caller call reply answered is =
    ap (λ (b : Bool). if b then entry_of caller call reply ∷ [] else []) is

-- a call that was answered is the pass's next entry
pub answers-served : (old new : BookShown) (item : Item) (call : Call) (served : Served)
    → Serves old new call served → is_answer served.reply ≡ true
    → call ≡ call_for old.shown.caller item
    → Answers old new item (entry_of old.shown.caller call served.reply)
answers-served old new item call served serves answered is = record {
  went_on = subst (GoesOn old new)
      (where-answered old.shown.caller call served.reply true answered)
      (goes-serving old new call served serves);
  asked = is;
}

-- the frames of a command that was given, or that isn't one
pub frames-are : (plant : Parts) (caller : ℕ) (command : Option Call) (call : Call) (reply : Reply)
    → MatchOption command ((p : Parts) (r : Reply) → call_frames p call r ≡ [])
    (λ again. again ≡ call)
    → reply_frames plant caller command reply
    ≡ command_text plant (entry_of caller call reply)
frames-are plant caller None call reply silent = sym (silent plant reply)
frames-are plant caller (Some again) call reply same =
    ap (λ (c : Call). command_text plant (entry_of caller c reply)) same

-- an item whose call was answered, as far as its frames were written
pub takes-written : {U : Type 0} (result : Result U StreamEnd) (old new : BookShown) (item : Item)
    (out : Shown) (entry : Entry) → Answers old new item entry
    → WritesFrames result (frames old entry) out → TakesItem result old new item out
takes-written (Ok done) old new item out entry answers wrote = (entry, answers, wrote)
takes-written (Err (halts.Ended Write)) old new item out entry answers wrote =
    (entry, answers, wrote)
takes-written (Err halts.NoFrames) old new item out entry answers wrote = (entry, answers, wrote)
takes-written (Err halts.NoAnswer) old new item out entry answers wrote = absurd wrote
takes-written (Err (halts.Ended End)) old new item out entry answers wrote = absurd wrote
takes-written (Err (halts.Ended Fault)) old new item out entry answers wrote = absurd wrote
takes-written (Err (halts.Ended Long)) old new item out entry answers wrote = absurd wrote
takes-written (Err (halts.Ended Full)) old new item out entry answers wrote = absurd wrote

-- one that wasn't has no entry
pub goes-refused : (old new : BookShown) (call : Call) (served : Served)
    → Serves old new call served → is_answer served.reply ≡ false → GoesOn old new []
goes-refused old new call served serves unanswered =
    subst (GoesOn old new) (where-answered old.shown.caller call served.reply false unanswered)
    (goes-serving old new call served serves)

pub refused-served : (old new : BookShown) (call : Call) (served : Served)
    → Serves old new call served → is_answer served.reply ≡ false → IsRefused new
refused-served old new call served serves unanswered =
    let none = where-answered old.shown.caller call served.reply false unanswered in
    let base = ap (λ (p : BookShown). p.shown.base) serves.pass in
    let seen : new.shown.seen ≡ serves.before =
    ap (λ (p : BookShown). p.shown.seen) serves.pass
    ∙ ap (λ (more : List Entry). serves.before ++ more) none ∙ append-nil serves.before in
    record {
      before = serves.before;
      seen = ([], append-nil serves.before ∙ sym seen);
      call = call;
      reply = served.reply;
      allowed = rw base serves.allowed;
      unanswered = unanswered;
    }
