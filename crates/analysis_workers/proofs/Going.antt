-- Passes and displays that go on, and what a verdict's call did.
use Rattle.std.proofs.Common.{◌≡◌, ℕ, List, [], ◌++◌, Bool, true, false}
use Rattle.std.proofs.Common.{refl, sym, ap, ◌∙◌, append_assoc}
use Rattle.std.proofs.lemmas.List.{append-nil}
use Rattle.certificate.specs.declared.outcome.Outcome.{Outcome}
use Rattle.glance.specs.Shown.{Seeing}
use Rattle.plant_model.specs.declared.plant.Parts.{Parts}
use Rattle.plant_core.specs.Machine.{IsAllowed, IsAllowedWhere, Stand, is_answer}
use Rattle.plant_core.specs.declared.call.Call.{Call}
use Rattle.plant_core.specs.declared.call.Call.TheVariants.{Publish}
use Rattle.plant_core.specs.declared.call.Entry.{Entry}
use Rattle.plant_core.specs.declared.call.Reply.{Reply}
use Rattle.plant_core.proofs.Replies.{answer-reply}
use Rattle.plant_book.specs.Books.{BookShown, IsAtRest}
use Rattle.plant_book.specs.Calls.{Passes, Serves, entry_for}
use Rattle.plant_book.specs.declared.board.BoardBase.{BoardBase}
use Rattle.plant_book.specs.declared.served.Served.{Served}
use Rattle.turn_lock.proofs.Lists.{prefix_self, prefix_trans}
use Rattle.analysis_workers.specs.Works.{GoesOn, LooksOn}

-- ---- a pass

-- nothing happened
pub goes-nowhere : (pass : BookShown) → IsAtRest pass.shown → GoesOn pass pass []
goes-nowhere pass rest = record {
  pass = λ i. record pass {
    shown = record pass.shown { mine = sym (append-nil pass.shown.mine) i };
  };
  seen = prefix_self pass.shown.seen;
  rest = rest;
}

-- and then it went on again
pub goes-further : (old mid new : BookShown) (first second : List Entry) → GoesOn old mid first
    → GoesOn mid new second → GoesOn old new (first ++ second)
goes-further old mid new first second one two = record {
  pass = two.pass ∙ (λ i. record (one.pass i) {
    shown = record (one.pass i).shown {
      seen = new.shown.seen;
      mine = (one.pass i).shown.mine ++ second;
    };
  }) ∙ (λ i. record old {
    shown = record old.shown {
      seen = new.shown.seen;
      mine = append_assoc old.shown.mine first second i;
    };
  });
  seen = prefix_trans old.shown.seen mid.shown.seen new.shown.seen one.seen two.seen;
  rest = two.rest;
}

-- a turn that passed with no entry
pub goes-passing : (old new : BookShown) → Passes old new → GoesOn old new []
goes-passing old new passes = record {
  pass = passes.pass ∙ (λ i. record old {
    shown = record old.shown {
      seen = new.shown.seen;
      mine = sym (append-nil old.shown.mine) i;
    };
  });
  seen = passes.turn.front;
  rest = passes.rest;
}

-- a call that was answered, or judged with no entry
pub goes-serving : (old new : BookShown) (call : Call)
    (served : Served) (serves : Serves old new call served)
    → GoesOn old new (entry_for old.shown.caller call served.reply)
goes-serving old new call served serves =
    let more = entry_for old.shown.caller call served.reply in
    let seen = ap (λ (p : BookShown). p.shown.seen) serves.pass in record {
      pass = serves.pass ∙ (λ i. record old {
        shown = record old.shown { seen = sym seen i; mine = old.shown.mine ++ more };
      });
      seen = prefix_trans old.shown.seen serves.before new.shown.seen serves.turn.front
          (more, sym seen);
      rest = serves.rest;
    }

-- its number and its base stay
pub caller-on : (old new : BookShown) (entries : List Entry) → GoesOn old new entries
    → new.shown.caller ≡ old.shown.caller
caller-on old new entries on = ap (λ (p : BookShown). p.shown.caller) on.pass

pub base-on : (old new : BookShown) (entries : List Entry) → GoesOn old new entries
    → new.shown.base ≡ old.shown.base
base-on old new entries on = ap (λ (p : BookShown). p.shown.base) on.pass

-- ---- a display

pub looks-nowhere : (display : Seeing Entry BoardBase) → LooksOn display display
looks-nowhere display = record { display = refl; seen = prefix_self display.seen }

pub looks-further : (old mid new : Seeing Entry BoardBase) → LooksOn old mid → LooksOn mid new
    → LooksOn old new
looks-further old mid new one two = record {
  display = two.display ∙ (λ i. record (one.display i) { seen = new.seen });
  seen = prefix_trans old.seen mid.seen new.seen one.seen two.seen;
}

-- ---- a verdict

closed-where : (closed : Bool) (plant : Parts) (stand : Stand) (version group : ℕ)
    (outcome : Outcome) (reply : Reply)
    → IsAllowedWhere closed false plant stand (Publish version group outcome) reply
    → is_answer reply ≡ false → closed ≡ true
closed-where true plant stand version group outcome reply allowed none = refl
closed-where false plant stand version group outcome reply allowed none =
    let some = answer-reply plant stand (Publish version group outcome) reply allowed in
    absurd (cc)

-- a verdict has no entry only where a session was ended
pub unanswered-closed : (plant : Parts) (limit : ℕ) (stand : Stand) (version group : ℕ)
    (outcome : Outcome) (reply : Reply)
    → IsAllowed plant limit stand (Publish version group outcome) reply
    → is_answer reply ≡ false → stand.state.is_closed ≡ true
unanswered-closed plant limit stand version group outcome reply allowed none =
    closed-where stand.state.is_closed plant stand version group outcome reply allowed none
