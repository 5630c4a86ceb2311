-- What the items of a stream leave: one more answered, or the end of the stream at one.
use Rattle.std.proofs.Common.{◌≡◌, ℕ, ◌+◌, ◌<◌, List, [], ◌∷◌, ◌++◌, length, take}
use Rattle.std.proofs.Common.{get_or, Option, Result, Ok, Err, sym, ◌∙◌, ap, subst, append_assoc}
use Rattle.std.proofs.lemmas.List.{append-nil, take_more}
use Rattle.dp_io.specs.Shown.{Shown}
use Rattle.dp_io.specs.Streams.{Grew}
use Rattle.frame.specs.Frames.{StandsFor, items, items_end}
use Rattle.frame.specs.declared.item.Item.{Item}
use Rattle.plant_core.specs.declared.call.Entry.{Entry}
use Rattle.plant_book.specs.Books.{BookShown}
use Rattle.log_text.specs.Commands.{commands_text}
use Rattle.dp_sessions.specs.Sessions.{IsBeginning, IsFront}
use Rattle.dp_sessions.specs.declared.session.Ending.TheVariants.{End, Fault, Long, Full, Write}
use Rattle.dp_sessions.proofs.Fronts.{beginning-more, beginning-self, front-begins}
use Rattle.dp_sessions.proofs.Taken.{grew-none}
use Rattle.watch_session.specs.Loops.{HasAnswered, HasStopped, TakesEnd, TakesItem}
use Rattle.watch_session.specs.Threads.{calls_of}
use Rattle.watch_session.specs.declared.stream.StreamEnd.{StreamEnd}
use Rattle.watch_session.specs.declared.stream.StreamEnd.TheVariants as halts
use Rattle.watch_session.proofs.Items.{asked-more, asked-same, lacks-last, stops-at, wrote-more}
use Rattle.watch_session.proofs.Items.{wrote-same}

-- a new pass has answered nothing
pub has-none : (now : Option (List ℕ)) (pass : BookShown) → pass.shown.mine ≡ []
    → HasAnswered now now pass []
has-none now pass new = record {
  asked = ap calls_of new;
  wrote = subst (λ (entries : List Entry).
      Grew now now (commands_text pass.shown.base.plant entries)) (sym new) (grew-none now);
}

-- ---- one item

pub has-more : (start : Option (List ℕ)) (out : Shown) (old new : BookShown)
    (answered : List Item) (item : Item) → HasAnswered start out.before old answered
    → TakesItem {U = Unit {0}} (Ok tt) old new item out
    → HasAnswered start out.after new (answered ++ item ∷ [])
has-more start out old new answered item has takes = record {
  asked = asked-more old new item takes.0 answered takes.1 has.asked;
  wrote = wrote-more start out old new item takes.0 takes.1 has.wrote takes.2;
}

front-beginning : (answered given : List Item) (item : Item)
    → IsBeginning (answered ++ item ∷ []) given → IsFront answered given
front-beginning answered given item is =
    (item, is.0, is.1 ∙ append_assoc answered (item ∷ []) is.0)

-- the stream ends at this item
pub stops-item : (U : Type 0) (end : StreamEnd) (start : Option (List ℕ)) (out : Shown)
    (old new : BookShown) (before answered given : List Item) (item : Item)
    → HasAnswered start out.before old answered → TakesItem {U = U} (Err end) old new item out
    → IsBeginning before answered → IsBeginning (answered ++ item ∷ []) given
    → HasStopped end start out.after new before given
stops-item U (halts.Ended Full) start out old new before answered given item has takes begin is =
    record {
      at_item = tt;
      answered = answered;
      asked = asked-same old new answered takes.0 has.asked;
      begin = begin;
      stopped = front-beginning answered given item is;
      wrote = wrote-same start out old new takes.0 has.wrote takes.2;
      refused = takes.1;
    }
stops-item U (halts.Ended Write) start out old new before answered given item has takes begin is =
    record {
      at_item = tt;
      answered = answered ++ item ∷ [];
      asked = asked-more old new item takes.0 answered takes.1 has.asked;
      begin = beginning-more before answered (item ∷ []) begin;
      stopped = is;
      wrote = stops-at start out old new item takes.0 takes.1 has.wrote takes.2;
      refused = tt;
    }
stops-item U halts.NoAnswer start out old new before answered given item has takes begin is =
    record {
      at_item = tt;
      answered = answered;
      asked = asked-same old new answered takes.0 has.asked;
      begin = begin;
      stopped = front-begins answered given (front-beginning answered given item is);
      wrote = wrote-same start out old new takes.0 has.wrote takes.1;
      refused = tt;
    }
stops-item U halts.NoFrames start out old new before answered given item has takes begin is =
    record {
      at_item = tt;
      answered = answered ++ item ∷ [];
      asked = asked-more old new item takes.0 answered takes.1 has.asked;
      begin = beginning-more before answered (item ∷ []) begin;
      stopped = is;
      wrote = lacks-last start out old new item takes.0 takes.1 has.wrote takes.2;
      refused = tt;
    }
stops-item U (halts.Ended End) start out old new before answered given item has takes begin is =
    absurd takes
stops-item U (halts.Ended Fault) start out old new before answered given item has takes begin is =
    absurd takes
stops-item U (halts.Ended Long) start out old new before answered given item has takes begin is =
    absurd takes

-- ---- one byte

-- the bytes fed and one more of a piece
fed-more : (fed bytes : List ℕ) (i : ℕ) → i < length bytes
    → fed ++ take (i + 1) bytes ≡ (fed ++ take i bytes) ++ get_or bytes i 0 ∷ []
fed-more fed bytes i below =
    ap (λ (t : List ℕ). fed ++ t) (take_more bytes i 0 below)
    ∙ sym (append_assoc fed (take i bytes) (get_or bytes i 0 ∷ []))

-- a byte more was fed, and what it gave was answered
pub taken-more : (start now : Option (List ℕ)) (pass : BookShown) (framer : Option (List ℕ))
    (fed bytes : List ℕ) (i : ℕ) (given : List Item) → i < length bytes
    → StandsFor framer ((fed ++ take i bytes) ++ get_or bytes i 0 ∷ [])
    → items ((fed ++ take i bytes) ++ get_or bytes i 0 ∷ []) ≡ items (fed ++ take i bytes) ++ given
    → HasAnswered start now pass (items (fed ++ take i bytes) ++ given)
    → StandsFor framer (fed ++ take (i + 1) bytes)
    × HasAnswered start now pass (items (fed ++ take (i + 1) bytes))
taken-more start now pass framer fed bytes i given below stands gave has =
    let more : fed ++ take (i + 1) bytes ≡ (fed ++ take i bytes) ++ get_or bytes i 0 ∷ [] =
    fed-more fed bytes i below in
    let shown : items (fed ++ take (i + 1) bytes) ≡ items (fed ++ take i bytes) ++ given =
    ap items more ∙ gave in (
      subst (λ (t : List ℕ). StandsFor framer t) (sym more) stands,
      subst (λ (xs : List Item). HasAnswered start now pass xs) (sym shown) has,
    )

-- ---- the stream's end

-- nothing stood after the last line
pub ends-clean : (start now : Option (List ℕ)) (pass : BookShown) (fed : List ℕ)
    → HasAnswered start now pass (items fed) → items_end fed ≡ items fed ++ []
    → HasAnswered start now pass (items_end fed)
ends-clean start now pass fed has gave =
    subst (λ (xs : List Item). HasAnswered start now pass xs)
    (sym (gave ∙ append-nil (items fed))) has

-- the damage of the stream's end was taken, or ended it
pub ends-item : {U : Type 0} (result : Result U StreamEnd) (start : Option (List ℕ)) (out : Shown)
    (old new : BookShown) (item : Item) (fed : List ℕ)
    → HasAnswered start out.before old (items fed) → TakesItem result old new item out
    → items_end fed ≡ items fed ++ item ∷ [] → TakesEnd result start out.after new fed
ends-item (Ok done) start out old new item fed has takes gave =
    subst (λ (xs : List Item). HasAnswered start out.after new xs) (sym gave)
    (has-more start out old new (items fed) item has takes)
ends-item {U} (Err end) start out old new item fed has takes gave =
    stops-item U end start out old new (items fed) (items fed) (items_end fed) item has takes
    (beginning-self (items fed)) ([], gave ∙ sym (append-nil (items fed ++ item ∷ [])))
