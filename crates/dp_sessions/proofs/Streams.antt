-- How a stream ends: at the end of its bytes, at an item that has no room or whose frames were cut, at
-- a byte too many, and at a read fault.
use Rattle.std.proofs.Common.{◌≡◌, ℕ, ◌<◌, ◌≤◌, List, [], ◌∷◌, ◌++◌, length, take, drop, Option}
use Rattle.std.proofs.Common.{IfOk, OnOk, Result, Ok, Err}
use Rattle.std.proofs.Common.{Some, None, refl, sym, ◌∙◌, ap, subst, inl, inr, arith, append_assoc}
use Rattle.std.specs.Option.{IfSome}
use Rattle.std.proofs.lemmas.List.{append-nil, take-append-drop, take-take}
use Rattle.dp_io.specs.Streams.{Gave, Rose}
use Rattle.frame.specs.Frames.{StandsFor, items, items_end}
use Rattle.frame.specs.declared.item.Item.{Item}
use Rattle.plant_model.specs.declared.limits.TheConstants.{MOST_ENTRIES, MOST_STREAM_BYTES}
use Rattle.plant_core.specs.Machine.{CoreView}
use Rattle.dp_sessions.specs.declared.session.Ending.{Ending}
use Rattle.dp_sessions.specs.declared.session.Ending.TheVariants.{End, Fault, Long, Full, Write}
use Rattle.dp_io.specs.Shown.{HasRisen, IsEmptied, Shown}
use Rattle.dp_sessions.specs.Sessions.{AreInTurn, IsBeginning, events_in, most_read}
use Rattle.dp_sessions.specs.Steps.{HasAnswered, IsFilled, IsRunning, TakesBytes, TakesEnd, TakesStream}
use Rattle.dp_sessions.proofs.Blocks.{events-answered}
use Rattle.dp_sessions.proofs.Fronts.{beginning-end, beginning-self, front-end, front-items}
use Rattle.dp_sessions.proofs.Fronts.{front-short, items-begin, items-front}

-- a source that gave no byte, as it had none, has none left
pub emptied-after : (before after : Option (List ℕ)) (piece : List ℕ)
    → Gave before after piece → IfSome before (λ bytes. bytes ≡ [])
    → IfSome after (λ bytes. bytes ≡ [])
emptied-after (Some []) after [] gave none = subst (λ (a : Option (List ℕ)).
    IfSome a (λ bytes. bytes ≡ [])) (sym gave.1) (sym gave.2)
emptied-after (Some []) after (x ∷ piece) gave none = absurd (cc)
emptied-after (Some (x ∷ bytes)) after piece gave none = absurd (cc)
emptied-after None after piece gave none =
    subst (λ (a : Option (List ℕ)). IfSome a (λ bytes. bytes ≡ [])) (sym gave) tt

-- a source that gave nothing yet
pub gave-none : (left : Option (List ℕ)) → Gave left left []
gave-none (Some bytes) = (bytes, refl, refl)
gave-none None = refl

-- the first bytes of a piece, and the others that were given
pub piece-split : (piece : List ℕ) (part count : ℕ) → part ≤ count
    → take count piece ≡ take part piece ++ drop part (take count piece)
piece-split piece part count less =
    sym (take-append-drop part (take count piece))
    ∙ ap (λ (t : List ℕ). t ++ drop part (take count piece)) (take-take part count piece less)

-- a count of faults that rose later has risen
pub rose-later : (before middle after : ℕ) → before ≤ middle → Rose middle after
    → Rose before after
rose-later before middle after less rose = omega (arith, less, rose)

-- more items were given than the history has room for
too-many : (start now : Option (List ℕ)) (core : CoreView) (before given : List Item)
    → core.limit ≡ MOST_ENTRIES → IsFilled start now core before given
    → MOST_ENTRIES < length given
too-many start now core before given limit filled =
    omega (arith, front-short filled.answered given filled.front, filled.limit, limit)

filled-events : (start now : Option (List ℕ)) (core : CoreView) (before given : List Item)
    → core.limit ≡ MOST_ENTRIES → IsFilled start now core before given
    → events_in core.history ≤ MOST_ENTRIES → events_in core.history ≡ MOST_ENTRIES
filled-events start now core before given limit filled few = omega (
  arith,
  events-answered core.plant core.history filled.answered filled.has.answers,
  filled.limit,
  limit,
  few,
)

-- a core that took a stream up to here: it goes on, and has the room of a history
pub record IsAtEnd (ending : Ending) (out : Shown) (core : CoreView) : Type 0 where
  pub limit : core.limit ≡ MOST_ENTRIES
  pub running : IsRunning core
  pub failed : ending ≡ Write → HasRisen out

-- all bytes had their items answered
in-turn-all : (bytes : List ℕ) (answered : List Item) → IsBeginning (items bytes) answered
    → AreInTurn bytes answered
in-turn-all bytes answered begin = record {
  front = bytes;
  piece = [];
  is = sym (append-nil bytes);
  short = omega arith;
  begin = begin;
}

-- all but a piece
in-turn-but : (bytes front piece : List ℕ) (answered : List Item) → bytes ≡ front ++ piece
    → length piece ≤ most_read → IsBeginning (items front) answered → AreInTurn bytes answered
in-turn-but bytes front piece answered is short begin =
    record { front = front; piece = piece; is = is; short = short; begin = begin }

-- the stream ended at an item of a whole line, in a piece that was read
pub stream-stopped : (ending : Ending) (source out : Shown) (core : CoreView)
    (framer : Option (List ℕ)) (fed piece part back : List ℕ)
    → Gave source.before source.after (fed ++ piece) → piece ≡ part ++ back
    → length piece ≤ most_read → IsAtEnd ending out core
    → TakesBytes (Some ending) out.before out.after core framer fed part
    → TakesStream ending source out core
stream-stopped Full source out core framer fed piece part back given split short at taken =
    let bytes = fed ++ piece in
    let longer : bytes ≡ (fed ++ part) ++ back =
    ap (λ (t : List ℕ). fed ++ t) split ∙ sym (append_assoc fed part back) in
    let first = front-items taken.answered (fed ++ part) back bytes longer taken.front in
    record {
      bytes = bytes;
      answered = taken.answered;
      given = given;
      ends = filled-events out.before out.after core (items fed) (items (fed ++ part)) at.limit
          taken;
      of_bytes = front-end taken.answered bytes first;
      in_turn = in-turn-but bytes fed piece taken.answered refl short taken.begin;
      answers = taken.has.answers;
      wrote = taken.has.wrote;
      running = at.running;
      full = λ e. (
        length (items bytes),
        (bytes, given, inl refl),
        omega (arith, front-short taken.answered (items bytes) first, taken.limit, at.limit),
      );
    }
stream-stopped Write source out core framer fed piece part back given split short at taken =
    let bytes = fed ++ piece in
    let longer : bytes ≡ (fed ++ part) ++ back =
    ap (λ (t : List ℕ). fed ++ t) split ∙ sym (append_assoc fed part back) in
    record {
      bytes = bytes;
      answered = taken.answered;
      given = given;
      ends = λ few. at.failed refl;
      of_bytes = beginning-end taken.answered (fed ++ part) back bytes longer taken.beginning;
      in_turn = in-turn-but bytes fed piece taken.answered refl short taken.begin;
      answers = taken.answers;
      wrote = taken.stops;
      running = at.running;
      full = λ e. cc;
    }
stream-stopped End source out core framer fed piece part back given split short at taken =
    absurd taken
stream-stopped Fault source out core framer fed piece part back given split short at taken =
    absurd taken
stream-stopped Long source out core framer fed piece part back given split short at taken =
    absurd taken

-- the stream was read to its end
pub stream-end : (ending : Ending) (source out : Shown) (core : CoreView) (bytes : List ℕ)
    → Gave source.before source.after bytes → IsEmptied source → IsAtEnd ending out core
    → TakesEnd ending out.before out.after core bytes → TakesStream ending source out core
stream-end End source out core bytes given emptied at taken = record {
  bytes = bytes;
  answered = items_end bytes;
  given = given;
  ends = λ few. emptied;
  of_bytes = refl;
  in_turn = in-turn-all bytes (items_end bytes) (items-begin bytes);
  answers = taken.answers;
  wrote = taken.wrote;
  running = at.running;
  full = λ e. cc;
}
stream-end Full source out core bytes given emptied at taken = record {
  bytes = bytes;
  answered = taken.answered;
  given = given;
  ends = filled-events out.before out.after core (items bytes) (items_end bytes) at.limit taken;
  of_bytes = taken.front;
  in_turn = in-turn-all bytes taken.answered taken.begin;
  answers = taken.has.answers;
  wrote = taken.has.wrote;
  running = at.running;
  full = λ e. (
    length (items_end bytes),
    (bytes, given, inr (refl, emptied)),
    too-many out.before out.after core (items bytes) (items_end bytes) at.limit taken,
  );
}
stream-end Write source out core bytes given emptied at taken = record {
  bytes = bytes;
  answered = taken.answered;
  given = given;
  ends = λ few. at.failed refl;
  of_bytes = taken.beginning;
  in_turn = in-turn-all bytes taken.answered taken.begin;
  answers = taken.answers;
  wrote = taken.stops;
  running = at.running;
  full = λ e. cc;
}
stream-end Fault source out core bytes given emptied at taken = absurd taken
stream-end Long source out core bytes given emptied at taken = absurd taken

-- it has a byte more than a stream may have
pub stream-long : (source out : Shown) (core : CoreView) (fed piece part : List ℕ)
    → Gave source.before source.after (fed ++ piece) → MOST_STREAM_BYTES < length (fed ++ piece)
    → take MOST_STREAM_BYTES (fed ++ piece) ≡ fed ++ part → length piece ≤ most_read
    → IsRunning core → HasAnswered out.before out.after core (items (fed ++ part))
    → TakesStream Long source out core
stream-long source out core fed piece part given long is short running has = record {
  bytes = fed ++ piece;
  answered = items (fed ++ part);
  given = given;
  ends = λ few. long;
  of_bytes = ap items (sym is);
  in_turn = in-turn-but (fed ++ piece) fed piece (items (fed ++ part)) refl short
      (items-front fed part);
  answers = has.answers;
  wrote = has.wrote;
  running = running;
  full = λ e. cc;
}

-- a read failed
pub stream-fault : (source out : Shown) (core : CoreView) (bytes : List ℕ)
    → Gave source.before source.after bytes → HasRisen source → IsRunning core
    → HasAnswered out.before out.after core (items bytes) → TakesStream Fault source out core
stream-fault source out core bytes given risen running has = record {
  bytes = bytes;
  answered = items bytes;
  given = given;
  ends = λ few. risen;
  of_bytes = refl;
  in_turn = in-turn-all bytes (items bytes) (beginning-self (items bytes));
  answers = has.answers;
  wrote = has.wrote;
  running = running;
  full = λ e. cc;
}

-- what a stream's end gave was taken, or memory ran out
pub stream-ended : {E : Type 0} (result : Result Ending E) (source out : Shown)
    (now : Option (List ℕ)) (old core : CoreView) (framer : Option (List ℕ)) (bytes : List ℕ)
    → Gave source.before source.after bytes → IsEmptied source → core.limit ≡ MOST_ENTRIES
    → StandsFor framer bytes → HasAnswered out.before now old (items bytes)
    → OnOk result (IsRunning core) → (result ≡ Ok Write → HasRisen out)
    → IfOk result (λ ending. (start : Option (List ℕ)) (fed : List ℕ) → StandsFor framer fed
    → HasAnswered start now old (items fed) → TakesEnd ending start out.after core fed)
    → IfOk result (λ ending. TakesStream ending source out core)
stream-ended (Ok ending) source out now old core framer bytes given emptied limit stands has running
    failed taken = stream-end ending source out core bytes given emptied
    (record { limit = limit; running = running; failed = λ e. failed (ap Ok e) })
    (taken out.before bytes stands has)
stream-ended (Err error) source out now old core framer bytes given emptied limit stands has running
    failed taken = tt
