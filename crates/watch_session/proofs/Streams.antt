-- How a stream ends: at the end of its bytes, at an item, at a byte too many, and at a read fault.
use Rattle.std.proofs.Common.{◌≡◌, ℕ, ◌<◌, ◌≤◌, List, [], ◌++◌, length, take}
use Rattle.std.proofs.Common.{Option, Result, Ok, Err, refl, sym, ◌∙◌, ap, inl, inr, arith}
use Rattle.std.proofs.Common.{append_assoc}
use Rattle.std.proofs.lemmas.List.{append-nil}
use Rattle.dp_io.specs.Shown.{HasRisen, IsEmptied, NoneFailed, Shown}
use Rattle.dp_io.specs.Streams.{Gave}
use Rattle.frame.specs.Frames.{StandsFor, items, items_end}
use Rattle.frame.specs.declared.item.Item.{Item}
use Rattle.plant_model.specs.declared.limits.TheConstants.{MOST_STREAM_BYTES}
use Rattle.plant_book.specs.Books.{BookShown}
use Rattle.dp_sessions.specs.Sessions.{AreInTurn, IsBeginning, most_read}
use Rattle.dp_sessions.specs.declared.session.Ending.TheVariants.{End, Fault, Long, Full, Write}
use Rattle.dp_sessions.proofs.Fronts.{beginning-end, beginning-self, front-end}
use Rattle.dp_sessions.proofs.Fronts.{front-items, front-short, items-begin, items-front}
use Rattle.watch_session.specs.Loops.{HasAnswered, HasStopped}
use Rattle.watch_session.specs.Loops.{TakesEnd, TakesStream, TellsEnd, TellsOutput}
use Rattle.watch_session.specs.Loops.{end_of}
use Rattle.watch_session.specs.declared.stream.StreamEnd.{StreamEnd}
use Rattle.watch_session.specs.declared.stream.StreamEnd.TheVariants as halts

-- ---- answers come in turn

-- all bytes had their items answered
in-turn-all : (bytes : List ℕ) (answered : List Item) → IsBeginning (items bytes) answered
    → AreInTurn bytes answered
in-turn-all bytes answered begin = record {
  front = bytes;
  piece = [];
  is = sym (append-nil bytes);
  short = omega arith;
  begin = begin;
}

-- all but a piece
in-turn-but : (bytes front piece : List ℕ) (answered : List Item) → bytes ≡ front ++ piece
    → length piece ≤ most_read → IsBeginning (items front) answered → AreInTurn bytes answered
in-turn-but bytes front piece answered is short begin =
    record { front = front; piece = piece; is = is; short = short; begin = begin }

-- ---- at an item

-- what was told of the source and of the output
pub record IsTold (end : StreamEnd) (source out : Shown) : Type 0 where
  pub read : NoneFailed source
  pub failed : end ≡ halts.Ended Write → HasRisen out

-- the stream ended at an item of a whole line, in a piece that was read
pub stream-stopped : (end : StreamEnd) (source out : Shown) (pass : BookShown)
    (fed piece part back : List ℕ)
    → Gave source.before source.after (fed ++ piece) → piece ≡ part ++ back
    → length piece ≤ most_read → IsTold end source out
    → HasStopped end out.before out.after pass (items fed) (items (fed ++ part))
    → TakesStream end source out pass
stream-stopped (halts.Ended Full) source out pass fed piece part back given split short told stops =
    let bytes = fed ++ piece in
    let longer : bytes ≡ (fed ++ part) ++ back =
    ap (λ (t : List ℕ). fed ++ t) split ∙ sym (append_assoc fed part back) in
    let first = front-items stops.answered (fed ++ part) back bytes longer stops.stopped in
    record {
      bytes = bytes;
      answered = stops.answered;
      given = given;
      ends = stops.refused;
      of_bytes = front-end stops.answered bytes first;
      in_turn = in-turn-but bytes fed piece stops.answered refl short stops.begin;
      no_fault = λ other. told.read;
      answers = stops.asked;
      wrote = stops.wrote;
      full = λ e. (
        length (items bytes),
        (bytes, given, inl refl),
        front-short stops.answered (items bytes) first,
      );
    }
stream-stopped (halts.Ended Write) source out pass fed piece part back given split short told
    stops =
    let bytes = fed ++ piece in
    let longer : bytes ≡ (fed ++ part) ++ back =
    ap (λ (t : List ℕ). fed ++ t) split ∙ sym (append_assoc fed part back) in
    record {
      bytes = bytes;
      answered = stops.answered;
      given = given;
      ends = told.failed refl;
      of_bytes = beginning-end stops.answered (fed ++ part) back bytes longer stops.stopped;
      in_turn = in-turn-but bytes fed piece stops.answered refl short stops.begin;
      no_fault = λ other. told.read;
      answers = stops.asked;
      wrote = stops.wrote;
      full = λ e. absurd (cc);
    }
stream-stopped halts.NoAnswer source out pass fed piece part back given split short told stops =
    let bytes = fed ++ piece in
    let longer : bytes ≡ (fed ++ part) ++ back =
    ap (λ (t : List ℕ). fed ++ t) split ∙ sym (append_assoc fed part back) in
    record {
      bytes = bytes;
      answered = stops.answered;
      given = given;
      ends = tt;
      of_bytes = beginning-end stops.answered (fed ++ part) back bytes longer stops.stopped;
      in_turn = in-turn-but bytes fed piece stops.answered refl short stops.begin;
      no_fault = λ other. told.read;
      answers = stops.asked;
      wrote = stops.wrote;
      full = λ e. absurd (cc);
    }
stream-stopped halts.NoFrames source out pass fed piece part back given split short told stops =
    let bytes = fed ++ piece in
    let longer : bytes ≡ (fed ++ part) ++ back =
    ap (λ (t : List ℕ). fed ++ t) split ∙ sym (append_assoc fed part back) in
    record {
      bytes = bytes;
      answered = stops.answered;
      given = given;
      ends = tt;
      of_bytes = beginning-end stops.answered (fed ++ part) back bytes longer stops.stopped;
      in_turn = in-turn-but bytes fed piece stops.answered refl short stops.begin;
      no_fault = λ other. told.read;
      answers = stops.asked;
      wrote = stops.wrote;
      full = λ e. absurd (cc);
    }
stream-stopped (halts.Ended End) source out pass fed piece part back given split short told stops =
    absurd stops.at_item
stream-stopped (halts.Ended Fault) source out pass fed piece part back given split short told stops =
    absurd stops.at_item
stream-stopped (halts.Ended Long) source out pass fed piece part back given split short told stops =
    absurd stops.at_item

-- ---- at the end of the bytes

pub stream-whole : (source out : Shown) (pass : BookShown) (bytes : List ℕ)
    → Gave source.before source.after bytes → IsEmptied source → NoneFailed source
    → HasAnswered out.before out.after pass (items_end bytes)
    → TakesStream (halts.Ended End) source out pass
stream-whole source out pass bytes given emptied read has = record {
  bytes = bytes;
  answered = items_end bytes;
  given = given;
  ends = emptied;
  of_bytes = refl;
  in_turn = in-turn-all bytes (items_end bytes) (items-begin bytes);
  no_fault = λ other. read;
  answers = has.asked;
  wrote = has.wrote;
  full = λ e. absurd (cc);
}

-- at the item of the stream's end
pub stream-cut : (end : StreamEnd) (source out : Shown) (pass : BookShown) (bytes : List ℕ)
    → Gave source.before source.after bytes → IsEmptied source → IsTold end source out
    → HasStopped end out.before out.after pass (items bytes) (items_end bytes)
    → TakesStream end source out pass
stream-cut (halts.Ended Full) source out pass bytes given emptied told stops = record {
  bytes = bytes;
  answered = stops.answered;
  given = given;
  ends = stops.refused;
  of_bytes = stops.stopped;
  in_turn = in-turn-all bytes stops.answered stops.begin;
  no_fault = λ other. told.read;
  answers = stops.asked;
  wrote = stops.wrote;
  full = λ e. (
    length (items_end bytes),
    (bytes, given, inr (refl, emptied)),
    front-short stops.answered (items_end bytes) stops.stopped,
  );
}
stream-cut (halts.Ended Write) source out pass bytes given emptied told stops = record {
  bytes = bytes;
  answered = stops.answered;
  given = given;
  ends = told.failed refl;
  of_bytes = stops.stopped;
  in_turn = in-turn-all bytes stops.answered stops.begin;
  no_fault = λ other. told.read;
  answers = stops.asked;
  wrote = stops.wrote;
  full = λ e. absurd (cc);
}
stream-cut halts.NoAnswer source out pass bytes given emptied told stops = record {
  bytes = bytes;
  answered = stops.answered;
  given = given;
  ends = tt;
  of_bytes = stops.stopped;
  in_turn = in-turn-all bytes stops.answered stops.begin;
  no_fault = λ other. told.read;
  answers = stops.asked;
  wrote = stops.wrote;
  full = λ e. absurd (cc);
}
stream-cut halts.NoFrames source out pass bytes given emptied told stops = record {
  bytes = bytes;
  answered = stops.answered;
  given = given;
  ends = tt;
  of_bytes = stops.stopped;
  in_turn = in-turn-all bytes stops.answered stops.begin;
  no_fault = λ other. told.read;
  answers = stops.asked;
  wrote = stops.wrote;
  full = λ e. absurd (cc);
}
stream-cut (halts.Ended End) source out pass bytes given emptied told stops = absurd stops.at_item
stream-cut (halts.Ended Fault) source out pass bytes given emptied told stops = absurd stops.at_item
stream-cut (halts.Ended Long) source out pass bytes given emptied told stops = absurd stops.at_item

-- what the end of the bytes gave was taken
pub stream-ended : {U : Type 0} (result : Result U StreamEnd) (source out : Shown)
    (now : Option (List ℕ)) (old new : BookShown) (framer : Option (List ℕ)) (bytes : List ℕ)
    → Gave source.before source.after bytes → IsEmptied source → NoneFailed source
    → (result ≡ Err (halts.Ended Write) → HasRisen out) → StandsFor framer bytes
    → HasAnswered out.before now old (items bytes)
    → ((start : Option (List ℕ)) (fed : List ℕ) → StandsFor framer fed
    → HasAnswered start now old (items fed) → TakesEnd result start out.after new fed)
    → TakesStream (end_of result) source out new
stream-ended (Ok done) source out now old new framer bytes given emptied read failed stands has
    taken = stream-whole source out new bytes given emptied read (taken out.before bytes stands has)
stream-ended (Err end) source out now old new framer bytes given emptied read failed stands has
    taken = stream-cut end source out new bytes given emptied
    (record { read = read; failed = λ e. failed (ap Err e) })
    (taken out.before bytes stands has)

-- ---- no fault is passed over

abbrev halt_in : {U : Type 0} → Result U StreamEnd → StreamEnd
halt_in (Ok done) = halts.NoAnswer
halt_in (Err end) = end

-- after calls in which none was counted
pub tells-later : {U : Type 0} (result : Result U StreamEnd) (later whole : Shown)
    → later.faults_before ≡ whole.faults_before → later.faults_after ≡ whole.faults_after
    → TellsOutput result later → TellsOutput result whole
tells-later result later whole before after tells = record {
  failed = λ e. rw (sym before, sym after) (tells.failed e);
  no_fault = λ other. sym after ∙ tells.no_fault other ∙ before;
  counted = rw (sym before, sym after) tells.counted;
}

-- at the end of a stream that stopped so
pub tells-end : {U : Type 0} (result : Result U StreamEnd) (out : Shown) → TellsOutput result out
    → TellsEnd (end_of result) out
tells-end (Ok done) out tells = record {
  failed = λ e. absurd (cc);
  no_fault = λ other. tells.no_fault (λ e. cc);
  counted = tells.counted;
}
tells-end (Err end) out tells = record {
  failed = λ e. tells.failed (ap (λ (x : StreamEnd). Err x) (ap halt_in e));
  no_fault = λ other. tells.no_fault (λ e. other (ap (λ (x : StreamEnd). Err x) (ap halt_in e)));
  counted = tells.counted;
}

-- ---- else

-- it has a byte more than a stream may have
pub stream-long : (source out : Shown) (pass : BookShown) (fed piece part : List ℕ)
    → Gave source.before source.after (fed ++ piece) → MOST_STREAM_BYTES < length (fed ++ piece)
    → take MOST_STREAM_BYTES (fed ++ piece) ≡ fed ++ part → length piece ≤ most_read
    → NoneFailed source → HasAnswered out.before out.after pass (items (fed ++ part))
    → TakesStream (halts.Ended Long) source out pass
stream-long source out pass fed piece part given long is short read has = record {
  bytes = fed ++ piece;
  answered = items (fed ++ part);
  given = given;
  ends = long;
  of_bytes = ap items (sym is);
  in_turn = in-turn-but (fed ++ piece) fed piece (items (fed ++ part)) refl short
      (items-front fed part);
  no_fault = λ other. read;
  answers = has.asked;
  wrote = has.wrote;
  full = λ e. absurd (cc);
}

-- a read failed
pub stream-fault : (source out : Shown) (pass : BookShown) (bytes : List ℕ)
    → Gave source.before source.after bytes → HasRisen source
    → HasAnswered out.before out.after pass (items bytes)
    → TakesStream (halts.Ended Fault) source out pass
stream-fault source out pass bytes given risen has = record {
  bytes = bytes;
  answered = items bytes;
  given = given;
  ends = risen;
  of_bytes = refl;
  in_turn = in-turn-all bytes (items bytes) (beginning-self (items bytes));
  no_fault = λ other. absurd (other refl);
  answers = has.asked;
  wrote = has.wrote;
  full = λ e. absurd (cc);
}
