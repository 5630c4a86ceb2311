-- What a session over two streams leaves, and what was written of its history.
use Rattle.std.proofs.Common.{◌≡◌, ◌≢◌, ℕ, ◌+◌, ◌≤◌, List, [], ◌∷◌, ◌++◌, length, map, Bool, true}
use Rattle.std.proofs.Common.{false, Option, Some, None, refl, sym, ◌∙◌, ap, ap₂, subst, arith}
use Rattle.std.proofs.Common.{append_assoc, drop, inl, inr, take, Result, Ok, Err}
use Rattle.std.specs.List.{All}
use Rattle.std.proofs.lemmas.List.Elements.{All-append, All-cons, All-nil}
use mathlib.Core.List.{IsPrefix}
use Rattle.dp_io.specs.Shown.{GrewInPart, HasRisen, Shown, Took, TookPart}
use Rattle.dp_io.specs.Streams.{Grew}
use Rattle.dp_io.proofs.Grown.{Grew-append}
use Rattle.std.proofs.lemmas.List.{append-nil, take-append-drop}
use Rattle.frame.specs.Frames.{items, items_end}
use Rattle.frame.specs.declared.item.Item.{Item}
use Rattle.plant_model.specs.declared.limits.TheConstants.{MOST_ENTRIES, MOST_STREAM_BYTES}
use Rattle.plant_model.specs.declared.plant.Parts.{Parts}
use Rattle.plant_core.specs.Machine.{CoreView, IsLegal, state_after}
use Rattle.plant_core.specs.declared.call.Call.{Call}
use Rattle.plant_core.specs.declared.call.Call.TheVariants as calls
use Rattle.plant_core.specs.declared.call.Entry.{Entry}
use Rattle.plant_book.specs.Books.{BookShown}
use Rattle.plant_book.specs.declared.base.BookBase.{BookBase}
use Rattle.log_text.specs.Commands.{call_frames, command_text, commands_text}
use Rattle.dp_words.specs.declared.status.RunStatus.{RunStatus}
use Rattle.dp_sessions.specs.Sessions.{AreAnswered, AreCurrent, Asked, GaveTooManyItems, IsBeginning, Passed}
use Rattle.dp_sessions.specs.Sessions.{StopsAt, StopsInTold}
use Rattle.dp_sessions.specs.Sessions.{WritesBegun, WritesPart, WritesWhole, asked, events_in}
use Rattle.dp_sessions.specs.Sessions.{has_lost_cell, status_of, told, written}
use Rattle.dp_sessions.specs.declared.session.Ending.{Ending}
use Rattle.dp_sessions.specs.declared.session.Ending.TheVariants.{End, Fault, Long, Full, Write}
use Rattle.dp_sessions.proofs.Fronts.{beginning-trans, front-begins, items-begin, items-front}
use Rattle.dp_words.specs.Writing.{EndsText}
use Rattle.dp_words.proofs.Parts.{part-back, part-front, part-whole}
use Rattle.watch_session.specs.Asked.{call_for}
use Rattle.watch_session.specs.Loops.{AreTaken, MayStop, TakesStream, Wrote}
use Rattle.watch_session.specs.Threads.{AreOfOthers, BeginsPart, StandsForBoth, StandsForStreams, calls_of}
use Rattle.watch_session.specs.Threads.{ending_of, graver, has_all_frames, watched}
use Rattle.watch_session.specs.Watches.{CameBack, Finishes, HasWatched, IsFinished, Watches}
use Rattle.watch_session.specs.declared.stream.StreamEnd.{StreamEnd}
use Rattle.watch_session.specs.declared.stream.StreamEnd.TheVariants as halts
use Rattle.watch_session.specs.declared.stream.StreamEnds.{StreamEnds}
use Rattle.watch_session.proofs.Entries.{by, commands-by}
use Rattle.watch_session.proofs.Full.{events-prefix, few-legal, refused-full}
use Rattle.watch_session.proofs.Histories.{IsHistory, events-history, history-more, open-history}
use Rattle.watch_session.proofs.Histories.{silent-history}
use Rattle.watch_session.proofs.Many.{AreFull, full-where, gave-all, gave-many}
use Rattle.watch_session.proofs.Standing.{by-closed, never-write, stands-both}
use Rattle.watch_session.proofs.WatchedHistory.{is-history}
use Rattle.watch_session.proofs.Written.{stops-command, wrote-part}

-- ---- how it ended

-- both streams ended, and the session was closed
pub record AreEnded (ends : StreamEnds) (is_whole : Bool) (ending : Ending) : Type 0 where
  pub one : Ending
  pub other : Ending
  pub first : ends.sensors ≡ halts.Ended one
  pub second : ends.operators ≡ halts.Ended other
  pub whole : is_whole ≡ true
  pub is : ending ≡ graver one other

abbrev pub two_ends : StreamEnd → StreamEnd → StreamEnds
two_ends one other = record { sensors = one; operators = other }

abbrev some_or : Ending → Option Ending → Ending
some_or other None = other
some_or other (Some ending) = ending

ended-where : (one other : StreamEnd) (is_whole : Bool) (ending : Ending)
    → ending_of one other is_whole ≡ Some ending → AreEnded (two_ends one other) is_whole ending
ended-where (halts.Ended one) (halts.Ended other) true ending is = record {
  one = one;
  other = other;
  first = refl;
  second = refl;
  whole = refl;
  is = sym (ap (some_or End) is);
}
ended-where (halts.Ended one) (halts.Ended other) false ending is = absurd (cc)
ended-where (halts.Ended one) halts.NoAnswer is_whole ending is = absurd (cc)
ended-where (halts.Ended one) halts.NoFrames is_whole ending is = absurd (cc)
ended-where halts.NoAnswer other is_whole ending is = absurd (cc)
ended-where halts.NoFrames other is_whole ending is = absurd (cc)

pub are-ended : (ends : StreamEnds) (is_whole : Bool) (ending : Ending)
    → ending_of ends.sensors ends.operators is_whole ≡ Some ending → AreEnded ends is_whole ending
are-ended ends is_whole ending is = ended-where ends.sensors ends.operators is_whole ending is

-- where the frames of all commands weren't written and both streams ended, it was at a write fault
pub lacks-write : (ends : StreamEnds) (is_whole : Bool) (ending : Ending)
    (are : AreEnded ends is_whole ending) → has_all_frames ends.sensors ≡ false → are.one ≡ Write
lacks-write ends is_whole ending are lacks =
    where-write are.one (subst (λ (end : StreamEnd). has_all_frames end ≡ false) are.first lacks)
  where
    where-write : (one : Ending) → has_all_frames (halts.Ended one) ≡ false → one ≡ Write
    where-write End lacks = absurd (cc)
    where-write Fault lacks = absurd (cc)
    where-write Long lacks = absurd (cc)
    where-write Full lacks = absurd (cc)
    where-write Write lacks = refl

-- and where they were, it wasn't
pub has-no_write : (ends : StreamEnds) (is_whole : Bool) (ending : Ending)
    (are : AreEnded ends is_whole ending) → has_all_frames ends.sensors ≡ true → are.one ≢ Write
has-no_write ends is_whole ending are has is =
    let all : has_all_frames (halts.Ended are.one) ≡ true =
    subst (λ (end : StreamEnd). has_all_frames end ≡ true) are.first has in
    let none : has_all_frames (halts.Ended are.one) ≡ false =
    ap (λ (e : Ending). has_all_frames (halts.Ended e)) is in
    cc

-- the graver of two endings, neither of which is a write fault, isn't one
pub no-write : (one other : Ending) → one ≢ Write → other ≢ Write → graver one other ≢ Write
no-write Write other first second is = first refl
no-write End Write first second is = second refl
no-write Fault Write first second is = second refl
no-write Long Write first second is = second refl
no-write Full Write first second is = second refl
no-write End End first second is = cc
no-write End Fault first second is = cc
no-write End Long first second is = cc
no-write End Full first second is = cc
no-write Fault End first second is = cc
no-write Fault Fault first second is = cc
no-write Fault Long first second is = cc
no-write Fault Full first second is = cc
no-write Long End first second is = cc
no-write Long Fault first second is = cc
no-write Long Long first second is = cc
no-write Long Full first second is = cc
no-write Full End first second is = cc
no-write Full Fault first second is = cc
no-write Full Long first second is = cc
no-write Full Full first second is = cc

-- ---- one stream

begins-where : (ending : Ending) (bytes : List ℕ) (answered : List Item)
    → AreAnswered ending bytes answered → IsBeginning answered (items_end bytes)
begins-where End bytes answered is = ([], sym is ∙ sym (append-nil answered))
begins-where Fault bytes answered is =
    subst (λ (xs : List Item). IsBeginning xs (items_end bytes)) (sym is) (items-begin bytes)
begins-where Long bytes answered is =
    let most = take MOST_STREAM_BYTES bytes in
    let rest = drop MOST_STREAM_BYTES bytes in
    let front : IsBeginning (items most) (items bytes) =
    subst (λ (t : List ℕ). IsBeginning (items most) (items t))
    (take-append-drop MOST_STREAM_BYTES bytes) (items-front most rest) in
    subst (λ (xs : List Item). IsBeginning xs (items_end bytes)) (sym is)
    (beginning-trans (items most) (items bytes) (items_end bytes) front (items-begin bytes))
begins-where Full bytes answered is = front-begins answered (items_end bytes) is
begins-where Write bytes answered is = is

taken-begins : (end : StreamEnd) (bytes : List ℕ) (answered : List Item)
    → AreTaken end bytes answered → IsBeginning answered (items_end bytes)
taken-begins (halts.Ended ending) bytes answered is = begins-where ending bytes answered is
taken-begins halts.NoAnswer bytes answered is = is
taken-begins halts.NoFrames bytes answered is = is

begins-part : (caller : ℕ) (end : StreamEnd) (source out : Shown) (pass : BookShown)
    (history : List Entry) → TakesStream end source out pass → pass.shown.caller ≡ caller
    → by caller history ≡ pass.shown.mine → BeginsPart caller source history
begins-part caller end source out pass history taken number own = record {
  bytes = taken.bytes;
  given = taken.given;
  answered = taken.answered;
  begin = taken-begins end taken.bytes taken.answered taken.of_bytes;
  asked = ap calls_of own ∙ taken.answers
      ∙ ap (λ (n : ℕ). map (call_for n) taken.answered) number;
}

-- what is asked, by the number of the caller
asked-by : (caller : ℕ) (end : StreamEnd) (source out : Shown) (pass : BookShown)
    (taken : TakesStream end source out pass) → pass.shown.caller ≡ caller
    → calls_of pass.shown.mine ≡ map (call_for caller) taken.answered
asked-by caller end source out pass taken number =
    taken.answers ∙ ap (λ (n : ℕ). map (call_for n) taken.answered) number

all-wrote : (end : StreamEnd) (start now : Option (List ℕ)) (pass : BookShown)
    → has_all_frames end ≡ true → Wrote end start now pass
    → Grew start now (commands_text pass.shown.base.plant pass.shown.mine)
all-wrote (halts.Ended End) start now pass all wrote = wrote
all-wrote (halts.Ended Fault) start now pass all wrote = wrote
all-wrote (halts.Ended Long) start now pass all wrote = wrote
all-wrote (halts.Ended Full) start now pass all wrote = wrote
all-wrote (halts.Ended Write) start now pass all wrote = absurd (cc)
all-wrote halts.NoAnswer start now pass all wrote = wrote
all-wrote halts.NoFrames start now pass all wrote = absurd (cc)

-- ---- the history

-- the entries of callers 1 and 2 are these, and only caller 1 has frames
pub record IsLeft (plant : Parts) (control orders history : List Entry) : Type 0 where
  pub one : by 1 history ≡ control
  pub two : by 2 history ≡ orders
  pub silent : All (λ e. e.caller ≢ 1 → command_text plant e ≡ []) history

silent-close : (plant : Parts) (close : Entry) → asked close ≡ (0, calls.Close)
    → command_text plant close ≡ []
silent-close plant close is =
    subst (λ (call : Call). call_frames plant call close.reply ≡ [])
    (sym (ap (λ (a : Asked). a.1) is)) refl

-- a Close leaves it so
left-closed : (plant : Parts) (control orders front : List Entry) (close : Entry)
    → asked close ≡ (0, calls.Close) → IsLeft plant control orders front
    → IsLeft plant control orders (front ++ close ∷ [])
left-closed plant control orders front close is left =
    let P : Entry → Type 0 = λ e. e.caller ≢ 1 → command_text plant e ≡ [] in record {
      one = by-closed close is 1 front (λ e. cc) ∙ left.one;
      two = by-closed close is 2 front (λ e. cc) ∙ left.two;
      silent = All-append P front (close ∷ []) left.silent
          (All-cons P close [] (λ other. silent-close plant close is) (All-nil P));
    }

commands-left : (plant : Parts) (control orders history : List Entry)
    → IsLeft plant control orders history
    → commands_text plant control ≡ commands_text plant history
commands-left plant control orders history left =
    sym (ap (commands_text plant) left.one) ∙ commands-by plant 1 history left.silent

-- ---- a session that was watched

module _ (plant : Parts) (workers : ℕ) (ends : StreamEnds) (sensors operators out : Shown)
    (root : BookShown) (has : HasWatched workers ends sensors operators out root)
    (base : root.shown.base.plant ≡ plant) where
  abbrev pub control : List Entry
  control = has.control.shown.mine

  abbrev pub orders : List Entry
  orders = has.orders.shown.mine

  seen-is : IsHistory workers control orders root.shown.seen
  seen-is = is-history workers ends sensors operators out root has

  asks-one : calls_of control ≡ map (call_for 1) has.sensors_taken.answered
  asks-one = asked-by 1 ends.sensors sensors out has.control has.sensors_taken
      has.control_back.is_number

  asks-two : calls_of orders ≡ map (call_for 2) has.operators_taken.takes.answered
  asks-two = asked-by 2 ends.operators operators has.operators_taken.out has.orders
      has.operators_taken.takes has.orders_back.is_number

  control-plant : has.control.shown.base.plant ≡ plant
  control-plant = ap (λ (b : BookBase). b.plant) has.control_back.base ∙ base

  -- published verdicts of the session leave it so
  left-open : (verdicts : List Entry) → IsHistory workers control orders (root.shown.seen ++ verdicts)
      → IsLeft plant control orders (root.shown.seen ++ verdicts)
  left-open verdicts is = record {
    one = is.one;
    two = is.two;
    silent = silent-history workers control orders (root.shown.seen ++ verdicts) is
        has.sensors_taken.answered has.operators_taken.takes.answered asks-one asks-two plant;
  }

  left : (is_whole : Bool) (closed : BookShown) → Finishes is_whole root closed
      → IsLeft plant control orders closed.shown.seen
  left true closed finished =
      let front = root.shown.seen ++ finished.verdicts in
      let is = history-more workers control orders root.shown.seen seen-is finished.verdicts
      finished.published finished.own in
      subst (IsLeft plant control orders) (sym finished.all_seen)
      (left-closed plant control orders front finished.close finished.closes
      (left-open finished.verdicts is))
  left false closed unfinished =
      subst (IsLeft plant control orders) (sym unfinished.all_seen)
      (left-open unfinished.verdicts
      (history-more workers control orders root.shown.seen seen-is unfinished.verdicts
      unfinished.published unfinished.own))

  module _ (is_whole : Bool) (closed : BookShown) (finishes : Finishes is_whole root closed) where
    abbrev pub history : List Entry
    history = closed.shown.seen

    commands : commands_text plant control ≡ commands_text plant history
    commands = commands-left plant control orders history (left is_whole closed finishes)

    -- the frames of all commands were written
    pub took-commands : has_all_frames ends.sensors ≡ true → Took out (commands_text plant history)
    took-commands all =
        subst (λ (t : List ℕ). Took out t) commands
        (subst (λ (p : Parts). Took out (commands_text p control)) control-plant
        (all-wrote ends.sensors out.before out.after has.control all has.sensors_taken.wrote))

    -- or some of them
    pub took-some : TookPart out (commands_text plant history)
    took-some =
        subst (λ (t : List ℕ). TookPart out t) commands
        (subst (λ (p : Parts). TookPart out (commands_text p control)) control-plant
        (wrote-part ends.sensors out.before out.after has.control has.sensors_taken.wrote))

    pub begins : BeginsPart 1 sensors history × BeginsPart 2 operators history
    begins =
        let own = left is_whole closed finishes in (
          begins-part 1 ends.sensors sensors out has.control history has.sensors_taken
              has.control_back.is_number own.one,
          begins-part 2 ends.operators operators has.operators_taken.out has.orders history
              has.operators_taken.takes has.orders_back.is_number own.two,
        )

  -- ---- one whose history is full

  open-seen : All (λ e. e.call ≢ calls.Close) root.shown.seen
  open-seen = open-history workers control orders root.shown.seen seen-is
      has.sensors_taken.answered has.operators_taken.takes.answered asks-one asks-two

  module _ (limit : root.shown.base.limit ≡ MOST_ENTRIES) where
    seen-legal : events_in root.shown.seen ≤ MOST_ENTRIES
    seen-legal =
        let few = few-legal root.shown.base.plant root.shown.base.limit root.shown.seen
        has.rest.legal in omega (arith, few, limit)

    -- a stream that ended there found it full
    full-seen : (number : ℕ) (pass : BookShown) (source sink : Shown) (bytes : List ℕ)
        → CameBack number pass root → MayStop source sink bytes pass (halts.Ended Full)
        → events_in root.shown.seen ≡ MOST_ENTRIES
    full-seen number pass source sink bytes back refused =
        let full = refused-full pass root.shown.seen refused back.seen open-seen in
        let same : pass.shown.base.limit ≡ MOST_ENTRIES =
        ap (λ (b : BookBase). b.limit) back.base ∙ limit in
        omega (arith, full, same, seen-legal)

-- ---- a session that was closed, whose streams ended

module _ (plant : Parts) (workers : ℕ) (one other : Ending) (sensors operators out : Shown)
    (root : BookShown)
    (has : HasWatched workers (two_ends (halts.Ended one) (halts.Ended other)) sensors operators out
    root) (base : root.shown.base.plant ≡ plant) (limit : root.shown.base.limit ≡ MOST_ENTRIES)
  where
    abbrev pub both_ends : StreamEnds
    both_ends = two_ends (halts.Ended one) (halts.Ended other)

    full-one : one ≡ Full → events_in root.shown.seen ≡ MOST_ENTRIES
    full-one is =
        let taken = has.sensors_taken in
        full-seen plant workers both_ends sensors operators out root has base limit 1 has.control sensors out
        taken.bytes has.control_back
        (subst (λ (e : Ending). MayStop sensors out taken.bytes has.control (halts.Ended e)) is
        taken.ends)

    full-two : other ≡ Full → events_in root.shown.seen ≡ MOST_ENTRIES
    full-two is =
        let sink = has.operators_taken.out in
        let taken = has.operators_taken.takes in
        full-seen plant workers both_ends sensors operators out root has base limit 2 has.orders operators
        sink taken.bytes has.orders_back
        (subst (λ (e : Ending). MayStop operators sink taken.bytes has.orders (halts.Ended e)) is
        taken.ends)

    -- its streams gave more items than a history has room for
    pub gave-more : Full ≡ graver one other → GaveTooManyItems (sensors ∷ operators ∷ [])
    gave-more is =
        let full : AreFull one other = full-where one other is in
        let asked = has.sensors_taken.answered in
        let ordered = has.operators_taken.takes.answered in
        let events : length asked + length ordered ≡ MOST_ENTRIES =
        sym (events-history workers has.control.shown.mine has.orders.shown.mine root.shown.seen
        (is-history workers both_ends sensors operators out root has) asked ordered
        (asks-one plant workers both_ends sensors operators out root has base)
        (asks-two plant workers both_ends sensors operators out root has base))
        ∙ elim full.some [ inl e ↦ full-one e | inr e ↦ full-two e ] in
        gave-many sensors operators one other asked ordered full
        (gave-all one sensors out has.control has.sensors_taken full.first)
        (gave-all other operators has.operators_taken.out has.orders has.operators_taken.takes
        full.second) events

    module _ (closed : BookShown) (finished : IsFinished root closed)
        (legal : IsLegal plant MOST_ENTRIES closed.shown.seen) where
      abbrev pub front : List Entry
      front = root.shown.seen ++ finished.verdicts

      is-closed : front ++ finished.close ∷ [] ≡ closed.shown.seen
      is-closed = sym finished.all_seen

      full-closed : events_in root.shown.seen ≡ MOST_ENTRIES
          → events_in (front ++ finished.close ∷ []) ≡ MOST_ENTRIES
      full-closed full =
          let prefix : IsPrefix root.shown.seen closed.shown.seen = (
            finished.verdicts ++ finished.close ∷ [],
            sym (append_assoc root.shown.seen finished.verdicts (finished.close ∷ [])) ∙ is-closed,
          ) in
          ap events_in is-closed
          ∙ omega (
            arith,
            full,
            events-prefix root.shown.seen closed.shown.seen prefix,
            few-legal plant MOST_ENTRIES closed.shown.seen legal,
          )

      pub stands : (later : Shown) → (one ≡ Write → HasRisen later)
          → StandsForStreams plant workers sensors operators later one other closed.shown.seen
      stands later write =
          let verdicts = finished.verdicts in
          let control = has.control.shown.mine in
          let orders = has.orders.shown.mine in
          let is = history-more workers control orders root.shown.seen
          (is-history workers both_ends sensors operators out root has) verdicts finished.published
          finished.own in
          subst (λ (h : List Entry).
          StandsForStreams plant workers sensors operators later one other h) is-closed
          (stands-both plant workers sensors operators out later one other has.control has.orders
          front finished.close
          (subst (IsLegal plant MOST_ENTRIES) (sym is-closed) legal)
          has.sensors_taken has.control_back.is_number has.operators_taken has.orders_back.is_number
          is finished.closes (λ e. full-closed (full-one e)) (λ e. full-closed (full-two e)) write)

-- ---- what was written

-- of a text that was written, the whole or a beginning
pub ends-part : (result : Result (Unit {0}) RunStatus) (sink : Shown) (text : List ℕ)
    → EndsText result sink text → TookPart sink text
ends-part (Ok done) sink text ends = part-whole sink.before sink.after text ends.whole
ends-part (Err status) sink text ends = ends.part

pub ends-whole : (result : Result (Unit {0}) RunStatus) (sink : Shown) (text : List ℕ)
    (done : Unit {0}) → result ≡ Ok done → EndsText result sink text → Took sink text
ends-whole (Ok other) sink text done is ends = ends.whole
ends-whole (Err status) sink text done is ends = absurd (cc)

-- where writing stopped after the commands
stops-where : (ending : Ending) (plant : Parts) (out : Shown) (history : List Entry)
    → ending ≢ Write → StopsInTold plant out history
    → StopsAt ending plant AreOfOthers out history
stops-where End plant out history other stops = stops
stops-where Fault plant out history other stops = stops
stops-where Long plant out history other stops = stops
stops-where Full plant out history other stops = stops
stops-where Write plant out history other stops = absurd (other refl)

-- the session's facts with its ends apart
watches-ended : (plant : Parts) (workers : ℕ) (core : CoreView) (ends : StreamEnds)
    (is_whole : Bool) (ending : Ending) (sensors operators out : Shown)
    → Watches plant workers core ends is_whole sensors operators out
    → (are : AreEnded ends is_whole ending)
    → Watches plant workers core (two_ends (halts.Ended are.one) (halts.Ended are.other)) true sensors
    operators out
watches-ended plant workers core ends is_whole ending sensors operators out watches are =
    let same : ends ≡ two_ends (halts.Ended are.one) (halts.Ended are.other) =
    ap₂ two_ends are.first are.second in
    subst (λ (b : Bool). Watches plant workers core
    (two_ends (halts.Ended are.one) (halts.Ended are.other)) b sensors operators out) are.whole
    (subst (λ (e : StreamEnds). Watches plant workers core e is_whole sensors operators out) same
    watches)

module _ {B C : Type 0} (plant : Parts) (workers : ℕ) (core : CoreView) (ends : StreamEnds)
    (is_whole : Bool) (sensors : Passed B) (operators : Passed C) (out : Shown)
    (watches : Watches plant workers core ends is_whole sensors.shown operators.shown out)
    (legal : IsLegal core.plant core.limit core.history) where
  legal-plant : IsLegal plant MOST_ENTRIES core.history
  legal-plant = subst (λ (n : ℕ). IsLegal plant n core.history) watches.same_limit
      (subst (λ (p : Parts). IsLegal p core.limit core.history) watches.same_plant legal)

  legal-closed : IsLegal plant MOST_ENTRIES watches.closed.shown.seen
  legal-closed = subst (IsLegal plant MOST_ENTRIES) watches.history legal-plant

  told-closed : told core.plant core.history ≡ told plant watches.closed.shown.seen
  told-closed = ap₂ told watches.same_plant watches.history

  -- memory ran out: what was written begins the whole of the history
  begun-with : (whole : Shown) → TookPart whole (written plant watches.closed.shown.seen)
      → WritesBegun plant (watched workers sensors operators whole) whole
  begun-with whole took = record {
    history = watches.closed.shown.seen;
    legal = legal-closed;
    begins = begins plant workers ends sensors.shown operators.shown out watches.watched
        watches.has watches.base is_whole watches.closed watches.finishes;
    took = took;
  }

  -- before all frames were written
  pub begun-frames : WritesBegun plant (watched workers sensors operators out) out
  begun-frames = begun-with out
      (part-front out.before out.after (commands_text plant watches.closed.shown.seen)
      (told plant watches.closed.shown.seen)
      (took-some plant workers ends sensors.shown operators.shown out watches.watched
      watches.has watches.base is_whole watches.closed watches.finishes))

  -- or later
  pub begun-told : (later whole : Shown) → has_all_frames ends.sensors ≡ true
      → whole.before ≡ out.before → later.before ≡ out.after → whole.after ≡ later.after
      → TookPart later (told core.plant core.history)
      → WritesBegun plant (watched workers sensors operators whole) whole
  begun-told later whole all before between after took =
      let history = watches.closed.shown.seen in
      begun-with whole
      (part-back whole.before out.after whole.after (commands_text plant history)
      (told plant history)
      (subst (λ (b : Option (List ℕ)). Grew b out.after (commands_text plant history)) (sym before)
      (took-commands plant workers ends sensors.shown operators.shown out watches.watched
      watches.has watches.base is_whole watches.closed watches.finishes all))
      (subst (λ (a : Option (List ℕ)). GrewInPart out.after a (told plant history)) (sym after)
      (subst (λ (b : Option (List ℕ)). GrewInPart b later.after (told plant history)) between
      (subst (λ (t : List ℕ). GrewInPart later.before later.after t) told-closed took))))

  module _ (ending : Ending) (are : AreEnded ends is_whole ending) where
    facts : Watches plant workers core
        (two_ends (halts.Ended are.one) (halts.Ended are.other)) true sensors.shown operators.shown out
    facts = watches-ended plant workers core ends is_whole ending sensors.shown operators.shown out
        watches are

    seen-legal-closed : IsLegal plant MOST_ENTRIES facts.closed.shown.seen
    seen-legal-closed = subst (IsLegal plant MOST_ENTRIES) facts.history legal-plant

    both : (later : Shown) → (are.one ≡ Write → HasRisen later)
        → StandsForBoth plant workers sensors.shown operators.shown later ending
        facts.closed.shown.seen
    both later write = record {
      one = are.one;
      other = are.other;
      graver = are.is;
      stands = stands plant workers are.one are.other sensors.shown operators.shown out
          facts.watched facts.has facts.base facts.limit facts.closed facts.finishes
          seen-legal-closed later write;
    }

    -- the frames of the last command couldn't be written
    pub part-frames : are.one ≡ Write → HasRisen out
        → WritesPart plant (watched workers sensors operators out) out
    part-frames is risen = record {
      ending = Write;
      history = facts.closed.shown.seen;
      stands = subst (λ (e : Ending). StandsForBoth plant workers sensors.shown operators.shown out e
          facts.closed.shown.seen) (are.is ∙ ap (λ (e : Ending). graver e are.other) is)
          (both out (λ e. risen));
      stops =
          let has = facts.has in
          let own = left plant workers (two_ends (halts.Ended are.one) (halts.Ended are.other))
          sensors.shown operators.shown out facts.watched has facts.base true facts.closed
          facts.finishes in
          stops-command plant out.before out.after has.control facts.closed.shown.seen
          (subst (λ (e : Ending). Wrote (halts.Ended e) out.before out.after has.control) is
          has.sensors_taken.wrote)
          (control-plant plant workers (two_ends (halts.Ended are.one) (halts.Ended are.other))
          sensors.shown operators.shown out facts.watched has facts.base)
          own.one own.silent;
    }

    module _ (later whole : Shown) (all : has_all_frames ends.sensors ≡ true)
        (before : whole.before ≡ out.before) (between : later.before ≡ out.after)
        (after : whole.after ≡ later.after) where
      no-fault-one : are.one ≢ Write
      no-fault-one = has-no_write ends is_whole ending are all

      pub no-fault : ending ≢ Write
      no-fault is = no-write are.one are.other no-fault-one
          (never-write operators.shown are.other facts.has.orders facts.has.operators_taken)
          (sym are.is ∙ is)

      commands-whole : Grew whole.before out.after (commands_text plant facts.closed.shown.seen)
      commands-whole =
          let has = facts.has in
          subst (λ (b : Option (List ℕ)).
          Grew b out.after (commands_text plant facts.closed.shown.seen)) (sym before)
          (took-commands plant workers (two_ends (halts.Ended are.one) (halts.Ended are.other))
          sensors.shown operators.shown out facts.watched has facts.base true facts.closed
          facts.finishes (subst (λ (end : StreamEnd). has_all_frames end ≡ true) are.first all))

      told-later : told core.plant core.history ≡ told plant facts.closed.shown.seen
      told-later = ap₂ told facts.same_plant facts.history

      -- all was written
      pub whole-told : (status : RunStatus) → Took later (told core.plant core.history)
          → status ≡ status_of ending (has_lost_cell core.plant core.history)
          → WritesWhole plant ending status (watched workers sensors operators whole) whole
      whole-told status took tells =
          let history = facts.closed.shown.seen in record {
            history = history;
            stands = both whole (λ e. absurd (no-fault-one e));
            took = Grew-append whole.before out.after whole.after (commands_text plant history)
                (told plant history) commands-whole
                (subst (λ (a : Option (List ℕ)). Grew out.after a (told plant history)) (sym after)
                (subst (λ (b : Option (List ℕ)). Grew b later.after (told plant history)) between
                (subst (λ (t : List ℕ). Grew later.before later.after t) told-later took)));
            current = subst (λ (p : Parts). AreCurrent p (state_after p history)) facts.base
                facts.finishes.current;
            tells = tells ∙ ap (status_of ending) (ap₂ has_lost_cell facts.same_plant facts.history);
          }

      -- the log and the report were written in part
      pub part-told : TookPart later (told core.plant core.history)
          → WritesPart plant (watched workers sensors operators whole) whole
      part-told took =
          let history = facts.closed.shown.seen in record {
            ending = ending;
            history = history;
            stands = both whole (λ e. absurd (no-fault-one e));
            stops =
                let part : GrewInPart out.after whole.after (told plant history) =
                subst (λ (a : Option (List ℕ)). GrewInPart out.after a (told plant history))
                (sym after) (subst (λ (b : Option (List ℕ)).
                GrewInPart b later.after (told plant history)) between
                (subst (λ (t : List ℕ). GrewInPart later.before later.after t) told-later
                took)) in
                stops-where ending plant whole history no-fault (
                  part.0,
                  Grew-append whole.before out.after whole.after (commands_text plant history)
                      (take part.0 (told plant history)) commands-whole part.1,
                );
          }

    -- the streams gave more items than a history has room for
    pub gave-full : ending ≡ Full → GaveTooManyItems (sensors.shown ∷ operators.shown ∷ [])
    gave-full is = gave-more plant workers are.one are.other sensors.shown operators.shown out
        facts.watched facts.has facts.base facts.limit (sym is ∙ are.is)
