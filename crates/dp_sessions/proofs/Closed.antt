-- A session's history from its first verdicts to its Close, and what was written of it.
use Rattle.std.proofs.Common.{◌≡◌, ◌≢◌, ℕ, ◌+◌, ◌≤◌, List, [], ◌∷◌, ◌++◌, length, take, Bool, true}
use Rattle.std.proofs.Common.{false, cond, Option, None, get_or, replicate, zero, suc, ◌∙◌}
use Rattle.std.proofs.Common.{ap, arith, refl, subst, sym, append_assoc}
use Rattle.std.specs.List.{filter}
use Rattle.std.proofs.Math.Seq.{take-append-add}
use Rattle.std.proofs.lemmas.Grind.{flat_map-append}
use Rattle.std.proofs.lemmas.List.{append-nil}
use Rattle.std.proofs.lemmas.List.Elements.{All-append, All-cons, All-nil, filter-append}
use Rattle.dp_io.specs.Streams.{Grew}
use Rattle.dp_io.proofs.Grown.{Grew-append}
use Rattle.plant_model.specs.declared.limits.TheConstants.{MOST_ENTRIES}
use Rattle.plant_model.specs.declared.plant.Parts.{Parts}
use Rattle.plant_core.specs.Board.{is_about, is_shown}
use Rattle.plant_core.specs.Machine.{CoreView, IsAllowed, IsAllowedWhere, IsLegal, Stand}
use Rattle.plant_core.specs.Machine.{after_reply, is_answer, is_event, is_full, opening}
use Rattle.plant_core.specs.Machine.{stand_of, state_after, state_of}
use Rattle.plant_core.specs.declared.call.Call.TheVariants.{Close}
use Rattle.plant_core.specs.declared.call.Entry.{Entry}
use Rattle.plant_core.specs.declared.call.Reply.{Reply}
use Rattle.plant_core.specs.declared.call.Reply.TheVariants.{Taken}
use Rattle.plant_core.specs.declared.state.State.{State}
use Rattle.plant_core.specs.declared.state.Verdict.{Verdict}
use Rattle.plant_core.proofs.Histories.{stand_after-push}
use Rattle.log_text.specs.Commands.{command_text, commands_text}
use Rattle.dp_io.specs.Shown.{GrewInPart, NoneFailed, Shown, Took, TookPart}
use Rattle.dp_words.specs.declared.status.RunStatus.{RunStatus}
use Rattle.dp_sessions.specs.declared.session.Ending.{Ending}
use Rattle.dp_sessions.specs.declared.session.Ending.TheVariants.{End, Fault, Long, Full, Write}
use Rattle.dp_sessions.specs.Sessions.{AnswersItems, AreCurrent, AreOfSession, MayEnd, Passed}
use Rattle.dp_sessions.specs.Sessions.{StandsForStream, StopsAt, StopsAtCommand, StopsInTold}
use Rattle.dp_sessions.specs.Sessions.{WritesBegun, WritesPart, WritesWhole, asked_of_streams}
use Rattle.dp_sessions.specs.Sessions.{events_in, has_lost_cell, recorded, status_of, told}
use Rattle.dp_sessions.specs.Sessions.{written}
use Rattle.dp_sessions.specs.Steps.{AddsVerdicts, BeginsTaking, NoneIsShown, TakesStream}
use Rattle.dp_sessions.specs.Steps.{WroteCommands}
use Rattle.dp_sessions.proofs.Begun.{asked-append, begins-taken}
use Rattle.dp_sessions.proofs.Counts.{events-counted}
use Rattle.dp_words.proofs.Parts.{part-front}

-- ---- the opening

get_or-same : {A : Type 0} (x : A) (n i : ℕ) → get_or (replicate n x) i x ≡ x
get_or-same x zero i = refl
get_or-same x (suc n) zero = refl
get_or-same x (suc n) (suc i) = get_or-same x n i

-- a plant at its opening shows nothing
pub none_shown-opening : (plant : Parts) → NoneIsShown plant (opening plant)
none_shown-opening plant = λ group below.
    let none : Option Verdict = None in
    ap (is_about 0) (get_or-same none 16 group)

-- a session begins with verdicts, and has answered no item then
pub answers-none : (old new : CoreView) → old.history ≡ [] → AddsVerdicts old new
    → AnswersItems new.plant new.history []
answers-none old new start adds =
    let is : new.history ≡ old.history ++ adds.verdicts =
    ap (λ (m : CoreView). m.history) adds.history in
    let plant : new.plant ≡ old.plant = ap (λ (m : CoreView). m.plant) adds.history in
    let number : (state_of old).latest.number ≡ 0 =
    ap (λ (h : List Entry). (state_after old.plant h).latest.number) start in
    record {
      opening = adds.verdicts;
      blocks = [];
      is = is ∙ ap (λ (h : List Entry). h ++ adds.verdicts) start ∙ sym (append-nil adds.verdicts);
      verdicts = rw (plant, sym number) adds.are;
      asked = refl;
      followed = tt;
    }

-- ---- the Close

close-where : (closed : Bool) (plant : Parts) (limit : ℕ) (stand : Stand) (reply : Reply)
    → closed ≡ false
    → IsAllowedWhere closed (is_full limit stand.state Close) plant stand Close reply
    → reply ≡ Taken
close-where true plant limit stand reply is_open allowed = absurd (cc)
close-where false plant limit stand reply is_open allowed = allowed

-- the session's own last entry
abbrev pub close_entry : Reply → Entry
close_entry reply = record { caller = 0; call = Close; reply = reply }

-- in an open session Close becomes the last entry
pub closes : (old new : CoreView) (reply : Reply) → (state_of old).is_closed ≡ false
    → IsAllowed old.plant old.limit (stand_of old) Close reply
    → new ≡ after_reply old (close_entry reply)
    → new ≡ record old { history = old.history ++ close_entry reply ∷ [] }
closes old new reply is_open allowed is =
    let taken = close-where (state_of old).is_closed old.plant old.limit (stand_of old) reply
    is_open allowed in
    let grown : CoreView = record old { history = old.history ++ close_entry reply ∷ [] } in
    is ∙ ap (λ b. cond b grown old) (ap is_answer taken)

-- it is no telegram and no note
events-closed : (history : List Entry) (reply : Reply)
    → events_in (history ++ close_entry reply ∷ []) ≡ events_in history
events-closed history reply =
    ap length (filter-append (λ (e : Entry). is_event e.call) history (close_entry reply ∷ [])
    ∙ append-nil (filter (λ (e : Entry). is_event e.call) history))

-- it has no frames
commands-closed : (plant : Parts) (history : List Entry) (reply : Reply)
    → commands_text plant (history ++ close_entry reply ∷ []) ≡ commands_text plant history
commands-closed plant history reply =
    flat_map-append (command_text plant) history (close_entry reply ∷ [])
    ∙ append-nil (commands_text plant history)

-- and the board stays
current-closed : (plant : Parts) (history : List Entry) (reply : Reply)
    → AreCurrent plant (state_after plant history)
    → AreCurrent plant (state_after plant (history ++ close_entry reply ∷ []))
current-closed plant history reply current = λ group below.
    ap (λ (s : Stand). is_shown s.state group) (stand_after-push plant history (close_entry reply))
    ∙ current group below

-- it asks nothing for a stream
asked-closed : (history : List Entry) (reply : Reply)
    → asked_of_streams (history ++ close_entry reply ∷ []) ≡ asked_of_streams history
asked-closed history reply =
    asked-append history (close_entry reply ∷ []) ∙ append-nil (asked_of_streams history)

of_session-more : (entries : List Entry) (reply : Reply) → AreOfSession entries
    → AreOfSession (entries ++ close_entry reply ∷ [])
of_session-more entries reply all =
    All-append (λ (entry : Entry). entry.caller ≡ 0) entries (close_entry reply ∷ []) all
    (All-cons (λ (entry : Entry). entry.caller ≡ 0) (close_entry reply) [] refl
    (All-nil (λ (entry : Entry). entry.caller ≡ 0)))

stops-closed : (plant : Parts) (before after : Option (List ℕ)) (history : List Entry)
    (reply : Reply) → StopsAtCommand plant AreOfSession before after history
    → StopsAtCommand plant AreOfSession before after (history ++ close_entry reply ∷ [])
stops-closed plant before after history reply stops = record {
  front = stops.front;
  command = stops.command;
  back = stops.back ++ close_entry reply ∷ [];
  is = ap (λ (h : List Entry). h ++ close_entry reply ∷ []) stops.is
      ∙ append_assoc stops.front (stops.command ∷ stops.back) (close_entry reply ∷ []);
  last = of_session-more stops.back reply stops.last;
  count = stops.count;
  part = stops.part;
  took = stops.took;
}

ends-closed : (source out later : Shown) (bytes : List ℕ) (ending : Ending)
    (history closed : List Entry) → events_in closed ≡ events_in history → ending ≢ Write
    → MayEnd source out bytes history ending → MayEnd source later bytes closed ending
ends-closed source out later bytes End history closed same no_write ends = ends
ends-closed source out later bytes Fault history closed same no_write ends = ends
ends-closed source out later bytes Long history closed same no_write ends = ends
ends-closed source out later bytes Full history closed same no_write ends = same ∙ ends
ends-closed source out later bytes Write history closed same no_write ends = absurd (no_write refl)

-- ---- the whole session

-- a core that took a stream, and was closed
pub record IsClosed (plant : Parts) (old new : CoreView) (reply : Reply) : Type 0 where
  pub old_plant : old.plant ≡ plant
  pub few : events_in old.history ≤ MOST_ENTRIES
  pub closed : new ≡ record old { history = old.history ++ close_entry reply ∷ [] }
  pub legal : IsLegal new.plant new.limit new.history
  pub limit : new.limit ≡ MOST_ENTRIES

-- the core that a session started, gave its first verdicts, took a stream with, and closed
pub closed-session : (plant : Parts) (started opened old new seen after : CoreView)
    (state : State) (reply : Reply)
    → started ≡ record { plant = plant; limit = MOST_ENTRIES; history = [] }
    → opened.plant ≡ started.plant → opened.limit ≡ started.limit
    → old.plant ≡ opened.plant → old.limit ≡ opened.limit
    → seen ≡ old → state ≡ state_of seen → state.events ≤ seen.limit
    → (state_of old).is_closed ≡ false
    → IsAllowed old.plant old.limit (stand_of old) Close reply
    → new ≡ after_reply old (close_entry reply)
    → after ≡ new → IsLegal after.plant after.limit after.history
    → IsClosed plant old new reply
closed-session plant started opened old new seen after state reply start opened_plant opened_limit
    old_plant old_limit seen_is reached counted is_open allowed history after_is legal =
    let closed = closes old new reply is_open allowed history in
    let limit : old.limit ≡ MOST_ENTRIES =
    old_limit ∙ opened_limit ∙ ap (λ (m : CoreView). m.limit) start in
    let few : (state_of old).events ≤ old.limit =
    subst (λ (m : CoreView). (state_of m).events ≤ m.limit) seen_is
    (subst (λ (s : State). s.events ≤ seen.limit) reached counted) in
    record {
      old_plant = old_plant ∙ opened_plant ∙ ap (λ (m : CoreView). m.plant) start;
      few = omega (arith, few, limit, events-counted old.plant old.history);
      closed = closed;
      legal = subst (λ (m : CoreView). IsLegal m.plant m.limit m.history) after_is legal;
      limit = ap (λ (m : CoreView). m.limit) closed ∙ limit;
    }

-- its plant is that of the session
pub new-plant : (plant : Parts) (old new : CoreView) (reply : Reply) → IsClosed plant old new reply
    → new.plant ≡ plant
new-plant plant old new reply is = ap (λ (m : CoreView). m.plant) is.closed ∙ is.old_plant

new-history : (plant : Parts) (old new : CoreView) (reply : Reply) → IsClosed plant old new reply
    → new.history ≡ old.history ++ close_entry reply ∷ []
new-history plant old new reply is = ap (λ (m : CoreView). m.history) is.closed

legal-closed : (plant : Parts) (old new : CoreView) (reply : Reply)
    → IsClosed plant old new reply → IsLegal plant MOST_ENTRIES new.history
legal-closed plant old new reply is =
    let limited : IsLegal new.plant MOST_ENTRIES new.history =
    subst (λ (l : ℕ). IsLegal new.plant l new.history) is.limit is.legal in
    subst (λ (p : Parts). IsLegal p MOST_ENTRIES new.history) (new-plant plant old new reply is)
    limited

-- the history of a session stands for its stream
stands-closed : (plant : Parts) (source out later : Shown) (ending : Ending) (old new : CoreView)
    (reply : Reply) (taken : TakesStream ending source out old) → IsClosed plant old new reply
    → MayEnd source later taken.bytes new.history ending
    → (ending ≢ Fault → NoneFailed source)
    → StandsForStream plant source later ending new.history
stands-closed plant source out later ending old new reply taken is ends read = record {
  bytes = taken.bytes;
  answered = taken.answered;
  given = taken.given;
  ends = ends;
  of_bytes = taken.of_bytes;
  in_turn = taken.in_turn;
  no_fault = read;
  legal = legal-closed plant old new reply is;
  answers = record {
    front = old.history;
    last = close_entry reply;
    is = new-history plant old new reply is;
    answers = subst (λ (p : Parts). AnswersItems p old.history taken.answered) is.old_plant
        taken.answers;
    close = refl;
  };
}

-- of a stream whose commands could all be written
stands-whole : (plant : Parts) (source out later : Shown) (ending : Ending) (old new : CoreView)
    (reply : Reply) → ending ≢ Write → TakesStream ending source out old
    → IsClosed plant old new reply → (ending ≢ Fault → NoneFailed source)
    → StandsForStream plant source later ending new.history
stands-whole plant source out later ending old new reply no_write taken is read =
    let same : events_in new.history ≡ events_in old.history =
    ap events_in (new-history plant old new reply is) ∙ events-closed old.history reply in
    stands-closed plant source out later ending old new reply taken is
    (ends-closed source out later taken.bytes ending old.history new.history same no_write
    (taken.ends is.few)) read

wrote-whole : (ending : Ending) (plant : Parts) (out : Shown) (history : List Entry)
    → ending ≢ Write → WroteCommands ending plant out history
    → Took out (commands_text plant history)
wrote-whole End plant out history no_write wrote = wrote
wrote-whole Fault plant out history no_write wrote = wrote
wrote-whole Long plant out history no_write wrote = wrote
wrote-whole Full plant out history no_write wrote = wrote
wrote-whole Write plant out history no_write wrote = absurd (no_write refl)

-- the frames of all its commands were written
frames-whole : (plant : Parts) (source out : Shown) (ending : Ending) (old new : CoreView)
    (reply : Reply) → ending ≢ Write → TakesStream ending source out old
    → IsClosed plant old new reply → Took out (commands_text plant new.history)
frames-whole plant source out ending old new reply no_write taken is =
    let same : commands_text plant new.history ≡ commands_text old.plant old.history =
    ap (commands_text plant) (new-history plant old new reply is)
    ∙ commands-closed plant old.history reply
    ∙ ap (λ (p : Parts). commands_text p old.history) (sym is.old_plant) in
    subst (λ (t : List ℕ). Took out t) (sym same)
    (wrote-whole ending old.plant out old.history no_write taken.wrote)

-- all was written
pub session-whole : {S : Type 0} (plant : Parts) (source : Passed S) (out later whole : Shown)
    (ending : Ending) (status : RunStatus) (old new : CoreView) (reply : Reply) → ending ≢ Write
    → TakesStream ending source.shown out old → IsClosed plant old new reply
    → (ending ≢ Fault → NoneFailed source.shown)
    → out.before ≡ whole.before → out.after ≡ later.before → later.after ≡ whole.after
    → Took later (told plant new.history)
    → status ≡ status_of ending (has_lost_cell plant new.history)
    → WritesWhole plant ending status (recorded source whole) whole
session-whole plant source out later whole ending status old new reply no_write taken is read first
    middle last took tells =
    let frames : Grew out.before out.after (commands_text plant new.history) =
    frames-whole plant source.shown out ending old new reply no_write taken is in
    let told_too : Grew out.after later.after (told plant new.history) =
    subst (λ (b : Option (List ℕ)). Grew b later.after (told plant new.history)) (sym middle)
    took in
    let all : Grew out.before later.after (written plant new.history) =
    Grew-append out.before out.after later.after (commands_text plant new.history)
    (told plant new.history) frames told_too in
    let current : AreCurrent old.plant (state_after old.plant old.history) =
    taken.running.current in
    record {
      history = new.history;
      stands = stands-whole plant source.shown out whole ending old new reply no_write taken is
          read;
      took = subst (λ (b : Option (List ℕ)). Grew b whole.after (written plant new.history)) first
          (subst (λ (a : Option (List ℕ)). Grew out.before a (written plant new.history)) last
          all);
      current = subst (λ (h : List Entry). AreCurrent plant (state_after plant h))
          (sym (new-history plant old new reply is))
          (current-closed plant old.history reply
          (subst (λ (p : Parts). AreCurrent p (state_after p old.history)) is.old_plant current));
      tells = tells;
    }

in-told : (ending : Ending) (plant : Parts) (out : Shown) (history : List Entry) → ending ≢ Write
    → StopsInTold plant out history → StopsAt ending plant AreOfSession out history
in-told End plant out history no_write stops = stops
in-told Fault plant out history no_write stops = stops
in-told Long plant out history no_write stops = stops
in-told Full plant out history no_write stops = stops
in-told Write plant out history no_write stops = absurd (no_write refl)

-- some of the log and the report was written, after the frames of all commands
took-part : (plant : Parts) (out later whole : Shown) (history : List Entry) (count : ℕ)
    → Took out (commands_text plant history)
    → out.before ≡ whole.before → out.after ≡ later.before → later.after ≡ whole.after
    → Grew later.before later.after (take count (told plant history))
    → Grew whole.before whole.after (commands_text plant history ++ take count (told plant history))
took-part plant out later whole history count frames first middle last part =
    let text = take count (told plant history) in
    let some : Grew out.after later.after text =
    subst (λ (b : Option (List ℕ)). Grew b later.after text) (sym middle) part in
    let all : Grew out.before later.after (commands_text plant history ++ text) =
    Grew-append out.before out.after later.after (commands_text plant history) text frames some in
    subst (λ (b : Option (List ℕ)). Grew b whole.after (commands_text plant history ++ text))
    first (subst (λ (a : Option (List ℕ)).
    Grew out.before a (commands_text plant history ++ text)) last all)

-- the log or the report was stopped
pub session-part : {S : Type 0} (plant : Parts) (source : Passed S) (out later whole : Shown)
    (ending : Ending) (old new : CoreView) (reply : Reply) → ending ≢ Write
    → TakesStream ending source.shown out old → IsClosed plant old new reply
    → (ending ≢ Fault → NoneFailed source.shown)
    → out.before ≡ whole.before → out.after ≡ later.before → later.after ≡ whole.after
    → TookPart later (told plant new.history) → WritesPart plant (recorded source whole) whole
session-part plant source out later whole ending old new reply no_write taken is read first middle
    last part =
    let frames = frames-whole plant source.shown out ending old new reply no_write taken is in
    record {
      ending = ending;
      history = new.history;
      stands = stands-whole plant source.shown out whole ending old new reply no_write taken is
          read;
      stops = in-told ending plant whole new.history no_write (
        part.0,
        took-part plant out later whole new.history part.0 frames first middle last part.1,
      );
    }

-- a command's frames were stopped
pub session-stopped : {S : Type 0} (plant : Parts) (source : Passed S) (out : Shown)
    (old new : CoreView) (reply : Reply) → TakesStream Write source.shown out old
    → IsClosed plant old new reply → (Write ≢ Fault → NoneFailed source.shown)
    → WritesPart plant (recorded source out) out
session-stopped plant source out old new reply taken is read =
    let stops : StopsAtCommand plant AreOfSession out.before out.after old.history =
    subst (λ (p : Parts). StopsAtCommand p AreOfSession out.before out.after old.history)
    is.old_plant taken.wrote in
    record {
      ending = Write;
      history = new.history;
      stands = stands-closed plant source.shown out out Write old new reply taken is
          (taken.ends is.few) read;
      stops = subst
          (λ (h : List Entry). StopsAtCommand plant AreOfSession out.before out.after h)
          (sym (new-history plant old new reply is))
          (stops-closed plant out.before out.after old.history reply stops);
    }

-- ---- where memory ran out

-- before the Close
pub session-begun : {S : Type 0} (plant : Parts) (source : Passed S) (out : Shown) (core : CoreView)
    → BeginsTaking source.shown out core → core.plant ≡ plant → core.limit ≡ MOST_ENTRIES
    → IsLegal core.plant core.limit core.history
    → WritesBegun plant (recorded source out) out
session-begun plant source out core taking plant_is limit legal =
    let limited = subst (λ (l : ℕ). IsLegal core.plant l core.history) limit legal in
    let begun = taking.begun in
    record {
      history = core.history;
      legal = subst (λ (p : Parts). IsLegal p MOST_ENTRIES core.history) plant_is limited;
      begins = record {
        bytes = taking.bytes;
        given = taking.given;
        answered = begun.answered;
        begin = begun.begin;
        asked = begun.asked;
      };
      took = part-front out.before out.after (commands_text plant core.history)
          (told plant core.history)
          (subst (λ (p : Parts). GrewInPart out.before out.after (commands_text p core.history))
          plant_is begun.wrote);
    }

-- in the log or the report
pub session-starved : {S : Type 0} (plant : Parts) (source : Passed S) (out later whole : Shown)
    (ending : Ending) (old new : CoreView) (reply : Reply) → ending ≢ Write
    → TakesStream ending source.shown out old → IsClosed plant old new reply
    → out.before ≡ whole.before → out.after ≡ later.before → later.after ≡ whole.after
    → TookPart later (told plant new.history) → WritesBegun plant (recorded source whole) whole
session-starved plant source out later whole ending old new reply no_write taken is first middle
    last part =
    let frames = frames-whole plant source.shown out ending old new reply no_write taken is in
    let taking = begins-taken ending source.shown out old taken in
    let begun = taking.begun in
    let text = commands_text plant new.history in
    let some = took-part plant out later whole new.history part.0 frames first middle last part.1 in
    record {
      history = new.history;
      legal = legal-closed plant old new reply is;
      begins = record {
        bytes = taking.bytes;
        given = taking.given;
        answered = begun.answered;
        begin = begun.begin;
        asked = ap asked_of_streams (new-history plant old new reply is)
            ∙ asked-closed old.history reply ∙ begun.asked;
      };
      took = (
        length text + part.0,
        subst (λ (t : List ℕ). Grew whole.before whole.after t)
            (sym (take-append-add text (told plant new.history) part.0)) some,
      );
    }
