-- The streams of a drill are read to their ends.
use Rattle.std.proofs.Common.{◌≡◌, ◌≢◌, ℕ, ◌+◌, ◌<◌, ◌≤◌, List, [], ◌∷◌, ◌++◌, length, Bool}
use Rattle.std.proofs.Common.{true, ◌⊎◌, Some, None, refl, sym, ◌∙◌, ap, ap₂, subst, arith, inl, inr}
use Rattle.std.proofs.Common.{length-append}
use Rattle.std.proofs.lemmas.List.{length-map}
use Rattle.dp_io.specs.Shown.{HasRisen, Shown}
use Rattle.dp_io.specs.Streams.{Rose}
use Rattle.frame.specs.Frames.{items, items_end}
use Rattle.frame.specs.declared.item.Item.{Item}
use Rattle.telegram.specs.Telegrams.{telegram_text}
use Rattle.frame.specs.declared.item.Item.TheVariants.{Body}
use Rattle.telegram.specs.declared.telegram.Telegram.{Telegram}
use Rattle.plant_model.specs.Demo.{demo_parts}
use Rattle.plant_model.specs.declared.limits.TheConstants.{MOST_ENTRIES, MOST_STREAM_BYTES}
use Rattle.plant_model.specs.declared.plant.Parts.{Parts}
use Rattle.plant_core.specs.Machine.{CoreView, IsLegal}
use Rattle.plant_core.specs.declared.call.Entry.{Entry}
use Rattle.dp_sessions.specs.Sessions.{GaveItems, GaveTooManyItems}
use Rattle.dp_sessions.specs.declared.session.Ending.{Ending}
use Rattle.dp_sessions.specs.declared.session.Ending.TheVariants.{End, Fault, Long, Full, Write}
use Rattle.dp_sessions.proofs.Fronts.{items-begin, items-front}
use Rattle.drill_streams.specs.Laws.{AreRead, HasOperators, HasSensors}
use Rattle.drill_streams.specs.Streams.{drill_operators, drill_sensors, frames_of}
use Rattle.drill_streams.specs.declared.streams.TheConstants.{MOST_DRILL_STEPS}
use Rattle.drill_streams.proofs.Drills.{has-operators, has-sensors}
use Rattle.watch_session.specs.Threads.{StandsForPart, StandsForStreams, graver}
use Rattle.watch_session.specs.Watches.{Watches}
use Rattle.watch_session.specs.declared.stream.StreamEnd.{StreamEnd}
use Rattle.watch_session.specs.declared.stream.StreamEnd.TheVariants as halts
use Rattle.watch_session.specs.declared.stream.StreamEnds.{StreamEnds}
use Rattle.watch_session.proofs.Closing.{gave-more, stands, two_ends}
use Rattle.drill_session.specs.Drills.{StandsForDrill, has_ended}
use Rattle.drill_session.proofs.Asking.{all-given, given-of}

-- ---- a stream that is in memory

-- a source that has the frames of these telegrams, and doesn't fail
pub record Holds (telegrams : List Telegram) (source : Shown) : Type 0 where
  pub told : source.before ≡ Some (frames_of telegrams)
  pub steady : ¬ HasRisen source

-- one that had these bytes, and has those left
abbrev pub recorded : List ℕ → List ℕ → Shown
recorded before after = record {
  before = Some before;
  after = Some after;
  faults_before = 0;
  faults_after = 0;
}

-- a sink that tells nothing
abbrev pub unseen : Shown
unseen = record { before = None; after = None; faults_before = 0; faults_after = 0 }

-- neither fails
pub never-fails : (shown : Shown) → shown.faults_before ≡ shown.faults_after
    → shown.faults_after ≡ 0 → ¬ HasRisen shown
never-fails shown same none risen =
    let zero_before : shown.faults_before ≡ 0 = same ∙ none in
    omega (arith, none, subst (λ (n : ℕ). Rose n shown.faults_after) zero_before risen)

-- it gives no more items than there are telegrams
gave-few : (telegrams : List Telegram) (source : Shown) (count : ℕ) → AreRead telegrams
    → Holds telegrams source → GaveItems source count → count ≤ length telegrams
gave-few telegrams source count read holds gave =
    let all = frames_of telegrams in
    let bytes = gave.0 in
    let given = given-of all bytes source holds.told gave.1 in
    let as_many : length (items_end all) ≡ length telegrams =
    ap (λ (xs : List Item). length xs) read.items
    ∙ length-map telegrams (λ (t : Telegram). Body (telegram_text t)) in
    let front = items-front bytes given.rest in
    let begin = items-begin (bytes ++ given.rest) in
    let more : length (items bytes) ≤ length (items_end all) =
    omega (
      arith,
      ap (λ (xs : List Item). length xs) front.1,
      length-append (items bytes) front.0,
      ap (λ (xs : List Item). length xs) begin.1,
      length-append (items (bytes ++ given.rest)) begin.0,
      ap (λ (b : List ℕ). length (items_end b)) given.is,
    ) in
    elim gave.2 [
      | inl is ↦ omega (arith, is, more, as_many)
      | inr end ↦ omega (
        arith,
        end.0,
        ap (λ (b : List ℕ). length (items_end b)) (all-given all bytes source given end.1),
        as_many,
      )
    ]

-- both give too few to fill a history
few-items : (sensors operators : List Telegram) (one other : Shown) → AreRead sensors
    → AreRead operators → Holds sensors one → Holds operators other
    → length sensors + length operators ≤ MOST_ENTRIES
    → ¬ GaveTooManyItems (one ∷ other ∷ [])
few-items sensors operators one other read ordered holds orders few gave =
    let together = gave.1 in
    let rest = together.4 in
    omega (
      arith,
      few,
      gave.2,
      together.2,
      gave-few sensors one together.0 read holds together.3,
      rest.2,
      gave-few operators other rest.0 ordered orders rest.3,
      rest.4,
    )

-- it ends at its end, or where the history is full
end-or-full : (telegrams : List Telegram) (caller : ℕ) (source out : Shown) (ending : Ending)
    (history : List Entry) → Holds telegrams source
    → length (frames_of telegrams) ≤ MOST_STREAM_BYTES → ending ≢ Write
    → StandsForPart caller source out ending history → (ending ≡ End) ⊎ (ending ≡ Full)
end-or-full telegrams caller source out End history holds short no_write part = inl refl
end-or-full telegrams caller source out Full history holds short no_write part = inr refl
end-or-full telegrams caller source out Fault history holds short no_write part =
    absurd (holds.steady part.ends)
end-or-full telegrams caller source out Long history holds short no_write part =
    let given = given-of (frames_of telegrams) part.bytes source holds.told part.given in
    let long : MOST_STREAM_BYTES < length part.bytes = part.ends in
    absurd (omega (
      arith,
      short,
      long,
      ap (λ (b : List ℕ). length b) given.is,
      length-append part.bytes given.rest,
    ))
end-or-full telegrams caller source out Write history holds short no_write part =
    absurd (no_write refl)

-- ---- both streams

both-end : (one other : Ending) → (one ≡ End) ⊎ (one ≡ Full) → (other ≡ End) ⊎ (other ≡ Full)
    → (Full ≡ graver one other → ⊥) → (one ≡ End) × (other ≡ End)
both-end one other (inl is) (inl is_other) never = (is, is_other)
both-end one other (inl is) (inr full) never =
    absurd (never (sym (ap₂ graver is full)))
both-end one other (inr full) (inl is) never =
    absurd (never (sym (ap₂ graver full is)))
both-end one other (inr full) (inr is) never =
    absurd (never (sym (ap₂ graver full is)))

-- how both came to an end
pub record CameToEnds (ends : StreamEnds) (is_whole : Bool) : Type 0 where
  pub one : Ending
  pub other : Ending
  pub are : ends ≡ two_ends (halts.Ended one) (halts.Ended other)
  pub whole : is_whole ≡ true

came-where : (one other : StreamEnd) (is_whole : Bool) → has_ended one other is_whole ≡ true
    → CameToEnds (two_ends one other) is_whole
came-where (halts.Ended one) (halts.Ended other) is_whole is = record {
  one = one;
  other = other;
  are = refl;
  whole = is;
}
came-where (halts.Ended one) halts.NoAnswer is_whole is = absurd (cc)
came-where (halts.Ended one) halts.NoFrames is_whole is = absurd (cc)
came-where halts.NoAnswer other is_whole is = absurd (cc)
came-where halts.NoFrames other is_whole is = absurd (cc)

pub came-to-ends : (ends : StreamEnds) (is_whole : Bool)
    → has_ended ends.sensors ends.operators is_whole ≡ true → CameToEnds ends is_whole
came-to-ends ends is_whole is = came-where ends.sensors ends.operators is_whole is

-- the streams of a drill are short, and have few telegrams
module _ (seed size : ℕ) (few : size ≤ MOST_DRILL_STEPS) (sensors operators out : Shown)
    (holds : Holds (drill_sensors seed size) sensors)
    (orders : Holds (drill_operators seed size) operators) (silent : ¬ HasRisen out) where
  has : HasSensors seed size
  has = has-sensors seed size few

  has_orders : HasOperators seed size
  has_orders = has-operators seed size

  few-telegrams : length (drill_sensors seed size) + length (drill_operators seed size)
      ≤ MOST_ENTRIES
  few-telegrams = omega (arith, has.count, has_orders.count, few)

  -- a session over them that was closed, whose streams came to an end
  module _ (workers : ℕ) (core : CoreView) (one other : Ending) (no_write : one ≢ Write)
      (watches : Watches demo_parts workers core (two_ends (halts.Ended one) (halts.Ended other)) true
      sensors operators out)
      (legal : IsLegal core.plant core.limit core.history) where
    closed-legal : IsLegal demo_parts MOST_ENTRIES watches.closed.shown.seen
    closed-legal =
        let of_plant : IsLegal demo_parts core.limit core.history =
        subst (λ (p : Parts). IsLegal p core.limit core.history) watches.same_plant legal in
        let of_limit : IsLegal demo_parts MOST_ENTRIES core.history =
        subst (λ (n : ℕ). IsLegal demo_parts n core.history) watches.same_limit of_plant in
        subst (IsLegal demo_parts MOST_ENTRIES) watches.history of_limit

    both : StandsForStreams demo_parts workers sensors operators out one other
        watches.closed.shown.seen
    both = stands demo_parts workers one other sensors operators out watches.watched watches.has
        watches.base watches.limit watches.closed watches.finishes closed-legal out
        (λ e. absurd (no_write e))

    ends : (one ≡ End) × (other ≡ End)
    ends = both-end one other
        (end-or-full (drill_sensors seed size) 1 sensors out one watches.closed.shown.seen holds
        (omega (arith, has.short, few)) no_write both.control)
        (end-or-full (drill_operators seed size) 2 operators out other watches.closed.shown.seen
        orders (omega (arith, has_orders.short, few)) both.no_frames both.orders)
        (λ full. few-items (drill_sensors seed size) (drill_operators seed size) sensors operators
        has.read has_orders.read holds orders few-telegrams
        (gave-more demo_parts workers one other sensors operators out watches.watched watches.has
        watches.base watches.limit full))

    stands-for : StandsForDrill workers seed size core.history
    stands-for = record {
      sensors = sensors;
      operators = operators;
      out = out;
      has_sensors = holds.told;
      has_operators = orders.told;
      stands = subst (λ (h : List Entry).
          StandsForStreams demo_parts workers sensors operators out End End h) (sym watches.history)
          (subst (λ (e : Ending). StandsForStreams demo_parts workers sensors operators out End e
          watches.closed.shown.seen) ends.1
          (subst (λ (e : Ending). StandsForStreams demo_parts workers sensors operators out e other
          watches.closed.shown.seen) ends.0 both));
    }

  -- the same by how it ended
  pub stands-drill : (workers : ℕ) (core : CoreView) (halts_at : StreamEnds) (is_whole : Bool)
      → has_ended halts_at.sensors halts_at.operators is_whole ≡ true
      → (halts_at.sensors ≢ halts.Ended Write)
      → Watches demo_parts workers core halts_at is_whole sensors operators out
      → IsLegal core.plant core.limit core.history → StandsForDrill workers seed size core.history
  stands-drill workers core halts_at is_whole is no_write watches legal =
      let came = came-to-ends halts_at is_whole is in
      stands-for workers core came.one came.other
      (λ e. no_write (ap (λ (h : StreamEnds). h.sensors) came.are ∙ ap halts.Ended e))
      (subst (λ (b : Bool). Watches demo_parts workers core
      (two_ends (halts.Ended came.one) (halts.Ended came.other)) b sensors operators out) came.whole
      (subst (λ (e : StreamEnds). Watches demo_parts workers core e is_whole sensors operators out)
      came.are watches))
      legal
