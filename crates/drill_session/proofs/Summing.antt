-- All histories that stand for the streams of a drill have one summary.
use Rattle.std.proofs.Common.{◌≡◌, ℕ, ◌≤◌, List, ◌++◌, true, ◌==◌, Result, Ok, Err, ap, sym}
use Rattle.std.proofs.Common.{◌∙◌, codes}
use Rattle.std.specs.Result.{IfOk}
use Rattle.std.specs.Prelude.{map, decimal}
use Rattle.std.proofs.lemmas.List.Elements.{All-weaker}
use Rattle.telegram.specs.declared.telegram.Telegram.{Telegram}
use Rattle.plant_model.specs.Demo.{demo_parts}
use Rattle.plant_model.specs.declared.limits.TheConstants.{MOST_ENTRIES}
use Rattle.plant_model.specs.declared.plant.Parts.{Parts}
use Rattle.plant_core.specs.declared.call.Call.TheVariants as calls
use Rattle.plant_core.specs.declared.call.Entry.{Entry}
use Rattle.dp_sessions.specs.Sessions.{caller_of}
use Rattle.drill_streams.specs.Laws.{HasOperators, HasSensors, IsSensed, IsSwitch}
use Rattle.drill_streams.specs.Streams.{drill_operators, drill_sensors}
use Rattle.drill_streams.specs.declared.streams.TheConstants.{MOST_DRILL_STEPS}
use Rattle.drill_streams.proofs.Drills.{has-operators, has-sensors}
use Rattle.drill_summary.specs.Laws.{IsDrill}
use Rattle.drill_summary.specs.Summaries.{Summary}
use Rattle.drill_summary.specs.Texts.{drill_text, line, lines_of}
use Rattle.drill_summary.proofs.Drills.{drill-apart}
use Rattle.drill_summary.proofs.Summed.{one-summary}
use Rattle.drill_session.specs.Drills.{IsSummary, StandsForDrill}
use Rattle.drill_session.specs.declared.session.TheConstants.{DRILL_WORKERS}
use Rattle.drill_session.proofs.Asking.{asked-telegrams, quiet-others, sensed-own, switch-own}

-- such a history has what the streams of the drill ask
pub is-drill : (workers seed size : ℕ) (history : List Entry) → size ≤ MOST_DRILL_STEPS
    → StandsForDrill workers seed size history → IsDrill MOST_ENTRIES seed size history
is-drill workers seed size history few drill =
    let stands = drill.stands in
    let has : HasSensors seed size = has-sensors seed size few in
    let orders : HasOperators seed size = has-operators seed size in
    record {
      legal = stands.legal;
      asked = record {
        control = asked-telegrams 1 (drill_sensors seed size) drill.sensors drill.out history
            has.read
            (All-weaker IsSensed (λ (t : Telegram). (caller_of t == 1) ≡ true) sensed-own
            (drill_sensors seed size) has.kinds)
            drill.has_sensors stands.control;
        orders = asked-telegrams 2 (drill_operators seed size) drill.operators drill.out history
            orders.read
            (All-weaker IsSwitch (λ (t : Telegram). (caller_of t == 2) ≡ true) switch-own
            (drill_operators seed size) orders.kinds)
            drill.has_operators stands.orders;
        others = quiet-others history stands.front stands.last stands.is stands.close
            stands.session stands.work;
      };
    }

pub one-text : (seed size : ℕ) (history other : List Entry) → size ≤ MOST_DRILL_STEPS
    → IsDrill MOST_ENTRIES seed size history → IsDrill MOST_ENTRIES seed size other
    → drill_text seed size demo_parts history ≡ drill_text seed size demo_parts other
one-text seed size history other few is is_other =
    ap (λ (s : Summary). line (codes "DRILL," ++ decimal seed ++ codes "," ++ decimal size)
    ++ lines_of demo_parts s)
    (one-summary demo_parts MOST_ENTRIES (map calls.Telegram (drill_sensors seed size))
    (map calls.Telegram (drill_operators seed size)) history other (drill-apart seed size few) is
    is_other)

-- the summary of one of them is that of all
pub is-summary : (seed size : ℕ) (text : List ℕ) (history : List Entry) → size ≤ MOST_DRILL_STEPS
    → StandsForDrill DRILL_WORKERS seed size history
    → text ≡ drill_text seed size demo_parts history → IsSummary seed size text
is-summary seed size text history few stands is =
    let drill = is-drill DRILL_WORKERS seed size history few stands in
    record {
      history = history;
      stands = stands;
      is = is;
      one = λ workers other stands_other.
          one-text seed size other history few (is-drill workers seed size other few stands_other) drill
          ∙ sym is;
    }

-- of a text that was made, if it was
pub if-summary : {T E : Type 0} (bytes : T → List ℕ) (result : Result T E) (seed size : ℕ)
    (plant : Parts) (history : List Entry) → size ≤ MOST_DRILL_STEPS
    → StandsForDrill DRILL_WORKERS seed size history → plant ≡ demo_parts
    → IfOk result (λ text. bytes text ≡ drill_text seed size plant history)
    → IfOk result (λ text. IsSummary seed size (bytes text))
if-summary bytes (Ok text) seed size plant history few stands demo is =
    is-summary seed size (bytes text) history few stands
    (is ∙ ap (λ (p : Parts). drill_text seed size p history) demo)
if-summary bytes (Err error) seed size plant history few stands demo is = tt
