-- What a drill does: a session over the two streams of a number, and a summary that is written of it.
use Rattle.std.specs.Prelude.{◌≡◌, ℕ, List, [], Bool, false, Some, ◌⊎◌}
use Rattle.dp_io.specs.Shown.{HasRisen, Shown, Took}
use Rattle.plant_model.specs.Demo.{demo_parts}
use Rattle.plant_core.specs.declared.call.Entry.{Entry}
use Rattle.dp_words.specs.Faults.{TellsFaults}
use Rattle.dp_words.specs.Writing.{TookFront}
use Rattle.dp_words.specs.declared.status.RunStatus.{RunStatus}
use Rattle.dp_words.specs.declared.status.RunStatus.TheVariants.{Clear, NoMemory, WriteFault}
use Rattle.dp_sessions.specs.declared.session.Ending.TheVariants.{End}
use Rattle.drill_streams.specs.Streams.{drill_operators, drill_sensors, frames_of}
use Rattle.drill_summary.specs.Texts.{drill_text}
use Rattle.watch_session.specs.Threads.{StandsForStreams}
use Rattle.watch_session.specs.declared.stream.StreamEnd.{StreamEnd}
use Rattle.watch_session.specs.declared.stream.StreamEnd.TheVariants as halts
use Rattle.drill_session.specs.declared.session.TheConstants.{DRILL_WORKERS}

-- both streams came to an end, and the session was closed
abbrev pub has_ended : StreamEnd → StreamEnd → Bool → Bool
has_ended (halts.Ended one) (halts.Ended other) is_whole = is_whole
has_ended one other is_whole = false

-- The history is legal for the demo plant and stands for the two streams of the drill, each of which
-- was read to its end: it is one of a session over them, with so many workers.
pub record StandsForDrill (workers seed size : ℕ) (history : List Entry) : Type 0 where
  pub sensors : Shown
  pub operators : Shown
  pub out : Shown
  pub has_sensors : sensors.before ≡ Some (frames_of (drill_sensors seed size))
  pub has_operators : operators.before ≡ Some (frames_of (drill_operators seed size))
  pub stands : StandsForStreams demo_parts workers sensors operators out End End history

-- The text is the summary of such a history, and so of every one, however many workers it has and
-- however its callers interleave.
pub record IsSummary (seed size : ℕ) (text : List ℕ) : Type 0 where
  pub history : List Entry
  pub stands : StandsForDrill DRILL_WORKERS seed size history
  pub is : text ≡ drill_text seed size demo_parts history
  pub one : (workers : ℕ) (other : List Entry) → StandsForDrill workers seed size other
      → drill_text seed size demo_parts other ≡ text

-- What was written at each status: all of the summary, at a write fault less than that, and at want of
-- memory nothing. There is no other status.
abbrev pub WritesSummary : RunStatus → ℕ → ℕ → Shown → Type 0
WritesSummary Clear seed size out = (text : List ℕ) × IsSummary seed size text × Took out text
WritesSummary WriteFault seed size out =
    (text : List ℕ) × IsSummary seed size text × TookFront out text × HasRisen out
WritesSummary NoMemory seed size out = out.after ≡ out.before
WritesSummary status seed size out = ⊥

-- How a drill ends with this status: where the output's count of faults doesn't rise, the summary was
-- written, unless memory ran out.
pub record EndsDrill (seed size : ℕ) (status : RunStatus) (out : Shown) : Type 0 where
  pub wrote : WritesSummary status seed size out
  pub complete : ¬ HasRisen out → (status ≡ Clear) ⊎ (status ≡ NoMemory)
  pub faults : TellsFaults status [] out
