-- What a call that writes to a sink ends with.
use Rattle.std.specs.Prelude.{◌≡◌, ◌<◌, ◌≤◌, ℕ, List, ◌⊎◌, Result, Err, OnOk, OnErr, IfErr, length}
use Rattle.std.specs.Prelude.{take}
use Rattle.dp_io.specs.Streams.{Grew}
use Rattle.dp_io.specs.Shown.{HasRisen, NoneFailed, Shown, Took, TookPart}
use Rattle.dp_words.specs.declared.status.RunStatus.{RunStatus}
use Rattle.dp_words.specs.declared.status.RunStatus.TheVariants as statuses

-- what can go wrong in writing: a fault of the sink, or no memory for a text
abbrev pub IsWriteError : RunStatus → Type 0
IsWriteError status = (status ≡ statuses.WriteFault) ⊎ (status ≡ statuses.NoMemory)

-- What a call that writes to a sink ends with: at a write fault the sink's count of faults rose, and
-- no other fault was passed over.
pub record EndsWriting {T : Type 0} (result : Result T RunStatus) (sink : Shown) : Type 0 where
  pub failed : result ≡ Err statuses.WriteFault → HasRisen sink
  pub errors : IfErr result IsWriteError
  pub no_fault : OnOk result (NoneFailed sink)
  pub counted : sink.faults_before ≤ sink.faults_after

-- What a call that writes a text to a sink ends with: the sink took it whole, or its beginning.
pub record EndsText (result : Result (Unit {0}) RunStatus) (sink : Shown) (text : List ℕ) : Type
    0 where
  pub whole : OnOk result (Took sink text)
  pub part : OnErr result (TookPart sink text)
  pub writing : EndsWriting result sink

-- a sink took first bytes of the text, but not the whole
abbrev pub TookFront : Shown → List ℕ → Type 0
TookFront sink text = (count : ℕ) × (count < length text)
    × Grew sink.before sink.after (take count text)
