-- How much of the frames of commands was written.
use Rattle.std.specs.Prelude.{ℕ, List, Bool, true, false}
use Rattle.dp_io.specs.Shown.{HasRisen, NoneFailed, Shown, Took}
use Rattle.dp_words.specs.Writing.{TookFront}

-- the frames were written, or at a write fault some of their bytes
abbrev pub WritesFrames : Bool → Shown → List ℕ → Type 0
WritesFrames true sink frames = Took sink frames × NoneFailed sink
WritesFrames false sink frames = TookFront sink frames × HasRisen sink
