-- That no fault of a session that ended was passed over.
use Rattle.std.proofs.Common.{◌≢◌, List, ◌∷◌, Bool, refl}
use Rattle.std.specs.Prelude.{All}
use Rattle.std.proofs.lemmas.List.Elements.{All-cons}
use Rattle.dp_io.specs.Shown.{NoneFailed, Shown}
use Rattle.dp_words.specs.Faults.{TellsFaults}
use Rattle.dp_words.proofs.Faults.{tells-read, tells-same}
use Rattle.dp_sessions.specs.Sessions.{status_of}
use Rattle.dp_sessions.specs.declared.session.Ending.{Ending}
use Rattle.dp_sessions.specs.declared.session.Ending.TheVariants.{End, Fault, Long, Full, Write}

-- a session ended
pub tells-ended : (ending : Ending) (lost : Bool) (first : Shown) (sources : List Shown)
    (out : Shown) → ending ≢ Write → NoneFailed first → NoneFailed out
    → (ending ≢ Fault → All NoneFailed sources)
    → TellsFaults (status_of ending lost) (first ∷ sources) out
tells-ended End lost first sources out no_write plant written read =
    tells-same (status_of End lost) (first ∷ sources) out written
    (All-cons NoneFailed first sources plant (read (λ e. cc)))
tells-ended Fault lost first sources out no_write plant written read =
    tells-read (first ∷ sources) out written
tells-ended Long lost first sources out no_write plant written read =
    tells-same (status_of Long lost) (first ∷ sources) out written
    (All-cons NoneFailed first sources plant (read (λ e. cc)))
tells-ended Full lost first sources out no_write plant written read =
    tells-same (status_of Full lost) (first ∷ sources) out written
    (All-cons NoneFailed first sources plant (read (λ e. cc)))
tells-ended Write lost first sources out no_write plant written read = absurd (no_write refl)
