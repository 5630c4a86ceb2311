-- What an auditor has read.
use Rattle.std.specs.Prelude.{◌≡◌, ℕ, List, length, Bool, true, false}
use Rattle.plant_core.specs.Machine.{CoreView}
use Rattle.log_audit.specs.Audits.{StandsAt}
use Rattle.log_audit.specs.Lines.{AreLines}
use Rattle.log_audit.specs.SessionAudits.{IsAt}
use Rattle.log_audit.specs.Steps.{StaysBehind}
use Rattle.log_audit.specs.declared.part.Reading.{Reading}
use Rattle.log_audit.specs.declared.part.Reading.TheVariants.{Log, Session}

-- what contracts see of it: the machine of the log, how many lines it has read, what it keeps of those
-- before the log of a session, the frames of the log's commands, the report, and how far the lines are
-- such a text
pub record AuditView : Type 0 where
  pub core : CoreView
  pub lines : ℕ
  pub kept : List ℕ
  pub frames : List ℕ
  pub report : List ℕ
  pub reading : Reading

-- it reads all that a session writes, not a log alone
abbrev pub is_session : Reading → Bool
is_session (Log stage) = false
is_session (Session part) = true

-- how far the lines are such a text
abbrev pub Reads : Reading → CoreView → List ℕ → List ℕ → List ℕ → List (List ℕ) → Type 0
Reads (Log stage) core kept frames report lines = StandsAt stage core lines
Reads (Session part) core kept frames report lines = IsAt part core kept frames report lines

-- an auditor that stands so has read these lines, as far as what follows can tell
pub record Audits (audit : AuditView) (lines : List (List ℕ)) : Type 0 where
  pub good : AreLines lines
  pub count : audit.lines ≡ length lines
  pub reads : Reads audit.reading audit.core audit.kept audit.frames audit.report lines

-- an auditor of the same plant with the same limit, which reads the same kind of text
pub record IsAs (before after : AuditView) : Type 0 where
  pub core : StaysBehind before.core after.core
  pub session : is_session after.reading ≡ is_session before.reading
