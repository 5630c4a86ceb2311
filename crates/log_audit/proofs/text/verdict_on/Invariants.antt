-- The lines so far and what is left are the text.
use Rattle.std.proofs.Common.{◌≡◌, ◌≤◌, ℕ, ◌+◌, List, ◌++◌, length}
use Rattle.log_audit.specs.Auditors.{Audits, is_session}
use Rattle.log_audit.specs.FirstBad.{text_of}
use Rattle.log_audit.specs.declared.auditor.TheConstants.{MOST_LINES}
use Rattle.log_audit.proofs.text.verdict_on.Given as goal

abbrev pub invariant-loop-line : goal.invariant-loop-line
invariant-loop-line g l = record {
  plant : l.auditor.core.plant ≡ l.fn.plant;
  session : is_session l.auditor.reading ≡ l.fn.session;
  room : l.auditor.lines + length l.rest ≤ MOST_LINES;
  read : (lines : List (List ℕ)) × Audits l.auditor lines × (text_of lines ++ l.rest ≡ l.fn.text);
}

abbrev pub decreases-loop-line : goal.decreases-loop-line
decreases-loop-line g l = length l.rest
