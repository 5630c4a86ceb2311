-- The state after one fix more is the next state.
use Rattle.std.proofs.Common.{◌∙◌, ap, sym, ℕ, List, [], ◌∷◌, ◌++◌}
use Rattle.std.proofs.lemmas.List.Sums.{fold-append}
use Rattle.pid.specs.declared.axis.Sample.{Sample}
use Rattle.pid.specs.declared.position.FixErrors.{FixErrors}
use Rattle.pid.specs.Control.{ControlState, IsAfter, after_fix, fresh}

pub IsAfter-after_fix : (state : ControlState) (moment : ℕ) (errors : FixErrors)
    (fixes : List Sample) → IsAfter state fixes
    → IsAfter (after_fix state moment errors)
    (fixes ++ record { moment = moment; errors = errors } ∷ [])
IsAfter-after_fix state moment errors fixes after =
    ap (λ (s : ControlState). after_fix s moment errors) after
    ∙ sym (fold-append (λ (s : ControlState) (fix : Sample). after_fix s fix.moment fix.errors)
    (fresh state.gains) fixes (record { moment = moment; errors = errors } ∷ []))
