-- The first line of a log, or another that begins one.
use Rattle.std.proofs.Common.{◌∙◌, ℕ, ◌+◌, ◌∷◌, ◌++◌, [], ap, sym, subst}
use Rattle.log_audit.specs.FirstBad.{text_of}
use Rattle.log_audit.specs.Lines.{head_line}
use Rattle.log_audit.specs.Sessions.{IsBadSession}
use Rattle.log_audit.proofs.SessionReadings.{opens, opens_bad}
use Rattle.log_audit.proofs.front.opened.Goals as goal

pub returns-then-is_head : goal.returns-then-is_head
returns-then-is_head c = λ is_cut kept frames report before count good front.
    opens c.args.core.now is_cut kept frames before c.args.own.now
    (c.is_head.ensures.0 c.if-is_head.true ∙ ap head_line c.plant.ensures) front

pub returns-else-is_head : goal.returns-else-is_head
returns-else-is_head c = λ is_cut kept frames report before count good front more.
    subst (λ (n : ℕ). IsBadSession c.args.core.now.plant
    (text_of (before ++ c.args.own.now ∷ []) ++ more) (n + 1)) (sym count)
    (opens_bad c.args.core.now.plant c.requires.read.names before good front.none c.args.own.now
    c.requires.feed c.requires.begins
    (λ same.
    let yes = c.is_head.ensures.1 (same ∙ ap head_line (sym c.plant.ensures)) in
    let no = c.if-is_head.false in absurd (cc (yes, no))) more)
