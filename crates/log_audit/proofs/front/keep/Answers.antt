-- At most a line more is kept.
use Rattle.std.proofs.Common.{◌≡◌, List, ℕ, [], ◌≤◌, ◌+◌, ◌==◌, false, length, sym, subst}
use Rattle.std.proofs.lemmas.List.Elements.{All-nil}
use Rattle.frame.specs.Frames.{line_feed, whole_lines}
use Rattle.log_audit.proofs.SessionReadings.{whole-more}
use Rattle.log_audit.proofs.front.keep.Goals as goal

pub returns-in_ok-push_line-clause-room : goal.returns-in_ok-push_line-clause-room
returns-in_ok-push_line-clause-room c =
    subst (λ (text : List ℕ). length (whole_lines text) ≤ length (whole_lines c.args.kept.now.items) + 1)
    (sym c.in_ok-push_line.ensures.pushed)
    (whole-more c.args.kept.now.items c.args.own.now c.requires.feed)

pub returns-in_ok-push_line-2-clause-room : goal.returns-in_ok-push_line-2-clause-room
returns-in_ok-push_line-2-clause-room c =
    subst (λ (text : List ℕ). length (whole_lines text) ≤ length (whole_lines c.args.kept.now.items) + 1)
    (sym c.in_ok-push_line-2.ensures.pushed)
    (whole-more c.args.kept.now.items [] (All-nil (λ b. (b == line_feed) ≡ false)))
