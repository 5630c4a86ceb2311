-- By the place of the first line feed.
use Rattle.log_audit.proofs.Pieces.{first-line, no_feed-nowhere}
use Rattle.log_audit.proofs.text.first_line.Goals as goal

pub returns-clause-some : goal.returns-clause-some
returns-clause-some c =
    let found = c.in_ok-end.ensures in
    first-line c.args.text.now c.split_at.result.0.now c.split_at-2.result.1.now c.in_ok-end.end
    found.0 found.1 c.split_at.ensures.front c.split_at-2.ensures.back c.split_at.ensures.front_len

pub returns-in_err-end-clause-none : goal.returns-in_err-end-clause-none
returns-in_err-end-clause-none c =
    rw c.from_residual.ensures (no_feed-nowhere c.args.text.now c.in_err-end.ensures)
