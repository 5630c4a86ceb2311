-- The text from the place on, byte by byte.
use Rattle.std.proofs.Common.{arith}
use Rattle.log_audit.proofs.Behind.{ended, other_there, unended}
use Rattle.log_audit.proofs.log_part.behind_line.Goals as goal

pub returns-in_err-strip_prefix-clause-none : goal.returns-in_err-strip_prefix-clause-none
returns-in_err-strip_prefix-clause-none c =
    rw c.from_residual.ensures
    (other_there c.args.text.now c.split_at.result.1.now c.args.own.now c.args.at c.min.result
    c.min.ensures c.split_at.ensures.back c.in_err-strip_prefix.ensures.cases)

pub returns-in_err-more-clause-none : goal.returns-in_err-more-clause-none
returns-in_err-more-clause-none c =
    rw c.from_residual-in_err-more.ensures
    (unended c.args.text.now c.split_at.result.1.now c.args.own.now c.in_ok-strip_prefix.field-0.now
    c.args.at c.min.result c.min.ensures c.split_at.ensures.back c.in_ok-strip_prefix.ensures.cases.1
    c.in_err-more.ensures.cases)

pub returns-clause-some : goal.returns-clause-some
returns-clause-some c = (
  omega arith,
  ended c.args.text.now c.split_at.result.1.now c.args.own.now c.in_ok-strip_prefix.field-0.now
      c.in_ok-more.more.now c.args.at c.min.result c.min.ensures c.split_at.ensures.back
      c.in_ok-strip_prefix.ensures.cases.1 c.in_ok-strip_prefix.ensures.cases.0
      c.in_ok-more.ensures.cases.0 c.in_ok-more.ensures.cases.1,
)
