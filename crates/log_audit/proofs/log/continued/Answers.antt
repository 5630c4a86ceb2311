-- A log that a line goes on, or one that stops before it.
use Rattle.log_audit.proofs.Readings.{reads_on, stops}
use Rattle.log_audit.proofs.log.continued.Goals as goal

pub returns-then-is_next-clause-stands : goal.returns-then-is_next-clause-stands
returns-then-is_next-clause-stands g c = λ before entries is read.
    reads_on c.args.core.now c.requires.read c.args.line.now before entries read c.args.lines is
    c.step.new.core (c.in_ok-is_next.ensures.taken (cc))

pub returns-else-is_next-clause-stands : goal.returns-else-is_next-clause-stands
returns-else-is_next-clause-stands g c = λ before entries is read.
    stops c.args.core.now c.requires.read c.args.line.now before entries read c.args.lines is
    c.step.new.core c.requires.feed (c.in_ok-is_next.ensures.none (cc))
    c.in_ok-is_next.ensures.behind
