-- What is left differs where the texts do.
use Rattle.std.proofs.Common.{◌+◌, arith}
use Rattle.frame.specs.Frames.{whole_lines}
use Rattle.log_audit.specs.declared.auditor.TheConstants.{MOST_LINES}
use Rattle.log_audit.proofs.Differences.{apart-by_test, differ-first, same-by_test, text-here, text-longer}
use Rattle.log_audit.proofs.Differences.{text-next, text-room, text-same, text-shorter}
use Rattle.log_audit.proofs.Pieces.{shorter}
use Rattle.log_audit.proofs.compare.first_other.Goals as goal

pub loop-own-init : goal.loop-own-init
loop-own-init c = differ-first (whole_lines c.args.kept.now) (whole_lines c.args.frames.now)

pub returns-in_default-first_line-clause-some : goal.returns-in_default-first_line-clause-some
returns-in_default-first_line-clause-some c =
    text-longer (whole_lines c.args.kept.now) (whole_lines c.args.frames.now) c.loop-own.number
    c.loop-own.left.now c.loop-own.rest.now c.in-Some.own.now c.in-Some.more.now
    c.loop-own.invariant c.in-Some.ensures.some c.in_default-first_line.ensures.none

pub returns-then-ne-clause-some : goal.returns-then-ne-clause-some
returns-then-ne-clause-some c =
    text-here (whole_lines c.args.kept.now) (whole_lines c.args.frames.now) c.loop-own.number
    c.loop-own.left.now c.loop-own.rest.now c.in-Some.own.now c.in-Some.more.now
    c.in-Some-first_line.frame.now c.in-Some-first_line.behind.now c.loop-own.invariant
    c.in-Some.ensures.some c.in-Some-first_line.ensures.some
    (apart-by_test c.in-Some.own.now c.in-Some-first_line.frame.now c.ne.result c.ne.ensures
    c.if-ne.true)

pub overflow_add-number : goal.overflow_add-number
overflow_add-number c =
    let room = text-room (whole_lines c.args.kept.now) (whole_lines c.args.frames.now)
    c.loop-own.number c.loop-own.left.now c.loop-own.rest.now c.in-Some.own.now c.in-Some.more.now
    (MOST_LINES + 1) c.loop-own.invariant c.in-Some.ensures.some (omega (arith, c.requires)) in
    omega (arith, room)

pub loop-own-smaller : goal.loop-own-smaller
loop-own-smaller c =
    let less = shorter c.loop-own.left.now c.in-Some.own.now c.in-Some.more.now c.in-Some.ensures.some in
    omega (arith, less)

pub loop-own-preserved : goal.loop-own-preserved
loop-own-preserved c =
    text-next (whole_lines c.args.kept.now) (whole_lines c.args.frames.now) c.loop-own.number
    c.loop-own.left.now c.loop-own.rest.now c.in-Some.own.now c.in-Some.more.now
    c.in-Some-first_line.frame.now c.in-Some-first_line.behind.now c.loop-own.invariant
    c.in-Some.ensures.some c.in-Some-first_line.ensures.some
    (same-by_test c.in-Some.own.now c.in-Some-first_line.frame.now c.ne.result c.ne.ensures
    c.if-ne.false)

pub returns-in-Some-first_line-2-clause-some : goal.returns-in-Some-first_line-2-clause-some
returns-in-Some-first_line-2-clause-some c =
    text-shorter (whole_lines c.args.kept.now) (whole_lines c.args.frames.now) c.loop-own.number
    c.loop-own.left.now c.loop-own.rest.now c.in-Some-first_line-2.field-0.0.now
    c.in-Some-first_line-2.field-0.1.now c.loop-own.invariant c.in_default.ensures.none
    c.in-Some-first_line-2.ensures.some

pub returns-in-None-clause-none : goal.returns-in-None-clause-none
returns-in-None-clause-none c =
    text-same (whole_lines c.args.kept.now) (whole_lines c.args.frames.now) c.loop-own.number
    c.loop-own.left.now c.loop-own.rest.now c.loop-own.invariant c.in_default.ensures.none
    c.in-None.ensures.none
