-- What a session left of which all was written, or a beginning.
use Rattle.std.proofs.Common.{Err, ap, inr, subst, sym, ◌∙◌}
use Rattle.std.proofs.Math.Path.{refl}
use Rattle.dp_io.specs.Shown.{writing}
use Rattle.plant_core.specs.Machine.{CoreView, IsLegal}
use Rattle.dp_sessions.specs.Sessions.{passed, status_of, told}
use Rattle.watch_session.specs.declared.stream.StreamEnd.TheVariants as halts
use Rattle.watch_session.proofs.Closing.{are-ended, begun-frames, begun-told, ends-part, ends-whole}
use Rattle.watch_session.proofs.Closing.{gave-full, lacks-write, part-frames, part-told, whole-told}
use Rattle.watch_session.proofs.ending.watch_session.Goals as goal

pub returns-in_default-clause-begun : goal.returns-in_default-clause-begun
returns-in_default-clause-begun g c = λ memory.
    let sensors = passed g.B.Source c.args.second.now c.watch.new.second in
    let operators = passed g.C.Source c.args.third.now c.watch.new.third in
    let out = writing g.O.Sink c.args.out.now c.watch.new.out in
    let left = c.in_ok-watched.watched in
    let facts = c.in_ok-watched.ensures.watched in
    let legal = subst (λ (m : CoreView). IsLegal m.plant m.limit m.history) c.drop.view_is
    c.drop.invariant.legal in
    inr (begun-frames c.args.plant c.args.workers left.core left.ends left.is_whole sensors operators out
    facts legal)

pub returns-then-not-has_all_frames-clause-cut : goal.returns-then-not-has_all_frames-clause-cut
returns-then-not-has_all_frames-clause-cut g c = λ fault.
    let sensors = passed g.B.Source c.args.second.now c.watch.new.second in
    let operators = passed g.C.Source c.args.third.now c.watch.new.third in
    let out = writing g.O.Sink c.args.out.now c.watch.new.out in
    let left = c.in_ok-watched.watched in
    let facts = c.in_ok-watched.ensures.watched in
    let legal = subst (λ (m : CoreView). IsLegal m.plant m.limit m.history) c.drop-then-not-has_all_frames.view_is
    c.drop-then-not-has_all_frames.invariant.legal in
    let lacks = sym c.has_all_frames.ensures ∙ c.if-not-has_all_frames.true in
    let ending = c.in-Some.field-0 in
    let are = are-ended left.ends left.is_whole ending
    (sym c.ending_of-ending.ensures ∙ c.in-Some.is) in
    let is_write = lacks-write left.ends left.is_whole ending are lacks in
    part-frames c.args.plant c.args.workers left.core left.ends left.is_whole sensors operators out
    facts legal
    ending are is_write
    (c.in_ok-watched.ensures.output.failed
    (ap Err (are.first ∙ ap halts.Ended is_write)))

pub returns-in_default-ending-clause-begun : goal.returns-in_default-ending-clause-begun
returns-in_default-ending-clause-begun g c = λ memory.
    let sensors = passed g.B.Source c.args.second.now c.watch.new.second in
    let operators = passed g.C.Source c.args.third.now c.watch.new.third in
    let out = writing g.O.Sink c.args.out.now c.watch.new.out in
    let later = writing g.O.Sink c.watch.new.out c.write_history-written.new.out in
    let whole = writing g.O.Sink c.args.out.now c.write_history-written.new.out in
    let left = c.in_ok-watched.watched in
    let facts = c.in_ok-watched.ensures.watched in
    let legal = subst (λ (m : CoreView). IsLegal m.plant m.limit m.history) c.drop-in_default-ending.view_is
    c.drop-in_default-ending.invariant.legal in
    let all = sym c.has_all_frames.ensures ∙ c.if-not-has_all_frames.false in
    let text = told left.core.plant left.core.history in
    inr (begun-told c.args.plant c.args.workers left.core left.ends left.is_whole sensors operators out
    facts legal
    later whole all refl refl refl
    (ends-part c.write_history-written.result later text c.write_history-written.ensures))

pub returns-in_err-written-clause-cut : goal.returns-in_err-written-clause-cut
returns-in_err-written-clause-cut g c = λ fault.
    let sensors = passed g.B.Source c.args.second.now c.watch.new.second in
    let operators = passed g.C.Source c.args.third.now c.watch.new.third in
    let out = writing g.O.Sink c.args.out.now c.watch.new.out in
    let later = writing g.O.Sink c.watch.new.out c.write_history-written.new.out in
    let whole = writing g.O.Sink c.args.out.now c.write_history-written.new.out in
    let left = c.in_ok-watched.watched in
    let facts = c.in_ok-watched.ensures.watched in
    let legal = subst (λ (m : CoreView). IsLegal m.plant m.limit m.history) c.drop-in_err-written.view_is
    c.drop-in_err-written.invariant.legal in
    let all = sym c.has_all_frames.ensures ∙ c.if-not-has_all_frames.false in
    let ending = c.in-Some-ending.ending in
    let are = are-ended left.ends left.is_whole ending
    (sym c.ending_of-ending.ensures ∙ c.in-Some-ending.is) in
    let text = told left.core.plant left.core.history in
    part-told c.args.plant c.args.workers left.core left.ends left.is_whole sensors operators out
    facts legal
    ending are later whole all refl refl refl
    (ends-part c.write_history-written.result later text c.write_history-written.ensures)

pub returns-in_err-written-clause-begun : goal.returns-in_err-written-clause-begun
returns-in_err-written-clause-begun g c = λ memory.
    let sensors = passed g.B.Source c.args.second.now c.watch.new.second in
    let operators = passed g.C.Source c.args.third.now c.watch.new.third in
    let out = writing g.O.Sink c.args.out.now c.watch.new.out in
    let later = writing g.O.Sink c.watch.new.out c.write_history-written.new.out in
    let whole = writing g.O.Sink c.args.out.now c.write_history-written.new.out in
    let left = c.in_ok-watched.watched in
    let facts = c.in_ok-watched.ensures.watched in
    let legal = subst (λ (m : CoreView). IsLegal m.plant m.limit m.history) c.drop-in_err-written.view_is
    c.drop-in_err-written.invariant.legal in
    let all = sym c.has_all_frames.ensures ∙ c.if-not-has_all_frames.false in
    let text = told left.core.plant left.core.history in
    inr (begun-told c.args.plant c.args.workers left.core left.ends left.is_whole sensors operators out
    facts legal
    later whole all refl refl refl
    (ends-part c.write_history-written.result later text c.write_history-written.ensures))

pub returns-clause-ended : goal.returns-clause-ended
returns-clause-ended g c =
    let sensors = passed g.B.Source c.args.second.now c.watch.new.second in
    let operators = passed g.C.Source c.args.third.now c.watch.new.third in
    let out = writing g.O.Sink c.args.out.now c.watch.new.out in
    let later = writing g.O.Sink c.watch.new.out c.write_history-written.new.out in
    let whole = writing g.O.Sink c.args.out.now c.write_history-written.new.out in
    let left = c.in_ok-watched.watched in
    let facts = c.in_ok-watched.ensures.watched in
    let legal = subst (λ (m : CoreView). IsLegal m.plant m.limit m.history) c.drop-2.view_is
    c.drop-2.invariant.legal in
    let all = sym c.has_all_frames.ensures ∙ c.if-not-has_all_frames.false in
    let ending = c.in-Some-ending.ending in
    let are = are-ended left.ends left.is_whole ending
    (sym c.ending_of-ending.ensures ∙ c.in-Some-ending.is) in
    let text = told left.core.plant left.core.history in
    whole-told c.args.plant c.args.workers left.core left.ends left.is_whole sensors operators out
    facts legal
    ending are later whole all refl refl refl (status_of ending c.has_lost_cell-is_lost.result)
    (ends-whole c.write_history-written.result later text c.in_ok-written.field-0 c.in_ok-written.was
    c.write_history-written.ensures)
    (ap (status_of ending) c.has_lost_cell-is_lost.ensures)

pub returns-clause-full : goal.returns-clause-full
returns-clause-full g c = λ full.
    let sensors = passed g.B.Source c.args.second.now c.watch.new.second in
    let operators = passed g.C.Source c.args.third.now c.watch.new.third in
    let out = writing g.O.Sink c.args.out.now c.watch.new.out in
    let left = c.in_ok-watched.watched in
    let facts = c.in_ok-watched.ensures.watched in
    let legal = subst (λ (m : CoreView). IsLegal m.plant m.limit m.history) c.drop-2.view_is
    c.drop-2.invariant.legal in
    let ending = c.in-Some-ending.ending in
    let are = are-ended left.ends left.is_whole ending
    (sym c.ending_of-ending.ensures ∙ c.in-Some-ending.is) in
    gave-full c.args.plant c.args.workers left.core left.ends left.is_whole sensors operators out
    facts legal
    ending are full
