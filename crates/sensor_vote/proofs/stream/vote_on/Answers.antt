-- The stream was read and its items written, and then what stands after them.
use Rattle.std.proofs.Common.{inr}
use Rattle.std.proofs.lemmas.Result.{err_from_is_err_and}
use Rattle.dp_io.specs.Shown.{reading, writing}
use Rattle.sensor_vote.proofs.Streams.{after-stopped, whole-written}
use Rattle.sensor_vote.proofs.stream.vote_on.Goals as goal

pub returns-in_err-tell_end-clause-part : goal.returns-in_err-tell_end-clause-part
returns-in_err-tell_end-clause-part g c =
    let source = reading g.S.Source c.args.source.now c.take_stream.new.source in
    let out = writing g.O.Sink c.args.out.now c.take_stream.new.out in
    let failed = err_from_is_err_and c.from_residual-in_err-tell_end.result c.from_residual-in_err-tell_end.ensures.1 in
    let taken = c.in_ok-ending.ensures.taken in
    rw failed.1 (inr (after-stopped c.args.report c.in_ok-ending.ending source out
    c.take_stream.new.watch (g.O.Sink.taken c.tell_end.new.out)
    (g.O.Sink.faults c.tell_end.new.out) taken
    (c.in_err-tell_end.ensures _ taken.written.heard).part.0))

pub returns-clause-whole : goal.returns-clause-whole
returns-clause-whole g c =
    let source = reading g.S.Source c.args.source.now c.take_stream.new.source in
    let out = writing g.O.Sink c.args.out.now c.take_stream.new.out in
    let taken = c.in_ok-ending.ensures.taken in
    whole-written c.args.report c.in_ok-ending.ending source out c.take_stream.new.watch
    (g.O.Sink.taken c.tell_end.new.out) (g.O.Sink.faults c.tell_end.new.out) taken
    (c.in_ok-tell_end.ensures _ taken.written.heard).whole
