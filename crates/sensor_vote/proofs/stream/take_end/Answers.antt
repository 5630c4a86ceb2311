-- The item of the stream's end, or none.
use Rattle.std.proofs.Common.{List, sym, subst, ◌∙◌}
use Rattle.std.proofs.lemmas.List.{append-nil}
use Rattle.dp_io.specs.Shown.{writing}
use Rattle.frame.specs.Frames.{items}
use Rattle.frame.specs.declared.item.Item.{Item}
use Rattle.sensor_vote.specs.Steps.{HasWritten}
use Rattle.sensor_vote.proofs.Streams.{end-stopped, end-written}
use Rattle.sensor_vote.proofs.stream.take_end.Goals as goal

pub returns-in-Some-clause-written : goal.returns-in-Some-clause-written
returns-in-Some-clause-written g c = end-written c.args.report c.tell.result
    (writing g.S.Sink c.args.out.now c.tell.new.out) c.args.watch.now c.tell.new.self
    c.in-Some.item c.args.framer.now c.tell.ensures.heard c.tell.ensures.sent
    c.in-Some.ensures.items

pub returns-in-Some-clause-stopped : goal.returns-in-Some-clause-stopped
returns-in-Some-clause-stopped g c = end-stopped c.args.report c.tell.result
    (writing g.S.Sink c.args.out.now c.tell.new.out) c.args.watch.now c.in-Some.item
    c.args.framer.now c.tell.ensures.sent c.in-Some.ensures.items

pub returns-in-None-clause-written : goal.returns-in-None-clause-written
returns-in-None-clause-written g c = λ start fed stands has.
    subst (λ (xs : List Item). HasWritten c.args.report start (g.S.Sink.taken c.args.out.now)
    c.args.watch.now xs)
    (sym (c.in-None.ensures.items fed stands ∙ append-nil (items fed))) has
