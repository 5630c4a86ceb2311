-- The damage of the stream's end was answered, or ended the stream.
use Rattle.dp_io.specs.Shown.{writing}
use Rattle.watch_session.proofs.Taken.{ends-item}
use Rattle.watch_session.proofs.looping.take_end.Goals as goal

pub returns-in-Some-clause-taken : goal.returns-in-Some-clause-taken
returns-in-Some-clause-taken g c = λ start fed stands has.
    ends-item c.take_item.result start (writing g.O.Sink c.args.out.now c.take_item.new.out)
    c.args.caller.now.pass c.take_item.new.caller.pass c.in-Some.item fed has
    c.take_item.ensures.taken (c.in-Some.ensures.items fed stands)
