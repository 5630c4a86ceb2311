-- The seats before the last, and then the last.
use Rattle.watch_session.proofs.Roots.{took-one, took-seats}
use Rattle.watch_session.proofs.callers.+take_seats_back.Goals as goal

pub returns-clause-took : goal.returns-clause-took
returns-clause-took g t c =
    took-seats c.args.root.now c.take_seats_back.new.root c.take_back.new.root c.args.seats.items
    c.pop.new.self.items c.in-Some.seat c.in-Some.ensures.items c.take_seats_back.ensures.took
    (took-one c.take_seats_back.new.root c.take_back.new.root c.in-Some.seat.pass
    c.take_back.ensures.root c.take_back.ensures.fewer c.take_back.ensures.this
    c.take_back.ensures.rest)
