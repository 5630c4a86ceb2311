-- The control loop's pass, the operators' and those of the seats.
use Rattle.std.proofs.Common.{[], ◌∷◌, map}
use Rattle.turn_lock.specs.Passes.{ended_of}
use Rattle.watch_session.specs.Crews.{ended_at}
use Rattle.watch_session.proofs.Roots.{took-more, took-one}
use Rattle.watch_session.proofs.callers.take_all_back.Goals as goal

pub returns-clause-took : goal.returns-clause-took
returns-clause-took g c =
    let root = c.args.root.now in
    let one = c.take_back.new.root in
    let two = c.take_back-2.new.root in
    let new = c.take_seats_back.new.root in
    let control = c.args.control.pass in
    let orders = c.args.orders.pass in
    let seats = map ended_at c.args.crew.seats.items in
    took-more root one new (ended_of control.shown ∷ []) (ended_of orders.shown ∷ seats)
    (took-one root one control c.take_back.ensures.root c.take_back.ensures.fewer
    c.take_back.ensures.this c.take_back.ensures.rest)
    (took-more one two new (ended_of orders.shown ∷ []) seats
    (took-one one two orders c.take_back-2.ensures.root c.take_back-2.ensures.fewer
    c.take_back-2.ensures.this c.take_back-2.ensures.rest) c.take_seats_back.ensures.took)
