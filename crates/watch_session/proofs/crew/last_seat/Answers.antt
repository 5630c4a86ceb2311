-- The last seat and those before it are as all were.
use Rattle.watch_session.specs.Crews.{IsSeatOf}
use Rattle.watch_session.proofs.Crews.{before-last, last-at, last-is}
use Rattle.watch_session.proofs.crew.last_seat.Goals as goal

pub returns-clause-seat : goal.returns-clause-seat
returns-clause-seat g c =
    last-is (IsSeatOf c.args._book.now c.args._jobs.now)
    c.args.seats.now.items c.pop.new.self.items c.pop.result c.pop.ensures.items c.requires

pub returns-clause-front : goal.returns-clause-front
returns-clause-front g c =
    last-at c.args.seats.now.items c.pop.new.self.items c.pop.result c.pop.ensures.items

pub returns-clause-rest : goal.returns-clause-rest
returns-clause-rest g c =
    before-last (IsSeatOf c.args._book.now c.args._jobs.now)
    c.args.seats.now.items c.pop.new.self.items c.pop.result c.pop.ensures.items c.requires
