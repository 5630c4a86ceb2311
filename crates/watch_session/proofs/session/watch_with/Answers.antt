-- What the root has given at each step, until all passes are back.
use Rattle.std.proofs.Common.{ℕ, ◌+◌, subst}
use Rattle.watch_session.specs.Crews.{AreNewFrom}
use Rattle.watch_session.proofs.Crews.{worked-of}
use Rattle.watch_session.proofs.Publishing.{publishes-passing}
use Rattle.watch_session.proofs.Roots.{given-goes, given-none, given-one, given-seats}
use Rattle.watch_session.proofs.Watching.{has-watched}
use Rattle.watch_session.proofs.session.watch_with.Goals as goal

pub new_caller-control-requires-clause-root : goal.new_caller-control-requires-clause-root
new_caller-control-requires-clause-root g c =
    (given-none _ _ c.args.root.now c.requires.fresh).is_root

pub new_caller-orders-requires-clause-root : goal.new_caller-orders-requires-clause-root
new_caller-orders-requires-clause-root g c =
    (given-one 0 _ c.new_caller-control.new.root c.new_caller-control.ensures.root
    (given-none _ _ c.args.root.now c.requires.fresh)).is_root

pub take_all_back-requires-clause-seats : goal.take_all_back-requires-clause-seats
take_all_back-requires-clause-seats g c =
    worked-of c.args.shared.now.book.now c.args.shared.now.jobs.now c.new_seats-seats.result.items
    c.work_through-ends.new.crew.seats.items c.new_seats-seats.ensures.seats
    c.work_through-ends.ensures.crew

pub returns-clause-watched : goal.returns-clause-watched
returns-clause-watched g c =
    let book = c.args.shared.now.book.now in
    let jobs = c.args.shared.now.jobs.now in
    let workers = c.args.workers in
    let none = given-none book.lock book.base c.args.root.now c.requires.fresh in
    let one = given-one 0 _ c.new_caller-control.new.root c.new_caller-control.ensures.root none in
    let two = given-one 1 _ c.new_caller-orders.new.root c.new_caller-orders.ensures.root one in
    let all = given-seats 2 workers _ c.new_seats-seats.new.root c.new_seats-seats.ensures.root two in
    let looked = given-goes (2 + workers) _ c.latest-opening.new.pass
    (publishes-passing _ _ c.latest-opening.ensures.passes) all in
    let done = given-goes (2 + workers) _ c.work_through-ends.new.root
    c.work_through-ends.ensures.root looked in
    let seats = c.new_seats-seats.result.items in
    has-watched book jobs workers c.work_through-ends.result _ _ _ c.work_through-ends.new.root
    c.take_all_back.new.root c.work_through-ends.new.control c.work_through-ends.new.orders seats
    c.work_through-ends.new.crew.seats.items done c.take_all_back.ensures.of
    c.work_through-ends.ensures.control_stays c.work_through-ends.ensures.orders_stays
    c.work_through-ends.ensures.control c.work_through-ends.ensures.orders
    (subst (λ (n : ℕ). AreNewFrom n seats) two.next c.new_seats-seats.ensures.new)
    c.work_through-ends.ensures.crew c.new_seats-seats.ensures.count c.take_all_back.ensures.took
    c.take_all_back.ensures.control c.take_all_back.ensures.orders
