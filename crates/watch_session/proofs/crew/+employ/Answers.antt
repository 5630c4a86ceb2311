-- Each seat after its work.
use Rattle.std.proofs.Common.{List, ◌≡◌, subst, sym, ap, ◌∙◌, rules}
use Rattle.watch_session.specs.Crews.{AreWorked, IsWorked}
use Rattle.watch_session.specs.declared.crew.Seat.{Seat}
use Rattle.watch_session.specs.declared.crew.Worked.{Worked}
use Rattle.watch_session.proofs.Crews.{worked-more}
use Rattle.watch_session.proofs.crew.+employ.Goals as goal

pub returns-in-Ok-clause-worked : goal.returns-in-Ok-clause-worked
returns-in-Ok-clause-worked g t c =
    let seat_is : c.in-Ok.child.promise.0.value ≡ c.in-Some.seat =
    ap (λ (p : Worked). p.0.value) c.in-Ok.ensures.ok ∙ c.of.ensures in
    subst (λ (l : List Seat). AreWorked c.args.seats.items l) (sym c.push_reserved.ensures.items)
    (worked-more c.args.seats.items c.last_seat.new.seats.items c.in-Some.seat
    c.employ-seats.result.items c.join.result c.in-Some.ensures.front c.employ-seats.ensures.worked
    (subst (λ (old : Seat). IsWorked old c.join.result) seat_is c.join.ensures))

pub returns-in-Err-clause-worked : goal.returns-in-Err-clause-worked
returns-in-Err-clause-worked g t c =
    subst (λ (l : List Seat). AreWorked c.args.seats.items l)
    (sym c.push_reserved-in-Err.ensures.items)
    (worked-more c.args.seats.items c.last_seat.new.seats.items c.in-Some.seat
    c.employ-seats-in-Err.result.items c.spawn_with-in-Err.result c.in-Some.ensures.front
    c.employ-seats-in-Err.ensures.worked (search rules))
