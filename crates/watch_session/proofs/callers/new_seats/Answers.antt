-- One seat more each round, with the root's next number.
use Rattle.std.proofs.Common.{◌≡◌, ℕ, ◌+◌, List, [], ◌∷◌, length, sym, ◌∙◌, ap, subst, arith}
use Rattle.std.proofs.lemmas.List.{length-append}
use Rattle.std.proofs.lemmas.List.Elements.{All-nil}
use Rattle.plant_book.specs.Books.{BookShown}
use Rattle.watch_session.specs.Crews.{AreNewFrom, AreSeatsOf, IsSeatOf, with_seats}
use Rattle.watch_session.specs.declared.crew.Seat.{Seat}
use Rattle.watch_session.proofs.Crews.{new-more, seats-more, seats-none, seats-of-more}
use Rattle.watch_session.proofs.callers.new_seats.Goals as goal

pub loop-worker-init : goal.loop-worker-init
loop-worker-init g c =
    let book = c.args.shared.now.book.now in
    let jobs = c.args.shared.now.jobs.now in
    record {
      of = c.requires.of;
      own = c.requires.own;
      root = seats-none c.args.root.now;
      seats = subst (AreSeatsOf book jobs) (sym c.requires.empty) (All-nil (IsSeatOf book jobs));
      new = subst (AreNewFrom c.args.root.now.shown.next) (sym c.requires.empty) tt;
      count = ap (λ (seats : List Seat). length seats) c.requires.empty;
      capacity = c.requires.capacity;
    }

pub new_seat-requires-clause-of : goal.new_seat-requires-clause-of
new_seat-requires-clause-of g c = c.loop-worker.invariant.of

pub new_seat-requires-clause-own : goal.new_seat-requires-clause-own
new_seat-requires-clause-own g c = c.loop-worker.invariant.own

pub new_seat-requires-clause-root : goal.new_seat-requires-clause-root
new_seat-requires-clause-root g c =
    ap (λ (p : BookShown). p.shown.caller) c.loop-worker.invariant.root ∙ c.requires.root

pub new_seat-requires-clause-room : goal.new_seat-requires-clause-room
new_seat-requires-clause-room g c = omega (
  arith,
  ap (λ (p : BookShown). p.shown.next) c.loop-worker.invariant.root,
  c.requires.room,
  c.loop-worker-test.true,
)

pub new_seat-requires-clause-displays : goal.new_seat-requires-clause-displays
new_seat-requires-clause-displays g c = omega (
  arith,
  ap (λ (p : BookShown). p.displays) c.loop-worker.invariant.root,
  c.requires.displays,
  c.loop-worker-test.true,
)

pub loop-worker-preserved : goal.loop-worker-preserved
loop-worker-preserved g c =
    let book = c.args.shared.now.book.now in
    let jobs = c.args.shared.now.jobs.now in
    let old = c.args.root.now in
    let is = c.loop-worker.invariant in
    let seats = c.loop-worker.seats.items in
    let seat = c.new_seat.result in
    let items = c.push_reserved.ensures.items in
    let number : seat.pass.shown.caller ≡ old.shown.next + length seats =
    c.new_seat.ensures.number ∙ ap (λ (p : BookShown). p.shown.next) is.root
    ∙ ap (λ (n : ℕ). old.shown.next + n) (sym is.count) in
    record {
      of = c.new_seat.ensures.of;
      own = c.new_seat.ensures.own;
      root = seats-more old c.loop-worker.root c.new_seat.new.root c.loop-worker._worker is.root
          c.new_seat.ensures.root;
      seats = subst (AreSeatsOf book jobs) (sym items)
          (seats-of-more book jobs seats seat is.seats c.new_seat.ensures.is);
      new = subst (AreNewFrom old.shown.next) (sym items)
          (new-more old.shown.next seats seat is.new number c.new_seat.ensures.new);
      count = omega (
        arith,
        ap (λ (xs : List Seat). length xs) items,
        length-append seats (seat ∷ []),
        is.count,
      );
      capacity = omega (arith, is.capacity, c.push_reserved.ensures.capacity);
    }

pub returns-clause-count : goal.returns-clause-count
returns-clause-count g c = omega (
  arith,
  c.loop-worker.invariant.count,
  c.loop-worker-test.false,
  c.loop-worker.auto._worker-end,
)

pub returns-clause-root : goal.returns-clause-root
returns-clause-root g c =
    let all : c.loop-worker._worker ≡ c.args.workers = omega (
      arith,
      c.loop-worker-test.false,
      c.loop-worker.auto._worker-end,
    ) in
    c.loop-worker.invariant.root ∙ ap (λ (n : ℕ). with_seats c.args.root.now n) all
