-- The end of the stream, an item at which it ends, and a piece that passes the stream's limit.
use Rattle.std.proofs.Common.{◌≡◌, ◌<◌, ◌≤◌, List, ℕ, [], ◌++◌, length, take, drop, Option}
use Rattle.std.proofs.Common.{refl, Ok, Err, ap, arith, rules, subst, sym, ◌∙◌}
use Rattle.std.proofs.lemmas.Grind.{common_steps}
use Rattle.std.proofs.lemmas.List.{append-nil, length-append, length-take}
use Rattle.dp_io.specs.Streams.{Gave}
use Rattle.dp_io.specs.Shown.{reading, writing}
use Rattle.frame.specs.Frames.{StandsFor, items}
use Rattle.plant_model.specs.declared.limits.TheConstants.{MOST_STREAM_BYTES}
use Rattle.dp_sessions.specs.Sessions.{most_read}
use Rattle.dp_sessions.proofs.Given.{gave-more, take-limit}
use Rattle.dp_sessions.proofs.Streams.{emptied-after, gave-none, piece-split, rose-later}
use Rattle.watch_session.specs.Loops.{HasAnswered, TakesStream}
use Rattle.watch_session.specs.declared.stream.StreamEnd.{StreamEnd}
use Rattle.watch_session.proofs.Streams.{IsTold, stream-ended, stream-fault, stream-long}
use Rattle.watch_session.proofs.Streams.{stream-stopped}
use Rattle.watch_session.proofs.Taken.{has-none}
use Rattle.watch_session.proofs.looping.take_stream.Goals as goal

pub loop-count-init : goal.loop-count-init
loop-count-init g c = record {
  is = c.requires.is;
  read = refl;
  written = refl;
  fed = (
    [],
    gave-none (g.S.Source.left c.args.source.now),
    c.new-framer.ensures,
    has-none (g.O.Sink.taken c.args.out.now) c.args.caller.now.pass c.requires.new,
    refl,
  );
}

pub returns-then-count-eq0-clause-taken : goal.returns-then-count-eq0-clause-taken
returns-then-count-eq0-clause-taken g c =
    let source = reading g.S.Source c.args.source.now c.read.new.self in
    let out = writing g.O.Sink c.args.out.now c.take_end.new.out in
    let fed = c.loop-count.invariant.fed in
    let piece : List ℕ = c.read.new.into in
    let none = c.if-count-eq0.true in
    let all = gave-more _ _ _ fed.0 (take c.in-Ok.count piece) fed.1 c.in-Ok.ensures.moved in
    let given : Gave source.before source.after fed.0 =
    subst (λ (xs : List ℕ). Gave source.before source.after xs)
    (ap (λ (n : ℕ). fed.0 ++ take n piece) none ∙ append-nil fed.0) all in
    let some : 0 < length c.loop-count.piece =
    first_of (omega arith, search rules, grind (arith, common_steps)) in
    let emptied = emptied-after _ _ (take c.in-Ok.count piece) c.in-Ok.ensures.moved
    (c.in-Ok.ensures.end (ap Ok none) some) in
    subst (λ (end : StreamEnd). TakesStream end source out c.take_end.new.caller.pass)
    (sym c.end_of.ensures)
    (stream-ended c.take_end.result source out (g.O.Sink.taken c.loop-count.out)
    c.loop-count.caller.pass c.take_end.new.caller.pass c.loop-count.framer fed.0 given emptied
    (c.in-Ok.ensures.same ∙ c.loop-count.invariant.read)
    (λ e. rose-later _ (g.O.Sink.faults c.loop-count.out) _
    (omega (arith, c.loop-count.invariant.written)) (c.take_end.ensures.output.failed e))
    fed.2 fed.3 c.take_end.ensures.taken)

pub returns-in-Err-clause-taken : goal.returns-in-Err-clause-taken
returns-in-Err-clause-taken g c =
    let source = reading g.S.Source c.args.source.now c.read.new.self in
    let out = writing g.O.Sink c.args.out.now c.take_bytes.new.out in
    let fed = c.loop-count.invariant.fed in
    let piece : List ℕ = c.read.new.into in
    let count : ℕ = c.in-Ok.count in
    let part : ℕ = c.min.result in
    let less : part ≤ count = omega (arith, c.min.ensures) in
    let given = gave-more _ _ _ fed.0 (take count piece) fed.1 c.in-Ok.ensures.moved in
    let short : length (take count piece) ≤ most_read =
    omega (arith, length-take count piece, c.in-Ok.ensures.within, c.loop-count.auto) in
    let end = c.in-Err.end in
    let told : IsTold end source out = record {
      read = c.in-Ok.ensures.same ∙ c.loop-count.invariant.read;
      failed = λ e. rose-later _ (g.O.Sink.faults c.loop-count.out) _
          (omega (arith, c.loop-count.invariant.written))
          (c.in-Err.ensures.output.failed (ap Err e));
    } in
    stream-stopped end source out c.take_bytes.new.caller.pass fed.0 (take count piece)
    (take part piece) (drop part (take count piece)) given (piece-split piece part count less) short
    told (c.in-Err.ensures.taken out.before fed.0 fed.2 fed.3)

pub returns-then-count-room-clause-taken : goal.returns-then-count-room-clause-taken
returns-then-count-room-clause-taken g c =
    let source = reading g.S.Source c.args.source.now c.read.new.self in
    let out = writing g.O.Sink c.args.out.now c.take_bytes.new.out in
    let fed = c.loop-count.invariant.fed in
    let piece : List ℕ = c.read.new.into in
    let count : ℕ = c.in-Ok.count in
    let part : ℕ = c.min.result in
    let room : ℕ = c.loop-count.room in
    let given = gave-more _ _ _ fed.0 (take count piece) fed.1 c.in-Ok.ensures.moved in
    let short : length (take count piece) ≤ most_read =
    omega (arith, length-take count piece, c.in-Ok.ensures.within, c.loop-count.auto) in
    let long : MOST_STREAM_BYTES < length (fed.0 ++ take count piece) =
    omega (
      arith,
      length-append fed.0 (take count piece),
      length-take count piece,
      c.in-Ok.ensures.within,
      fed.4,
    ) in
    let taken = c.in_default-take_bytes.ensures.taken out.before fed.0 fed.2 fed.3 in
    let same : room ≡ part = omega (arith, c.min.ensures, c.if-count-room.true) in
    let front = take-limit MOST_STREAM_BYTES fed.0 piece room count fed.4 (omega arith)
    ∙ ap (λ (n : ℕ). fed.0 ++ take n piece) same in
    stream-long source out c.take_bytes.new.caller.pass fed.0 (take count piece) (take part piece)
    given long front short (c.in-Ok.ensures.same ∙ c.loop-count.invariant.read) taken.1

pub loop-count-preserved : goal.loop-count-preserved
loop-count-preserved g c =
    let fed = c.loop-count.invariant.fed in
    let piece : List ℕ = c.read.new.into in
    let count : ℕ = c.in-Ok.count in
    let part : ℕ = c.min.result in
    let before = g.O.Sink.taken c.args.out.now in
    let after = g.O.Sink.taken c.take_bytes.new.out in
    let taken = c.in_default-take_bytes.ensures.taken before fed.0 fed.2 fed.3 in
    let same : part ≡ count = omega (arith, c.min.ensures, c.if-count-room.false) in
    let all = subst (λ (n : ℕ). StandsFor c.take_bytes.new.framer (fed.0 ++ take n piece)
    × HasAnswered before after c.take_bytes.new.caller.pass (items (fed.0 ++ take n piece))) same
    taken in
    record {
      is = c.take_bytes.ensures.stays;
      read = c.in-Ok.ensures.same ∙ c.loop-count.invariant.read;
      written = c.in_default-take_bytes.ensures.output.no_fault (λ e. cc)
          ∙ c.loop-count.invariant.written;
      fed = (
        fed.0 ++ take count piece,
        gave-more _ _ _ fed.0 (take count piece) fed.1 c.in-Ok.ensures.moved,
        all.0,
        all.1,
        omega (
          arith,
          length-append fed.0 (take count piece),
          length-take count piece,
          c.in-Ok.ensures.within,
          c.if-count-room.false,
          fed.4,
        ),
      );
    }

pub returns-clause-taken : goal.returns-clause-taken
returns-clause-taken g c =
    let source = reading g.S.Source c.args.source.now c.read.new.self in
    let out = writing g.O.Sink c.args.out.now c.loop-count.out in
    let fed = c.loop-count.invariant.fed in
    let failed = c.in_default.ensures in
    let given : Gave source.before source.after fed.0 =
    subst (λ (after : Option (List ℕ)). Gave source.before after fed.0) (sym failed.kept) fed.1 in
    stream-fault source out c.loop-count.caller.pass fed.0 given
    (rose-later _ (g.S.Source.faults c.loop-count.source) _
    (omega (arith, c.loop-count.invariant.read)) failed.failed) fed.3
