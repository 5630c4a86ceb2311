-- The end of the stream, a byte too many, a read fault, and a write fault on the way.
use Rattle.std.proofs.Common.{◌≡◌, ◌+◌, ◌<◌, ◌≤◌, List, ℕ, [], ◌++◌, length, take, drop, refl, Ok}
use Rattle.std.proofs.Common.{ap, arith, rules, subst, sym, ◌∙◌}
use Rattle.std.proofs.lemmas.Grind.{common_steps}
use Rattle.std.proofs.lemmas.List.{append-nil, length-append, length-take}
use Rattle.std.proofs.lemmas.Result.{err_from_is_err_and}
use Rattle.dp_io.specs.Shown.{reading, writing}
use Rattle.dp_io.specs.Streams.{Gave}
use Rattle.frame.specs.Frames.{StandsFor, items}
use Rattle.plant_model.specs.declared.limits.TheConstants.{MOST_STREAM_BYTES}
use Rattle.sensor_vote.specs.Calls.{most_read}
use Rattle.sensor_vote.specs.Steps.{CountsTo, HasWritten}
use Rattle.sensor_vote.proofs.Streams.{emptied-after, gave-more, gave-none, inside-end, inside-piece}
use Rattle.sensor_vote.proofs.Streams.{piece-split, take-limit, written-none}
use Rattle.sensor_vote.proofs.stream.take_stream.Goals as goal

pub loop-count-init : goal.loop-count-init
loop-count-init g c = record {
  read = refl;
  wrote = refl;
  fed = (
    [],
    gave-none (g.S.Source.left c.args.source.now),
    c.new-framer.ensures,
    written-none c.args.report (g.O.Sink.taken c.args.out.now) c.args.watch.now
        c.requires.heard,
    refl,
    c.requires.counts,
  );
}

pub returns-then-count-eq0-clause-taken : goal.returns-then-count-eq0-clause-taken
returns-then-count-eq0-clause-taken g c =
    let source = reading g.S.Source c.args.source.now c.read.new.self in
    let out = writing g.O.Sink c.args.out.now c.take_end.new.out in
    let fed = c.loop-count.invariant.fed in
    let piece : List ℕ = c.read.new.into in
    let none = c.if-count-eq0.true in
    let all = gave-more _ _ _ fed.0 (take c.in-Ok.count piece) fed.1 c.in-Ok.ensures.moved in
    let given : Gave source.before source.after fed.0 =
    subst (λ (xs : List ℕ). Gave source.before source.after xs)
    (ap (λ (n : ℕ). fed.0 ++ take n piece) none ∙ append-nil fed.0) all in
    let some : 0 < length c.loop-count.piece =
    first_of (omega arith, search rules, grind (arith, common_steps)) in
    let emptied = emptied-after _ _ (take c.in-Ok.count piece) c.in-Ok.ensures.moved
    (c.in-Ok.ensures.end (ap Ok none) some) in
    record {
      bytes = fed.0;
      read = record {
        given = given;
        ends = (emptied, c.in-Ok.ensures.same ∙ c.loop-count.invariant.read);
      };
      written = c.in_ok-take_end.ensures.written out.before fed.0 fed.2 fed.3;
      none_failed = c.in_ok-take_end.ensures.none_failed ∙ c.loop-count.invariant.wrote;
    }

pub returns-in_err-take_end-clause-stopped : goal.returns-in_err-take_end-clause-stopped
returns-in_err-take_end-clause-stopped g c =
    let source = reading g.S.Source c.args.source.now c.read.new.self in
    let out = writing g.O.Sink c.args.out.now c.take_end.new.out in
    let fed = c.loop-count.invariant.fed in
    let piece : List ℕ = c.read.new.into in
    let none = c.if-count-eq0.true in
    let all = gave-more _ _ _ fed.0 (take c.in-Ok.count piece) fed.1 c.in-Ok.ensures.moved in
    let given : Gave source.before source.after fed.0 =
    subst (λ (xs : List ℕ). Gave source.before source.after xs)
    (ap (λ (n : ℕ). fed.0 ++ take n piece) none ∙ append-nil fed.0) all in
    let failed = err_from_is_err_and c.from_residual.result c.from_residual.ensures.1 in
    rw failed.1 (inside-end c.args.report source out fed.0 given (omega (arith, fed.4))
    (c.in-Ok.ensures.same ∙ c.loop-count.invariant.read)
    (c.in_err-take_end.ensures.stopped out.before fed.0 fed.2 fed.3))

pub returns-in_err-take_bytes-clause-stopped : goal.returns-in_err-take_bytes-clause-stopped
returns-in_err-take_bytes-clause-stopped g c =
    let source = reading g.S.Source c.args.source.now c.read.new.self in
    let out = writing g.O.Sink c.args.out.now c.take_bytes.new.out in
    let fed = c.loop-count.invariant.fed in
    let piece : List ℕ = c.read.new.into in
    let count : ℕ = c.in-Ok.count in
    let part : ℕ = c.min.result in
    let less : part ≤ count = omega (arith, c.min.ensures) in
    let given = gave-more _ _ _ fed.0 (take count piece) fed.1 c.in-Ok.ensures.moved in
    let short : length (take count piece) ≤ most_read =
    omega (arith, length-take count piece, c.in-Ok.ensures.within, c.loop-count.auto) in
    let failed = err_from_is_err_and c.from_residual-in_err-take_bytes.result c.from_residual-in_err-take_bytes.ensures.1 in
    rw failed.1 (inside-piece c.args.report source out fed.0 (take count piece) (take part piece)
    (drop part (take count piece)) given (piece-split piece part count less) short
    (omega (arith, fed.4)) (c.in-Ok.ensures.same ∙ c.loop-count.invariant.read)
    (c.in_err-take_bytes.ensures.stopped out.before fed.0 fed.2 fed.3))

pub returns-then-count-room-clause-taken : goal.returns-then-count-room-clause-taken
returns-then-count-room-clause-taken g c =
    let source = reading g.S.Source c.args.source.now c.read.new.self in
    let out = writing g.O.Sink c.args.out.now c.take_bytes.new.out in
    let fed = c.loop-count.invariant.fed in
    let piece : List ℕ = c.read.new.into in
    let count : ℕ = c.in-Ok.count in
    let part : ℕ = c.min.result in
    let room : ℕ = c.loop-count.room in
    let given = gave-more _ _ _ fed.0 (take count piece) fed.1 c.in-Ok.ensures.moved in
    let long : MOST_STREAM_BYTES < length (fed.0 ++ take count piece) =
    omega (
      arith,
      length-append fed.0 (take count piece),
      length-take count piece,
      c.in-Ok.ensures.within,
      c.if-count-room.true,
      fed.4,
    ) in
    let same : room ≡ part = omega (arith, c.min.ensures, c.if-count-room.true) in
    let front = take-limit MOST_STREAM_BYTES fed.0 piece room count fed.4
    (omega (arith, c.if-count-room.true)) ∙ ap (λ (n : ℕ). fed.0 ++ take n piece) same in
    record {
      bytes = fed.0 ++ take count piece;
      read = record {
        given = given;
        ends = (long, c.in-Ok.ensures.same ∙ c.loop-count.invariant.read);
      };
      written = subst (λ (t : List ℕ). HasWritten c.args.report out.before out.after
          c.take_bytes.new.watch (items t)) (sym front)
          (c.in_ok-take_bytes.ensures.written out.before fed.0 fed.2 fed.3);
      none_failed = c.in_ok-take_bytes.ensures.none_failed ∙ c.loop-count.invariant.wrote;
    }

pub loop-count-preserved : goal.loop-count-preserved
loop-count-preserved g c =
    let fed = c.loop-count.invariant.fed in
    let piece : List ℕ = c.read.new.into in
    let count : ℕ = c.in-Ok.count in
    let part : ℕ = c.min.result in
    let start = g.O.Sink.taken c.args.out.now in
    let after = g.O.Sink.taken c.take_bytes.new.out in
    let watch = c.take_bytes.new.watch in
    let same : part ≡ count = omega (arith, c.min.ensures, c.if-count-room.false) in
    let counted = c.in_ok-take_bytes.ensures.counts (length fed.0) fed.5 in
    let longer : length fed.0 + length (take part piece) ≡ length (fed.0 ++ take count piece) =
    omega (
      arith,
      length-append fed.0 (take count piece),
      ap (λ (n : ℕ). length (take n piece)) same,
    ) in
    record {
      read = c.in-Ok.ensures.same ∙ c.loop-count.invariant.read;
      wrote = c.in_ok-take_bytes.ensures.none_failed ∙ c.loop-count.invariant.wrote;
      fed = (
        fed.0 ++ take count piece,
        gave-more _ _ _ fed.0 (take count piece) fed.1 c.in-Ok.ensures.moved,
        subst (λ (n : ℕ). StandsFor c.take_bytes.new.framer (fed.0 ++ take n piece)) same
            (c.in_ok-take_bytes.ensures.stands fed.0 fed.2),
        subst (λ (n : ℕ). HasWritten c.args.report start after watch
            (items (fed.0 ++ take n piece))) same
            (c.in_ok-take_bytes.ensures.written start fed.0 fed.2 fed.3),
        omega (
          arith,
          length-append fed.0 (take count piece),
          length-take count piece,
          c.in-Ok.ensures.within,
          c.if-count-room.false,
          fed.4,
        ),
        subst (λ (n : ℕ). CountsTo watch n) longer counted,
      );
    }
