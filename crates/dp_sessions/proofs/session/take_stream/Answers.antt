-- The end of the stream, an item at which it ends, and a piece that passes the stream's limit.
use Rattle.std.proofs.Common.{◌≡◌, ◌<◌, ◌≤◌, List, ℕ, [], ◌++◌, length, take, drop, Option}
use Rattle.std.proofs.Common.{Some, None, refl, Ok, ap, arith, rules, subst, sym, ◌∙◌, append_assoc}
use Rattle.std.proofs.lemmas.Grind.{common_steps}
use Rattle.std.proofs.lemmas.Result.{IfOk-weaker, err_from_is_err_and}
use Rattle.frame.specs.Frames.{items, items_end}
use Rattle.std.proofs.lemmas.List.{append-nil, length-append, length-take}
use Rattle.dp_io.specs.Streams.{Gave}
use Rattle.plant_model.specs.declared.limits.TheConstants.{MOST_STREAM_BYTES}
use Rattle.dp_io.specs.Shown.{reading, writing}
use Rattle.dp_sessions.specs.Sessions.{most_read}
use Rattle.dp_sessions.specs.Steps.{TakesBytes}
use Rattle.dp_sessions.specs.declared.session.Ending.{Ending}
use Rattle.dp_sessions.proofs.Given.{gave-more, take-limit}
use Rattle.dp_sessions.proofs.Streams.{IsAtEnd, emptied-after, gave-none, piece-split, rose-later}
use Rattle.dp_sessions.proofs.Streams.{stream-ended, stream-fault, stream-long, stream-stopped}
use Rattle.dp_sessions.proofs.Begun.{always-ok, begins-end, begun-more}
use Rattle.dp_sessions.proofs.Fronts.{split-begins}
use Rattle.dp_sessions.proofs.Taken.{has-none}
use Rattle.dp_sessions.proofs.session.take_stream.Goals as goal

pub loop-count-init : goal.loop-count-init
loop-count-init g c = record {
  running = c.requires.running;
  plant = refl;
  limit = refl;
  read = refl;
  written = refl;
  fed = (
    [],
    gave-none (g.S.Source.left c.args.source.now),
    c.new-framer.ensures,
    has-none (g.O.Sink.taken c.args.out.now) c.args.core.now c.requires.new,
    refl,
  );
}

pub returns-then-count-eq0-clause-taken : goal.returns-then-count-eq0-clause-taken
returns-then-count-eq0-clause-taken g c =
    let source =
    reading g.S.Source c.args.source.now c.read.new.self in
    let out = writing g.O.Sink c.args.out.now c.take_end.new.out in
    let fed = c.loop-count.invariant.fed in
    let piece : List ℕ = c.read.new.into in
    let none = c.if-count-eq0.true in
    let all = gave-more _ _ _ fed.0 (take c.in-Ok.count piece) fed.1 c.in-Ok.ensures.moved in
    let given : Gave source.before source.after fed.0 =
    subst (λ (xs : List ℕ). Gave source.before source.after xs)
    (ap (λ (n : ℕ). fed.0 ++ take n piece) none ∙ append-nil fed.0) all in
    let some : 0 < length c.loop-count.piece =
    first_of (omega arith, search rules, grind (arith, common_steps)) in
    let emptied = emptied-after _ _ (take c.in-Ok.count piece) c.in-Ok.ensures.moved
    (c.in-Ok.ensures.end (ap Ok none) some) in
    let limit = c.take_end.ensures.limit ∙ c.loop-count.invariant.limit ∙ c.requires.limit in
    stream-ended c.take_end.result source out (g.O.Sink.taken c.loop-count.out) c.loop-count.core
    c.take_end.new.core c.loop-count.framer fed.0 given emptied limit fed.2 fed.3
    c.take_end.ensures.running
    (λ e. rose-later _ (g.O.Sink.faults c.loop-count.out) _ (omega (arith, c.loop-count.invariant.written))
    (c.take_end.ensures.failed e)) c.take_end.ensures.taken

pub returns-in-Some-clause-taken : goal.returns-in-Some-clause-taken
returns-in-Some-clause-taken g c =
    let source =
    reading g.S.Source c.args.source.now c.read.new.self in
    let out = writing g.O.Sink c.args.out.now c.take_bytes.new.out in
    let fed = c.loop-count.invariant.fed in
    let piece : List ℕ = c.read.new.into in
    let count : ℕ = c.in-Ok.count in
    let part : ℕ = c.min.result in
    let less : part ≤ count = omega (arith, c.min.ensures) in
    let given = gave-more _ _ _ fed.0 (take count piece) fed.1 c.in-Ok.ensures.moved in
    let short : length (take count piece) ≤ most_read =
    omega (arith, length-take count piece, c.in-Ok.ensures.within, c.loop-count.auto) in
    let ending = c.in-Some.ending in
    let core = c.take_bytes.new.core in
    let at : IsAtEnd ending out core = record {
      limit = c.take_bytes.ensures.limit ∙ c.loop-count.invariant.limit ∙ c.requires.limit;
      running = c.in_ok-taken.ensures.running;
      failed = λ e. rose-later _ (g.O.Sink.faults c.loop-count.out) _
          (omega (arith, c.loop-count.invariant.written))
          (c.take_bytes.ensures.failed (c.in_ok-taken.was ∙ ap Ok (c.in-Some.is ∙ ap Some e)));
    } in
    let stopped = subst (λ (e : Option Ending).
    TakesBytes e out.before out.after core c.take_bytes.new.framer fed.0 (take part piece))
    c.in-Some.is (c.in_ok-taken.ensures.taken out.before fed.0 fed.2 fed.3) in
    stream-stopped ending source out core c.take_bytes.new.framer fed.0 (take count piece)
    (take part piece) (drop part (take count piece)) given
    (piece-split piece part count less) short at stopped

pub returns-then-count-room-clause-taken : goal.returns-then-count-room-clause-taken
returns-then-count-room-clause-taken g c =
    let source =
    reading g.S.Source c.args.source.now c.read.new.self in
    let out = writing g.O.Sink c.args.out.now c.take_bytes.new.out in
    let fed = c.loop-count.invariant.fed in
    let piece : List ℕ = c.read.new.into in
    let count : ℕ = c.in-Ok.count in
    let part : ℕ = c.min.result in
    let room : ℕ = c.loop-count.room in
    let given = gave-more _ _ _ fed.0 (take count piece) fed.1 c.in-Ok.ensures.moved in
    let short : length (take count piece) ≤ most_read =
    omega (arith, length-take count piece, c.in-Ok.ensures.within, c.loop-count.auto) in
    let long : MOST_STREAM_BYTES < length (fed.0 ++ take count piece) =
    omega (
      arith,
      length-append fed.0 (take count piece),
      length-take count piece,
      c.in-Ok.ensures.within,
      fed.4,
    ) in
    let core = c.take_bytes.new.core in
    let taken = subst (λ (e : Option Ending).
    TakesBytes e out.before out.after core c.take_bytes.new.framer fed.0 (take part piece))
    c.in_default-taken.is (c.in_ok-taken.ensures.taken out.before fed.0 fed.2 fed.3) in
    let same : room ≡ part = omega (arith, c.min.ensures, c.if-count-room.true) in
    let front = take-limit MOST_STREAM_BYTES fed.0 piece room count fed.4 (omega arith)
    ∙ ap (λ (n : ℕ). fed.0 ++ take n piece) same in
    stream-long source out core fed.0 (take count piece) (take part piece) given long front short
    c.in_ok-taken.ensures.running taken.1

pub loop-count-preserved : goal.loop-count-preserved
loop-count-preserved g c =
    let fed = c.loop-count.invariant.fed in
    let piece : List ℕ = c.read.new.into in
    let count : ℕ = c.in-Ok.count in
    let part : ℕ = c.min.result in
    let room : ℕ = c.loop-count.room in
    let before = g.O.Sink.taken c.args.out.now in
    let after = g.O.Sink.taken c.take_bytes.new.out in
    let core = c.take_bytes.new.core in
    let taken = subst (λ (e : Option Ending).
    TakesBytes e before after core c.take_bytes.new.framer fed.0 (take part piece))
    c.in_default-taken.is (c.in_ok-taken.ensures.taken before fed.0 fed.2 fed.3) in
    let same : part ≡ count = omega (arith, c.min.ensures, c.if-count-room.false) in
    let all = subst (λ (n : ℕ).
    TakesBytes None before after core c.take_bytes.new.framer fed.0 (take n piece)) same taken in
    record {
      running = c.in_ok-taken.ensures.running;
      plant = c.take_bytes.ensures.plant ∙ c.loop-count.invariant.plant;
      limit = c.take_bytes.ensures.limit ∙ c.loop-count.invariant.limit;
      read = c.in-Ok.ensures.same ∙ c.loop-count.invariant.read;
      written = c.in_ok-taken.ensures.no_fault (λ e. cc (c.in_default-taken.is, e))
          ∙ c.loop-count.invariant.written;
      fed = (
        fed.0 ++ take count piece,
        gave-more _ _ _ fed.0 (take count piece) fed.1 c.in-Ok.ensures.moved,
        all.0,
        all.1,
        omega (
          arith,
          length-append fed.0 (take count piece),
          length-take count piece,
          c.in-Ok.ensures.within,
          c.if-count-room.false,
          fed.4,
        ),
      );
    }

-- ---- where memory ran out

pub returns-in_err-taken-clause-begun : goal.returns-in_err-taken-clause-begun
returns-in_err-taken-clause-begun g c =
    let source = reading g.S.Source c.args.source.now c.read.new.self in
    let out = writing g.O.Sink c.args.out.now c.take_bytes.new.out in
    let fed = c.loop-count.invariant.fed in
    let piece : List ℕ = c.read.new.into in
    let count : ℕ = c.in-Ok.count in
    let part : ℕ = c.min.result in
    let less : part ≤ count = omega (arith, c.min.ensures) in
    let given = gave-more _ _ _ fed.0 (take count piece) fed.1 c.in-Ok.ensures.moved in
    let bytes = fed.0 ++ take count piece in
    let front = fed.0 ++ take part piece in
    let rest = drop part (take count piece) in
    let longer : bytes ≡ front ++ rest =
    ap (λ (t : List ℕ). fed.0 ++ t) (piece-split piece part count less)
    ∙ sym (append_assoc fed.0 (take part piece) rest) in
    let failed = err_from_is_err_and c.from_residual.result c.from_residual.ensures.1 in
    rw failed.1 (record {
      bytes = bytes;
      given = given;
      begun = begun-more out.before out.after c.take_bytes.new.core (items front)
          (items_end bytes) (c.in_err-taken.ensures.begun out.before fed.0 fed.2 fed.3)
          (split-begins front rest bytes longer);
    })

pub returns-then-count-eq0-clause-begun : goal.returns-then-count-eq0-clause-begun
returns-then-count-eq0-clause-begun g c =
    let source = reading g.S.Source c.args.source.now c.read.new.self in
    let out = writing g.O.Sink c.args.out.now c.take_end.new.out in
    let fed = c.loop-count.invariant.fed in
    let piece : List ℕ = c.read.new.into in
    let none = c.if-count-eq0.true in
    let all = gave-more _ _ _ fed.0 (take c.in-Ok.count piece) fed.1 c.in-Ok.ensures.moved in
    let given : Gave source.before source.after fed.0 =
    subst (λ (xs : List ℕ). Gave source.before source.after xs)
    (ap (λ (n : ℕ). fed.0 ++ take n piece) none ∙ append-nil fed.0) all in
    begins-end c.take_end.result source out (g.O.Sink.taken c.loop-count.out) c.loop-count.core
    c.take_end.new.core c.loop-count.framer fed.0 given fed.2 fed.3 c.take_end.ensures.begun

-- ---- no fault was passed over

pub returns-then-count-eq0-clause-read : goal.returns-then-count-eq0-clause-read
returns-then-count-eq0-clause-read g c = always-ok c.take_end.result _
    (λ ending other. c.in-Ok.ensures.same ∙ c.loop-count.invariant.read)

pub returns-then-count-eq0-clause-no_fault : goal.returns-then-count-eq0-clause-no_fault
returns-then-count-eq0-clause-no_fault g c = IfOk-weaker c.take_end.result _ _
    (λ ending same other. same other ∙ c.loop-count.invariant.written) c.take_end.ensures.no_fault

pub returns-clause-taken : goal.returns-clause-taken
returns-clause-taken g c =
    let source = reading g.S.Source c.args.source.now c.read.new.self in
    let out = writing g.O.Sink c.args.out.now c.loop-count.out in
    let fed = c.loop-count.invariant.fed in
    let failed = c.in_default.ensures in
    let given : Gave source.before source.after fed.0 =
    subst (λ (after : Option (List ℕ)). Gave source.before after fed.0) (sym failed.kept) fed.1 in
    stream-fault source out c.loop-count.core fed.0 given
    (rose-later _ (g.S.Source.faults c.loop-count.source) _
    (omega (arith, c.loop-count.invariant.read)) failed.failed)
    c.loop-count.invariant.running fed.3
