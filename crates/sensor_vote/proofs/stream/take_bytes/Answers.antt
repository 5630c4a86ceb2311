-- One more line of the stream, and the item that it may complete, at which writing may stop.
use Rattle.std.proofs.Common.{◌≡◌, ◌+◌, ◌-◌, ◌^◌, ◌<◌, List, ℕ, [], ◌∷◌, ◌++◌, length, sym, ◌∙◌}
use Rattle.std.proofs.Common.{append_assoc, arith, subst, ap, refl, Option}
use Rattle.std.proofs.lemmas.Bool.Decides.{nat_tests}
use Rattle.std.proofs.lemmas.List.{append-nil, length-append}
use Rattle.std.proofs.lemmas.Result.{err_from_is_err_and}
use Rattle.std.specs.Option.{option_to_list}
use Rattle.dp_io.specs.Shown.{writing}
use Rattle.frame.specs.Frames.{StandsFor, items}
use Rattle.frame.specs.declared.item.Item.{Item}
use Rattle.sensor_vote.specs.Steps.{HasWritten}
use Rattle.sensor_vote.proofs.Heards.{counts-up}
use Rattle.sensor_vote.proofs.Streams.{piece-more, piece-whole, stops-among, stops-at}
use Rattle.sensor_vote.proofs.Streams.{written-more, written-part}
use Rattle.sensor_vote.proofs.stream.take_bytes.Goals as goal

pub loop-rest-init : goal.loop-rest-init
loop-rest-init g c = record {
  same = refl;
  taken = (
    [],
    refl,
    λ most has. counts-up c.args.watch.now most _ (omega arith) has,
    λ fed stands. subst (λ (t : List ℕ). StandsFor c.args.framer.now t) (sym (append-nil fed)) stands,
    λ start fed stands has.
        subst (λ (t : List ℕ). HasWritten c.args.report start (g.S.Sink.taken c.args.out.now)
        c.args.watch.now (items t)) (sym (append-nil fed)) has,
  );
}

pub tell-requires : goal.tell-requires
tell-requires g c =
    let few = 2 ^ 32 - 2 - length c.args.bytes.now in
    let taken = c.loop-rest.invariant.taken in
    let rest : List ℕ = c.loop-rest.rest.now in
    counts-up c.loop-rest.watch (few + length taken.0) _
    (omega (arith, length-append taken.0 rest, ap length taken.1, c.requires.short))
    (taken.2 few c.requires.counts)

pub loop-rest-preserved-in-Continue-1 : goal.loop-rest-preserved-in-Continue-1
loop-rest-preserved-in-Continue-1 g c =
    let taken = c.loop-rest.invariant.taken in
    let bytes : List ℕ = taken.0 in
    let rest : List ℕ = c.loop-rest.rest.now in
    let left : List ℕ = c.feed_line-item.result.1.now in
    let feeds = c.feed_line-item.ensures.feeds in
    let front : List ℕ = feeds.front in
    let item = c.in-Some.item in
    let new = c.tell.new.self in
    let out = writing g.S.Sink c.loop-rest.out c.tell.new.out in
    let some : 0 < length rest = grind (arith, nat_tests) in
    let fewer : length left < length rest = c.feed_line-item.ensures.fewer some in
    record {
      same = c.in_ok-tell.ensures.none_failed ∙ c.loop-rest.invariant.same;
      taken = (
        bytes ++ front,
        piece-more c.args.bytes.now bytes front left rest taken.1 feeds.split,
        λ most has.
            counts-up new (most + length bytes + 1) _
            (omega (
              arith,
              fewer,
              length-append bytes front,
              length-append front left,
              ap length feeds.split,
            ))
            (c.tell.ensures.counts (most + length bytes) (taken.2 most has)),
        λ fed stands.
            subst (λ (t : List ℕ). StandsFor c.feed_line-item.new.self t)
            (append_assoc fed bytes front)
            (feeds.stands (fed ++ bytes) (taken.3 fed stands)),
        λ start fed stands has.
            let all : List Item = items (fed ++ bytes) in
            let before = taken.4 start fed stands has in
            let gave = feeds.gives (fed ++ bytes) (taken.3 fed stands)
            ∙ ap (λ (given : Option Item). all ++ option_to_list given) c.in-Some.is in
            written-part c.args.report start (g.S.Sink.taken c.tell.new.out) new fed bytes front
            (item ∷ []) gave
            (written-more c.args.report start out c.loop-rest.watch new all item before
            (c.tell.ensures.heard all before.heard)
            (c.in_ok-tell.ensures.sent all before.heard).whole.0),
      );
    }

pub loop-rest-preserved : goal.loop-rest-preserved
loop-rest-preserved g c =
    let taken = c.loop-rest.invariant.taken in
    let bytes : List ℕ = taken.0 in
    let rest : List ℕ = c.loop-rest.rest.now in
    let left : List ℕ = c.feed_line-item.result.1.now in
    let feeds = c.feed_line-item.ensures.feeds in
    let front : List ℕ = feeds.front in
    record {
      same = c.loop-rest.invariant.same;
      taken = (
        bytes ++ front,
        piece-more c.args.bytes.now bytes front left rest taken.1 feeds.split,
        λ most has.
            counts-up c.loop-rest.watch (most + length bytes) _
            (omega (arith, length-append bytes front)) (taken.2 most has),
        λ fed stands.
            subst (λ (t : List ℕ). StandsFor c.feed_line-item.new.self t)
            (append_assoc fed bytes front)
            (feeds.stands (fed ++ bytes) (taken.3 fed stands)),
        λ start fed stands has.
            let all : List Item = items (fed ++ bytes) in
            let now = g.S.Sink.taken c.loop-rest.out in
            let before = taken.4 start fed stands has in
            let gave = feeds.gives (fed ++ bytes) (taken.3 fed stands)
            ∙ ap (λ (given : Option Item). all ++ option_to_list given) c.in_default.is in
            written-part c.args.report start now c.loop-rest.watch fed bytes front [] gave
            (subst (λ (xs : List Item). HasWritten c.args.report start now c.loop-rest.watch xs)
            (sym (append-nil all)) before),
      );
    }

pub returns-in_err-tell-clause-stopped : goal.returns-in_err-tell-clause-stopped
returns-in_err-tell-clause-stopped g c =
    let taken = c.loop-rest.invariant.taken in
    let bytes : List ℕ = taken.0 in
    let feeds = c.feed_line-item.ensures.feeds in
    let left : List ℕ = c.feed_line-item.result.1.now in
    let item = c.in-Some.item in
    let out = writing g.S.Sink c.loop-rest.out c.tell.new.out in
    let failed = err_from_is_err_and c.from_residual.result c.from_residual.ensures.1 in
    rw failed.1 (λ start fed stands has.
    let all : List Item = items (fed ++ bytes) in
    let before = taken.4 start fed stands has in
    let gave = feeds.gives (fed ++ bytes) (taken.3 fed stands)
    ∙ ap (λ (given : Option Item). all ++ option_to_list given) c.in-Some.is in
    stops-among c.args.report start (g.S.Sink.taken c.tell.new.out) fed c.args.bytes.now bytes
    feeds.front left item
    (piece-more c.args.bytes.now bytes feeds.front left c.loop-rest.rest.now taken.1 feeds.split) gave
    (stops-at c.args.report start out c.loop-rest.watch all item before
    (c.in_err-tell.ensures.sent all before.heard).part.0))

pub returns-clause-written : goal.returns-clause-written
returns-clause-written g c = λ start fed stands has.
    let taken = c.loop-rest.invariant.taken in
    let rest : List ℕ = c.loop-rest.rest.now in
    let none : length rest ≡ 0 = grind (arith, nat_tests) in
    subst (λ (t : List ℕ). HasWritten c.args.report start (g.S.Sink.taken c.loop-rest.out)
    c.loop-rest.watch (items (fed ++ t))) (piece-whole taken.0 rest c.args.bytes.now none taken.1)
    (taken.4 start fed stands has)
