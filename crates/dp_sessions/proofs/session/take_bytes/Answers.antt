-- One more byte of the stream, and the item that it may complete, at which the stream may end.
use Rattle.std.proofs.Common.{◌≡◌, List, ℕ, [], ◌∷◌, ◌++◌, Option, take, sym, ◌∙◌, ap, arith}
use Rattle.std.proofs.Common.{subst}
use Rattle.std.proofs.lemmas.List.{append-nil, take_all}
use Rattle.frame.specs.Frames.{StandsFor, items}
use Rattle.frame.specs.declared.item.Item.{Item}
use Rattle.plant_core.specs.Machine.{CoreView}
use Rattle.dp_io.specs.Shown.{writing}
use Rattle.dp_sessions.specs.Steps.{HasAnswered, IsRunning, TakesItem}
use Rattle.dp_sessions.specs.declared.session.Ending.{Ending}
use Rattle.std.proofs.lemmas.Result.{err_from_is_err_and}
use Rattle.dp_sessions.proofs.Begun.{begun-more}
use Rattle.dp_sessions.proofs.Fronts.{items-front}
use Rattle.dp_sessions.proofs.Taken.{has-more, items-byte, none-where, stops-where, taken-more}
use Rattle.dp_sessions.proofs.session.take_bytes.Goals as goal
use Rattle.dp_sessions.proofs.session.take_bytes.Goals.{in-Some+in_ok-ending+else-is_some}
use Rattle.dp_sessions.proofs.session.take_bytes.Goals.{in_default}

pub returns-then-is_some-clause-taken : goal.returns-then-is_some-clause-taken
returns-then-is_some-clause-taken g c = λ start fed stands has.
    let i = c.loop-byte.byte-index in
    let bytes = c.args.bytes.now in
    let before = c.loop-byte.invariant.taken start fed stands has in
    let all = fed ++ take i bytes in
    let out = writing g.S.Sink c.loop-byte.out c.take_item.new.out in
    stops-where c.in_ok-ending.ending start c.loop-byte.core c.take_item.new.core c.feed.new.self
    (items all) c.in-Some.item out fed bytes (sym c.is_some.ensures ∙ c.if-is_some.true) before.1
    c.in_ok-ending.ensures.taken (items-front fed (take i bytes))
    (items-byte fed bytes i c.in-Some.item c.loop-byte-test.true
    (c.in-Some.ensures.items all before.0))

pub loop-byte-preserved : goal.loop-byte-preserved
loop-byte-preserved g c =
    let i = c.loop-byte.byte-index in
    let bytes = c.args.bytes.now in
    let old = c.loop-byte.core in
    elim c.match-feed.branch [
      | in-Some+in_ok-ending+else-is_some w ↦
          let new = w.take_item.new.core in
          let item = w.in-Some.item in
          let out = writing g.S.Sink c.loop-byte.out w.take_item.new.out in
          let none = none-where w.in_ok-ending.ending (sym w.is_some.ensures ∙ w.if-is_some.false) in
          let takes = subst (λ (e : Option Ending). TakesItem e old new item out) none
          w.in_ok-ending.ensures.taken in
          record {
            running = subst IsRunning (sym w.core-is) takes.1.running;
            plant = ap (λ (m : CoreView). m.plant) w.core-is ∙ w.take_item.ensures.plant
                ∙ c.loop-byte.invariant.plant;
            limit = ap (λ (m : CoreView). m.limit) w.core-is ∙ w.take_item.ensures.limit
                ∙ c.loop-byte.invariant.limit;
            same = ap g.S.Sink.faults w.out-is
                ∙ w.in_ok-ending.ensures.no_fault (λ e. cc (none, e))
                ∙ c.loop-byte.invariant.same;
            taken = λ start fed stands has.
                let before = c.loop-byte.invariant.taken start fed stands has in
                let all = fed ++ take i bytes in
                let more = has-more start old new (items all) item out before.1 takes in
                let shown_more : HasAnswered start (g.S.Sink.taken c.match-feed.out) c.match-feed.core
                (items all ++ item ∷ []) =
                rw (w.out-is, w.core-is) more in
                taken-more start (g.S.Sink.taken c.match-feed.out) c.match-feed.core c.feed.new.self
                fed bytes i (item ∷ []) c.loop-byte-test.true (c.feed.ensures.stands all before.0)
                (w.in-Some.ensures.items all before.0) shown_more;
          }
      | in_default w ↦ record {
        running = subst IsRunning (sym w.core-is) c.loop-byte.invariant.running;
        plant = ap (λ (m : CoreView). m.plant) w.core-is ∙ c.loop-byte.invariant.plant;
        limit = ap (λ (m : CoreView). m.limit) w.core-is ∙ c.loop-byte.invariant.limit;
        same = ap g.S.Sink.faults w.out-is ∙ c.loop-byte.invariant.same;
        taken = λ start fed stands has.
            let before = c.loop-byte.invariant.taken start fed stands has in
            let all = fed ++ take i bytes in
            let same : HasAnswered start (g.S.Sink.taken c.match-feed.out) c.match-feed.core
            (items all) = rw (w.out-is, w.core-is) before.1 in
            taken-more start (g.S.Sink.taken c.match-feed.out) c.match-feed.core c.feed.new.self fed
            bytes i [] c.loop-byte-test.true (c.feed.ensures.stands all before.0)
            (w.in_default.ensures.items all before.0)
            (subst (λ (xs : List Item). HasAnswered start (g.S.Sink.taken c.match-feed.out)
            c.match-feed.core xs) (sym (append-nil (items all))) same);
      }
    ]

pub returns-clause-taken : goal.returns-clause-taken
returns-clause-taken g c = λ start fed stands has.
    let i = c.loop-byte.byte-index in
    let bytes : List ℕ = c.args.bytes.now in
    let whole : take i bytes ≡ bytes = take_all i bytes (omega (arith, c.loop-byte-test.false)) in
    let taken = c.loop-byte.invariant.taken start fed stands has in (
      subst (λ (t : List ℕ). StandsFor c.loop-byte.framer (fed ++ t)) whole taken.0,
      subst (λ (t : List ℕ). HasAnswered start (g.S.Sink.taken c.loop-byte.out) c.loop-byte.core
          (items (fed ++ t))) whole taken.1,
    )

pub returns-in_err-ending-clause-begun : goal.returns-in_err-ending-clause-begun
returns-in_err-ending-clause-begun g c =
    let i = c.loop-byte.byte-index in
    let bytes = c.args.bytes.now in
    let item = c.in-Some.item in
    let failed = err_from_is_err_and c.from_residual.result c.from_residual.ensures.1 in
    rw failed.1 (λ start fed stands has.
    let before = c.loop-byte.invariant.taken start fed stands has in
    let all = items (fed ++ take i bytes) in
    begun-more start (g.S.Sink.taken c.take_item.new.out) c.take_item.new.core
    (all ++ item ∷ []) (items (fed ++ bytes))
    (c.in_err-ending.ensures.begun start all before.1)
    (items-byte fed bytes i item c.loop-byte-test.true
    (c.in-Some.ensures.items (fed ++ take i bytes) before.0)))
