-- One more byte of the stream, and the item that it may complete, at which the stream may end.
use Rattle.std.proofs.Common.{◌≡◌, List, ℕ, [], ◌∷◌, ◌++◌, Err, take, sym, ◌∙◌, ap, arith, subst}
use Rattle.std.proofs.lemmas.List.{append-nil, take_all}
use Rattle.std.proofs.lemmas.Result.{err_from_is_err_and}
use Rattle.dp_io.specs.Shown.{writing}
use Rattle.frame.specs.Frames.{StandsFor, items}
use Rattle.frame.specs.declared.item.Item.{Item}
use Rattle.dp_sessions.proofs.Fronts.{items-front}
use Rattle.dp_sessions.proofs.Taken.{items-byte}
use Rattle.watch_session.specs.Asked.{caller_on}
use Rattle.watch_session.specs.Callers.{IsCaller}
use Rattle.watch_session.specs.Loops.{HasAnswered, TakesBytes}
use Rattle.watch_session.specs.declared.shared.Caller.{Caller}
use Rattle.watch_session.proofs.Taken.{has-more, stops-item, taken-more}
use Rattle.watch_session.proofs.looping.take_bytes.Goals as goal
use Rattle.watch_session.proofs.looping.take_bytes.Goals.{in-Some+in_ok-take_item, in_default}

pub returns-in_err-take_item-clause-taken : goal.returns-in_err-take_item-clause-taken
returns-in_err-take_item-clause-taken g c = λ start fed stands has.
    let i = c.loop-byte.byte-index in
    let bytes = c.args.bytes.now in
    let all = fed ++ take i bytes in
    let item = c.in-Some.item in
    let end = c.in_err-take_item.field-0.0 in
    let before = c.loop-byte.invariant.taken start fed stands has in
    let failed = err_from_is_err_and c.from_residual.result c.from_residual.ensures.1 in
    let is : c.from_residual.result ≡ Err end = failed.1 ∙ ap Err failed.2 in
    let out = writing g.O.Sink c.loop-byte.out c.take_item.new.out in
    subst (λ r. TakesBytes r start (g.O.Sink.taken c.take_item.new.out)
    c.take_item.new.caller.pass c.feed.new.self fed bytes) (sym is)
    (stops-item (Unit {0}) end start out c.loop-byte.caller.pass c.take_item.new.caller.pass (items fed)
    (items all) (items (fed ++ bytes)) item before.1 c.in_err-take_item.ensures.taken
    (items-front fed (take i bytes))
    (items-byte fed bytes i item c.loop-byte-test.true (c.in-Some.ensures.items all before.0)))

pub loop-byte-preserved : goal.loop-byte-preserved
loop-byte-preserved g c =
    let i = c.loop-byte.byte-index in
    let bytes = c.args.bytes.now in
    let shared = c.args.shared.now in
    let is_caller : Caller → Type 0 = λ caller.
    IsCaller shared.book.now shared.jobs.now (caller_on c.args.stream) caller in
    elim c.match-feed.branch [
      | in-Some+in_ok-take_item w ↦
          let item = w.in-Some.item in
          let out = writing g.O.Sink c.loop-byte.out w.take_item.new.out in
          record {
            is = subst is_caller (sym w.caller-is) w.take_item.ensures.stays;
            same = ap g.O.Sink.faults w.out-is
                ∙ w.in_ok-take_item.ensures.output.no_fault (λ e. cc)
                ∙ c.loop-byte.invariant.same;
            taken = λ start fed stands has.
                let before = c.loop-byte.invariant.taken start fed stands has in
                let all = fed ++ take i bytes in
                let more = has-more start out c.loop-byte.caller.pass w.take_item.new.caller.pass
                (items all) item before.1 w.in_ok-take_item.ensures.taken in
                let shown_more : HasAnswered start (g.O.Sink.taken c.match-feed.out)
                c.match-feed.caller.pass (items all ++ item ∷ []) =
                rw (w.out-is, w.caller-is) more in
                taken-more start (g.O.Sink.taken c.match-feed.out) c.match-feed.caller.pass
                c.feed.new.self fed bytes i (item ∷ []) c.loop-byte-test.true
                (c.feed.ensures.stands all before.0) (w.in-Some.ensures.items all before.0)
                shown_more;
          }
      | in_default w ↦ record {
        is = subst is_caller (sym w.caller-is) c.loop-byte.invariant.is;
        same = ap g.O.Sink.faults w.out-is ∙ c.loop-byte.invariant.same;
        taken = λ start fed stands has.
            let before = c.loop-byte.invariant.taken start fed stands has in
            let all = fed ++ take i bytes in
            let same : HasAnswered start (g.O.Sink.taken c.match-feed.out)
            c.match-feed.caller.pass (items all) = rw (w.out-is, w.caller-is) before.1 in
            taken-more start (g.O.Sink.taken c.match-feed.out) c.match-feed.caller.pass
            c.feed.new.self fed bytes i [] c.loop-byte-test.true
            (c.feed.ensures.stands all before.0) (w.in_default.ensures.items all before.0)
            (subst (λ (xs : List Item). HasAnswered start (g.O.Sink.taken c.match-feed.out)
            c.match-feed.caller.pass xs) (sym (append-nil (items all))) same);
      }
    ]

pub returns-clause-taken : goal.returns-clause-taken
returns-clause-taken g c = λ start fed stands has.
    let i = c.loop-byte.byte-index in
    let bytes : List ℕ = c.args.bytes.now in
    let whole : take i bytes ≡ bytes = take_all i bytes (omega (arith, c.loop-byte-test.false)) in
    let taken = c.loop-byte.invariant.taken start fed stands has in (
      subst (λ (t : List ℕ). StandsFor c.loop-byte.framer (fed ++ t)) whole taken.0,
      subst (λ (t : List ℕ). HasAnswered start (g.O.Sink.taken c.loop-byte.out)
          c.loop-byte.caller.pass (items (fed ++ t))) whole taken.1,
    )
