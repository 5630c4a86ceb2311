-- The damage of the stream's end was answered, or ended the stream.
use Rattle.std.proofs.Common.{List, sym, subst}
use Rattle.dp_io.specs.Shown.{writing}
use Rattle.std.proofs.lemmas.Result.{err_from_is_err_and}
use Rattle.frame.specs.Frames.{items}
use Rattle.frame.specs.declared.item.Item.{Item}
use Rattle.dp_sessions.specs.Steps.{HasBegun, TakesEnd}
use Rattle.dp_sessions.specs.declared.session.Ending.{Ending}
use Rattle.dp_sessions.proofs.Taken.{ends-item}
use Rattle.dp_sessions.proofs.session.take_end.Goals as goal

pub returns-clause-taken : goal.returns-clause-taken
returns-clause-taken g c = λ start fed stands has.
    let out = writing g.S.Sink c.args.out.now c.take_item.new.out in
    let taken = ends-item c.in_ok-ending.ending start c.args.core.now c.take_item.new.core
    c.in-Some.item out fed has c.in_ok-ending.ensures.taken (c.in-Some.ensures.items fed stands) in
    subst (λ (e : Ending). TakesEnd e start (g.S.Sink.taken c.take_item.new.out)
    c.take_item.new.core fed) (sym c.unwrap_or.ensures) taken

pub returns-in_err-ending-clause-begun : goal.returns-in_err-ending-clause-begun
returns-in_err-ending-clause-begun g c =
    let failed = err_from_is_err_and c.from_residual.result c.from_residual.ensures.1 in
    rw failed.1 (λ start fed stands has.
    subst (λ (xs : List Item). HasBegun start (g.S.Sink.taken c.take_item.new.out)
    c.take_item.new.core xs) (sym (c.in-Some.ensures.items fed stands))
    (c.in_err-ending.ensures.begun start (items fed) has))
