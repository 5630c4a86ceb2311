-- The sweep and the Close, or as far as memory sufficed.
use Rattle.std.proofs.Common.{sym, subst}
use Rattle.std.specs.Prelude.{Result, is_ok}
use Rattle.std.proofs.lemmas.Result.{err_from_is_err_and}
use Rattle.no_memory.specs.declared.NoMemory.{NoMemory}
use Rattle.watch_session.specs.Watches.{Finishes}
use Rattle.watch_session.proofs.Finishing.{finishes-closed, finishes-passing, finishes-swept}
use Rattle.watch_session.proofs.session.finish.Goals as goal

pub returns-in_err-sweep-clause-finishes : goal.returns-in_err-sweep-clause-finishes
returns-in_err-sweep-clause-finishes g c =
    let failed = err_from_is_err_and c.from_residual.result c.from_residual.ensures.1 in
    subst (λ (answer : Result (Unit {0}) NoMemory).
    Finishes (is_ok answer) c.args.root.now c.sweep.new.root) (sym failed.1)
    (finishes-swept _ _ c.sweep.ensures.verdicts)

pub returns-in_err-end-clause-finishes : goal.returns-in_err-end-clause-finishes
returns-in_err-end-clause-finishes g c =
    let failed = err_from_is_err_and c.from_residual-in_err-end.result
    c.from_residual-in_err-end.ensures.1 in
    subst (λ (answer : Result (Unit {0}) NoMemory).
    Finishes (is_ok answer) c.args.root.now c.end.new.pass) (sym failed.1)
    (finishes-passing _ c.sweep.new.root _ c.requires.ready c.sweep.ensures.verdicts
    c.in_err-end.ensures.kept)

pub returns-clause-finishes : goal.returns-clause-finishes
returns-clause-finishes g c = finishes-closed _ c.sweep.new.root _ c.in_ok-end.field-0
    c.requires.ready c.sweep.ensures.verdicts c.in_ok-sweep.ensures.current
    c.in_ok-end.ensures.served
