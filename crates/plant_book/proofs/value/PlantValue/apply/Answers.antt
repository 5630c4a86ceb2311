use Rattle.std.proofs.Common.{ap, subst, sym, ◌∙◌}
use Rattle.plant_core.specs.Machine.{CoreView, state_of}
use Rattle.plant_book.specs.Calls.{IsAnswered, entry_for, made_between}
use Rattle.plant_book.specs.Values.{IsWritten, ValueView}
use Rattle.plant_book.specs.declared.board.PlantBoard.{PlantBoard}
use Rattle.plant_book.specs.declared.served.Served.{Served}
use Rattle.plant_book.proofs.Written.{more_for, written_more}
use Rattle.plant_book.proofs.value.PlantValue.apply.Goals as goal

pub invariant_of-self-2 : goal.invariant_of-self-2
invariant_of-self-2 g c =
    let core = c.deref_mut.result.now.core in
    let reply = c.in_ok-reply.reply in
    written_more c.self.inside.writer core c.apply.new.self
    (entry_for c.args.caller c.args.call reply)
    (c.in_ok-reply.ensures.history ∙ more_for core c.args.caller c.args.call reply)
    (subst (λ (b : PlantBoard). IsWritten c.self.inside.writer b.core)
    (sym c.deref_mut.ensures.value) c.self.invariant)

pub returns-clause-answered : goal.returns-clause-answered
returns-clause-answered g c =
    let served : Served =
    record { reply = c.in_ok-reply.reply; made = c.made_between-made.result } in
    subst (λ (old : ValueView). IsAnswered old.core c.apply.new.self c.args.call served)
    c.self.view_is
    (subst (λ (b : PlantBoard). IsAnswered b.core c.apply.new.self c.args.call served)
    c.deref_mut.ensures.value record {
      allowed = c.in_ok-reply.ensures.allowed;
      made = c.made_between-made.ensures ∙ λ i. made_between
          ((c.latest-before.ensures ∙ ap (λ (b : PlantBoard). (state_of b.core).latest)
          (c.deref.ensures ∙ sym c.deref_mut.ensures.value)) i)
          ((c.latest.ensures ∙ ap (λ (b : PlantBoard). (state_of b.core).latest)
          c.deref-2.ensures) i);
    })
