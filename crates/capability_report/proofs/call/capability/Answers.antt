-- What each end of a capability says: no plant, all that was written, and writing that was stopped.
use Rattle.std.proofs.Common.{[]}
use Rattle.std.proofs.Math.Path.{refl}
use Rattle.dp_io.specs.Shown.{NoneFailed, reading, writing}
use Rattle.std.proofs.lemmas.List.Elements.{All-nil}
use Rattle.dp_words.proofs.Faults.{tells-no_plant}
use Rattle.capability_report.proofs.Ends.{IsAsked, ends-held, ends-lost, ends-no_plant, ends-stopped}
use Rattle.capability_report.proofs.call.capability.Goals as goal

pub returns-in-Err-clause-ends : goal.returns-in-Err-clause-ends
returns-in-Err-clause-ends g c = λ words asked.
    let first = reading g.A.Source c.args.first.now c.plant_from.new.source in
    let out = writing g.O.Sink c.args.out.now c.args.out.now in
    let status = c.in-Err.status in
    let error = c.in-Err.ensures.finds.error in
    ends-no_plant words c.args.word.now c.args.demand status first out asked error refl
    (tells-no_plant c.plant_from.result status c.args.word.now first [] out error c.in-Err.is
    c.plant_from.ensures.no_fault refl (All-nil NoneFailed))

pub returns-in-Ok-true-clause-ends : goal.returns-in-Ok-true-clause-ends
returns-in-Ok-true-clause-ends g c = λ words asked.
    let first = reading g.A.Source c.args.first.now c.plant_from.new.source in
    let out = writing g.O.Sink c.args.out.now c.write_capability.new.out in
    let is : IsAsked words c.args.word.now c.args.demand c.in-Ok.plant first = record {
      asked = asked;
      says = c.in-Ok.ensures.finds.found;
      same = c.plant_from.ensures.no_fault (λ e. cc (c.in-Ok.is, e)) (λ e. cc (c.in-Ok.is, e));
    } in
    ends-lost words c.args.word.now c.args.demand c.in-Ok.plant first out is
    (rw c.in-Ok-true.field-0-test at c.in-Ok-true.ensures)

pub returns-in-Ok-false-clause-ends : goal.returns-in-Ok-false-clause-ends
returns-in-Ok-false-clause-ends g c = λ words asked.
    let first = reading g.A.Source c.args.first.now c.plant_from.new.source in
    let out = writing g.O.Sink c.args.out.now c.write_capability.new.out in
    let is : IsAsked words c.args.word.now c.args.demand c.in-Ok.plant first = record {
      asked = asked;
      says = c.in-Ok.ensures.finds.found;
      same = c.plant_from.ensures.no_fault (λ e. cc (c.in-Ok.is, e)) (λ e. cc (c.in-Ok.is, e));
    } in
    ends-held words c.args.word.now c.args.demand c.in-Ok.plant first out is
    (rw c.in-Ok-false.field-0-test at c.in-Ok-false.ensures)

pub returns-in-Err-write_capability-clause-ends : goal.returns-in-Err-write_capability-clause-ends
returns-in-Err-write_capability-clause-ends g c = λ words asked.
    let first = reading g.A.Source c.args.first.now c.plant_from.new.source in
    let out = writing g.O.Sink c.args.out.now c.write_capability.new.out in
    let is : IsAsked words c.args.word.now c.args.demand c.in-Ok.plant first = record {
      asked = asked;
      says = c.in-Ok.ensures.finds.found;
      same = c.plant_from.ensures.no_fault (λ e. cc (c.in-Ok.is, e)) (λ e. cc (c.in-Ok.is, e));
    } in
    ends-stopped words c.args.word.now c.args.demand c.in-Ok.plant
    c.in-Err-write_capability.status first out is c.in-Err-write_capability.ensures
