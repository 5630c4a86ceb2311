-- What each end of a check says: no plant, findings that were written, and writing that was stopped.
use Rattle.std.proofs.Common.{◌≡◌, [], ap, Err}
use Rattle.std.proofs.Math.Path.{refl}
use Rattle.dp_io.specs.Shown.{NoneFailed, reading, writing}
use Rattle.dp_words.specs.declared.status.RunStatus.TheVariants.{NoMemory, WriteFault}
use Rattle.std.proofs.lemmas.List.Elements.{All-nil}
use Rattle.dp_sessions.proofs.Checked.{IsAsked, ends-held, ends-lost, ends-no_plant, ends-stopped}
use Rattle.dp_words.proofs.Faults.{tells-no_plant}
use Rattle.dp_sessions.proofs.check.check.Goals as goal

pub returns-in-Err-clause-findings : goal.returns-in-Err-clause-findings
returns-in-Err-clause-findings g c = λ words asked.
    let first =
    reading g.A.Source c.args.first.now c.plant_from.new.source in
    let out = writing g.O.Sink c.args.out.now c.args.out.now in
    let word = c.args.word.now in
    let status = c.in-Err.status in
    let error = c.in-Err.ensures.finds.error in
    ends-no_plant words word c.args.demand c.args.json status first out asked error refl
    (tells-no_plant c.plant_from.result status word first [] out error c.in-Err.is
    c.plant_from.ensures.no_fault refl (All-nil NoneFailed))

pub returns-in-Ok-true-clause-findings : goal.returns-in-Ok-true-clause-findings
returns-in-Ok-true-clause-findings g c = λ words asked.
    let first =
    reading g.A.Source c.args.first.now c.plant_from.new.source in
    let out = writing g.O.Sink c.args.out.now c.write_check.new.out in
    let is : IsAsked words c.args.word.now c.args.demand c.args.json c.in-Ok.plant first = record {
      asked = asked;
      says = c.in-Ok.ensures.finds.found;
      same = c.plant_from.ensures.no_fault (λ e. cc (c.in-Ok.is, e)) (λ e. cc (c.in-Ok.is, e));
    } in
    let found = rw c.in-Ok-true.field-0-test at c.in-Ok-true.ensures.found in
    ends-lost words c.args.word.now c.args.demand c.args.json c.in-Ok.plant first out is found.0
    found.1 c.in-Ok-true.ensures.writing.no_fault

pub returns-in-Ok-false-clause-findings : goal.returns-in-Ok-false-clause-findings
returns-in-Ok-false-clause-findings g c = λ words asked.
    let first =
    reading g.A.Source c.args.first.now c.plant_from.new.source in
    let out = writing g.O.Sink c.args.out.now c.write_check.new.out in
    let is : IsAsked words c.args.word.now c.args.demand c.args.json c.in-Ok.plant first = record {
      asked = asked;
      says = c.in-Ok.ensures.finds.found;
      same = c.plant_from.ensures.no_fault (λ e. cc (c.in-Ok.is, e)) (λ e. cc (c.in-Ok.is, e));
    } in
    let found = rw c.in-Ok-false.field-0-test at c.in-Ok-false.ensures.found in
    ends-held words c.args.word.now c.args.demand c.args.json c.in-Ok.plant first out is found.0
    found.1 c.in-Ok-false.ensures.writing.no_fault

pub returns-in-Err-write_check-clause-findings : goal.returns-in-Err-write_check-clause-findings
returns-in-Err-write_check-clause-findings g c = λ words asked.
    let first =
    reading g.A.Source c.args.first.now c.plant_from.new.source in
    let out = writing g.O.Sink c.args.out.now c.write_check.new.out in
    let is : IsAsked words c.args.word.now c.args.demand c.args.json c.in-Ok.plant first = record {
      asked = asked;
      says = c.in-Ok.ensures.finds.found;
      same = c.plant_from.ensures.no_fault (λ e. cc (c.in-Ok.is, e)) (λ e. cc (c.in-Ok.is, e));
    } in
    let status = c.in-Err-write_check.status in
    let stopped = c.in-Err-write_check.ensures in
    ends-stopped words c.args.word.now c.args.demand c.args.json c.in-Ok.plant status first out is
    stopped.writing.errors (λ (fault : status ≡ WriteFault). stopped.cut (ap Err fault))
    (λ (fault : status ≡ WriteFault). stopped.writing.failed (ap Err fault))
    (λ (memory : status ≡ NoMemory). stopped.unwritten (ap Err memory))
