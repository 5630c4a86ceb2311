-- What was heard of the item, and what is written for it.
use Rattle.std.proofs.Common.{◌≡◌, ◌∙◌, sym, refl, Ok}
use Rattle.dp_io.specs.Shown.{writing}
use Rattle.sensor_vote.specs.Texts.{heard}
use Rattle.sensor_vote.specs.declared.heard.Heard.TheVariants.{Dropped, Passed, Taken}
use Rattle.sensor_vote.proofs.Heards.{heard-dropped, heard-passed, sent-dropped}
use Rattle.sensor_vote.proofs.Heards.{sent-passed, sent-taken}
use Rattle.sensor_vote.proofs.Sending.{sent-fine, sent-none, sent-risen}
use Rattle.sensor_vote.proofs.watch.Watch.tell.Goals as goal

pub returns-in-Dropped-clause-heard : goal.returns-in-Dropped-clause-heard
returns-in-Dropped-clause-heard g c = λ items has.
    let is : heard c.args.item ≡ Dropped = sym c.hear.ensures.value ∙ c.in-Dropped.is in
    heard-dropped c.args.self.now _ items c.args.item is refl refl refl refl refl has

pub returns-in-Dropped-clause-sent : goal.returns-in-Dropped-clause-sent
returns-in-Dropped-clause-sent g c = λ items has.
    let is : heard c.args.item ≡ Dropped = sym c.hear.ensures.value ∙ c.in-Dropped.is in
    let out = c.args.out.now in
    sent-dropped c.args.report items c.args.item (Ok tt) (writing g.S.Sink out out) is
    (sent-none (g.S.Sink.taken out) (g.S.Sink.faults out))

pub returns-in-Passed-clause-heard : goal.returns-in-Passed-clause-heard
returns-in-Passed-clause-heard g c = λ items has.
    let body = c.in-Passed.body in
    let is : heard c.args.item ≡ Passed body = sym c.hear.ensures.value ∙ c.in-Passed.is in
    heard-passed c.args.self.now items c.args.item body is has

pub returns-in-Passed-clause-sent : goal.returns-in-Passed-clause-sent
returns-in-Passed-clause-sent g c = λ items has.
    let body = c.in-Passed.body in
    let is : heard c.args.item ≡ Passed body = sym c.hear.ensures.value ∙ c.in-Passed.is in
    sent-passed c.args.report items c.args.item body c.send_passed.result
    (writing g.S.Sink c.args.out.now c.send_passed.new.out) is c.send_passed.ensures

pub returns-in-Taken-clause-heard : goal.returns-in-Taken-clause-heard
returns-in-Taken-clause-heard g c = λ items has.
    let r = c.in-Taken.reference in
    let is : heard c.args.item ≡ Taken r = sym c.hear.ensures.value ∙ c.in-Taken.is in
    c.take-answer.ensures.heard items c.args.item is has

pub returns-in-Taken-clause-sent : goal.returns-in-Taken-clause-sent
returns-in-Taken-clause-sent g c = λ items has.
    let r = c.in-Taken.reference in
    let is : heard c.args.item ≡ Taken r = sym c.hear.ensures.value ∙ c.in-Taken.is in
    sent-taken c.args.report items c.args.item r c.args.self.now.bad c.take-answer.result
    c.send_answer.result (writing g.S.Sink c.args.out.now c.send_answer.new.out) is has.bad
    (c.take-answer.ensures.answer items has) c.send_answer.ensures

pub returns-in-Passed-clause-none_failed : goal.returns-in-Passed-clause-none_failed
returns-in-Passed-clause-none_failed g c = sent-fine c.send_passed.result
    (writing g.S.Sink c.args.out.now c.send_passed.new.out) _ c.send_passed.ensures

pub returns-in-Passed-clause-failed : goal.returns-in-Passed-clause-failed
returns-in-Passed-clause-failed g c = sent-risen c.send_passed.result
    (writing g.S.Sink c.args.out.now c.send_passed.new.out) _ c.send_passed.ensures

pub returns-in-Taken-clause-none_failed : goal.returns-in-Taken-clause-none_failed
returns-in-Taken-clause-none_failed g c = sent-fine c.send_answer.result
    (writing g.S.Sink c.args.out.now c.send_answer.new.out) _ c.send_answer.ensures

pub returns-in-Taken-clause-failed : goal.returns-in-Taken-clause-failed
returns-in-Taken-clause-failed g c = sent-risen c.send_answer.result
    (writing g.S.Sink c.args.out.now c.send_answer.new.out) _ c.send_answer.ensures
