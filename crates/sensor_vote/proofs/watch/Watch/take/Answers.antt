-- The answer is that of the references heard so far, and what is kept is that of one more.
use Rattle.std.proofs.Common.{◌∙◌, ℕ, ◌+◌, ap, refl}
use Rattle.std.specs.Int.{from_bool}
use Rattle.sensor_vote.specs.Texts.{bad_after, is_round, references}
use Rattle.sensor_vote.proofs.Heards.{heard-taken, one-where}
use Rattle.sensor_vote.proofs.watch.Watch.take.Goals as goal

pub returns-clause-heard : goal.returns-clause-heard
returns-clause-heard c = λ items item is has.
    let old = c.args.self.now in
    let rs = references items in
    let answer = c.take-answer.ensures.answer rs has.vote in
    let ends = c.ends_unfinished.ensures rs has.vote in
    heard-taken old _ items item c.args.reference is (c.take-answer.ensures.stands rs has.vote)
    (c.bad_after-self.ensures ∙ ap (bad_after old.bad) answer)
    (ap (λ (n : ℕ). old.rounds + n) (c.from-2.ensures
    ∙ ap from_bool (c.is_round.ensures ∙ ap is_round answer) ∙ one-where _))
    (ap (λ (n : ℕ). old.ended + n) (c.from.ensures ∙ ap from_bool ends ∙ one-where _)) refl has
