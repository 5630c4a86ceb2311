-- The words ask for a vote or have no form; the vote was written whole or in part.
use Rattle.std.proofs.Common.{◌≡◌, ◌∙◌, ℕ, Bool, map, string_bytes, subst, sym, ap, Ok, Err, rules}
use Rattle.std.proofs.Math.Path.{refl}
use Rattle.dp_io.specs.Shown.{reading, writing}
use Rattle.dp_words.specs.Words.{form_of}
use Rattle.dp_words.specs.declared.form.Form.TheVariants.{Vote}
use Rattle.dp_words.specs.declared.status.RunStatus.{RunStatus}
use Rattle.dp_words.specs.declared.status.RunStatus.TheVariants.{Usage}
use Rattle.sensor_vote.specs.Calls.{AsksVote, EndsVote}
use Rattle.sensor_vote.proofs.Calls.{ends-usage, ends-whole, other-words}
use Rattle.sensor_vote.proofs.call.vote.Goals as goal

pub returns-in_default-clause-ends : goal.returns-in_default-clause-ends
returns-in_default-clause-ends g c =
    let words = map string_bytes c.args.words.now in
    let source = reading g.A.Source c.args.telegrams.now c.args.telegrams.now in
    let out = writing g.O.Sink c.args.out.now c.args.out.now in
    let none : form_of words ≡ Err 3 =
    other-words words c.form_of.result c.requires c.form_of.ensures.form
    (λ (telegrams : ℕ) (report : Bool) (e : c.form_of.result ≡ Ok (Vote telegrams report)).
    search rules) in
    subst (λ (kind : ℕ). EndsVote words (Usage kind) source out) (sym c.number.ensures)
    (ends-usage words 3 source out none refl refl refl)

pub returns-in-Ok-clause-ends : goal.returns-in-Ok-clause-ends
returns-in-Ok-clause-ends g c =
    let words = map string_bytes c.args.words.now in
    let source = reading g.A.Source c.args.telegrams.now c.vote_on.new.source in
    let out = writing g.O.Sink c.args.out.now c.vote_on.new.out in
    let vote = c.in-Ok-Vote in
    let asked : AsksVote words vote.report =
    (vote.field-0-0, sym vote.ensures.form ∙ ap Ok vote.field-0-is) in
    subst (λ (status : RunStatus). EndsVote words status source out) (sym c.status.ensures)
    (ends-whole words vote.report c.in-Ok.ending source out asked c.in-Ok.ensures.whole)
