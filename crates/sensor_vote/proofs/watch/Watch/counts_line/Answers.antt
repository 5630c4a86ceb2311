-- Four fields, the counts of the items.
use Rattle.std.proofs.Common.{◌≡◌, ◌∙◌, ℕ, ◌+◌, List, [], ◌∷◌, ◌++◌, ap, codes, decimal}
use Rattle.telegram.specs.Telegrams.{comma}
use Rattle.frame.specs.declared.item.Item.{Item}
use Rattle.std.specs.Int.{from_bool}
use Rattle.sensor_vote.specs.Rounds.{is_unfinished}
use Rattle.sensor_vote.specs.Steps.{HasHeard}
use Rattle.sensor_vote.specs.Texts.{dropped_in, ended_after, references, rounds_in, unfinished_in}
use Rattle.sensor_vote.proofs.Heards.{one-where}
use Rattle.sensor_vote.proofs.Lines.{line-four}
use Rattle.sensor_vote.proofs.watch.Watch.counts_line.Goals as goal

pub returns : goal.returns
returns c = λ (items : List Item) (has : HasHeard c.args.self.now items).
    let rs = references items in
    let standing : c.from.result ≡ from_bool (is_unfinished rs) =
    c.from.ensures ∙ ap from_bool (c.unfinished.ensures rs has.vote) in
    let unfinished : c.args.self.now.ended + c.from.result ≡ unfinished_in rs =
    ap (λ (n : ℕ). n + c.from.result) has.ended
    ∙ ap (λ (n : ℕ). ended_after [] rs + n) (standing ∙ one-where (is_unfinished rs)) in
    line-four (codes "VOTE") (decimal (rounds_in rs)) (decimal (unfinished_in rs))
    (decimal (dropped_in items)) c.of.result c.number.result c.number-2.result
    c.number-3.result c.end.result c.of.ensures
    (c.number.ensures.text ∙ ap (λ (n : ℕ). c.of.result ++ comma ∷ decimal n) has.rounds)
    (c.number-2.ensures.text ∙ ap (λ (n : ℕ). c.number.result ++ comma ∷ decimal n) unfinished)
    (c.number-3.ensures.text
    ∙ ap (λ (n : ℕ). c.number-2.result ++ comma ∷ decimal n) has.dropped)
    c.end.ensures
