-- The first argument is taken, and the others are collected.
use Rattle.std.proofs.Common.{◌≡◌, subst, IfOk, sym, ◌∙◌}
use Rattle.std.proofs.lemmas.Iterator.{items_from_collect}
use Rattle.std.proofs.IntoIterSteps.{takes, taken}
use Rattle.std.specs.Vec.Iter.{into_iter_items, into_iter_steps}
use Rattle.dp_cli.proofs.Arguments.{rest-next}
use Rattle.dp_cli.proofs.words_of.Goals as goal

pub returns : goal.returns
returns c =
    let old = c.args.args in
    let new = c.next-program.new.self in
    let rest = rest-next c.next-program.result (into_iter_items old) (into_iter_items new)
    c.next-program.ensures.items
    (λ none. sym old.rest.ok.0
    ∙ (subst (λ r. into_iter_steps old r new) none c.next-program.ensures.cases).0) in
    subst (λ xs. IfOk c.collect.result (λ words. words.items ≡ xs)) rest
    (items_from_collect {steps = takes} {s = new} c.collect.result c.collect.ensures.ran
    (record { runs = taken new }))
