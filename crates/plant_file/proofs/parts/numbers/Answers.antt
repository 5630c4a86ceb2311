use Rattle.std.proofs.Common.{◌∙◌, ◌<◌, ◌^◌, map}
use Rattle.std.proofs.Common.{rules, arith}
use Rattle.std.proofs.lemmas.List.{length-map}
use Rattle.std.proofs.lemmas.Bool.Decides.{nat_tests}
use Rattle.toml.specs.View.{view}
use Rattle.plant_file.specs.Documents.{is_small, natural, number_in}
use Rattle.plant_file.proofs.BuiltLemmas.{all_at, filled_all}
use Rattle.plant_file.proofs.BuiltLemmas.{filled_more, filled_whole}
use Rattle.plant_file.proofs.parts.numbers.Goals as goal

pub overflow_cast-numbers : goal.overflow_cast-numbers
overflow_cast-numbers g c =
    let small =
    all_at view is_small c.args.values.now c.loop-place.place c.index-values-place.result
    c.loop-place-test.true c.index-values-place.is c.requires.small in
    let fits : c.natural.result < 2 ^ 32 = rw c.natural.ensures (grind (arith, nat_tests)) in
    search rules

pub loop-place-preserved : goal.loop-place-preserved
loop-place-preserved g c =
    filled_more (λ d. natural (number_in d)) view c.args.values.now c.loop-place.place g.row.N 0
    c.index-values-place.result c.loop-place.numbers c.natural.result
    c.loop-place-test.true (omega (arith, c.requires.count)) c.index-values-place.is
    c.loop-place.invariant c.natural.ensures

pub returns : goal.returns
returns g c =
    filled_all (λ d. natural (number_in d)) view c.args.values.now c.loop-place.place g.row.N 0
    c.loop-place.numbers c.loop-place-test.false c.loop-place.invariant
    ∙ filled_whole g.row.N 0 (map (λ d. natural (number_in d)) (map view c.args.values.now))
    (length-map (map view c.args.values.now) (λ d. natural (number_in d))
    ∙ length-map c.args.values.now view ∙ c.requires.count)
