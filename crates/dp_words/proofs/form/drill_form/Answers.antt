-- `drill` has two places and no option.
use Rattle.std.proofs.Common.{arith, map}
use Rattle.std.proofs.lemmas.List.{length-map}
use Rattle.dp_words.specs.Sorting.{pair}
use Rattle.dp_words.proofs.Forms.{no_drill_unless_two, no_drill_with_options}
use Rattle.dp_words.proofs.form.drill_form.Goals as goal

pub returns-in_default-clause-form : goal.returns-in_default-clause-form
returns-in_default-clause-form c =
    no_drill_unless_two (map pair c.args.options.now) (map pair c.args.places.now)
    (λ two. omega (arith, c.in_default.len_below, two, length-map c.args.places.now pair))

pub returns-in_default-2-clause-form : goal.returns-in_default-2-clause-form
returns-in_default-2-clause-form c =
    no_drill_unless_two (map pair c.args.options.now) (map pair c.args.places.now)
    (λ two. omega (arith, c.in_default.len_at_least, two, length-map c.args.places.now pair))

pub returns-in_default-options-clause-form : goal.returns-in_default-options-clause-form
returns-in_default-options-clause-form c =
    no_drill_with_options (map pair c.args.options.now) (map pair c.args.places.now)
    (omega (arith, c.in_default-options.len_at_least, length-map c.args.options.now pair))
