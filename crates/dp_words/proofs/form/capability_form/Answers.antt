-- `capability` has four places and no option.
use Rattle.std.proofs.Common.{arith, map}
use Rattle.std.proofs.lemmas.List.{length-map}
use Rattle.dp_words.specs.Sorting.{pair}
use Rattle.dp_words.proofs.Forms.{no_capability_unless_four, no_capability_with_options}
use Rattle.dp_words.proofs.form.capability_form.Goals as goal

pub returns-in_default-clause-form : goal.returns-in_default-clause-form
returns-in_default-clause-form c =
    no_capability_unless_four (map pair c.args.options.now) (map pair c.args.places.now)
    (λ four. omega (arith, c.in_default.len_below, four, length-map c.args.places.now pair))

pub returns-in_default-2-clause-form : goal.returns-in_default-2-clause-form
returns-in_default-2-clause-form c =
    no_capability_with_options (map pair c.args.options.now) (map pair c.args.places.now)
    (omega (arith, c.in_default-2.len_at_least, length-map c.args.options.now pair))

pub returns-in_default-3-clause-form : goal.returns-in_default-3-clause-form
returns-in_default-3-clause-form c =
    no_capability_unless_four (map pair c.args.options.now) (map pair c.args.places.now)
    (λ four. omega (arith, c.in_default.len_at_least, four, length-map c.args.places.now pair))
