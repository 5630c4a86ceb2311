-- A run whose option's value is another word has four.
use Rattle.std.proofs.Common.{arith, map}
use Rattle.std.proofs.lemmas.List.{length-map}
use Rattle.dp_words.specs.Sorting.{pair}
use Rattle.dp_words.proofs.Forms.{error_unless_valued}
use Rattle.dp_words.proofs.run_form.run_valued.Goals as goal

pub returns-in_default-clause-form : goal.returns-in_default-clause-form
returns-in_default-clause-form c =
    error_unless_valued (pair c.args.option.now) (map pair c.args.places.now)
    (λ four. omega (arith, c.in_default.len_below, four, length-map c.args.places.now pair))

pub returns-in_default-2-clause-form : goal.returns-in_default-2-clause-form
returns-in_default-2-clause-form c =
    error_unless_valued (pair c.args.option.now) (map pair c.args.places.now)
    (λ four. omega (arith, c.in_default.len_at_least, four, length-map c.args.places.now pair))
