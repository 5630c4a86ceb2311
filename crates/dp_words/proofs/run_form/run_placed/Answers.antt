-- A run has three places.
use Rattle.std.proofs.Common.{arith, map}
use Rattle.std.proofs.lemmas.List.{length-map}
use Rattle.dp_words.specs.Sorting.{pair}
use Rattle.dp_words.proofs.Forms.{error_unless_three}
use Rattle.dp_words.proofs.run_form.run_placed.Goals as goal

pub returns-in_default-clause-form : goal.returns-in_default-clause-form
returns-in_default-clause-form c =
    error_unless_three c.args.workers (map pair c.args.places.now)
    (λ three. omega (arith, c.in_default.len_below, three, length-map c.args.places.now pair))

pub returns-in_default-2-clause-form : goal.returns-in_default-2-clause-form
returns-in_default-2-clause-form c =
    error_unless_three c.args.workers (map pair c.args.places.now)
    (λ three. omega (arith, c.in_default.len_at_least, three, length-map c.args.places.now pair))
