-- `check` has four places.
use Rattle.std.proofs.Common.{arith, map, sym, ◌∙◌}
use Rattle.std.proofs.lemmas.List.{length-map}
use Rattle.dp_words.specs.Sorting.{pair}
use Rattle.dp_words.proofs.Forms.{error_unless_four, error_where_none}
use Rattle.dp_words.proofs.form.check_form.Goals as goal

pub returns-in_default-clause-form : goal.returns-in_default-clause-form
returns-in_default-clause-form c =
    error_unless_four (map pair c.args.options.now) (map pair c.args.places.now)
    (λ four. omega (arith, c.in_default.len_below, four, length-map c.args.places.now pair))

pub returns-in_default-2-clause-form : goal.returns-in_default-2-clause-form
returns-in_default-2-clause-form c =
    error_where_none (map pair c.args.options.now) (map pair c.args.places.now)
    (sym c.asks_for.ensures ∙ c.in_default-2.is-1)

pub returns-in_default-3-clause-form : goal.returns-in_default-3-clause-form
returns-in_default-3-clause-form c =
    error_unless_four (map pair c.args.options.now) (map pair c.args.places.now)
    (λ four. omega (arith, c.in_default.len_at_least, four, length-map c.args.places.now pair))
