-- The words ask for a drill or have no form.
use Rattle.std.proofs.Common.{◌≡◌, ◌∙◌, ℕ, map, string_bytes, subst, sym, ap, inl, inr, Ok, Err, rules}
use Rattle.std.proofs.Math.Path.{refl}
use Rattle.dp_io.specs.Shown.{writing}
use Rattle.dp_words.specs.Words.{AsksWithin, form_of}
use Rattle.dp_words.specs.declared.form.Form.TheVariants.{Drill}
use Rattle.dp_words.specs.declared.status.RunStatus.TheVariants.{Usage}
use Rattle.drill_session.specs.Calls.{HasNoForm}
use Rattle.drill_session.proofs.Words.{no-form, other-words}
use Rattle.drill_session.proofs.call.drill_of_words.Goals as goal

pub drill-requires-clause-few : goal.drill-requires-clause-few
drill-requires-clause-few g c =
    let asked = c.in-Ok-Drill in
    let within = subst AsksWithin asked.field-0-is asked.ensures.demand in
    λ lifetimes lives. within.1

pub returns-in_default : goal.returns-in_default
returns-in_default g c =
    let words = map string_bytes c.args.words.now in
    let out = writing g.O.Sink c.args.out.now c.args.out.now in
    let none : form_of words ≡ Err 3 =
    other-words words c.form_of.result c.requires c.form_of.ensures.form
    (λ (seed size : ℕ) (e : c.form_of.result ≡ Ok (Drill seed size)). search rules) in
    inr (subst (λ (kind : ℕ). HasNoForm words (Usage kind) out) (sym c.number.ensures)
    (no-form words 3 out none refl refl))

pub returns : goal.returns
returns g c =
    let asked = c.in-Ok-Drill in
    inl (record {
      seed = asked.seed;
      size = asked.size;
      asked = sym asked.ensures.form ∙ ap Ok asked.field-0-is;
      ends = c.drill.ensures;
    })
