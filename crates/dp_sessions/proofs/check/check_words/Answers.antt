-- The words of a check have its form or are faulty.
use Rattle.std.proofs.Common.{◌≡◌, ◌∙◌, ℕ, length, map, string_bytes, subst, sym, ap, Ok, Err, Bool, rules}
use Rattle.std.proofs.Math.Path.{refl}
use Rattle.dp_io.specs.Shown.{reading, writing}
use Rattle.plant_model.specs.declared.wrench.Wrench.{Wrench}
use Rattle.dp_words.specs.Words.{NamesBelow, form_of}
use Rattle.dp_words.specs.declared.status.RunStatus.TheVariants.{Usage}
use Rattle.dp_sessions.specs.Checks.{EndsFindings}
use Rattle.dp_words.specs.declared.form.Form.{Form}
use Rattle.dp_words.specs.declared.form.Form.TheVariants.{Check}
use Rattle.dp_sessions.proofs.Checked.{check-kind, ends-usage, other-words}
use Rattle.dp_words.proofs.Plants.{named-at, word-at}
use Rattle.dp_sessions.proofs.check.check_words.Goals as goal
use Rattle.dp_sessions.proofs.check.check_words.Goals.{in_default-via-in-Ok+in_default}
use Rattle.dp_sessions.proofs.check.check_words.Goals.{in_default-via-in_default}

pub returns-in-Ok-Check-clause-findings : goal.returns-in-Ok-Check-clause-findings
returns-in-Ok-Check-clause-findings g c =
    let words = map string_bytes c.args.words.now in
    let check = c.in-Ok-Check in
    let is_form = sym check.ensures.form ∙ ap Ok check.field-0-is in
    let within = subst (λ (form : Form). NamesBelow form (length c.args.words.now)) check.field-0-is
    check.ensures.within in
    c.check.ensures.findings words (
      check.plant,
      is_form,
      word-at string_bytes c.args.words.now c.index-words-plant.result c.as_str.result.now
          check.plant within c.index-words-plant.is c.as_str.ensures.value,
    )

pub returns-in-Ok-Check-clause-unread : goal.returns-in-Ok-Check-clause-unread
returns-in-Ok-Check-clause-unread g c = λ none.
    let check = c.in-Ok-Check in
    let is_form = sym check.ensures.form ∙ ap Ok check.field-0-is in
    let within = subst (λ (form : Form). NamesBelow form (length c.args.words.now)) check.field-0-is
    check.ensures.within in
    let word = c.as_str.result.now in
    let named = named-at string_bytes c.args.words.now c.index-words-plant.result
    (Check check.plant check.demand check.json) word check.plant is_form refl within
    c.index-words-plant.is c.as_str.ensures.value in
    c.check.ensures.unread (none word named)

pub returns-in_default-clause-findings : goal.returns-in_default-clause-findings
returns-in_default-clause-findings g c =
    let words = map string_bytes c.args.words.now in
    let first = reading g.A.Source c.args.first.now c.args.first.now in
    let out = writing g.O.Sink c.args.out.now c.args.out.now in
    let none : form_of words ≡ Err 3 = elim c.in_default.branch [
      | in_default-via-in-Ok+in_default w ↦
          other-words words c.form_of.result c.requires c.form_of.ensures.form
          (λ (plant : ℕ) (demand : Wrench) (json : Bool)
          (e : c.form_of.result ≡ Ok (Check plant demand json)). search rules)
      | in_default-via-in_default w ↦
          let wrong : form_of words ≡ Err w.in_default.field-0 =
          sym c.form_of.ensures.form ∙ w.in_default.is in
          wrong ∙ ap Err (check-kind words w.in_default.field-0 c.requires wrong)
    ] in
    subst (λ (kind : ℕ). EndsFindings words (Usage kind) first out) (sym c.number.ensures)
    (ends-usage words 3 first out none refl refl refl)
