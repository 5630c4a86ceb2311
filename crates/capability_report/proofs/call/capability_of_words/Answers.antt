-- The words ask for a capability or have no form.
use Rattle.std.proofs.Common.{◌≡◌, ◌∙◌, ℕ, length, map, string_bytes, subst, sym, ap, Ok, Err, rules}
use Rattle.std.proofs.Math.Path.{refl}
use Rattle.dp_io.specs.Shown.{reading, writing}
use Rattle.plant_model.specs.declared.wrench.Wrench.{Wrench}
use Rattle.dp_words.specs.Words.{NamesBelow, form_of}
use Rattle.dp_words.specs.declared.form.Form.{Form}
use Rattle.dp_words.specs.declared.form.Form.TheVariants.{Capability}
use Rattle.dp_words.specs.declared.status.RunStatus.TheVariants.{Usage}
use Rattle.dp_words.proofs.Plants.{named-at, word-at}
use Rattle.capability_report.specs.Calls.{EndsCapability}
use Rattle.capability_report.proofs.Ends.{ends-usage}
use Rattle.capability_report.proofs.Words.{other-words}
use Rattle.capability_report.proofs.call.capability_of_words.Goals as goal

pub returns-in_default-clause-ends : goal.returns-in_default-clause-ends
returns-in_default-clause-ends g c =
    let words = map string_bytes c.args.words.now in
    let first = reading g.A.Source c.args.first.now c.args.first.now in
    let out = writing g.O.Sink c.args.out.now c.args.out.now in
    let none : form_of words ≡ Err 3 =
    other-words words c.form_of.result c.requires c.form_of.ensures.form
    (λ (plant : ℕ) (demand : Wrench) (e : c.form_of.result ≡ Ok (Capability plant demand)).
    search rules) in
    subst (λ (kind : ℕ). EndsCapability words (Usage kind) first out) (sym c.number.ensures)
    (ends-usage words 3 first out none refl refl refl)

pub returns-clause-ends : goal.returns-clause-ends
returns-clause-ends g c =
    let words = map string_bytes c.args.words.now in
    let asked = c.in-Ok-Capability in
    let is_form = sym asked.ensures.form ∙ ap Ok asked.field-0-is in
    let within = subst (λ (form : Form). NamesBelow form (length c.args.words.now)) asked.field-0-is
    asked.ensures.within in
    c.capability.ensures.ends words (
      asked.plant,
      is_form,
      word-at string_bytes c.args.words.now c.index-words-plant.result c.as_str.result.now
          asked.plant within c.index-words-plant.is c.as_str.ensures.value,
    )

pub returns-clause-unread : goal.returns-clause-unread
returns-clause-unread g c = λ none.
    let asked = c.in-Ok-Capability in
    let is_form = sym asked.ensures.form ∙ ap Ok asked.field-0-is in
    let within = subst (λ (form : Form). NamesBelow form (length c.args.words.now)) asked.field-0-is
    asked.ensures.within in
    let word = c.as_str.result.now in
    let named = named-at string_bytes c.args.words.now c.index-words-plant.result
    (Capability asked.plant asked.demand) word asked.plant is_form refl within
    c.index-words-plant.is c.as_str.ensures.value in
    c.capability.ensures.unread (none word named)
