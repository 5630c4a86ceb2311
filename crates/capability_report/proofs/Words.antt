-- Words that name a capability ask for one, or have no form.
use Rattle.std.proofs.Common.{◌≡◌, ℕ, List, [], ◌∷◌, true, Result, Ok, Err, refl, sym, ◌∙◌, ap}
use Rattle.std.proofs.Common.{codes}
use Rattle.plant_model.specs.declared.wrench.Wrench.{Wrench}
use Rattle.dp_words.specs.Words.{form_of}
use Rattle.dp_words.specs.declared.form.Form.{Form}
use Rattle.dp_words.specs.declared.form.Form.TheVariants.{Capability, Check, Drill, Replay, Run}
use Rattle.dp_words.specs.declared.form.Form.TheVariants.{Vote}
use Rattle.dp_words.proofs.Commands.{capability-other, differ, no-other}
use Rattle.capability_report.specs.Calls.{names_capability}

-- words that name a capability and have another form have none, for the words after the first
pub other-words : (words : List (List ℕ)) (read : Result Form ℕ) → names_capability words ≡ true
    → read ≡ form_of words
    → ((plant : ℕ) (demand : Wrench) → read ≡ Ok (Capability plant demand) → ⊥)
    → form_of words ≡ Err 3
other-words [] read named is other = absurd (cc)
other-words (command ∷ words) (Ok (Capability plant demand)) named is other =
    absurd (other plant demand refl)
other-words (command ∷ words) (Ok (Run plant sensors operators workers)) named is other =
    absurd (no-other command words (codes "capability") (Run plant sensors operators workers) named
    (differ (codes "capability") (codes "run") refl) (sym is))
other-words (command ∷ words) (Ok (Replay plant telegrams)) named is other =
    absurd (no-other command words (codes "capability") (Replay plant telegrams) named
    (differ (codes "capability") (codes "replay") refl) (sym is))
other-words (command ∷ words) (Ok (Check plant demand json)) named is other =
    absurd (no-other command words (codes "capability") (Check plant demand json) named
    (differ (codes "capability") (codes "check") refl) (sym is))
other-words (command ∷ words) (Ok (Vote telegrams report)) named is other =
    absurd (no-other command words (codes "capability") (Vote telegrams report) named
    (differ (codes "capability") (codes "vote") refl) (sym is))
other-words (command ∷ words) (Ok (Drill seed size)) named is other =
    absurd (no-other command words (codes "capability") (Drill seed size) named
    (differ (codes "capability") (codes "drill") refl) (sym is))
other-words (command ∷ words) (Err kind) named is other =
    sym is ∙ ap Err (capability-other command words kind named (sym is))
