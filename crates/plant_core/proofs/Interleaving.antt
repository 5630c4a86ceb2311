-- Calls that are applied one after another leave a legal history of those that were answered.
use Rattle.std.proofs.Common.{◌≡◌, ℕ, List, [], ◌∷◌, ◌++◌, Bool, true, false, cond, sym, subst}
use Rattle.std.proofs.Math.Path.{refl}
use Rattle.std.proofs.lemmas.List.{append-nil, append_assoc}
use Rattle.std.specs.List.{fold}
use Rattle.plant_model.specs.declared.plant.Parts.{Parts}
use Rattle.plant_core.specs.Laws.{AreApplied, answered}
use Rattle.plant_core.specs.Machine.{CoreView, IsAllowed, IsCall, IsLegal, after_reply, is_answer}
use Rattle.plant_core.specs.Machine.{stand_after}
use Rattle.plant_core.specs.declared.call.Entry.{Entry}
use Rattle.plant_core.proofs.Histories.{legal-push}

-- a core with this history
abbrev pub core_at : Parts → ℕ → List Entry → CoreView
core_at plant limit history = record { plant = plant; limit = limit; history = history }

-- a core after calls has this history, which is legal
pub record Reaches (plant : Parts) (limit : ℕ) (before : CoreView) (calls history : List Entry)
    : Type 0 where
  pub core : fold after_reply before calls ≡ core_at plant limit history
  pub legal : IsLegal plant limit history

reaches-more : (plant : Parts) (limit : ℕ) (history : List Entry) (entry : Entry)
    (more : List Entry) (is : Bool) → is_answer entry.reply ≡ is → ((longer : List Entry)
    → IsLegal plant limit longer → AreApplied (core_at plant limit longer) more
    → Reaches plant limit (core_at plant limit longer) more (longer ++ answered more))
    → IsLegal plant limit history → IsCall plant entry.call
    → IsAllowed plant limit (stand_after plant history) entry.call entry.reply
    → AreApplied
    (cond is (core_at plant limit (history ++ entry ∷ [])) (core_at plant limit history)) more
    → Reaches plant limit
    (cond is (core_at plant limit (history ++ entry ∷ [])) (core_at plant limit history)) more
    (history ++ cond is (entry ∷ answered more) (answered more))
reaches-more plant limit history entry more true is rest legal call allowed applied =
    let longer = history ++ entry ∷ [] in
    let reached = rest longer
    (legal-push plant limit history entry legal
    (record { call = call; allowed = allowed; answered = is })) applied in
    subst
    (λ (all : List Entry). Reaches plant limit (core_at plant limit longer) more all)
    (append_assoc history (entry ∷ []) (answered more)) reached
reaches-more plant limit history entry more false is rest legal call allowed applied =
    rest history legal applied

-- calls that are applied to a core whose history is legal
pub reaches-answered : (plant : Parts) (limit : ℕ) (history calls : List Entry)
    → IsLegal plant limit history → AreApplied (core_at plant limit history) calls
    → Reaches plant limit (core_at plant limit history) calls (history ++ answered calls)
reaches-answered plant limit history [] legal applied =
    subst
    (λ (all : List Entry). Reaches plant limit (core_at plant limit history) [] all)
    (sym (append-nil history)) (record { core = refl; legal = legal })
reaches-answered plant limit history (entry ∷ more) legal applied =
    let reached = reaches-more plant limit history entry more (is_answer entry.reply) refl
    (λ longer. reaches-answered plant limit longer more) legal applied.0 applied.1 applied.2 in
    record { core = reached.core; legal = reached.legal }
