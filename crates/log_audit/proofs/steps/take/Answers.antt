-- By the machine's own reply, beside which the log's is right exactly where it is allowed.
use Rattle.std.proofs.Common.{◌≡◌, ◌∙◌, Bool, true, false, IsTrue, ap, sym, subst}
use Rattle.plant_model.specs.Versions.{Version}
use Rattle.plant_model.specs.declared.plant.Parts.{Parts}
use Rattle.plant_model.specs.declared.status.Status.{Status}
use Rattle.plant_core.specs.declared.call.Reply.{Reply}
use Rattle.log_audit.specs.Twins.{IsAlsoRight, IsOwnRight}
use Rattle.log_audit.proofs.Taken.{behind, own_right, refuses, takes}
use Rattle.log_audit.proofs.steps.take.Goals as goal

-- what a test tells by a plant and a status it tells by equal ones
told_by : (test : Bool) (own other : Reply) {plant behind : Parts} {status before : Status}
    → plant ≡ behind → status ≡ before
    → ((IsTrue test → IsAlsoRight plant status own other)
    × (IsAlsoRight plant status own other → IsTrue test))
    → ((IsTrue test → IsAlsoRight behind before own other)
    × (IsAlsoRight behind before own other → IsTrue test))
told_by test own other {plant} {behind} {status} {before} plants statuses told =
    subst (λ (s : Status). (IsTrue test → IsAlsoRight behind s own other)
    × (IsAlsoRight behind s own other → IsTrue test)) statuses
    (subst (λ (p : Parts). (IsTrue test → IsAlsoRight p status own other)
    × (IsAlsoRight p status own other → IsTrue test)) plants told)

own_by : (own : Reply) {plant behind : Parts} {status before : Status} → plant ≡ behind
    → status ≡ before → IsOwnRight behind before own → IsOwnRight plant status own
own_by own {plant} {behind} {status} {before} plants statuses right =
    subst (λ (p : Parts). IsOwnRight p status own) (sym plants)
    (subst (λ (s : Status). IsOwnRight behind s own) (sym statuses) right)

pub is_also_right-requires : goal.is_also_right-requires
is_also_right-requires g c =
    let core = c.args.core.now in
    let own = c.in_ok-own.own in
    let allowed = c.in_ok-own.ensures.allowed in
    let stays = behind core c.args.entry own allowed c.apply.new.self c.in_ok-own.ensures.history in
    own_by own (c.plant.ensures ∙ stays.plant)
    (ap (λ (v : Version). v.status) (c.behind-core.view_is ∙ c.latest.ensures))
    (own_right core c.args.entry own allowed)

pub returns-clause-taken : goal.returns-clause-taken
returns-clause-taken g c =
    let core = c.args.core.now in
    let own = c.in_ok-own.own in
    let allowed = c.in_ok-own.ensures.allowed in
    let history = c.in_ok-own.ensures.history in
    let stays = behind core c.args.entry own allowed c.apply.new.self history in
    let told = told_by c.is_also_right.result own c.args.entry.reply (c.plant.ensures ∙ stays.plant)
    (ap (λ (v : Version). v.status) (c.behind-core.view_is ∙ c.latest.ensures))
    c.is_also_right.ensures in
    λ is. let yes : c.is_also_right.result ≡ true = cc (is) in
    takes core c.args.entry own allowed c.apply.new.self c.requires.call c.requires.answered
    (told.0 yes) history

pub returns-clause-none : goal.returns-clause-none
returns-clause-none g c =
    let core = c.args.core.now in
    let own = c.in_ok-own.own in
    let allowed = c.in_ok-own.ensures.allowed in
    let history = c.in_ok-own.ensures.history in
    let stays = behind core c.args.entry own allowed c.apply.new.self history in
    let told = told_by c.is_also_right.result own c.args.entry.reply (c.plant.ensures ∙ stays.plant)
    (ap (λ (v : Version). v.status) (c.behind-core.view_is ∙ c.latest.ensures))
    c.is_also_right.ensures in
    λ is. let no : c.is_also_right.result ≡ false = cc (is) in
    refuses core c.args.entry own allowed (λ right. let yes = told.1 right in absurd (cc (no, yes)))
