-- The verdict is valid and of the latest version, so it is shown.
use Rattle.std.proofs.Common.{◌≡◌, ℕ, [], ◌∷◌, ◌++◌, ap, cond, subst, ◌∙◌}
use Rattle.std.proofs.Math.Path.{refl}
use Rattle.certificate.specs.Losses.{question_after}
use Rattle.certificate.specs.Outcomes.{IsValid}
use Rattle.plant_model.specs.Versions.{Version}
use Rattle.plant_model.specs.declared.plant.Parts.{Parts}
use Rattle.plant_model.specs.declared.status.Loss.TheVariants.{Group}
use Rattle.plant_core.specs.Board.{asked_of}
use Rattle.plant_core.specs.Machine.{CoreView, IsAllowed, after_reply, is_answer, stand_of, state_of}
use Rattle.plant_core.specs.declared.call.Call.TheVariants.{Publish}
use Rattle.plant_core.specs.declared.call.Entry.{Entry}
use Rattle.dp_sessions.proofs.Published.{published-shown}
use Rattle.dp_sessions.proofs.session.publish.Goals as goal

pub returns : goal.returns
returns c =
    let old = c.args.core.now in
    let group = c.args.group in
    let reply = c.in_ok-apply.field-0 in
    let outcome = c.analyse-outcome.result in
    let seen : Version = record {
      number = c.version.inside.number;
      status = c.version.inside.status;
      demand = c.version.inside.demand;
    } in
    let latest : seen ≡ (state_of old).latest = c.version.view_is ∙ c.latest.ensures in
    let valid : IsValid (asked_of old.plant (state_of old) group) outcome =
    subst (λ (p : Parts).
    IsValid (question_after p (state_of old).latest.status (Group group) (state_of old).latest.demand) outcome)
    c.plant.ensures
    (subst (λ (v : Version).
    IsValid (question_after c.plant.result.now v.status (Group group) v.demand) outcome) latest
    c.analyse-outcome.ensures.valid) in
    let shown = published-shown old.plant old.limit (stand_of old) group outcome reply
    c.requires.is_open c.requires.unshown valid
    (subst (λ (v : Version).
    IsAllowed old.plant old.limit (stand_of old) (Publish v.number group outcome) reply) latest
    c.in_ok-apply.ensures.allowed) in
    let entry : Entry = record {
      caller = 0;
      call = Publish (state_of old).latest.number group outcome;
      reply = reply;
    } in
    let grown : CoreView = record old { history = old.history ++ entry ∷ [] } in
    let history : c.apply.new.self ≡ grown =
    subst (λ (v : Version). c.apply.new.self ≡ after_reply old
    (record { caller = 0; call = Publish v.number group outcome; reply = reply })) latest
    (subst (λ (n : ℕ). c.apply.new.self ≡ after_reply old
    (record { caller = n; call = Publish seen.number group outcome; reply = reply }))
    c.number.ensures c.in_ok-apply.ensures.history)
    ∙ ap (λ b. cond b grown old) (ap is_answer shown) in
    record {
      plant = ap (λ (m : CoreView). m.plant) history;
      limit = ap (λ (m : CoreView). m.limit) history;
      verdict = record {
        entry = entry;
        history = history;
        verdict = record { outcome = outcome; asked = refl; shown = shown };
      };
      kept = tt;
    }
