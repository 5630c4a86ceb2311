-- A verdict of the latest version is judged.
use Rattle.std.proofs.Common.{◌≤◌, ap, subst, sym, ◌∙◌}
use Rattle.certificate.specs.Losses.{question_after}
use Rattle.certificate.specs.Outcomes.{IsFirstFault, IsValid}
use Rattle.plant_model.specs.Versions.{Version}
use Rattle.plant_model.specs.declared.status.Loss.TheVariants.{Group}
use Rattle.plant_core.specs.Board.{is_shown}
use Rattle.plant_core.specs.declared.call.Reply.TheVariants.{Shown, Refused}
use Rattle.plant_core.specs.declared.state.State.{State}
use Rattle.plant_core.proofs.Commands.{reply-judged}
use Rattle.plant_core.proofs.board.publish_reply.Goals as goal

pub returns-in-Ok : goal.returns-in-Ok
returns-in-Ok c =
    let plant = c.args.plant.now in
    let state = c.args.state.now in
    let group = c.args.group in
    let to = subst (λ (s : State). c.args.version ≤ s.latest.number) c.state.view_is
    c.if-latest-version.false in
    let from = subst (λ (s : State). s.latest.number ≤ c.args.version) c.state.view_is
    c.if-version-latest.false in
    let there = sym (ap (is_shown state) c.place_of.ensures.place) ∙ sym c.is_shown.ensures
    ∙ c.if-is_shown.false in
    let valid = subst (λ (asked : Version).
    IsValid (question_after plant asked.status (Group group) asked.demand) c.args.outcome.now)
    c.asked.view_is c.in-Ok.ensures.ok in
    reply-judged plant state c.args.version group c.args.outcome.now Shown to from there valid

pub returns-in-Err : goal.returns-in-Err
returns-in-Err c =
    let plant = c.args.plant.now in
    let state = c.args.state.now in
    let group = c.args.group in
    let to = subst (λ (s : State). c.args.version ≤ s.latest.number) c.state.view_is
    c.if-latest-version.false in
    let from = subst (λ (s : State). s.latest.number ≤ c.args.version) c.state.view_is
    c.if-version-latest.false in
    let there = sym (ap (is_shown state) c.place_of.ensures.place) ∙ sym c.is_shown.ensures
    ∙ c.if-is_shown.false in
    let fault = subst (λ (asked : Version).
    IsFirstFault (question_after plant asked.status (Group group) asked.demand)
    c.args.outcome.now c.in-Err.place) c.asked.view_is c.in-Err.ensures.err in
    reply-judged plant state c.args.version group c.args.outcome.now (Refused c.in-Err.place) to
    from there fault
