-- The session's history stands for the streams of the drill, and the text is its summary.
use Rattle.std.proofs.Common.{◌∙◌, ap, sym, subst, string_bytes, Err, Some}
use Rattle.std.proofs.Math.Path.{refl}
use Rattle.dp_io.specs.Shown.{Shown}
use Rattle.plant_model.specs.Demo.{demo_parts}
use Rattle.plant_model.specs.declared.plant.Parts.{Parts}
use Rattle.plant_core.specs.Machine.{CoreView, IsLegal}
use Rattle.drill_streams.specs.Streams.{drill_operators, drill_sensors}
use Rattle.watch_session.specs.Watches.{Watches}
use Rattle.drill_session.specs.Drills.{StandsForDrill}
use Rattle.drill_session.specs.declared.session.TheConstants.{DRILL_WORKERS}
use Rattle.drill_session.proofs.Ending.{Holds, never-fails, recorded, stands-drill, unseen}
use Rattle.drill_session.proofs.Summing.{if-summary}
use Rattle.drill_session.proofs.session.summary.Goals as goal

pub returns : goal.returns
returns g c =
    let seed = c.args.seed in
    let size = c.args.size in
    let sensors : Shown = recorded c.new-sensors.result c.watch.new.second in
    let operators : Shown = recorded c.new-operators.result c.watch.new.third in
    let holds : Holds (drill_sensors seed size) sensors = record {
      told = ap Some (c.new-sensors.ensures ∙ c.in_ok-streams.ensures.sensors);
      steady = never-fails sensors refl refl;
    } in
    let orders : Holds (drill_operators seed size) operators = record {
      told = ap Some (c.new-operators.ensures ∙ c.in_ok-streams.ensures.operators);
      steady = never-fails operators refl refl;
    } in
    let left = c.in_ok-watched.watched in
    let ends = c.in_ok-watched.ensures in
    let legal = subst (λ (m : CoreView). IsLegal m.plant m.limit m.history) c.drop-2.view_is
    c.drop-2.invariant.legal in
    let watches : Watches demo_parts DRILL_WORKERS left.core left.ends left.is_whole sensors operators
    unseen =
    subst (λ (p : Parts). Watches p DRILL_WORKERS left.core left.ends left.is_whole sensors operators
    unseen) c.demo.ensures ends.watched in
    let stands : StandsForDrill DRILL_WORKERS seed size left.core.history =
    stands-drill seed size c.requires sensors operators unseen holds orders (never-fails unseen refl refl)
    DRILL_WORKERS left.core left.ends left.is_whole
    (sym c.has_ended.ensures ∙ c.if-not-has_ended.false)
    (λ e. never-fails unseen refl refl (ends.output.failed (ap Err e))) watches legal in
    if-summary string_bytes c.drill_text.result seed size left.core.plant left.core.history c.requires
    stands watches.same_plant c.drill_text.ensures
