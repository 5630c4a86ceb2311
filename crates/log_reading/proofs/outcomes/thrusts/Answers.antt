-- Item by item.
use Rattle.std.proofs.Common.{◌∙◌, ◌≤◌, ◌<◌, List, length, ap, arith, refl, subst, sym}
use Rattle.std.proofs.lemmas.Bool.Decides.{nat_tests}
use Rattle.plant_model.specs.declared.limits.TheConstants.{MOST_THRUSTERS}
use Rattle.plant_model.specs.declared.thrust.Thrust.{Thrust}
use Rattle.log_reading.specs.Outcomes.{thrust_at}
use Rattle.telegram.specs.Telegrams.{fields_left}
use Rattle.log_reading.specs.Fields.{taken}
use Rattle.log_reading.proofs.Items.{IsGoing, full, goes_on, some_left, unread}
use Rattle.log_reading.proofs.outcomes.thrusts.Goals as goal

pub returns-then-is_full : goal.returns-then-is_full
returns-then-is_full c =
    let some = some_left c.loop-rest.rest (sym c.is_some.ensures ∙ c.loop-rest-test.true) in
    let past : MOST_THRUSTERS ≤ length c.loop-rest.list.items = grind (arith, nat_tests) in
    rw (full Thrust thrust_at MOST_THRUSTERS (fields_left c.args.fields) c.loop-rest.list.items
    (fields_left c.loop-rest.rest) c.loop-rest.invariant some past) refl

pub returns-in_err-thrust : goal.returns-in_err-thrust
returns-in_err-thrust c =
    let some = some_left c.loop-rest.rest (sym c.is_some.ensures ∙ c.loop-rest-test.true) in
    let there : length c.loop-rest.list.items < MOST_THRUSTERS = grind (arith, nat_tests) in
    let none = sym c.thrust_at.ensures ∙ ap (taken {X = Thrust}) c.in_err-thrust.was in
    c.from_residual.ensures
    ∙ rw (unread Thrust thrust_at MOST_THRUSTERS (fields_left c.args.fields) c.loop-rest.list.items
    (fields_left c.loop-rest.rest) c.loop-rest.invariant some there none) refl

pub loop-rest-preserved : goal.loop-rest-preserved
loop-rest-preserved c =
    let some = some_left c.loop-rest.rest (sym c.is_some.ensures ∙ c.loop-rest-test.true) in
    let there : length c.loop-rest.list.items < MOST_THRUSTERS = grind (arith, nat_tests) in
    let found = sym c.thrust_at.ensures ∙ ap (taken {X = Thrust}) c.in_ok-thrust.was in
    subst (λ (items : List Thrust). IsGoing Thrust thrust_at MOST_THRUSTERS (fields_left c.args.fields) items
    (fields_left c.in_ok-thrust.others)) (sym c.push.ensures.items)
    (goes_on Thrust thrust_at MOST_THRUSTERS (fields_left c.args.fields) c.loop-rest.list.items
    (fields_left c.loop-rest.rest) c.in_ok-thrust.thrust (fields_left c.in_ok-thrust.others)
    c.loop-rest.invariant some there found)
