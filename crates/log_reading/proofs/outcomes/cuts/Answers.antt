-- Item by item.
use Rattle.std.proofs.Common.{◌∙◌, ◌≤◌, ◌<◌, List, length, ap, arith, refl, subst, sym}
use Rattle.std.proofs.lemmas.Bool.Decides.{nat_tests}
use Rattle.plant_model.specs.declared.limits.TheConstants.{MOST_CHOICES}
use Rattle.wrench_geometry.specs.declared.vector.Vec3.{Vec3}
use Rattle.log_reading.specs.Outcomes.{cut_at}
use Rattle.telegram.specs.Telegrams.{fields_left}
use Rattle.log_reading.specs.Fields.{taken}
use Rattle.log_reading.proofs.Items.{IsGoing, begins, full, goes_on, some_left, unread}
use Rattle.log_reading.proofs.outcomes.cuts.Goals as goal

pub loop-rest-init : goal.loop-rest-init
loop-rest-init c =
    subst (λ (items : List Vec3). IsGoing Vec3 cut_at MOST_CHOICES (fields_left c.args.fields) items
    (fields_left c.args.fields)) (sym c.new-list.ensures)
    (begins Vec3 cut_at MOST_CHOICES (fields_left c.args.fields))

pub returns-then-is_full : goal.returns-then-is_full
returns-then-is_full c =
    let some = some_left c.loop-rest.rest (sym c.is_some.ensures ∙ c.loop-rest-test.true) in
    let past : MOST_CHOICES ≤ length c.loop-rest.list.items = grind (arith, nat_tests) in
    rw (full Vec3 cut_at MOST_CHOICES (fields_left c.args.fields) c.loop-rest.list.items
    (fields_left c.loop-rest.rest) c.loop-rest.invariant some past) refl

pub returns-in_err-cut : goal.returns-in_err-cut
returns-in_err-cut c =
    let some = some_left c.loop-rest.rest (sym c.is_some.ensures ∙ c.loop-rest-test.true) in
    let there : length c.loop-rest.list.items < MOST_CHOICES = grind (arith, nat_tests) in
    let none = sym c.cut_at.ensures ∙ ap (taken {X = Vec3}) c.in_err-cut.was in
    c.from_residual.ensures
    ∙ rw (unread Vec3 cut_at MOST_CHOICES (fields_left c.args.fields) c.loop-rest.list.items
    (fields_left c.loop-rest.rest) c.loop-rest.invariant some there none) refl

pub loop-rest-preserved : goal.loop-rest-preserved
loop-rest-preserved c =
    let some = some_left c.loop-rest.rest (sym c.is_some.ensures ∙ c.loop-rest-test.true) in
    let there : length c.loop-rest.list.items < MOST_CHOICES = grind (arith, nat_tests) in
    let found = sym c.cut_at.ensures ∙ ap (taken {X = Vec3}) c.in_ok-cut.was in
    subst (λ (items : List Vec3). IsGoing Vec3 cut_at MOST_CHOICES (fields_left c.args.fields) items
    (fields_left c.in_ok-cut.others)) (sym c.push.ensures.items)
    (goes_on Vec3 cut_at MOST_CHOICES (fields_left c.args.fields) c.loop-rest.list.items
    (fields_left c.loop-rest.rest) c.in_ok-cut.cut (fields_left c.in_ok-cut.others)
    c.loop-rest.invariant some there found)
