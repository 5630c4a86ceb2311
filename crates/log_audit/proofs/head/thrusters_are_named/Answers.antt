-- Each thruster is met.
use Rattle.std.proofs.Common.{◌∙◌, IsTrue, ap, subst}
use Rattle.plant_model.specs.Names.{is_name}
use Rattle.plant_model.specs.declared.parts.Thruster.{Thruster}
use Rattle.log_text.proofs.FitLists.{each_met, one_more}
use Rattle.log_audit.proofs.head.thrusters_are_named.Goals as goal

abbrev IsNamed : Thruster → Type 0
IsNamed thruster = IsTrue (is_name thruster.name)

pub loop-thruster-preserved : goal.loop-thruster-preserved
loop-thruster-preserved c =
    let read = c.as_slice-thruster-items in
    let here = subst IsNamed c.thruster-item.is c.bytes-name.ensures.named in
    one_more IsNamed c.args.plant.now.thrusters.items read.result.now c.loop-thruster.thruster-index
    (read.ensures.value ∙ ap (λ t. t.items) c.thrusters.ensures) c.thruster-item.result
    c.loop-thruster-test.true c.loop-thruster.invariant here

pub returns : goal.returns
returns c =
    let read = c.as_slice-thruster-items in
    each_met IsNamed c.args.plant.now.thrusters.items read.result.now c.loop-thruster.thruster-index
    (read.ensures.value ∙ ap (λ t. t.items) c.thrusters.ensures)
    c.loop-thruster-test.false c.loop-thruster.invariant
