use Rattle.std.proofs.Common.{◌*◌, ◌<◌, ◌^◌, arith, rules}
use Rattle.plant_file.proofs.RightThrusters.{choices_fit}
use Rattle.plant_file.proofs.building.choices.Goals as goal

pub overflow_mul-choices : goal.overflow_mul-choices
overflow_mul-choices c =
    let fits : c.loop-thruster.choices * c.len.result < 2 ^ 64 =
    choices_fit c.loop-thruster.choices c.len.result c.loop-thruster.thruster-index
    c.loop-thruster.invariant.few c.len.ensures.fits (omega arith) in
    search rules
