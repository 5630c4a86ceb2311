use Rattle.std.proofs.Common.{◌<◌, ◌-◌, ◌^◌, rules, arith}
use Rattle.toml.specs.View.{view}
use Rattle.plant_model.specs.declared.limits.TheConstants.{MOST_RING_POINTS}
use Rattle.plant_file.specs.Documents.{list_in}
use Rattle.plant_file.proofs.KindLemmas.{place_within}
use Rattle.plant_file.proofs.thruster.sector.Goals as goal

pub overflow_cast-result : goal.overflow_cast-result
overflow_cast-result c =
    let within =
    place_within (MOST_RING_POINTS - 1) (list_in (view c.args.value.now)) 0 c.requires in
    let small : c.natural_number_at.result < 2 ^ 32 =
    omega (arith, within, c.natural_number_at.ensures) in
    search rules

pub overflow_cast-result-2 : goal.overflow_cast-result-2
overflow_cast-result-2 c =
    let within =
    place_within (MOST_RING_POINTS - 1) (list_in (view c.args.value.now)) 1 c.requires in
    let small : c.natural_number_at-2.result < 2 ^ 32 =
    omega (arith, within, c.natural_number_at-2.ensures) in
    search rules
