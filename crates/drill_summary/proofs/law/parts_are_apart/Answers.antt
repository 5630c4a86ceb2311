-- Each part is what its caller's calls make of it.
use Rattle.std.proofs.Common.{◌∙◌, ap, List}
use Rattle.plant_core.specs.declared.call.Call.{Call}
use Rattle.drill_summary.specs.Projections.{sensed_by, switched_by}
use Rattle.drill_summary.proofs.Fitting.{all-fit}
use Rattle.drill_summary.proofs.Summed.{sensed-apart, status-apart}
use Rattle.drill_summary.proofs.law.parts_are_apart.Goals as goal

pub returns-clause-sensors : goal.returns-clause-sensors
returns-clause-sensors c = λ plant sensors operators history apart asked.
    sensed-apart plant history (all-fit sensors operators history apart asked)
    ∙ ap (λ (calls : List Call). sensed_by plant calls) asked.control

pub returns-clause-switches : goal.returns-clause-switches
returns-clause-switches c = λ plant sensors operators history apart asked.
    status-apart plant history (all-fit sensors operators history apart asked)
    ∙ ap (λ (calls : List Call). switched_by plant calls) asked.orders
