-- What is asked is within a demand's limits, whoever makes it.
use Rattle.std.proofs.Common.{sym, subst}
use Rattle.pid.proofs.Demands.{is_demand-demand_of}
use Rattle.plant_model.specs.Versions.{IsDemand}
use Rattle.plant_model.specs.declared.wrench.Wrench.{Wrench}
use Rattle.plant_core.proofs.sensing.sensed.Goals.{then-state, else-state}
use Rattle.plant_core.proofs.sensing.sensed.Goals as goal

pub returns-clause-demand : goal.returns-clause-demand
returns-clause-demand c = elim c.if-state.branch [
  | then-state w ↦ rw w.next2-is c.requires.ready.manual
  | else-state w ↦ rw w.next2-is
      (subst (λ (demand : Wrench). IsDemand demand) (sym w.step-next.ensures.demand)
      (is_demand-demand_of c.args.state.now.controller c.args.moment w.errors-errors.result
      c.args.state.now.wind))
]
