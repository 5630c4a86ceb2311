use Rattle.std.proofs.Common.{ℕ, ◌<◌}
use Rattle.certificate.specs.Losses.{demand_of}
use Rattle.certificate.specs.Outcomes.{IsFeasible, question_of}
use Rattle.capability.specs.Paths.{along}
use Rattle.capability.specs.Shelters.{IsShelter}
use Rattle.capability.proofs.speeds.first_unmet.Given as goal

abbrev pub invariant-loop-speed : goal.invariant-loop-speed
invariant-loop-speed l = ((v : ℕ) → v < l.speed →
    IsFeasible (question_of l.plant l.regions (demand_of (along l.path v)))) ×
    IsShelter l.plant l.regions l.shelter
