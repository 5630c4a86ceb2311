use Rattle.std.proofs.Common.{◌≡◌, rules}
use Rattle.std.specs.Prelude.{IsTrue}
use Rattle.certificate.specs.declared.outcome.Place.TheVariants.{Choice}
use Rattle.certificate.specs.Losses.{demand_of}
use Rattle.capability.proofs.Sheltered.{sheltered}
use Rattle.capability.proofs.speeds.meets.Goals as goal

pub returns-then-is_covered-clause-met : goal.returns-then-is_covered-clause-met
returns-then-is_covered-clause-met c = (
  λ _. sheltered c.args.plant.now c.args.regions.now c.args.shelter.now.tent c.ahead-ahead.result
      c.vector_of.result (demand_of c.args.demand) c.requires.shelter.tent
      (c.is_covered.ensures c.if-is_covered.true) c.ahead-ahead.ensures.ahead
      c.vector_of.ensures.value,
  λ _. search rules,
)

pub returns-in-Holds-clause-shelter : goal.returns-in-Holds-clause-shelter
returns-in-Holds-clause-shelter c = record {
  there = c.in-Holds.ensures.valid Choice;
  tent = c.tent_in-shelter.ensures;
}
