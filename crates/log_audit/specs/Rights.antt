-- When thrusts give what an allocation says.
use Rattle.std.specs.Prelude.{◌≡◌}
use Rattle.certificate.specs.Outcomes.{Question}
use Rattle.thrust_allocation.specs.Allocations.{Gives}
use Rattle.thrust_allocation.specs.declared.allocation.Allocation.{Allocation}

-- the allocation's thrusts lie in the pieces of its choice, and give its part of the demand
abbrev pub IsGiven : Question → Allocation → Type 0
IsGiven question a =
    Gives question a.choice a.fraction.top a.fraction.bottom a.q a.thrusts.list.items

-- the same thrusts over the same denominator
pub record HasSameThrusts (given other : Allocation) : Type 0 where
  pub q : given.q ≡ other.q
  pub thrusts : given.thrusts.list.items ≡ other.thrusts.list.items
