use Rattle.redundancy_groups.specs.Connections.{leads_to}
use Rattle.redundancy_groups.proofs.Ways.{leads_tests, share_is}
use Rattle.redundancy_groups.proofs.exact.shares_are_exact.Goals as goal

pub returns-clause-ways : goal.returns-clause-ways
returns-clause-ways c p s section = leads_tests p s section

pub returns-clause-shares : goal.returns-clause-shares
returns-clause-shares c p s section share =
    (share_is p s section share, λ same. (leads_to p s section, leads_tests p s section, same))
