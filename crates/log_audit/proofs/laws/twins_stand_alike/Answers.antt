-- By the twins, entry by entry.
use Rattle.log_audit.proofs.Twins.{twins_alike}
use Rattle.log_audit.proofs.laws.twins_stand_alike.Goals as goal

pub returns : goal.returns
returns c = twins_alike
