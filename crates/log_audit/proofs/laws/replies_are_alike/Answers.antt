-- By the cases of calls, and by fractions in lowest terms.
use Rattle.log_audit.proofs.Replies.{replies_alike}
use Rattle.log_audit.proofs.Rights.{rights_alike}
use Rattle.log_audit.proofs.laws.replies_are_alike.Goals as goal

pub returns-clause-replies : goal.returns-clause-replies
returns-clause-replies c = replies_alike

pub returns-clause-allocations : goal.returns-clause-allocations
returns-clause-allocations c = rights_alike
