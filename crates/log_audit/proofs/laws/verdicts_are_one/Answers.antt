-- By the one history of a text, and by the first bad line.
use Rattle.log_audit.proofs.Verdicts.{one_verdict}
use Rattle.log_audit.proofs.laws.verdicts_are_one.Goals as goal

pub returns : goal.returns
returns c =
    one_verdict c.args.plant.now c.has_names.ensures c.texts_tell_histories.ensures
    c.logs_tell_histories.ensures
