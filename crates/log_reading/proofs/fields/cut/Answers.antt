-- The two parts are those of the cut.
use Rattle.log_reading.proofs.Cuts.{cut-split}
use Rattle.log_reading.proofs.fields.cut.Goals as goal

pub returns : goal.returns
returns c =
    cut-split c.args.mark c.args.text.now c.split_once.result c.split_once.ensures.cases c.requires
