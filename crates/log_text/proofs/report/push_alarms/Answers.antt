-- An alarm more.
use Rattle.std.proofs.Common.{string_bytes}
use Rattle.log_text.proofs.Alarms.{alarms_text-more}
use Rattle.log_text.proofs.report.push_alarms.Goals as goal

pub loop-place-preserved : goal.loop-place-preserved
loop-place-preserved c =
    alarms_text-more c.args.plant.now c.args.alarms.now.ring c.loop-place.place c.at.result
    (string_bytes c.loop-place.text) (string_bytes c.push_told.new.text)
    (string_bytes c.args.text.now) c.at.ensures c.loop-place.invariant c.in_ok-push_told.ensures
