-- The lines of the alarms so far that are told were appended.
use Rattle.std.proofs.Common.{◌≡◌, ◌++◌, string_bytes, take}
use Rattle.log_text.specs.Texts.{alarms_text}
use Rattle.log_text.proofs.report.push_alarms.Given as goal

abbrev pub invariant-loop-place : goal.invariant-loop-place
invariant-loop-place l = string_bytes l.text ≡ string_bytes l.fn.text
    ++ alarms_text l.plant (take l.place l.alarms.ring)
