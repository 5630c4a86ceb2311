-- The thrusts so far were appended.
use Rattle.std.proofs.Common.{◌≡◌, ◌++◌, string_bytes, take}
use Rattle.std.specs.List.{flat_map}
use Rattle.log_text.specs.Outcomes.{thrust_text}
use Rattle.log_text.proofs.outcome.push_thrusts.Given as goal

abbrev pub invariant-loop-thrust : goal.invariant-loop-thrust
invariant-loop-thrust l = string_bytes l.text ≡ string_bytes l.fn.text
    ++ flat_map thrust_text (take l.thrust-index l.thrust-items)
