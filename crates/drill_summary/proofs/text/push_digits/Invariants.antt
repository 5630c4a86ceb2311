-- The digits of the switches so far were appended.
use Rattle.std.specs.Prelude.{◌≡◌, ◌++◌, take, string_bytes}
use Rattle.std.specs.List.{flat_map}
use Rattle.drill_summary.specs.Texts.{digit_of}
use Rattle.drill_summary.proofs.text.push_digits.Given as goal

abbrev pub invariant-loop-on : goal.invariant-loop-on
invariant-loop-on l = string_bytes l.text
    ≡ string_bytes l.initial.text ++ flat_map digit_of (take l.on-index l.switches)
