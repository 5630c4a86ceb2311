-- The count of cuts was appended, and the cuts so far.
use Rattle.std.proofs.Common.{◌≡◌, ◌++◌, string_bytes, take, length}
use Rattle.std.specs.Fmt.{decimal}
use Rattle.std.specs.List.{flat_map}
use Rattle.log_text.specs.Outcomes.{cut_text}
use Rattle.log_text.proofs.outcome.push_cuts.Given as goal

abbrev pub invariant-loop-cut : goal.invariant-loop-cut
invariant-loop-cut l = string_bytes l.text ≡ string_bytes l.fn.text
    ++ (decimal (length l.cuts.list.items)
    ++ flat_map cut_text (take l.cut-index l.cut-items))
