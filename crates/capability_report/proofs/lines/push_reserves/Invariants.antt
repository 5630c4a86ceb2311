-- The text so far and the lines of the groups that are left are all lines.
use Rattle.std.proofs.Common.{◌≡◌, ◌++◌, string_bytes}
use Rattle.std.specs.Iterator.Adapters.{zip_first, zip_second}
use Rattle.std.specs.List.{flat_map, zip}
use Rattle.std.specs.Slice.Iter.{iter_rest}
use Rattle.capability_report.specs.Texts.{reserve_line}
use Rattle.capability_report.proofs.lines.push_reserves.Given as goal

abbrev pub invariant-loop-group : goal.invariant-loop-group
invariant-loop-group l =
    let groups = iter_rest (zip_first l.group-iterator) in
    let margins = iter_rest (zip_second l.group-iterator) in
    string_bytes l.text ++ flat_map reserve_line (zip groups margins)
    ≡ string_bytes l.fn.text ++ flat_map reserve_line (zip l.groups l.margins)
