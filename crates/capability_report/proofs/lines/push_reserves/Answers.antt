-- A line more, and the end.
use Rattle.std.proofs.Common.{string_bytes, ◌++◌}
use Rattle.std.specs.Iterator.Adapters.{zip_first, zip_second}
use Rattle.std.specs.List.{flat_map, zip}
use Rattle.std.specs.Slice.Iter.{iter_rest}
use Rattle.std.proofs.lemmas.Slice.Zip.{Zip-more, either_empty_from_Zip}
use Rattle.capability_report.specs.Texts.{reserve_line}
use Rattle.log_text.proofs.Pairs.{pair_told, pairs_told}
use Rattle.capability_report.proofs.lines.push_reserves.Goals as goal

pub loop-group-preserved : goal.loop-group-preserved
loop-group-preserved c =
    let more = Zip-more c.loop-group.group-iterator c.next.new.self _
    (c.in-Some.group, c.in-Some.left) c.in-Some.is c.next.ensures.steps in
    pair_told reserve_line (string_bytes c.loop-group.text) (string_bytes c.push_reserve.new.text)
    (string_bytes c.args.text.now
    ++ flat_map reserve_line (zip c.args.groups.now c.args.margins.now))
    _ (iter_rest (zip_first c.next.new.self)) _ (iter_rest (zip_second c.next.new.self))
    c.in-Some.group.now c.in-Some.left.now more.0 more.1 c.in_ok-push_reserve.ensures
    c.loop-group.invariant

pub returns : goal.returns
returns c =
    let ended = either_empty_from_Zip c.loop-group.group-iterator c.next.new.self _ c.in-None.is
    c.next.ensures.steps in
    pairs_told reserve_line (string_bytes c.loop-group.text) (string_bytes c.loop-group.text)
    (string_bytes c.args.text.now
    ++ flat_map reserve_line (zip c.args.groups.now c.args.margins.now))
    (iter_rest (zip_first c.loop-group.group-iterator)) (iter_rest (zip_first c.next.new.self))
    (iter_rest (zip_second c.loop-group.group-iterator)) (iter_rest (zip_second c.next.new.self))
    ended c.loop-group.invariant
