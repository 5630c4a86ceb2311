-- A line more, and the end.
use Rattle.std.proofs.Common.{string_bytes, ◌++◌}
use Rattle.std.specs.Iterator.Adapters.{zip_first, zip_second}
use Rattle.std.specs.List.{flat_map, zip}
use Rattle.std.specs.Slice.Iter.{iter_rest}
use Rattle.std.proofs.lemmas.Slice.Zip.{Zip-more, either_empty_from_Zip}
use Rattle.log_text.specs.Texts.{group_text}
use Rattle.log_text.proofs.Pairs.{pair_told, pairs_told}
use Rattle.log_text.proofs.report.push_groups.Goals as goal

pub loop-group-preserved : goal.loop-group-preserved
loop-group-preserved c =
    let more = Zip-more c.loop-group.group-iterator c.next.new.self _
    (c.in-Some.group, c.in-Some.cell) c.in-Some.is c.next.ensures.steps in
    pair_told group_text (string_bytes c.loop-group.text) (string_bytes c.push_group.new.text)
    (string_bytes c.args.text.now
    ++ flat_map group_text (zip c.args.groups.now c.args.cells.now))
    _ (iter_rest (zip_first c.next.new.self)) _ (iter_rest (zip_second c.next.new.self))
    c.in-Some.group.now c.in-Some.cell.now more.0 more.1 c.in_ok-push_group.ensures
    c.loop-group.invariant

pub returns : goal.returns
returns c =
    let ended = either_empty_from_Zip c.loop-group.group-iterator c.next.new.self _ c.in-None.is
    c.next.ensures.steps in
    pairs_told group_text (string_bytes c.loop-group.text) (string_bytes c.loop-group.text)
    (string_bytes c.args.text.now
    ++ flat_map group_text (zip c.args.groups.now c.args.cells.now))
    (iter_rest (zip_first c.loop-group.group-iterator)) (iter_rest (zip_first c.next.new.self))
    (iter_rest (zip_second c.loop-group.group-iterator)) (iter_rest (zip_second c.next.new.self))
    ended c.loop-group.invariant
