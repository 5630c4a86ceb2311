-- A value more, and the end.
use Rattle.std.proofs.Common.{List, ◌∷◌, [], map, ◌∙◌, ap, ◌++◌}
use Rattle.std.specs.Iterator.Adapters.{zip_first, zip_second}
use Rattle.std.specs.List.{zip}
use Rattle.std.specs.Slice.Iter.{iter_rest}
use Rattle.std.proofs.lemmas.List.{map-append}
use Rattle.std.proofs.lemmas.Slice.Zip.{Zip-more, either_empty_from_Zip}
use Rattle.serde_json.specs.Data.{Data, array}
use Rattle.serde_json.specs.View.{items_of, view}
use Rattle.serde_json.proofs.Views.{view-Array}
use Rattle.log_text.specs.Json.{loss_data}
use Rattle.log_text.proofs.Pairs.{pair_made, pairs_made}
use Rattle.log_text.proofs.values.losses_value.Goals as goal

pub loop-group-preserved : goal.loop-group-preserved
loop-group-preserved c =
    let more = Zip-more c.loop-group.group-iterator c.next.new.self _
    (c.in-Some.group, c.in-Some.outcome) c.in-Some.is c.next.ensures.steps in
    let old = map view c.loop-group.values.items in
    let value = c.in_ok-loss_value.field-0 in
    let pushed = ap (map view) c.in_ok-push.ensures.items
    ∙ map-append view c.loop-group.values.items (value ∷ [])
    ∙ ap (λ (d : Data). old ++ d ∷ []) c.in_ok-loss_value.ensures in
    pair_made loss_data old (map view c.push.new.self.items)
    (map loss_data (zip c.args.groups.now c.args.outcomes.now))
    _ (iter_rest (zip_first c.next.new.self)) _ (iter_rest (zip_second c.next.new.self))
    c.in-Some.group.now c.in-Some.outcome.now more.0 more.1 pushed
    c.loop-group.invariant

pub returns : goal.returns
returns c =
    let ended = either_empty_from_Zip c.loop-group.group-iterator c.next.new.self _ c.in-None.is
    c.next.ensures.steps in
    let values = map view c.loop-group.values.items in
    view-Array c.loop-group.values
    ∙ ap (λ (ds : List Data). array (items_of ds))
    (pairs_made loss_data values values
    (map loss_data (zip c.args.groups.now c.args.outcomes.now))
    (iter_rest (zip_first c.loop-group.group-iterator)) (iter_rest (zip_first c.next.new.self))
    (iter_rest (zip_second c.loop-group.group-iterator)) (iter_rest (zip_second c.next.new.self))
    ended c.loop-group.invariant)
