-- The values so far and those of the groups that are left are all values.
use Rattle.std.proofs.Common.{◌≡◌, ◌++◌, map}
use Rattle.std.specs.Iterator.Adapters.{zip_first, zip_second}
use Rattle.std.specs.List.{zip}
use Rattle.std.specs.Slice.Iter.{iter_rest}
use Rattle.serde_json.specs.View.{view}
use Rattle.log_text.specs.Json.{loss_data}
use Rattle.log_text.proofs.values.losses_value.Given as goal

abbrev pub invariant-loop-group : goal.invariant-loop-group
invariant-loop-group l =
    let groups = iter_rest (zip_first l.group-iterator) in
    let outcomes = iter_rest (zip_second l.group-iterator) in
    map view l.values.items ++ map loss_data (zip groups outcomes)
    ≡ map loss_data (zip l.groups l.outcomes)
