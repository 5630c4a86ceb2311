-- The values so far are those of the cuts so far.
use Rattle.std.proofs.Common.{◌≡◌, map, take}
use Rattle.serde_json.specs.View.{view}
use Rattle.log_text.specs.Json.{cut_data}
use Rattle.log_text.proofs.values.cuts_value.Given as goal

abbrev pub invariant-loop-cut : goal.invariant-loop-cut
invariant-loop-cut l = map view l.values.items
    ≡ map cut_data (take l.cut-index l.cut-items)
