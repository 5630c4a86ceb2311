-- The values so far are those of the thrusts so far.
use Rattle.std.proofs.Common.{◌≡◌, map, take}
use Rattle.serde_json.specs.View.{view}
use Rattle.log_text.specs.Json.{thrust_data}
use Rattle.log_text.proofs.values.thrusts_value.Given as goal

abbrev pub invariant-loop-thrust : goal.invariant-loop-thrust
invariant-loop-thrust l = map view l.values.items
    ≡ map thrust_data (take l.thrust-index l.thrust-items)
