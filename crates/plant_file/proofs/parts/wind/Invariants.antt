-- The rows so far, and none past them.
use Rattle.std.proofs.Common.{◌≡◌, map, take}
use Rattle.toml.specs.View.{view}
use Rattle.plant_model.specs.declared.limits.TheConstants.{WIND_ROWS}
use Rattle.plant_file.specs.Described.{filled}
use Rattle.plant_file.specs.Kinds.{wind_row_in}
use Rattle.plant_file.proofs.BuiltLemmas.{no_wind}
use Rattle.plant_file.proofs.parts.wind.Given as goal

abbrev pub invariant-loop-place : goal.invariant-loop-place
invariant-loop-place l =
    l.wind
    ≡ filled WIND_ROWS no_wind (map wind_row_in (map view (take l.place l.value-items)))
