use Rattle.toml.specs.View.{table_view}
use Rattle.plant_file.proofs.RightLemmas.{surge_right, sway_right, yaw_right}
use Rattle.plant_file.proofs.parts.gains.Goals as goal

pub gains_of-requires : goal.gains_of-requires
gains_of-requires c = surge_right (table_view c.args.document.now) c.requires

pub gains_of-requires-2 : goal.gains_of-requires-2
gains_of-requires-2 c = sway_right (table_view c.args.document.now) c.requires

pub gains_of-requires-3 : goal.gains_of-requires-3
gains_of-requires-3 c = yaw_right (table_view c.args.document.now) c.requires
