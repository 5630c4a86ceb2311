use Rattle.std.proofs.Common.{sym, ◌%◌}
use Rattle.std.proofs.lemmas.Option.{unwrap_or-slice_get}
use Rattle.plant_model.specs.declared.limits.TheConstants.{WIND_ROWS}
use Rattle.wind_axes.proofs.wind.row.Goals as goal

pub returns : goal.returns
returns c = sym (unwrap_or-slice_get c.args.table.now (c.args.tens % WIND_ROWS) _)
