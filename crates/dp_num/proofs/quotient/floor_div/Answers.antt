use Rattle.std.proofs.Common.{rules}
use Rattle.dp_num.proofs.Floors.{IsFloor-from_value}
use Rattle.dp_num.proofs.quotient.floor_div.Goals as goal

pub returns-clause-floor : goal.returns-clause-floor
returns-clause-floor c = IsFloor-from_value c.args.a c.args.b _ c.requires (search rules)
