-- The bytes of a name are ASCII.
use Rattle.std.proofs.Common.{lit<}
use Rattle.plant_model.proofs.NameBytes.{is_ascii-is_name_byte}
use Rattle.plant_model.proofs.name.Name.of.Goals as goal

pub short_text-requires : goal.short_text-requires
short_text-requires c = (lit< tt, is_ascii-is_name_byte)
