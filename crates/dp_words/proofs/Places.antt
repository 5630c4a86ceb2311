-- The text of a key's place in a table.
use Rattle.std.proofs.Common.{◌≡◌, ◌≢◌, ℕ, ◌++◌, codes, refl}
use Rattle.plant_file.specs.Texts.{key_text, place_text, table_text}
use Rattle.plant_file.specs.declared.fault.Part.{Part}
use Rattle.plant_file.specs.declared.fault.Part.TheVariants.{Top}
use Rattle.plant_file.specs.declared.fault.Key.{Key}
use Rattle.plant_file.specs.declared.fault.Key.TheVariants.{Whole}

pub key_in_table : (part : Part) (index : ℕ) (key : Key) → part ≢ Top → key ≢ Whole
    → place_text part index key ≡ table_text part index ++ codes "." ++ key_text key
key_in_table part index Whole table key = absurd (key refl)
key_in_table Top index key table is = absurd (table refl)
key_in_table part index key table is = refl
