-- Keys without faults.
use Rattle.std.specs.Prelude.{◌≡◌, ℕ, List, ◌++◌, Result, Bool, not, ◌&&◌, Option, Some, None, Ok}
use Rattle.std.specs.List.{flat_map, list_all}
use Rattle.toml.specs.Data.{Data, Members}
use Rattle.plant_file.specs.Described.{held}
use Rattle.plant_file.specs.Faults.{judged}
use Rattle.plant_file.specs.Kinds.{has_kind, keeps_limit}
use Rattle.plant_file.specs.PlantText.{faults_of_names, faults_of_references, key_faults_of, placed}
use Rattle.plant_file.specs.PlantText.{right_document, then_judged, thruster_faults, unless_faulty}
use Rattle.plant_file.specs.declared.fault.Part.TheVariants.{Thruster}
use Rattle.plant_file.specs.declared.fault.PlantFault.{PlantFault}
use Rattle.plant_file.specs.declared.key.Row.{Row}

-- a document whose keys have no faults
abbrev pub HasRightKeys : Members → Type 0
HasRightKeys doc = judged (key_faults_of doc) ≡ Ok tt

-- what a key holds is of its kind and keeps its limits, or it is missing and may be
abbrev pub is_right : Row → Option Data → Bool
is_right row None = not row.needed
is_right row (Some d) = has_kind row.kind d && keeps_limit row.kind d

-- the same of each key of a value that is a table
abbrev pub has_right_keys : List Row → Data → Bool
has_right_keys rows d = list_all (λ row. is_right row (held row.key d)) rows

-- the faults of a document behind those of its keys, but for too many choices
abbrev pub faults_but_choices : Members → List PlantFault
faults_but_choices doc =
    faults_of_names doc ++ faults_of_references doc
    ++ flat_map thruster_faults (placed Thruster doc)

-- the document with all judged but the number of choices
abbrev pub judged_document : List ℕ → Result Members PlantFault
judged_document bytes =
    then_judged (right_document bytes) (λ doc. unless_faulty (faults_but_choices doc) doc)
