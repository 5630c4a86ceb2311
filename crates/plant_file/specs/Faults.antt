-- The faults of a document, in the order in which they are judged.
use Rattle.std.specs.Prelude.{ℕ, List, [], ◌∷◌, ◌++◌, length, Bool, false, Option, Some, None}
use Rattle.std.specs.Prelude.{Result, Ok, Err, nat_lt, nat_le, if◌then◌else◌, pos, int_le, ◌<◌, ◌^◌}
use Rattle.std.specs.List.{flat_map, list_all, list_any, enumerate_from}
use Rattle.std.specs.Str.{bytes_eq}
use Rattle.toml.specs.Data.{Data, array, Members, as_table, get_member}
use Rattle.plant_file.specs.Documents.{elements, list_in, is_table, keys, number_in}
use Rattle.plant_file.specs.Keys.{rows, arrays, axes, axis_keys, count_of, row_keys, top_keys}
use Rattle.plant_file.specs.Kinds.{has_kind, keeps_limit}
use Rattle.plant_file.specs.Texts.{part_text, key_text, axis_text}
use Rattle.plant_file.specs.declared.fault.Part.{Part}
use Rattle.plant_file.specs.declared.fault.Part.TheVariants.{Top, Controller}
use Rattle.plant_file.specs.declared.fault.Key.{Key}
use Rattle.plant_file.specs.declared.fault.Key.TheVariants.{Whole, Format as FormatKey}
use Rattle.plant_file.specs.declared.fault.Path.{Path}
use Rattle.plant_file.specs.declared.fault.PlantFault.{PlantFault}
use Rattle.plant_file.specs.declared.fault.PlantFault.TheVariants.{MissingKey, WrongKind}
use Rattle.plant_file.specs.declared.fault.PlantFault.TheVariants.{OutOfLimit, UnknownKey}
use Rattle.plant_file.specs.declared.key.Format.{Format}
use Rattle.plant_file.specs.declared.key.Format.TheVariants.{One, Two}
use Rattle.plant_file.specs.declared.key.Row.{Row}
use Rattle.plant_file.specs.declared.kind.Count.{Count}
use Rattle.plant_file.specs.declared.kind.Kind.{Kind}

-- the first of the faults, where there is one
abbrev pub judged : List PlantFault → Result (Unit {0}) PlantFault
judged [] = Ok tt
judged (fault ∷ faults) = Err fault

abbrev pub path_to : Part → ℕ → Key → Path
path_to part index key = record { part = part; index = index; key = key }

-- the format that the document says; format 1 where it says none
abbrev pub format_in : Option Data → Format
format_in None = One
format_in (Some d) = if int_le (pos 2) (number_in d) then Two else One

abbrev pub format_of : Members → Format
format_of doc = format_in (get_member (key_text FormatKey) doc)

-- a value that a key holds: its kind, and then its limits
abbrev pub value_faults : Path → Kind → Data → List PlantFault
value_faults path kind d =
    if has_kind kind d then (if keeps_limit kind d then [] else OutOfLimit path ∷ [])
    else WrongKind path ∷ []

-- what a key of a table holds
abbrev pub key_faults : Path → Row → Option Data → List PlantFault
key_faults path row None = if row.needed then MissingKey path ∷ [] else []
key_faults path row (Some d) = value_faults path row.kind d

abbrev pub row_faults : Part → ℕ → Members → Row → List PlantFault
row_faults part index ms row =
    key_faults (path_to part index row.key) row (get_member (key_text row.key) ms)

-- each key of a table, in the order of the table of keys
abbrev pub table_faults : Part → ℕ → List Row → Members → List PlantFault
table_faults part index rows ms = flat_map (row_faults part index ms) rows

-- the faults of a table, or other ones where there is none
abbrev pub table_or : List PlantFault → (Members → List PlantFault) → Option Members
    → List PlantFault
table_or others faults None = others
table_or others faults (Some ms) = faults ms

-- the faults in a value that must be a table
abbrev pub in_table : Path → (Members → List PlantFault) → Option Data → List PlantFault
in_table path faults None = MissingKey path ∷ []
in_table path faults (Some d) = table_or (WrongKind path ∷ []) faults (as_table d)

-- the faults in a value, where it is a table
abbrev pub in_element : (Members → List PlantFault) → Data → List PlantFault
in_element faults d = table_or [] faults (as_table d)

-- `surge`, `sway` or `yaw` of the controller
abbrev pub axis_faults : Format → Members → ℕ → List PlantFault
axis_faults format controller index =
    in_table (path_to Controller index Whole)
    (table_faults Controller index (rows format Controller))
    (get_member (axis_text index) controller)

abbrev pub controller_faults : Format → Members → List PlantFault
controller_faults format doc =
    in_table (path_to Controller 0 Whole)
    (λ controller. flat_map (axis_faults format controller) axes)
    (get_member (part_text Controller) doc)

-- how many tables a part has: too few, or the first place past the limit
abbrev pub count_faults : Part → Count → ℕ → List PlantFault
count_faults part count n =
    if nat_lt n count.fewest then OutOfLimit (path_to part 0 Whole) ∷ []
    else (if nat_lt count.most n then OutOfLimit (path_to part count.most Whole) ∷ [] else [])

abbrev pub is_array_of_tables : Data → Bool
is_array_of_tables (array ds) = list_all is_table (elements ds)
is_array_of_tables _ = false

-- an array of tables itself. One that may be empty may be missing
abbrev pub array_faults : Part → Count → Option Data → List PlantFault
array_faults part count None =
    if nat_le 1 count.fewest then MissingKey (path_to part 0 Whole) ∷ [] else []
array_faults part count (Some d) =
    if is_array_of_tables d then count_faults part count (length (list_in d))
    else WrongKind (path_to part 0 Whole) ∷ []

-- the elements of a list that a key holds
abbrev pub elements_in : Option Data → List Data
elements_in None = []
elements_in (Some d) = list_in d

-- the elements of a part that is an array of tables; none of another
abbrev pub elements_at : Part → Members → List Data
elements_at Top doc = []
elements_at Controller doc = []
elements_at part doc = elements_in (get_member (part_text part) doc)

-- the faults of elements that are tables, each with its place
abbrev pub faults_of_elements : (ℕ → Members → List PlantFault) → List (ℕ × Data) → List PlantFault
faults_of_elements faults es = flat_map (λ e. in_element (faults e.0) e.1) es

abbrev pub table_faults_at : Part → List Row → ℕ → Members → List PlantFault
table_faults_at part rows index ms = table_faults part index rows ms

-- each key of each table of a part
abbrev pub elements_faults : Format → Part → Members → List PlantFault
elements_faults format part doc =
    faults_of_elements (table_faults_at part (rows format part))
    (enumerate_from 0 (elements_at part doc))

abbrev pub part_faults : Format → Members → Part → List PlantFault
part_faults format doc part =
    array_faults part (count_of format part) (get_member (part_text part) doc)
    ++ elements_faults format part doc

-- missing keys, wrong kinds and broken limits, key by key
abbrev pub faults_of_keys : Format → Members → List PlantFault
faults_of_keys format doc =
    table_faults Top 0 (rows format Top) doc ++ controller_faults format doc
    ++ flat_map (part_faults format doc) arrays

-- a table with no other keys than these
abbrev pub has_known : List (List ℕ) → Members → Bool
has_known known ms = list_all (λ key. list_any (bytes_eq key) known) (keys ms)

abbrev pub unknown_unless : Bool → Part → ℕ → List PlantFault
unknown_unless good part index = if good then [] else UnknownKey (path_to part index Whole) ∷ []

-- a table with a key that it can't have
abbrev pub unknown_faults : Part → ℕ → List (List ℕ) → Members → List PlantFault
unknown_faults part index known ms = unknown_unless (has_known known ms) part index

-- the same in what a key holds, where it is a table
abbrev pub unknown_below : (Members → List PlantFault) → Option Data → List PlantFault
unknown_below faults None = []
unknown_below faults (Some d) = in_element faults d

abbrev pub unknown_in_axis : Format → Members → ℕ → List PlantFault
unknown_in_axis format controller index =
    unknown_below (unknown_faults Controller index (row_keys (rows format Controller)))
    (get_member (axis_text index) controller)

-- the table `controller` and its three tables
abbrev pub unknown_in_controller : Format → Members → List PlantFault
unknown_in_controller format controller =
    unknown_faults Controller 0 axis_keys controller
    ++ flat_map (unknown_in_axis format controller) axes

abbrev pub unknown_faults_at : Part → List Row → ℕ → Members → List PlantFault
unknown_faults_at part rows index ms = unknown_faults part index (row_keys rows) ms

abbrev pub unknown_in_part : Format → Members → Part → List PlantFault
unknown_in_part format doc part =
    faults_of_elements (unknown_faults_at part (rows format part))
    (enumerate_from 0 (elements_at part doc))

-- keys that a table can't have, table by table
abbrev pub faults_of_unknown_keys : Format → Members → List PlantFault
faults_of_unknown_keys format doc =
    unknown_faults Top 0 top_keys doc
    ++ unknown_below (unknown_in_controller format) (get_member (part_text Controller) doc)
    ++ flat_map (unknown_in_part format doc) arrays

-- an index of a table fits a path
pub record HasShortArrays (doc : Members) : Type 0 where
  pub short : (part : Part) → length (elements_at part doc) < 2 ^ 32
