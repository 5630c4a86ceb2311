-- Keys without faults are right, table by table.
use Rattle.std.proofs.Common.{◌≡◌, ℕ, ◌≤◌, ◌+◌, List, [], ◌∷◌, ◌++◌, length, drop}
use Rattle.std.proofs.Common.{Bool, true, false, not, ◌&&◌, cond, Option, Some, None, Ok, is_some}
use Rattle.std.proofs.Common.{refl, ap, sym, ◌∙◌, arith}
use Rattle.std.specs.Prelude.{option_and_then, nat_le, unwrap_or}
use Rattle.std.specs.List.{enumerate_from, flat_map, list_all}
use Rattle.std.proofs.lemmas.Bool.{and_from, and_parts}
use Rattle.std.proofs.lemmas.Bool.Decides.{nat_tests}
use Rattle.std.proofs.lemmas.List.Folds.{list_all-append}
use Rattle.toml.specs.Data.{Data, Members, as_table, get_member, string, integer, float, boolean}
use Rattle.toml.specs.Data.{datetime, array, table, no_members}
use Rattle.plant_model.specs.declared.limits.TheConstants.{MOST_GENERATORS, MOST_GROUPS}
use Rattle.plant_model.specs.declared.limits.TheConstants.{MOST_SECTIONS, MOST_THRUSTERS, MOST_TIES}
use Rattle.plant_file.specs.declared.fault.Key.TheVariants.{Whole}
use Rattle.plant_file.specs.declared.fault.Part.{Part}
use Rattle.plant_file.specs.declared.fault.Part.TheVariants.{Top, Controller, Section, Tie}
use Rattle.plant_file.specs.declared.fault.Part.TheVariants.{Generator, Thruster, Group}
use Rattle.plant_file.specs.declared.fault.Path.{Path}
use Rattle.plant_file.specs.declared.fault.PlantFault.TheVariants.{MissingKey, WrongKind}
use Rattle.plant_file.specs.declared.fault.PlantFault.TheVariants.{OutOfLimit}
use Rattle.plant_file.specs.declared.key.Format.{Format}
use Rattle.plant_file.specs.declared.key.Format.TheVariants.{One, Two}
use Rattle.plant_file.specs.declared.key.Row.{Row}
use Rattle.plant_file.specs.declared.kind.Count.{Count}
use Rattle.plant_file.specs.Described.{axis_in, held}
use Rattle.plant_file.specs.Documents.{is_table, list_in}
use Rattle.plant_file.specs.Faults.{array_faults, controller_faults, count_faults, axis_faults}
use Rattle.plant_file.specs.Faults.{elements_at, elements_in, faults_of_elements, faults_of_keys}
use Rattle.plant_file.specs.Faults.{faults_of_unknown_keys, format_of, in_element, in_table}
use Rattle.plant_file.specs.Faults.{is_array_of_tables, judged, key_faults, part_faults, path_to}
use Rattle.plant_file.specs.Faults.{row_faults, table_faults, table_faults_at, table_or}
use Rattle.plant_file.specs.Faults.{HasShortArrays}
use Rattle.plant_file.specs.Keys.{arrays, axes, axis_rows, count_of, generator_rows, group_rows}
use Rattle.plant_file.specs.Keys.{rows, section_rows, tie_rows, thruster_rows, thruster_rows_of_1}
use Rattle.plant_file.specs.Keys.{top_rows}
use Rattle.plant_file.specs.Kinds.{has_kind, keeps_limit}
use Rattle.plant_file.specs.Texts.{axis_text, key_text, part_text}
use Rattle.plant_file.specs.RightKeys.{HasRightKeys, has_right_keys, is_right}
use Rattle.plant_file.proofs.ArrayLemmas.{HasShortArrays-from_judged, length-elements_in}
use Rattle.plant_file.proofs.JudgedLemmas.{judged_at_place, judged_both}

value_right_if : (kind_is limit_is : Bool) (path : Path)
    → judged (cond kind_is (cond limit_is [] (OutOfLimit path ∷ [])) (WrongKind path ∷ [])) ≡ Ok tt
    → (kind_is && limit_is) ≡ true
value_right_if true true path none = refl
value_right_if true false path none = absurd cc
value_right_if false limit_is path none = absurd cc

missing_right_if : (needed : Bool) (path : Path)
    → judged (cond needed (MissingKey path ∷ []) []) ≡ Ok tt → not needed ≡ true
missing_right_if true path none = absurd cc
missing_right_if false path none = refl

held_right : (path : Path) (row : Row) (held : Option Data)
    → judged (key_faults path row held) ≡ Ok tt → is_right row held ≡ true
held_right path row None none = missing_right_if row.needed path none
held_right path row (Some d) none =
    value_right_if (has_kind row.kind d) (keeps_limit row.kind d) path none

-- the keys of a table, row by row
pub rows_right : (part : Part) (index : ℕ) (rs : List Row) (ms : Members)
    → judged (table_faults part index rs ms) ≡ Ok tt → has_right_keys rs (table ms) ≡ true
rows_right part index [] ms none = refl
rows_right part index (row ∷ rs) ms none =
    let both = judged_both (row_faults part index ms row) (table_faults part index rs ms) none in
    and_from _ _
    (held_right (path_to part index row.key) row (get_member (key_text row.key) ms) both.0)
    (rows_right part index rs ms both.1)

-- the same of a value that is a table
element_right : (part : Part) (index : ℕ) (rs : List Row) (d : Data) (o : Option Members)
    → as_table d ≡ o → is_some o ≡ true
    → judged (table_or [] (table_faults part index rs) o) ≡ Ok tt → has_right_keys rs d ≡ true
element_right part index rs d None is some none = absurd cc
element_right part index rs d (Some ms) is some none =
    ap (λ (o : Option Members).
    list_all (λ row. is_right row (option_and_then (get_member (key_text row.key)) o)) rs) is
    ∙ rows_right part index rs ms none

elements_right_from : (part : Part) (i : ℕ) (rs : List Row) (ds : List Data)
    → list_all is_table ds ≡ true
    → judged (faults_of_elements (table_faults_at part rs) (enumerate_from i ds)) ≡ Ok tt
    → list_all (has_right_keys rs) ds ≡ true
elements_right_from part i rs [] tables none = refl
elements_right_from part i rs (d ∷ ds) tables none =
    let both =
    judged_both (in_element (table_faults_at part rs i) d)
    (faults_of_elements (table_faults_at part rs) (enumerate_from (i + 1) ds)) none in
    let each = and_parts (is_table d) (list_all is_table ds) tables in
    and_from _ _ (element_right part i rs d (as_table d) refl each.0 both.0)
    (elements_right_from part (i + 1) rs ds each.1 both.1)

tables_in : (d : Data) → is_array_of_tables d ≡ true → list_all is_table (list_in d) ≡ true
tables_in (string s) is = refl
tables_in (integer z) is = refl
tables_in (float x) is = refl
tables_in (boolean b) is = refl
tables_in (datetime t) is = refl
tables_in (array ds) is = is
tables_in (table ms) is = refl

tables_if : (part : Part) (count : Count) (d : Data) (good : Bool) → is_array_of_tables d ≡ good
    → judged (cond good (count_faults part count (length (list_in d)))
    (WrongKind (path_to part 0 Whole) ∷ [])) ≡ Ok tt → list_all is_table (list_in d) ≡ true
tables_if part count d true is none = tables_in d is
tables_if part count d false is none = absurd cc

-- an array of tables without a fault has tables alone
tables_right : (part : Part) (count : Count) (held : Option Data)
    → judged (array_faults part count held) ≡ Ok tt → list_all is_table (elements_in held) ≡ true
tables_right part count None none = refl
tables_right part count (Some d) none = tables_if part count d (is_array_of_tables d) refl none

-- the elements of an array of tables without a fault
array_right : (part : Part) (count : Count) (rs : List Row) (held : Option Data)
    → judged (array_faults part count held ++ faults_of_elements (table_faults_at part rs)
    (enumerate_from 0 (elements_in held))) ≡ Ok tt
    → list_all (has_right_keys rs) (elements_in held) ≡ true
array_right part count rs held none =
    let both =
    judged_both (array_faults part count held)
    (faults_of_elements (table_faults_at part rs) (enumerate_from 0 (elements_in held)))
    none in
    elements_right_from part 0 rs (elements_in held) (tables_right part count held both.0) both.1

-- those of a thruster's keys that each format has
thrusters_right : (format : Format) (ds : List Data)
    → list_all (has_right_keys (thruster_rows format)) ds ≡ true
    → list_all (has_right_keys thruster_rows_of_1) ds ≡ true
thrusters_right One ds right = right
thrusters_right Two [] right = refl
thrusters_right Two (d ∷ ds) right =
    let each =
    and_parts (has_right_keys (thruster_rows Two) d)
    (list_all (has_right_keys (thruster_rows Two)) ds) right in
    let others = drop (length thruster_rows_of_1) (thruster_rows Two) in
    let front =
    and_parts (has_right_keys thruster_rows_of_1 d) (has_right_keys others d)
    (sym (list_all-append (λ row. is_right row (held row.key d)) thruster_rows_of_1 others)
    ∙ each.0) in
    and_from _ _ front.0 (thrusters_right Two ds each.1)

-- a fault at a limit of a count
fewest_if : (part : Part) (count : Count) (n : ℕ) → judged (count_faults part count n) ≡ Ok tt
    → count.fewest ≤ n
fewest_if part count n none = grind (arith, nat_tests)

fewest_in : (part : Part) (count : Count) (d : Data) (good : Bool)
    → judged (cond good (count_faults part count (length (list_in d)))
    (WrongKind (path_to part 0 Whole) ∷ [])) ≡ Ok tt → count.fewest ≤ length (list_in d)
fewest_in part count d true none = fewest_if part count (length (list_in d)) none
fewest_in part count d false none = absurd cc

fewest_missing : (n : ℕ) (path : Path)
    → judged (cond (nat_le 1 n) (MissingKey path ∷ []) []) ≡ Ok tt → n ≤ 0
fewest_missing n path none = grind (arith, nat_tests)

-- an array of tables without a fault has at least as many as its limit says
fewest_right : (part : Part) (count : Count) (held : Option Data)
    → judged (array_faults part count held) ≡ Ok tt → count.fewest ≤ length (elements_in held)
fewest_right part count None none = fewest_missing count.fewest (path_to part 0 Whole) none
fewest_right part count (Some d) none = fewest_in part count d (is_array_of_tables d) none

axis_table : (format : Format) (index : ℕ) (d : Data) (o : Option Members) → as_table d ≡ o
    → judged (table_or (WrongKind (path_to Controller index Whole) ∷ [])
    (table_faults Controller index axis_rows) o) ≡ Ok tt → has_right_keys axis_rows d ≡ true
axis_table format index d None is none = absurd cc
axis_table format index d (Some ms) is none =
    ap (λ (o : Option Members).
    list_all (λ row. is_right row (option_and_then (get_member (key_text row.key)) o))
    axis_rows) is ∙ rows_right Controller index axis_rows ms none

axis_right_in : (format : Format) (index : ℕ) (held : Option Data)
    → judged (in_table (path_to Controller index Whole) (table_faults Controller index axis_rows)
    held) ≡ Ok tt
    → has_right_keys axis_rows (unwrap_or held (table no_members)) ≡ true
axis_right_in format index None none = absurd cc
axis_right_in format index (Some d) none = axis_table format index d (as_table d) refl none

axes_right_in : (format : Format) (ms : Members) (is : List ℕ)
    → judged (flat_map (axis_faults format ms) is) ≡ Ok tt
    → list_all
    (λ index. has_right_keys axis_rows
    (unwrap_or (get_member (axis_text index) ms) (table no_members))) is ≡ true
axes_right_in format ms [] none = refl
axes_right_in format ms (i ∷ is) none =
    let both = judged_both (axis_faults format ms i) (flat_map (axis_faults format ms) is) none in
    and_from _ _ (axis_right_in format i (get_member (axis_text i) ms) both.0)
    (axes_right_in format ms is both.1)

controller_table : (format : Format) (d : Data) (o : Option Members) → as_table d ≡ o
    → judged (table_or (WrongKind (path_to Controller 0 Whole) ∷ [])
    (λ controller. flat_map (axis_faults format controller) axes) o) ≡ Ok tt
    → list_all
    (λ index. has_right_keys axis_rows
    (unwrap_or (option_and_then (get_member (axis_text index)) (as_table d))
    (table no_members))) axes ≡ true
controller_table format d None is none = absurd cc
controller_table format d (Some ms) is none =
    ap (λ (o : Option Members).
    list_all (λ index. has_right_keys axis_rows
    (unwrap_or (option_and_then (get_member (axis_text index)) o) (table no_members))) axes)
    is ∙ axes_right_in format ms axes none

controller_right : (format : Format) (held : Option Data)
    → judged (in_table (path_to Controller 0 Whole)
    (λ controller. flat_map (axis_faults format controller) axes) held) ≡ Ok tt
    → list_all
    (λ index. has_right_keys axis_rows
    (unwrap_or
    (option_and_then (λ d. option_and_then (get_member (axis_text index)) (as_table d))
    held) (table no_members))) axes ≡ true
controller_right format None none = absurd cc
controller_right format (Some d) none = controller_table format d (as_table d) refl none

some_groups_of : (format : Format) → {n : ℕ} → (count_of format Group).fewest ≤ n → 1 ≤ n
some_groups_of One some = some
some_groups_of Two some = some

few_groups_of : (format : Format) (n : ℕ) → n ≤ (count_of format Group).most → n ≤ MOST_GROUPS
few_groups_of One n few = omega arith
few_groups_of Two n few = few

module _ (doc : Members) (right : HasRightKeys doc) where
  keys_judged : judged (faults_of_keys (format_of doc) doc) ≡ Ok tt
  keys_judged =
      (judged_both (faults_of_keys (format_of doc) doc) (faults_of_unknown_keys (format_of doc) doc)
      right).0

  pub short_arrays : HasShortArrays doc
  short_arrays = HasShortArrays-from_judged (format_of doc) doc keys_judged

  parts_judged : judged (flat_map (part_faults (format_of doc) doc) arrays) ≡ Ok tt
  parts_judged =
      (judged_both
      (table_faults Top 0 (rows (format_of doc) Top) doc
      ++ controller_faults (format_of doc) doc)
      (flat_map (part_faults (format_of doc) doc) arrays) keys_judged).1

  section_judged : judged (part_faults (format_of doc) doc Section) ≡ Ok tt
  section_judged =
      judged_at_place (part_faults (format_of doc) doc) arrays 0 Section (omega arith) parts_judged

  tie_judged : judged (part_faults (format_of doc) doc Tie) ≡ Ok tt
  tie_judged =
      judged_at_place (part_faults (format_of doc) doc) arrays 1 Tie (omega arith) parts_judged

  generator_judged : judged (part_faults (format_of doc) doc Generator) ≡ Ok tt
  generator_judged =
      judged_at_place (part_faults (format_of doc) doc) arrays 2 Generator
      (omega arith) parts_judged

  thruster_judged : judged (part_faults (format_of doc) doc Thruster) ≡ Ok tt
  thruster_judged =
      judged_at_place (part_faults (format_of doc) doc) arrays 3 Thruster (omega arith) parts_judged

  group_judged : judged (part_faults (format_of doc) doc Group) ≡ Ok tt
  group_judged =
      judged_at_place (part_faults (format_of doc) doc) arrays 4 Group (omega arith) parts_judged

  pub sections_right : list_all (has_right_keys section_rows) (elements_at Section doc) ≡ true
  sections_right =
      array_right Section (count_of (format_of doc) Section) section_rows
      (get_member (part_text Section) doc) section_judged

  pub ties_right : list_all (has_right_keys tie_rows) (elements_at Tie doc) ≡ true
  ties_right =
      array_right Tie (count_of (format_of doc) Tie) tie_rows
      (get_member (part_text Tie) doc) tie_judged

  pub generators_right : list_all (has_right_keys generator_rows) (elements_at Generator doc) ≡ true
  generators_right =
      array_right Generator (count_of (format_of doc) Generator) generator_rows
      (get_member (part_text Generator) doc) generator_judged

  pub thrusters_right_of_1 : list_all (has_right_keys thruster_rows_of_1) (elements_at Thruster doc)
      ≡ true
  thrusters_right_of_1 =
      thrusters_right (format_of doc) (elements_at Thruster doc)
      (array_right Thruster (count_of (format_of doc) Thruster) (thruster_rows (format_of doc))
      (get_member (part_text Thruster) doc) thruster_judged)

  pub groups_right : list_all (has_right_keys group_rows) (elements_at Group doc) ≡ true
  groups_right =
      array_right Group (count_of (format_of doc) Group) group_rows
      (get_member (part_text Group) doc) group_judged

  pub some_sections : 1 ≤ length (elements_at Section doc)
  some_sections =
      fewest_right Section (count_of (format_of doc) Section) (get_member (part_text Section) doc)
      (judged_both _ _ section_judged).0

  pub some_thrusters : 1 ≤ length (elements_at Thruster doc)
  some_thrusters =
      fewest_right Thruster (count_of (format_of doc) Thruster)
      (get_member (part_text Thruster) doc) (judged_both _ _ thruster_judged).0

  pub some_groups : 1 ≤ length (elements_at Group doc)
  some_groups =
      some_groups_of (format_of doc)
      (fewest_right Group (count_of (format_of doc) Group) (get_member (part_text Group) doc)
      (judged_both _ _ group_judged).0)

  pub few_sections : length (elements_at Section doc) ≤ MOST_SECTIONS
  few_sections =
      length-elements_in Section (count_of (format_of doc) Section)
      (get_member (part_text Section) doc) (judged_both _ _ section_judged).0

  pub few_ties : length (elements_at Tie doc) ≤ MOST_TIES
  few_ties =
      length-elements_in Tie (count_of (format_of doc) Tie) (get_member (part_text Tie) doc)
      (judged_both _ _ tie_judged).0

  pub few_generators : length (elements_at Generator doc) ≤ MOST_GENERATORS
  few_generators =
      length-elements_in Generator (count_of (format_of doc) Generator)
      (get_member (part_text Generator) doc) (judged_both _ _ generator_judged).0

  pub few_thrusters : length (elements_at Thruster doc) ≤ MOST_THRUSTERS
  few_thrusters =
      length-elements_in Thruster (count_of (format_of doc) Thruster)
      (get_member (part_text Thruster) doc) (judged_both _ _ thruster_judged).0

  pub few_groups : length (elements_at Group doc) ≤ MOST_GROUPS
  few_groups =
      few_groups_of (format_of doc) (length (elements_at Group doc))
      (length-elements_in Group (count_of (format_of doc) Group)
      (get_member (part_text Group) doc) (judged_both _ _ group_judged).0)

  pub top_right : has_right_keys top_rows (table doc) ≡ true
  top_right =
      rows_right Top 0 top_rows doc
      (judged_both _ _
      (judged_both _ (flat_map (part_faults (format_of doc) doc) arrays) keys_judged).0).0

  controller_judged : judged (controller_faults (format_of doc) doc) ≡ Ok tt
  controller_judged =
      (judged_both (table_faults Top 0 (rows (format_of doc) Top) doc) _
      (judged_both _ (flat_map (part_faults (format_of doc) doc) arrays) keys_judged).0).1

  pub axes_right : list_all (λ index. has_right_keys axis_rows (axis_in doc index)) axes ≡ true
  axes_right =
      controller_right (format_of doc) (get_member (part_text Controller) doc) controller_judged

  pub surge_right : has_right_keys axis_rows (axis_in doc 0) ≡ true
  surge_right =
      (and_parts (has_right_keys axis_rows (axis_in doc 0))
      (list_all (λ index. has_right_keys axis_rows (axis_in doc index)) (1 ∷ 2 ∷ []))
      axes_right).0

  sway_and_yaw : list_all (λ index. has_right_keys axis_rows (axis_in doc index)) (1 ∷ 2 ∷ [])
      ≡ true
  sway_and_yaw =
      (and_parts (has_right_keys axis_rows (axis_in doc 0))
      (list_all (λ index. has_right_keys axis_rows (axis_in doc index)) (1 ∷ 2 ∷ []))
      axes_right).1

  pub sway_right : has_right_keys axis_rows (axis_in doc 1) ≡ true
  sway_right =
      (and_parts (has_right_keys axis_rows (axis_in doc 1))
      (list_all (λ index. has_right_keys axis_rows (axis_in doc index)) (2 ∷ []))
      sway_and_yaw).0

  pub yaw_right : has_right_keys axis_rows (axis_in doc 2) ≡ true
  yaw_right =
      (and_parts (has_right_keys axis_rows (axis_in doc 2)) true
      (and_parts (has_right_keys axis_rows (axis_in doc 1))
      (list_all (λ index. has_right_keys axis_rows (axis_in doc index)) (2 ∷ []))
      sway_and_yaw).1).0
