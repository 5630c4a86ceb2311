-- The table of keys: which keys a table of each part of the file has, and what each holds.
use Rattle.std.specs.Prelude.{ℕ, ℤ, pos, List, [], ◌∷◌, ◌++◌, ◌-◌, map, true, false}
use Rattle.plant_model.specs.declared.limits.TheConstants.{AXES, FARTHEST_LEVER, MOST_GAIN}
use Rattle.plant_model.specs.declared.limits.TheConstants.{MOST_GENERATORS, MOST_GROUPS}
use Rattle.plant_model.specs.declared.limits.TheConstants.{MOST_GROUPS_OF_FORMAT_1, MOST_MEMBERS}
use Rattle.plant_model.specs.declared.limits.TheConstants.{MOST_MOMENT, MOST_PIECES, MOST_POWER}
use Rattle.plant_model.specs.declared.limits.TheConstants.{MOST_SECTIONS, MOST_SUM_LIMIT}
use Rattle.plant_model.specs.declared.limits.TheConstants.{MOST_THRUST, MOST_THRUSTERS, MOST_TIES}
use Rattle.plant_file.specs.Kinds.{exactly, from_to, span, within}
use Rattle.plant_file.specs.Texts.{part_text, key_text, axis_text}
use Rattle.plant_file.specs.declared.fault.Part.{Part}
use Rattle.plant_file.specs.declared.fault.Part.TheVariants.{Top, Controller, Section, Tie}
use Rattle.plant_file.specs.declared.fault.Part.TheVariants.{Generator, Thruster, Group}
use Rattle.plant_file.specs.declared.fault.Key.{Key}
use Rattle.plant_file.specs.declared.fault.Key.TheVariants as key
use Rattle.plant_file.specs.declared.key.Format.{Format}
use Rattle.plant_file.specs.declared.key.Format.TheVariants.{One, Two}
use Rattle.plant_file.specs.declared.key.Row.{Row}
use Rattle.plant_file.specs.declared.kind.Count.{Count}
use Rattle.plant_file.specs.declared.kind.Kind.{Kind}
use Rattle.plant_file.specs.declared.kind.Kind.TheVariants as kind

-- a key that must be there
abbrev pub needed : Key → Kind → Row
needed key kind = record { key = key; kind = kind; needed = true }

-- a key that may be missing
abbrev pub optional : Key → Kind → Row
optional key kind = record { key = key; kind = kind; needed = false }

abbrev pub gain : Kind
gain = kind.Whole (span (pos 0) (pos MOST_GAIN))

abbrev pub power : Kind
power = kind.Whole (span (pos 1) (pos MOST_POWER))

-- two numbers, each at most so far from 0
abbrev pub point : ℤ → Kind
point most = kind.Wholes (exactly 2) (within most)

abbrev pub top_rows : List Row
top_rows =
    needed key.Format (kind.Whole (span (pos 1) (pos 2)))
    ∷ needed key.Name kind.Name
    ∷ needed key.Band (kind.Wholes (exactly AXES) (span (pos 0) MOST_MOMENT))
    ∷ needed key.Wind kind.Wind ∷ []

-- the keys of each of the tables `surge`, `sway` and `yaw`
abbrev pub axis_rows : List Row
axis_rows =
    needed key.Kp gain
    ∷ needed key.Ki gain
    ∷ needed key.Kd gain
    ∷ needed key.Limit (kind.Whole (span (pos 0) (pos MOST_SUM_LIMIT))) ∷ []

abbrev pub section_rows : List Row
section_rows = needed key.Name kind.Name ∷ []

abbrev pub tie_rows : List Row
tie_rows =
    needed key.Name kind.Name
    ∷ needed key.Ends (kind.Texts (exactly 2))
    ∷ needed key.Closed kind.Truth ∷ []

abbrev pub generator_rows : List Row
generator_rows =
    needed key.Name kind.Name
    ∷ needed key.Section kind.Name
    ∷ needed key.Power power
    ∷ needed key.Running kind.Truth ∷ []

abbrev pub thruster_rows_of_1 : List Row
thruster_rows_of_1 =
    needed key.Name kind.Name
    ∷ needed key.Section kind.Name
    ∷ needed key.At (point FARTHEST_LEVER)
    ∷ needed key.Rated power
    ∷ needed key.Thresholds kind.Thresholds
    ∷ needed key.Ring kind.Ring
    ∷ optional key.Forbid kind.Sectors
    ∷ needed key.Selected kind.Truth
    ∷ optional key.Frozen (point MOST_THRUST) ∷ []

-- format 2 has one more key
abbrev pub thruster_rows : Format → List Row
thruster_rows One = thruster_rows_of_1
thruster_rows Two =
    thruster_rows_of_1
    ++ optional key.Barred
    (kind.Wholes (from_to 0 MOST_PIECES) (span (pos 0) (pos (MOST_PIECES - 1)))) ∷ []

abbrev pub group_rows : List Row
group_rows =
    needed key.Name kind.Name ∷ needed key.Members (kind.Texts (from_to 1 MOST_MEMBERS)) ∷ []

-- the keys of a table of the part, in their order
abbrev pub rows : Format → Part → List Row
rows format Top = top_rows
rows format Controller = axis_rows
rows format Section = section_rows
rows format Tie = tie_rows
rows format Generator = generator_rows
rows format Thruster = thruster_rows format
rows format Group = group_rows

-- the parts that are arrays of tables, in their order
abbrev pub arrays : List Part
arrays = Section ∷ Tie ∷ Generator ∷ Thruster ∷ Group ∷ []

abbrev pub most_groups : Format → ℕ
most_groups One = MOST_GROUPS_OF_FORMAT_1
most_groups Two = MOST_GROUPS

-- how many tables a part has
abbrev pub count_of : Format → Part → Count
count_of format Section = from_to 1 MOST_SECTIONS
count_of format Tie = from_to 0 MOST_TIES
count_of format Generator = from_to 0 MOST_GENERATORS
count_of format Thruster = from_to 1 MOST_THRUSTERS
count_of format Group = from_to 1 (most_groups format)
count_of format _ = exactly 1

abbrev pub axes : List ℕ
axes = 0 ∷ 1 ∷ 2 ∷ []

abbrev pub row_keys : List Row → List (List ℕ)
row_keys rows = map (λ row. key_text row.key) rows

-- the keys that the whole document may have: its own, and those of the parts
abbrev pub top_keys : List (List ℕ)
top_keys = row_keys top_rows ++ map part_text (Controller ∷ arrays)

-- the keys of the table `controller`
abbrev pub axis_keys : List (List ℕ)
axis_keys = map axis_text axes
