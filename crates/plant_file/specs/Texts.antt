-- The texts of faults and of the places where they stand.
use Rattle.std.specs.Prelude.{ℕ, List, [], ◌∷◌, ◌++◌, ◌==◌, if◌then◌else◌, codes}
use Rattle.std.specs.Fmt.{decimal}
use Rattle.plant_file.specs.declared.fault.Part.{Part}
use Rattle.plant_file.specs.declared.fault.Part.TheVariants as part
use Rattle.plant_file.specs.declared.fault.Key.{Key}
use Rattle.plant_file.specs.declared.fault.Key.TheVariants as key
use Rattle.plant_file.specs.declared.fault.Path.{Path}
use Rattle.plant_file.specs.declared.fault.PlantFault.{PlantFault}
use Rattle.plant_file.specs.declared.fault.PlantFault.TheVariants.{NotToml, MissingKey, WrongKind}
use Rattle.plant_file.specs.declared.fault.PlantFault.TheVariants.{OutOfLimit, NameTwice}
use Rattle.plant_file.specs.declared.fault.PlantFault.TheVariants.{UnknownName, RingNotConvex}
use Rattle.plant_file.specs.declared.fault.PlantFault.TheVariants.{SectorBad, TooManyChoices}
use Rattle.plant_file.specs.declared.fault.PlantFault.TheVariants.{UnknownKey, TooLong, PieceBad}
use Rattle.plant_file.specs.declared.fault.PlantFault.TheVariants.{NoMemory}

abbrev pub part_text : Part → List ℕ
part_text part.Top = codes "top"
part_text part.Controller = codes "controller"
part_text part.Section = codes "section"
part_text part.Tie = codes "tie"
part_text part.Generator = codes "generator"
part_text part.Thruster = codes "thruster"
part_text part.Group = codes "group"

abbrev pub key_text : Key → List ℕ
key_text key.Whole = codes ""
key_text key.Format = codes "format"
key_text key.Name = codes "name"
key_text key.Band = codes "band"
key_text key.Wind = codes "wind"
key_text key.Kp = codes "kp"
key_text key.Ki = codes "ki"
key_text key.Kd = codes "kd"
key_text key.Limit = codes "limit"
key_text key.Ends = codes "ends"
key_text key.Closed = codes "closed"
key_text key.Section = codes "section"
key_text key.Power = codes "power"
key_text key.Running = codes "running"
key_text key.At = codes "at"
key_text key.Rated = codes "rated"
key_text key.Thresholds = codes "thresholds"
key_text key.Ring = codes "ring"
key_text key.Forbid = codes "forbid"
key_text key.Selected = codes "selected"
key_text key.Frozen = codes "frozen"
key_text key.Barred = codes "barred"
key_text key.Members = codes "members"

-- the keys of the controller's three tables
abbrev pub axis_text : ℕ → List ℕ
axis_text index =
    if index == 0 then codes "surge" else (if index == 1 then codes "sway" else codes "yaw")

-- the text of a whole table of a part
abbrev pub table_text : Part → ℕ → List ℕ
table_text part.Top index = codes "top"
table_text part.Controller index = codes "controller." ++ axis_text index
table_text part index = part_text part ++ codes "[" ++ decimal index ++ codes "]"

abbrev pub place_text : Part → ℕ → Key → List ℕ
place_text part index key.Whole = table_text part index
place_text part.Top index key = key_text key
place_text part index key = table_text part index ++ codes "." ++ key_text key

abbrev pub path_text : Path → List ℕ
path_text path = place_text path.part path.index path.key

abbrev pub fault_number : PlantFault → ℕ
fault_number NoMemory = 0
fault_number NotToml = 1
fault_number (MissingKey path) = 2
fault_number (WrongKind path) = 3
fault_number (OutOfLimit path) = 4
fault_number (NameTwice path) = 5
fault_number (UnknownName path) = 6
fault_number (RingNotConvex thruster) = 7
fault_number (SectorBad thruster) = 8
fault_number TooManyChoices = 9
fault_number (UnknownKey path) = 10
fault_number TooLong = 11
fault_number (PieceBad thruster) = 12

-- the place of a fault, after a space
abbrev pub behind : List ℕ → List ℕ
behind text = 32 ∷ text

abbrev pub place_of : PlantFault → List ℕ
place_of (MissingKey path) = behind (path_text path)
place_of (WrongKind path) = behind (path_text path)
place_of (OutOfLimit path) = behind (path_text path)
place_of (NameTwice path) = behind (path_text path)
place_of (UnknownName path) = behind (path_text path)
place_of (UnknownKey path) = behind (path_text path)
place_of (RingNotConvex thruster) = behind (table_text part.Thruster thruster)
place_of (SectorBad thruster) = behind (table_text part.Thruster thruster)
place_of (PieceBad thruster) = behind (table_text part.Thruster thruster)
place_of NotToml = []
place_of TooManyChoices = []
place_of TooLong = []
place_of NoMemory = []

abbrev pub fault_text : PlantFault → List ℕ
fault_text fault = decimal (fault_number fault) ++ place_of fault
