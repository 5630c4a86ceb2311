-- A check as JSON: its value, whose keys stand in the order of their bytes, and its text.
use Rattle.std.specs.Prelude.{ℕ, ℤ, List, [], ◌∷◌, map, codes}
use Rattle.std.specs.List.{zip}
use Rattle.std.specs.Fmt.{signed_decimal}
use Rattle.serde_json.specs.Data.{Data, number, string, array, object, unsigned, member, no_members}
use Rattle.serde_json.specs.Find.{of_integer}
use Rattle.serde_json.specs.View.{items_of}
use Rattle.serde_json.specs.Written.{compact_text}
use Rattle.plant_model.specs.declared.parts.Group.{Group}
use Rattle.plant_model.specs.declared.plant.Parts.{Parts}
use Rattle.plant_model.specs.declared.thrust.Thrust.{Thrust}
use Rattle.plant_model.specs.declared.thrust.Thrusts.{Thrusts}
use Rattle.plant_model.specs.declared.wrench.Wrench.{Wrench}
use Rattle.wrench_geometry.specs.declared.vector.Vec3.{Vec3}
use Rattle.certificate.specs.declared.outcome.Cuts.{Cuts}
use Rattle.certificate.specs.declared.outcome.Outcome.{Outcome}
use Rattle.certificate.specs.declared.outcome.Outcome.TheVariants.{Holds, Lost}
use Rattle.thrust_allocation.specs.declared.allocation.Allocation.{Allocation}
use Rattle.log_text.specs.Lines.{line}
use Rattle.log_text.specs.declared.findings.Findings.{Findings}

-- a list of values
abbrev pub list_of : List Data → Data
list_of values = array (items_of values)

-- a number as a text
abbrev pub spelled : ℤ → Data
spelled z = string (signed_decimal z)

abbrev pub thrust_data : Thrust → Data
thrust_data thrust = list_of (spelled thrust.x ∷ spelled thrust.y ∷ [])

abbrev pub thrusts_data : Thrusts → Data
thrusts_data thrusts = list_of (map thrust_data thrusts.list.items)

abbrev pub cut_data : Vec3 → Data
cut_data cut = list_of (spelled cut.x ∷ spelled cut.y ∷ spelled cut.z ∷ [])

abbrev pub cuts_data : Cuts → Data
cuts_data cuts = list_of (map cut_data cuts.list.items)

abbrev pub outcome_data : Outcome → Data
outcome_data (Holds choice q thrusts) = object
    (member (codes "choice") (number (unsigned choice))
    (member (codes "q") (spelled q)
    (member (codes "thrusts") (thrusts_data thrusts)
    (member (codes "verdict") (string (codes "HOLDS")) no_members))))
outcome_data (Lost cuts) = object
    (member (codes "cuts") (cuts_data cuts)
    (member (codes "verdict") (string (codes "LOST")) no_members))

-- what comes of a group's loss
abbrev pub loss_data : Group × Outcome → Data
loss_data loss = object
    (member (codes "name") (string loss.0.name)
    (member (codes "outcome") (outcome_data loss.1) no_members))

abbrev pub losses_data : List Group → List Outcome → Data
losses_data groups outcomes = list_of (map loss_data (zip groups outcomes))

abbrev pub demand_data : Wrench → Data
demand_data demand = list_of (number (of_integer demand.x)
    ∷ number (of_integer demand.y) ∷ number (of_integer demand.n) ∷ [])

abbrev pub allocation_data : Allocation → Data
allocation_data a = object
    (member (codes "bottom") (spelled a.fraction.bottom)
    (member (codes "choice") (number (unsigned a.choice))
    (member (codes "q") (spelled a.q)
    (member (codes "thrusts") (thrusts_data a.thrusts)
    (member (codes "top") (spelled a.fraction.top) no_members)))))

-- a check as a value
abbrev pub check_data : Parts → Wrench → Findings → Data
check_data plant demand findings = object
    (member (codes "allocation") (allocation_data findings.allocation)
    (member (codes "demand") (demand_data demand)
    (member (codes "groups") (losses_data plant.groups.items findings.groups.items)
    (member (codes "intact") (outcome_data findings.intact) no_members))))

-- the line of a check: the value with no space
abbrev pub check_json : Parts → Wrench → Findings → List ℕ
check_json plant demand findings = line (compact_text (check_data plant demand findings))
