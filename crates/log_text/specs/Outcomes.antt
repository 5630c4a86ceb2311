-- The texts of outcomes, allocations and whole checks.
use Rattle.std.specs.Prelude.{ℕ, ℤ, List, ◌++◌, length, codes}
use Rattle.std.specs.List.{flat_map, zip}
use Rattle.std.specs.Fmt.{decimal, signed_decimal}
use Rattle.plant_model.specs.declared.parts.Group.{Group}
use Rattle.plant_model.specs.declared.plant.Parts.{Parts}
use Rattle.plant_model.specs.declared.thrust.Thrust.{Thrust}
use Rattle.plant_model.specs.declared.thrust.Thrusts.{Thrusts}
use Rattle.plant_model.specs.declared.wrench.Wrench.{Wrench}
use Rattle.wrench_geometry.specs.declared.vector.Vec3.{Vec3}
use Rattle.certificate.specs.declared.outcome.Cuts.{Cuts}
use Rattle.certificate.specs.declared.outcome.Outcome.{Outcome}
use Rattle.certificate.specs.declared.outcome.Outcome.TheVariants.{Holds, Lost}
use Rattle.thrust_allocation.specs.declared.allocation.Allocation.{Allocation}
use Rattle.log_text.specs.Lines.{line}
use Rattle.log_text.specs.declared.findings.Findings.{Findings}

-- a thrust along x and along y, each after a comma
abbrev pub thrust_text : Thrust → List ℕ
thrust_text thrust =
    codes "," ++ signed_decimal thrust.x ++ codes "," ++ signed_decimal thrust.y

-- the thrusts of all thrusters, in order
abbrev pub thrusts_text : Thrusts → List ℕ
thrusts_text thrusts = flat_map thrust_text thrusts.list.items

-- a choice, and thrusts in it over a denominator
abbrev pub given_text : ℕ → ℤ → Thrusts → List ℕ
given_text choice q thrusts =
    decimal choice ++ codes "," ++ signed_decimal q ++ thrusts_text thrusts

-- a cut along x, along y and in yaw, each after a comma
abbrev pub cut_text : Vec3 → List ℕ
cut_text cut = codes "," ++ signed_decimal cut.x ++ codes "," ++ signed_decimal cut.y
    ++ codes "," ++ signed_decimal cut.z

-- the count of cuts, and the cuts of all choices, in order
abbrev pub cuts_text : Cuts → List ℕ
cuts_text cuts = decimal (length cuts.list.items) ++ flat_map cut_text cuts.list.items

-- the verdict, and what shows it: the choice, the denominator and the thrusts, or the cuts
abbrev pub outcome_text : Outcome → List ℕ
outcome_text (Holds choice q thrusts) = codes "HOLDS," ++ given_text choice q thrusts
outcome_text (Lost cuts) = codes "LOST," ++ cuts_text cuts

-- the part of a demand that is given, and the thrusts that give it
abbrev pub given_part_text : Allocation → List ℕ
given_part_text a = signed_decimal a.fraction.top ++ codes ","
    ++ signed_decimal a.fraction.bottom ++ codes "," ++ given_text a.choice a.q a.thrusts

-- ---- a check

-- a demand along x, along y and in yaw
abbrev pub wrench_text : Wrench → List ℕ
wrench_text demand = signed_decimal demand.x ++ codes "," ++ signed_decimal demand.y
    ++ codes "," ++ signed_decimal demand.n

abbrev pub check_head : Wrench → List ℕ
check_head demand = line (codes "CHECK," ++ wrench_text demand)

-- what comes of the whole plant
abbrev pub intact_text : Outcome → List ℕ
intact_text outcome = line (codes "INTACT," ++ outcome_text outcome)

-- what comes of a group's loss
abbrev pub loss_text : Group × Outcome → List ℕ
loss_text loss = line (codes "GROUP," ++ loss.0.name ++ codes "," ++ outcome_text loss.1)

abbrev pub allocation_text : Allocation → List ℕ
allocation_text a = line (codes "ALLOCATION," ++ given_part_text a)

-- the demand, what comes of the whole plant and of each group's loss, and the allocation
abbrev pub check_text : Parts → Wrench → Findings → List ℕ
check_text plant demand findings = check_head demand ++ intact_text findings.intact
    ++ flat_map loss_text (zip plant.groups.items findings.groups.items)
    ++ allocation_text findings.allocation ++ line (codes "END")
