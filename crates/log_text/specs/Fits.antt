-- Entries that a program can hold: each number is one of its type, and each list has room for its
-- items.
use Rattle.std.specs.Prelude.{ℕ, ◌^◌, ◌<◌, ◌≤◌, List, length, FitsSigned}
use Rattle.std.specs.Int.{w32, w64, w128}
use Rattle.std.specs.List.{All}
use Rattle.plant_model.specs.declared.board.Cell.{Cell}
use Rattle.plant_model.specs.declared.board.Cell.TheVariants.{Pending, Seen}
use Rattle.plant_model.specs.declared.board.Cells.{Cells}
use Rattle.plant_model.specs.declared.limits.TheConstants.{MOST_CHOICES, MOST_GROUPS}
use Rattle.plant_model.specs.declared.limits.TheConstants.{MOST_THRUSTERS}
use Rattle.plant_model.specs.declared.thrust.Thrust.{Thrust}
use Rattle.plant_model.specs.declared.thrust.Thrusts.{Thrusts}
use Rattle.plant_model.specs.declared.wrench.Wrench.{Wrench}
use Rattle.wrench_geometry.specs.declared.vector.Vec3.{Vec3}
use Rattle.certificate.specs.declared.outcome.Cuts.{Cuts}
use Rattle.certificate.specs.declared.outcome.Outcome.{Outcome}
use Rattle.certificate.specs.declared.outcome.Outcome.TheVariants.{Holds, Lost}
use Rattle.certificate.specs.declared.outcome.Place.{Place}
use Rattle.certificate.specs.declared.outcome.Place.TheVariants.{Thruster, Cut}
use Rattle.thrust_allocation.specs.declared.allocation.Allocation.{Allocation}
use Rattle.plant_core.specs.declared.call.Call.{Call}
use Rattle.plant_core.specs.declared.call.Call.TheVariants.{Publish}
use Rattle.plant_core.specs.declared.call.Entry.{Entry}
use Rattle.plant_core.specs.declared.call.Reply.{Reply}
use Rattle.plant_core.specs.declared.call.Reply.TheVariants as replies

-- a number of 32 bits
abbrev pub FitsWord : ℕ → Type 0
FitsWord n = n < 2 ^ 32

pub record FitsThrust (thrust : Thrust) : Type 0 where
  pub x : FitsSigned w128 thrust.x
  pub y : FitsSigned w128 thrust.y

pub record FitsThrusts (thrusts : Thrusts) : Type 0 where
  pub few : length thrusts.list.items ≤ MOST_THRUSTERS
  pub each : All FitsThrust thrusts.list.items

pub record FitsVector (v : Vec3) : Type 0 where
  pub x : FitsSigned w64 v.x
  pub y : FitsSigned w64 v.y
  pub z : FitsSigned w64 v.z

pub record FitsCuts (cuts : Cuts) : Type 0 where
  pub few : length cuts.list.items ≤ MOST_CHOICES
  pub each : All FitsVector cuts.list.items

abbrev pub FitsOutcome : Outcome → Type 0
FitsOutcome (Holds choice q thrusts) = FitsWord choice × FitsSigned w64 q × FitsThrusts thrusts
FitsOutcome (Lost cuts) = FitsCuts cuts

pub record FitsWrench (w : Wrench) : Type 0 where
  pub x : FitsSigned w32 w.x
  pub y : FitsSigned w32 w.y
  pub n : FitsSigned w32 w.n

pub record FitsAllocation (a : Allocation) : Type 0 where
  pub top : FitsSigned w64 a.fraction.top
  pub bottom : FitsSigned w64 a.fraction.bottom
  pub choice : FitsWord a.choice
  pub q : FitsSigned w64 a.q
  pub thrusts : FitsThrusts a.thrusts

abbrev pub FitsCell : Cell → Type 0
FitsCell Pending = Unit {0}
FitsCell (Seen version holds current) = FitsWord version

pub record FitsCells (cells : Cells) : Type 0 where
  pub latest : FitsWord cells.latest
  pub few : length cells.list.items ≤ MOST_GROUPS
  pub each : All FitsCell cells.list.items

abbrev pub FitsPlace : Place → Type 0
FitsPlace (Thruster i) = FitsWord i
FitsPlace (Cut k) = FitsWord k
FitsPlace _ = Unit {0}

-- a telegram's numbers are within their ranges, and a group's place is below the count of groups
abbrev pub FitsCall : Call → Type 0
FitsCall (Publish version group outcome) = FitsWord version × FitsOutcome outcome
FitsCall _ = Unit {0}

abbrev pub FitsReply : Reply → Type 0
FitsReply (replies.Version number) = FitsWord number
FitsReply (replies.Commanded version demand allocation) =
    FitsWord version × FitsWrench demand × FitsAllocation allocation
FitsReply (replies.Late last) = FitsWord last
FitsReply (replies.Cells cells) = FitsCells cells
FitsReply (replies.Superseded latest) = FitsWord latest
FitsReply (replies.Unknown latest) = FitsWord latest
FitsReply (replies.Refused place) = FitsPlace place
FitsReply _ = Unit {0}

pub record FitsEntry (entry : Entry) : Type 0 where
  pub caller : FitsWord entry.caller
  pub call : FitsCall entry.call
  pub reply : FitsReply entry.reply

-- each of them is one that a program can hold
abbrev pub AreHeld : List Entry → Type 0
AreHeld history = All FitsEntry history
