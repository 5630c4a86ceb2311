-- The frames of commands.
use Rattle.std.specs.Prelude.{ℕ, ℤ, ◌≤◌, List, [], ◌++◌, length, codes, IsTrue}
use Rattle.std.specs.List.{flat_map, list_all, zip}
use Rattle.std.specs.Fmt.{decimal, signed_decimal}
use Rattle.dp_num.specs.declared.fractions.Fraction.{Fraction}
use Rattle.frame.specs.Bodies.{is_body_byte}
use Rattle.frame.specs.Frames.{frame_text}
use Rattle.plant_model.specs.declared.parts.Thruster.{Thruster}
use Rattle.plant_model.specs.declared.plant.Parts.{Parts}
use Rattle.plant_model.specs.declared.thrust.Thrust.{Thrust}
use Rattle.plant_model.specs.declared.wrench.Wrench.{Wrench}
use Rattle.telegram.specs.declared.telegram.Telegram.TheVariants.{Position}
use Rattle.thrust_allocation.specs.declared.allocation.Allocation.{Allocation}
use Rattle.plant_core.specs.declared.call.Call.{Call}
use Rattle.plant_core.specs.declared.call.Call.TheVariants.{Telegram}
use Rattle.plant_core.specs.declared.call.Entry.{Entry}
use Rattle.plant_core.specs.declared.call.Reply.{Reply}
use Rattle.plant_core.specs.declared.call.Reply.TheVariants.{Commanded}
use Rattle.log_text.specs.Outcomes.{thrust_text, wrench_text}

-- a part of a body: at most so many bytes, all of them those of bodies
pub record IsPart (most : ℕ) (bytes : List ℕ) : Type 0 where
  pub few : length bytes ≤ most
  pub each : IsTrue (list_all is_body_byte bytes)

-- the position's moment, and the version
abbrev pub command_head : ℕ → ℕ → List ℕ
command_head moment version = codes "CMD," ++ decimal moment ++ codes "," ++ decimal version

-- a part of a demand
abbrev pub part_text : Fraction → List ℕ
part_text part = signed_decimal part.top ++ codes "," ++ signed_decimal part.bottom

-- the position's moment, the version, what is asked of the thrusters, and which part of it they give
abbrev pub command_body : ℕ → ℕ → Wrench → Fraction → List ℕ
command_body moment version demand part =
    command_head moment version ++ codes "," ++ wrench_text demand ++ codes "," ++ part_text part

-- a thruster's name, and its thrust over q
abbrev pub thrust_body : ℤ → Thruster × Thrust → List ℕ
thrust_body q given = codes "THC," ++ given.0.name ++ thrust_text given.1 ++ codes ","
    ++ signed_decimal q

-- a frame for the command, and one for each thruster in order
abbrev pub frames_of : Parts → ℕ → ℕ → Wrench → Allocation → List ℕ
frames_of plant moment version demand a =
    frame_text (command_body moment version demand a.fraction)
    ++ flat_map (λ given. frame_text (thrust_body a.q given))
    (zip plant.thrusters.items a.thrusts.list.items)

abbrev pub frames_at : Parts → ℕ → Reply → List ℕ
frames_at plant moment (Commanded version demand allocation) =
    frames_of plant moment version demand allocation
frames_at plant moment _ = []

-- the frames of a position that is answered with a command; any other entry has none
abbrev pub call_frames : Parts → Call → Reply → List ℕ
call_frames plant (Telegram (Position moment x y heading)) reply = frames_at plant moment reply
call_frames plant _ reply = []

abbrev pub command_text : Parts → Entry → List ℕ
command_text plant entry = call_frames plant entry.call entry.reply

-- the frames of all commands of a history, in order
abbrev pub commands_text : Parts → List Entry → List ℕ
commands_text plant history = flat_map (command_text plant) history
