-- What the operators order of the machine: its mode, where the vessel is to be, and a demand of
-- their own.
use Rattle.std.specs.Prelude.{pos, Bool, if◌then◌else◌}
use Rattle.pid.specs.Control.{fresh}
use Rattle.pid.specs.declared.position.Fix.{Fix}
use Rattle.plant_model.specs.declared.wrench.Wrench.{Wrench}
use Rattle.plant_core.specs.Switching.{is_same}
use Rattle.plant_core.specs.declared.call.Reply.{Reply}
use Rattle.plant_core.specs.declared.call.Reply.TheVariants.{Same, Taken, WrongMode}
use Rattle.plant_core.specs.declared.state.State.{State}

abbrev pub no_demand : Wrench
no_demand = record { x = pos 0; y = pos 0; n = pos 0 }

-- the controller starts anew: nothing is summed, and there is no previous fix
abbrev pub restarted : State → State
restarted state = record state { controller = fresh state.controller.gains }

abbrev pub mode_reply : State → Bool → Reply
mode_reply state is_manual = if is_same state.is_manual is_manual then Same else Taken

-- another mode starts with nothing asked by the operators, and the controller starts anew
abbrev pub after_mode : State → Bool → State
after_mode state is_manual =
    if is_same state.is_manual is_manual then state
    else record (restarted state) { is_manual = is_manual; manual = no_demand }

abbrev pub set_point_reply : State → Reply
set_point_reply state = if state.is_manual then WrongMode else Taken

-- the controller starts anew at another set point
abbrev pub after_set_point : State → Fix → State
after_set_point state set_point =
    if state.is_manual then state
    else record (restarted state) { set_point = set_point }

abbrev pub manual_reply : State → Reply
manual_reply state = if state.is_manual then Taken else WrongMode

abbrev pub after_manual : State → Wrench → State
after_manual state demand = if state.is_manual then record state { manual = demand } else state
