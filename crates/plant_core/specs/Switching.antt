-- Switching the parts of a plant: which part a name means, and how the plant stands after it.
use Rattle.std.specs.Prelude.{ℕ, ◌+◌, ◌^◌, List, length, Bool, true, false, ◌==◌, nat_lt}
use Rattle.std.specs.Prelude.{Option, Some, None, if◌then◌else◌, slice_get, slice_index_or}
use Rattle.std.specs.Prelude.{slice_set}
use Rattle.std.specs.Prelude.{bit_xor}
use Rattle.std.specs.Int.{bit_at}
use Rattle.std.specs.List.{position}
use Rattle.std.specs.Option.{option_map_or}
use Rattle.std.specs.Str.{bytes_eq}
use Rattle.plant_model.specs.declared.plant.Parts.{Parts}
use Rattle.plant_model.specs.declared.status.Status.{Status}
use Rattle.plant_core.specs.declared.call.Reply.{Reply}
use Rattle.plant_core.specs.declared.call.Reply.TheVariants as replies
use Rattle.plant_core.specs.declared.state.State.{State}
use Rattle.plant_core.specs.declared.switch.Switching.{Switching}
use Rattle.plant_core.specs.declared.switch.Switching.TheVariants.{Unknown, NoPiece, Same, To}

-- the place of the part with this name among the parts of its kind
abbrev pub thruster_place : Parts → List ℕ → Option ℕ
thruster_place plant name = position (λ part. bytes_eq part.name name) plant.thrusters.items

abbrev pub generator_place : Parts → List ℕ → Option ℕ
generator_place plant name = position (λ part. bytes_eq part.name name) plant.generators.items

abbrev pub tie_place : Parts → List ℕ → Option ℕ
tie_place plant name = position (λ part. bytes_eq part.name name) plant.ties.items

-- two truth values are the same
abbrev pub is_same : Bool → Bool → Bool
is_same true b = b
is_same false true = false
is_same false false = true

-- the switches with the one at this place so, where it doesn't stand so already
abbrev pub switched : List Bool → ℕ → Bool → Option (List Bool)
switched switches place value =
    if is_same (slice_index_or switches place false) value then None
    else Some (slice_set switches place value)

abbrev pub to_status : (List Bool → Status) → Option (List Bool) → Switching
to_status make None = Same
to_status make (Some switches) = To (make switches)

-- no part has the name; or the part at this place is switched
abbrev pub switching_at : (List Bool → Status) → List Bool → Bool → Option ℕ → Switching
switching_at make switches value None = Unknown
switching_at make switches value (Some place) = to_status make (switched switches place value)

abbrev pub thruster_switching : Parts → Status → List ℕ → Bool → Switching
thruster_switching plant status name selected =
    switching_at (λ switches. record status { selected = switches }) status.selected selected
    (thruster_place plant name)

abbrev pub generator_switching : Parts → Status → List ℕ → Bool → Switching
generator_switching plant status name running =
    switching_at (λ switches. record status { running = switches }) status.running running
    (generator_place plant name)

abbrev pub tie_switching : Parts → Status → List ℕ → Bool → Switching
tie_switching plant status name closed =
    switching_at (λ switches. record status { closed = switches }) status.closed closed
    (tie_place plant name)

-- how many pieces the thruster at this place has
abbrev pub pieces_of : Parts → ℕ → ℕ
pieces_of plant place =
    option_map_or (λ thruster. length thruster.pieces.list.items)
    (slice_get plant.thrusters.items place) 0

-- whether the bit of this number is set
abbrev pub is_barred : ℕ → ℕ → Bool
is_barred mask piece = bit_at mask piece == 1

-- the status with the bit of a piece turned
abbrev pub turned : Status → ℕ → ℕ → Status
turned status place piece = record status {
  barred = slice_set status.barred place
      (bit_xor (slice_index_or status.barred place 0) (2 ^ piece));
}

-- no thruster has the name; it has no such piece; the piece stands so already; or it is turned
abbrev pub bar_at : Parts → Status → ℕ → Bool → Option ℕ → Switching
bar_at plant status piece barred None = Unknown
bar_at plant status piece barred (Some place) =
    if nat_lt piece (pieces_of plant place)
    then (if is_same (is_barred (slice_index_or status.barred place 0) piece) barred then Same
    else To (turned status place piece)) else NoPiece

abbrev pub bar_switching : Parts → Status → List ℕ → ℕ → Bool → Switching
bar_switching plant status name piece barred =
    bar_at plant status piece barred (thruster_place plant name)

-- what is answered where a part would be switched so
abbrev pub switching_reply : State → Switching → Reply
switching_reply state Unknown = replies.UnknownName
switching_reply state NoPiece = replies.NoPiece
switching_reply state Same = replies.Same
switching_reply state (To status) = replies.Version (state.latest.number + 1)

-- the state after it: a new status makes a version with the next number, with what was asked of the
-- thrusters at the last position
abbrev pub after_switching : State → Switching → State
after_switching state (To status) = record state {
  latest = record { number = state.latest.number + 1; status = status; demand = state.demand };
}
after_switching state _ = state
