-- What the texts of callers and calls say.
use Rattle.std.specs.Prelude.{ℕ, ◌+◌, ◌-◌, ◌^◌, ◌==◌, pos, nat_abs, List, [], ◌∷◌, if◌then◌else◌}
use Rattle.std.specs.Prelude.{Option, Some, None, Result, Ok, Err, codes}
use Rattle.std.specs.List.{position}
use Rattle.std.specs.Str.{bytes_eq}
use Rattle.frame.specs.declared.item.Damage.{Damage}
use Rattle.frame.specs.declared.item.Damage.TheVariants.{Shape, TooLong, Checksum, Cut}
use Rattle.plant_model.specs.declared.plant.Parts.{Parts}
use Rattle.telegram.specs.Telegrams.{fields, telegram}
use Rattle.telegram.specs.declared.telegram.Reject.{Reject}
use Rattle.telegram.specs.declared.telegram.Reject.TheVariants as rejects
use Rattle.telegram.specs.declared.telegram.Telegram.{Telegram}
use Rattle.plant_core.specs.declared.call.Call.{Call}
use Rattle.plant_core.specs.declared.call.Call.TheVariants as calls
use Rattle.plant_core.specs.declared.call.Note.TheVariants.{Damaged, Rejected, Stray}
use Rattle.log_reading.specs.Fields.{◌>>=◌, Form, at_first, at_only, by_kind, ended}
use Rattle.log_reading.specs.Fields.{number_in, u32_of}
use Rattle.log_reading.specs.Outcomes.{outcome_of}

-- ---- callers

-- `W` is before a worker's number, which is 1 at least
abbrev pub worker_letter : ℕ
worker_letter = 87

abbrev pub worker_of : List ℕ → Option ℕ
worker_of [] = None
worker_of (b ∷ bs) =
    if b == worker_letter
    then (number_in (pos 1) (pos (2 ^ 32 - 3)) bs >>= λ z. Some (nat_abs z + 2)) else None

abbrev pub caller_of : List ℕ → Option ℕ
caller_of text =
    if bytes_eq text (codes "S") then Some 0
    else (if bytes_eq text (codes "C") then Some 1
    else (if bytes_eq text (codes "O") then Some 2 else worker_of text))

-- ---- notes

abbrev pub damage_of : ℕ → Option Damage
damage_of n = if n == 1 then Some Shape else (if n == 2 then Some TooLong
    else (if n == 3 then Some Checksum else (if n == 4 then Some Cut else None)))

abbrev pub reject_of : ℕ → Option Reject
reject_of n = if n == 1 then Some rejects.Kind else (if n == 2 then Some rejects.Count
    else (if n == 3 then Some rejects.Number else (if n == 4 then Some rejects.Range
    else (if n == 5 then Some rejects.Word else None))))

abbrev pub damaged_of : List (List ℕ) → Option Call
damaged_of fields = do
  number ← at_only u32_of fields
  damage ← damage_of number
  Some (calls.Note (Damaged damage))

abbrev pub rejected_of : List (List ℕ) → Option Call
rejected_of fields = do
  number ← at_only u32_of fields
  reject ← reject_of number
  Some (calls.Note (Rejected reject))

-- ---- calls

-- the place of the group with this name
abbrev pub group_of : Parts → List ℕ → Option ℕ
group_of plant name = position (λ group. bytes_eq group.name name) plant.groups.items

-- a version, the name of a group, and what comes of its loss
abbrev pub verdict_of : Parts → List (List ℕ) → Option Call
verdict_of plant fields = do
  version ← at_first u32_of fields
  group ← at_first (group_of plant) version.1
  outcome ← outcome_of group.1
  Some (calls.Publish version.0 group.0 outcome)

-- the calls that are no telegrams
abbrev pub call_forms : Parts → List (Form Call)
call_forms plant =
    record { kind = codes "PUBLISH"; read = verdict_of plant }
    ∷ record { kind = codes "DAMAGED"; read = damaged_of }
    ∷ record { kind = codes "REJECTED"; read = rejected_of }
    ∷ record { kind = codes "STRAY"; read = ended (calls.Note Stray) }
    ∷ record { kind = codes "CLOSE"; read = ended calls.Close } ∷ []

abbrev pub telegram_of : Result Telegram Reject → Option Call
telegram_of (Ok t) = Some (calls.Telegram t)
telegram_of (Err reject) = None

abbrev pub or_telegram : List ℕ → Option Call → Option Call
or_telegram text (Some call) = Some call
or_telegram text None = telegram_of (telegram text)

abbrev pub call_of : Parts → List ℕ → Option Call
call_of plant text = or_telegram text (by_kind (call_forms plant) (fields text))
