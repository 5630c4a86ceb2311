-- What two streams ask in a history: the sensors by caller 1, and the operators by caller 2.
use Rattle.std.specs.Prelude.{◌≡◌, ◌≢◌, ℕ, List, map, All, false, ◌==◌}
use Rattle.std.specs.List.{filter}
use Rattle.telegram.specs.declared.telegram.Telegram.{Telegram}
use Rattle.telegram.specs.declared.telegram.Telegram.TheVariants.{Position, Wind}
use Rattle.telegram.specs.declared.telegram.Telegram.TheVariants.{Thruster, Generator, Tie}
use Rattle.telegram.specs.declared.telegram.Telegram.TheVariants.{Ack, Board, Bar}
use Rattle.plant_core.specs.Machine.{is_event}
use Rattle.plant_core.specs.declared.call.Call.{Call}
use Rattle.plant_core.specs.declared.call.Call.TheVariants as calls
use Rattle.plant_core.specs.declared.call.Entry.{Entry}

-- the entries of a caller, in their order
abbrev pub entries_of : ℕ → List Entry → List Entry
entries_of caller history = filter (λ entry. entry.caller == caller) history

-- what it asks in them
abbrev pub calls_by : ℕ → List Entry → List Call
calls_by caller history = map (λ entry. entry.call) (entries_of caller history)

-- ---- what a stream asks

abbrev pub IsSensed : Telegram → Type 0
IsSensed (Position moment x y heading) = Unit {0}
IsSensed (Wind moment speed angle) = Unit {0}
IsSensed _ = ⊥

-- sensors ask by positions and winds, and what is no telegram of theirs is noted
abbrev pub IsOfSensors : Call → Type 0
IsOfSensors (calls.Telegram t) = IsSensed t
IsOfSensors (calls.Note n) = Unit {0}
IsOfSensors _ = ⊥

-- neither a position nor a wind, nor an order of mode, set point or manual demand
abbrev pub IsSwitching : Telegram → Type 0
IsSwitching (Thruster name selected) = Unit {0}
IsSwitching (Generator name running) = Unit {0}
IsSwitching (Tie name closed) = Unit {0}
IsSwitching (Bar name piece barred) = Unit {0}
IsSwitching (Ack number) = Unit {0}
IsSwitching Board = Unit {0}
IsSwitching _ = ⊥

-- operators that leave it to the sensors what is asked of the thrusters
abbrev pub IsOfOperators : Call → Type 0
IsOfOperators (calls.Telegram t) = IsSwitching t
IsOfOperators (calls.Note n) = Unit {0}
IsOfOperators _ = ⊥

-- ---- histories

-- Caller 1 asks this in the history, and caller 2 that, each in its order. The others publish verdicts,
-- or end the session. How the entries are interleaved is left open.
pub record IsOfStreams (sensors operators : List Call) (history : List Entry) : Type 0 where
  pub control : calls_by 1 history ≡ sensors
  pub orders : calls_by 2 history ≡ operators
  pub others : All (λ entry. entry.caller ≢ 1 → entry.caller ≢ 2 → is_event entry.call ≡ false)
      history
