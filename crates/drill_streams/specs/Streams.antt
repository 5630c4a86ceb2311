-- The two streams of a drill.
use Rattle.std.specs.Prelude.{ℕ, zero, suc, ◌+◌, List, [], ◌∷◌, ◌++◌}
use Rattle.std.specs.List.{flat_map}
use Rattle.frame.specs.Frames.{frame_text}
use Rattle.telegram.specs.Telegrams.{telegram_text}
use Rattle.telegram.specs.declared.telegram.Telegram.{Telegram}
use Rattle.drill_streams.specs.Draws.{first_number}
use Rattle.drill_streams.specs.Steps.{number_after_orders, number_after_sensor, orders_at, sensor_at}

-- a drill so far: its last number, and the telegrams of the sensors and of the operators
pub record Drill : Type 0 where
  pub number : ℕ
  pub sensors : List Telegram
  pub operators : List Telegram

abbrev pub opening_drill : ℕ → Drill
opening_drill seed = record { number = first_number seed; sensors = []; operators = [] }

-- the drill after a step
abbrev pub after_step : Drill → ℕ → Drill
after_step drill step =
    let number = number_after_sensor drill.number in
    record {
      number = number_after_orders step number;
      sensors = drill.sensors ++ sensor_at step drill.number ∷ [];
      operators = drill.operators ++ orders_at step number;
    }

-- the drill of a seed after so many steps, of which the first is step 1
abbrev pub drill_after : ℕ → ℕ → Drill
drill_after seed zero = opening_drill seed
drill_after seed (suc steps) = after_step (drill_after seed steps) (steps + 1)

-- the telegrams of the sensors, and of the operators, of a drill of this seed and size
abbrev pub drill_sensors : ℕ → ℕ → List Telegram
drill_sensors seed size = (drill_after seed size).sensors

abbrev pub drill_operators : ℕ → ℕ → List Telegram
drill_operators seed size = (drill_after seed size).operators

-- the frames of telegrams, in their order
abbrev pub frames_of : List Telegram → List ℕ
frames_of telegrams = flat_map (λ t. frame_text (telegram_text t)) telegrams
