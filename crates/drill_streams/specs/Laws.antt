-- Laws of the streams of all drills.
use Rattle.std.specs.Prelude.{◌≡◌, ℕ, ◌*◌, ◌/◌, ◌≤◌, List, length, map, Ok, All}
use Rattle.frame.specs.Frames.{items_end}
use Rattle.frame.specs.declared.item.Item.TheVariants.{Body}
use Rattle.telegram.specs.Telegrams.{telegram, telegram_text}
use Rattle.telegram.specs.declared.telegram.Telegram.{Telegram}
use Rattle.telegram.specs.declared.telegram.Telegram.TheVariants.{Position, Wind, Thruster}
use Rattle.telegram.specs.declared.telegram.Telegram.TheVariants.{Generator, Tie}
use Rattle.drill_streams.specs.Streams.{drill_operators, drill_sensors, frames_of}
use Rattle.drill_streams.specs.declared.streams.TheConstants.{MOST_DRILL_STEPS}

-- a telegram of the sensors
abbrev pub IsSensed : Telegram → Type 0
IsSensed (Position moment x y heading) = Unit {0}
IsSensed (Wind moment speed angle) = Unit {0}
IsSensed _ = ⊥

-- a telegram that switches a part
abbrev pub IsSwitch : Telegram → Type 0
IsSwitch (Thruster name selected) = Unit {0}
IsSwitch (Generator name running) = Unit {0}
IsSwitch (Tie name closed) = Unit {0}
IsSwitch _ = ⊥

-- The frames of these telegrams are a stream whose items are their bodies, of which each is read as
-- its telegram.
pub record AreRead (telegrams : List Telegram) : Type 0 where
  pub items : items_end (frames_of telegrams) ≡ map (λ t. Body (telegram_text t)) telegrams
  pub each : All (λ t. telegram (telegram_text t) ≡ Ok t) telegrams

-- the sensors' stream: one telegram of the sensors for each step
pub record HasSensors (seed size : ℕ) : Type 0 where
  pub read : AreRead (drill_sensors seed size)
  pub kinds : All IsSensed (drill_sensors seed size)
  pub count : length (drill_sensors seed size) ≡ size
  pub short : length (frames_of (drill_sensors seed size)) ≤ 40 * size

-- the operators' stream: one switch for each hundred steps
pub record HasOperators (seed size : ℕ) : Type 0 where
  pub read : AreRead (drill_operators seed size)
  pub kinds : All IsSwitch (drill_operators seed size)
  pub count : length (drill_operators seed size) ≡ size / 100
  pub short : length (frames_of (drill_operators seed size)) ≤ 40 * (size / 100)

abbrev pub DrillsAreRead : Type 0
DrillsAreRead = (seed size : ℕ) → size ≤ MOST_DRILL_STEPS
    → HasSensors seed size × HasOperators seed size
