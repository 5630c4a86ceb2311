-- The streams of a drill are apart.
use Rattle.std.proofs.Common.{ℕ, ◌≤◌}
use Rattle.std.proofs.lemmas.List.Elements.{All-map, All-weaker}
use Rattle.std.specs.Prelude.{map}
use Rattle.telegram.specs.declared.telegram.Telegram.{Telegram}
use Rattle.telegram.specs.declared.telegram.Telegram.TheVariants.{Position, Wind}
use Rattle.telegram.specs.declared.telegram.Telegram.TheVariants.{Thruster, Generator, Tie}
use Rattle.plant_core.specs.declared.call.Call.TheVariants as calls
use Rattle.drill_streams.specs.Laws.{IsSensed as IsOfDrillSensors, IsSwitch}
use Rattle.drill_streams.specs.Streams.{drill_operators, drill_sensors}
use Rattle.drill_streams.specs.declared.streams.TheConstants.{MOST_DRILL_STEPS}
use Rattle.drill_streams.proofs.Drills.{has-operators, has-sensors}
use Rattle.drill_summary.specs.Laws.{AreApart}
use Rattle.drill_summary.specs.Streams.{IsOfOperators, IsOfSensors}

sensor-call : (t : Telegram) → IsOfDrillSensors t → IsOfSensors (calls.Telegram t)
sensor-call (Position moment x y heading) is = tt
sensor-call (Wind moment speed angle) is = tt
sensor-call _ is = absurd is

order-call : (t : Telegram) → IsSwitch t → IsOfOperators (calls.Telegram t)
order-call (Thruster name selected) is = tt
order-call (Generator name running) is = tt
order-call (Tie name closed) is = tt
order-call _ is = absurd is

pub drill-apart : (seed size : ℕ) → size ≤ MOST_DRILL_STEPS
    → AreApart (map calls.Telegram (drill_sensors seed size))
    (map calls.Telegram (drill_operators seed size))
drill-apart seed size few = record {
  control = All-map IsOfSensors calls.Telegram (drill_sensors seed size)
      (All-weaker IsOfDrillSensors (λ t. IsOfSensors (calls.Telegram t)) sensor-call
      (drill_sensors seed size) (has-sensors seed size few).kinds);
  orders = All-map IsOfOperators calls.Telegram (drill_operators seed size)
      (All-weaker IsSwitch (λ t. IsOfOperators (calls.Telegram t)) order-call
      (drill_operators seed size) (has-operators seed size).kinds);
}
