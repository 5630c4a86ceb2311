-- What holds of all telegrams of a drill, by its steps.
use Rattle.std.proofs.Common.{◌≡◌, ℕ, zero, suc, ◌+◌, ◌/◌, ◌%◌, ◌≤◌, List, [], ◌∷◌}
use Rattle.std.proofs.Common.{length, Bool, true, false, cond, ◌==◌, refl, arith}
use Rattle.std.proofs.Common.{length-append, Ok}
use Rattle.std.proofs.lemmas.Bool.Decides.{nat_tests}
use Rattle.std.proofs.lemmas.List.Elements.{All-append, All-nil, All-push, All-weaker}
use Rattle.std.specs.List.{All}
use Rattle.telegram.specs.Telegrams.{telegram, telegram_text}
use Rattle.telegram.specs.declared.telegram.Telegram.{Telegram}
use Rattle.telegram.proofs.Exact.{read_again}
use Rattle.drill_streams.specs.Laws.{HasOperators, HasSensors, IsSensed, IsSwitch}
use Rattle.drill_streams.specs.Steps.{number_after_sensor, orders_at, sensor_at}
use Rattle.drill_streams.specs.Steps.{steps_of_an_order, switch_at}
use Rattle.drill_streams.specs.Streams.{drill_after, drill_operators, drill_sensors}
use Rattle.drill_streams.specs.declared.streams.TheConstants.{MOST_DRILL_STEPS}
use Rattle.drill_streams.proofs.Frames.{IsShort, items_end-frames, length-frames}
use Rattle.drill_streams.proofs.Telegrams.{IsDrillOrder, IsDrillSensor, orders-at, sensor-at}

-- ---- sensors

all-sensors : (seed size : ℕ) → size ≤ MOST_DRILL_STEPS → All IsDrillSensor (drill_sensors seed size)
all-sensors seed zero few = All-nil IsDrillSensor
all-sensors seed (suc n) few =
    All-push IsDrillSensor (drill_sensors seed n) (sensor_at (n + 1) (drill_after seed n).number)
    (all-sensors seed n (omega arith))
    (sensor-at (n + 1) (drill_after seed n).number (omega arith))

count-sensors : (seed size : ℕ) → length (drill_sensors seed size) ≡ size
count-sensors seed zero = refl
count-sensors seed (suc n) =
    let before = count-sensors seed n in
    let last : List Telegram = sensor_at (n + 1) (drill_after seed n).number ∷ [] in
    omega (arith, length-append (drill_sensors seed n) last)

pub has-sensors : (seed size : ℕ) → size ≤ MOST_DRILL_STEPS → HasSensors seed size
has-sensors seed size few =
    let telegrams = drill_sensors seed size in
    let all = all-sensors seed size few in
    let short : All IsShort telegrams =
    All-weaker IsDrillSensor IsShort (λ t is. is.short) telegrams all in
    let count = count-sensors seed size in
    record {
      read = record {
        items = items_end-frames telegrams short;
        each = All-weaker IsDrillSensor (λ t. telegram (telegram_text t) ≡ Ok t)
            (λ t is. read_again t is.within) telegrams all;
      };
      kinds = All-weaker IsDrillSensor IsSensed (λ t is. is.kind) telegrams all;
      count = count;
      short = omega (arith, length-frames telegrams short);
    }

-- ---- operators

all-orders : (seed size : ℕ) → All IsDrillOrder (drill_operators seed size)
all-orders seed zero = All-nil IsDrillOrder
all-orders seed (suc n) =
    let number = number_after_sensor (drill_after seed n).number in
    All-append IsDrillOrder (drill_operators seed n) (orders_at (n + 1) number)
    (all-orders seed n) (orders-at (n + 1) number)

length-where : (is_one : Bool) (t : Telegram)
    → length (cond is_one (t ∷ []) []) ≡ cond is_one 1 0
length-where true t = refl
length-where false t = refl

-- one hundred more where a step is a multiple of a hundred
hundreds : (n count : ℕ) → count ≡ n / 100
    → count + cond ((n + 1) % 100 == 0) 1 0 ≡ (n + 1) / 100
hundreds n count is = grind (arith, nat_tests)

count-orders : (seed size : ℕ) → length (drill_operators seed size) ≡ size / 100
count-orders seed zero = refl
count-orders seed (suc n) =
    let number = number_after_sensor (drill_after seed n).number in
    let one = length-where ((n + 1) % steps_of_an_order == 0) (switch_at number) in
    let all = hundreds n (length (drill_operators seed n)) (count-orders seed n) in
    omega (arith, length-append (drill_operators seed n) (orders_at (n + 1) number), one, all)

pub has-operators : (seed size : ℕ) → HasOperators seed size
has-operators seed size =
    let telegrams = drill_operators seed size in
    let all = all-orders seed size in
    let short : All IsShort telegrams =
    All-weaker IsDrillOrder IsShort (λ t is. is.short) telegrams all in
    let count = count-orders seed size in
    record {
      read = record {
        items = items_end-frames telegrams short;
        each = All-weaker IsDrillOrder (λ t. telegram (telegram_text t) ≡ Ok t)
            (λ t is. read_again t is.within) telegrams all;
      };
      kinds = All-weaker IsDrillOrder IsSwitch (λ t is. is.kind) telegrams all;
      count = count;
      short = omega (arith, length-frames telegrams short);
    }
