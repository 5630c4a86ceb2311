-- The telegrams of a step.
use Rattle.std.proofs.Common.{◌≡◌, ℕ, ◌≤◌, ◌<◌, List, [], ◌∷◌}
use Rattle.std.proofs.Common.{Bool, true, false, cond, ◌==◌, ℤ, refl, arith, lit<, length, codes}
use Rattle.std.proofs.Common.{nat_le, ◌/◌, ◌%◌}
use Rattle.frame.specs.Bodies.{is_body}
use Rattle.std.proofs.Math.Nat.{mod-lt}
use Rattle.std.proofs.lemmas.Bool.Decides.{nat_tests}
use Rattle.std.proofs.lemmas.Int.{ints}
use Rattle.std.proofs.lemmas.List.Elements.{All-cons, All-nil}
use Rattle.std.specs.List.{All}
use Rattle.std.specs.Prelude.{nat_abs, pos, negsuc, ◌-ℤ◌}
use Rattle.plant_model.specs.Numbers.{IsWithin}
use Rattle.plant_model.specs.declared.limits.TheConstants.{MOST_POSITION}
use Rattle.telegram.specs.Telegrams.{IsTelegram, telegram_text}
use Rattle.telegram.specs.declared.telegram.Telegram.{Telegram}
use Rattle.telegram.specs.declared.telegram.Telegram.TheVariants.{Position, Wind, Thruster}
use Rattle.telegram.specs.declared.telegram.Telegram.TheVariants.{Generator, Tie}
use Rattle.drill_streams.specs.Draws.{drawn, next_number}
use Rattle.drill_streams.specs.Laws.{IsSensed, IsSwitch}
use Rattle.drill_streams.specs.Steps.{moment_of, offset_of, orders_at}
use Rattle.drill_streams.specs.Steps.{sensor_at, sensor_of, steps_of_an_order, switch_at, switch_of}
use Rattle.drill_streams.specs.declared.streams.TheConstants.{MOST_DRILL_STEPS}
use Rattle.drill_streams.proofs.Bodies.{IsShortBody, short-position, short-wind}

-- what holds of each telegram of a drill's sensors
pub record IsDrillSensor (t : Telegram) : Type 0 where
  pub within : IsTelegram t
  pub kind : IsSensed t
  pub short : IsShortBody (telegram_text t)

-- what holds of each telegram of its operators
pub record IsDrillOrder (t : Telegram) : Type 0 where
  pub within : IsTelegram t
  pub kind : IsSwitch t
  pub short : IsShortBody (telegram_text t)

-- ---- sensors

moment-small : (step number : ℕ) → step ≤ MOST_DRILL_STEPS → moment_of step number ≤ 25000000
moment-small step number few = grind (arith, nat_tests)

drawn-below : (bound number : ℕ) → 0 < bound → drawn bound number < bound
drawn-below bound number some = mod-lt (number / 65536) some

offset-small : (n : ℕ) → n < 101 → nat_abs (pos n -ℤ pos 50) ≤ 50
offset-small n below = omega (arith, ints)

offset-near : (number : ℕ) → nat_abs (offset_of number) ≤ 50
offset-near number = offset-small (drawn 101 number) (drawn-below 101 number (lit< tt))

sensor-wind : (moment speed angle : ℕ) → moment ≤ 25000000 → speed < 300 → angle < 36000
    → IsDrillSensor (Wind moment speed angle)
sensor-wind moment speed angle m s a = record {
  within = (omega arith, record { strength = omega arith; turn = omega arith });
  kind = tt;
  short = short-wind moment speed angle (omega arith) (omega arith) (omega arith);
}

within-near : (z : ℤ) → nat_abs z ≤ 50 → IsWithin MOST_POSITION z
within-near (pos n) near = record { low = omega (arith, ints); high = omega (arith, ints) }
within-near (negsuc n) near = record { low = omega (arith, ints); high = omega (arith, ints) }

sensor-position : (moment : ℕ) (x y : ℤ) → moment ≤ 25000000 → nat_abs x ≤ 50 → nat_abs y ≤ 50
    → IsDrillSensor (Position moment x y 0)
sensor-position moment x y m near_x near_y = record {
  within = (
    omega arith,
    record { north = within-near x near_x; east = within-near y near_y; turn = omega arith },
  );
  kind = tt;
  short = short-position moment x y (omega arith) (omega arith) (omega arith);
}

sensor-one_of : (is_wind : Bool) (wind position : Telegram) → IsDrillSensor wind
    → IsDrillSensor position → IsDrillSensor (cond is_wind wind position)
sensor-one_of true wind position first second = first
sensor-one_of false wind position first second = second

sensor-of : (step kind moment one two : ℕ) → step ≤ MOST_DRILL_STEPS
    → IsDrillSensor (sensor_of step kind moment one two)
sensor-of step kind moment one two few =
    sensor-one_of (drawn 10 kind == 0)
    (Wind (moment_of step moment) (drawn 300 one) (drawn 36000 two))
    (Position (moment_of step moment) (offset_of one) (offset_of two) 0)
    (sensor-wind (moment_of step moment) (drawn 300 one) (drawn 36000 two)
    (moment-small step moment few) (drawn-below 300 one (lit< tt)) (drawn-below 36000 two (lit< tt)))
    (sensor-position (moment_of step moment) (offset_of one) (offset_of two)
    (moment-small step moment few) (offset-near one) (offset-near two))

pub sensor-at : (step number : ℕ) → step ≤ MOST_DRILL_STEPS → IsDrillSensor (sensor_at step number)
sensor-at step number few =
    let kind = next_number number in
    let moment = next_number kind in
    let one = next_number moment in
    sensor-of step kind moment one (next_number one) few

-- ---- operators

order-thruster : (name : List ℕ) (on : Bool) → IsTelegram (Thruster name on)
    → IsShortBody (telegram_text (Thruster name true))
    → IsShortBody (telegram_text (Thruster name false)) → IsDrillOrder (Thruster name on)
order-thruster name true within short_on short_off = record { within = within; kind = tt; short = short_on }
order-thruster name false within short_on short_off = record { within = within; kind = tt; short = short_off }

order-generator : (name : List ℕ) (on : Bool) → IsTelegram (Generator name on)
    → IsShortBody (telegram_text (Generator name true))
    → IsShortBody (telegram_text (Generator name false)) → IsDrillOrder (Generator name on)
order-generator name true within short_on short_off = record { within = within; kind = tt; short = short_on }
order-generator name false within short_on short_off = record { within = within; kind = tt; short = short_off }

order-tie : (name : List ℕ) (on : Bool) → IsTelegram (Tie name on)
    → IsShortBody (telegram_text (Tie name true))
    → IsShortBody (telegram_text (Tie name false)) → IsDrillOrder (Tie name on)
order-tie name true within short_on short_off = record { within = within; kind = tt; short = short_on }
order-tie name false within short_on short_off = record { within = within; kind = tt; short = short_off }

order-one_of : (first : Bool) (one other : Telegram) → IsDrillOrder one → IsDrillOrder other
    → IsDrillOrder (cond first one other)
order-one_of true one other is is_other = is
order-one_of false one other is is_other = is_other

short-known : (bytes : List ℕ) → is_body bytes ≡ true → nat_le (length bytes) 35 ≡ true
    → IsShortBody bytes
short-known bytes body few = record { body = body; few = grind (arith, nat_tests) }

pub switch-of : (part : ℕ) (on : Bool) → IsDrillOrder (switch_of part on)
switch-of part on =
    order-one_of (part == 0) (Thruster (codes "BOW1") on) _
    (order-thruster (codes "BOW1") on refl (short-known _ refl refl) (short-known _ refl refl))
    (order-one_of (part == 1) (Thruster (codes "BOW2") on) _
    (order-thruster (codes "BOW2") on refl (short-known _ refl refl) (short-known _ refl refl))
    (order-one_of (part == 2) (Thruster (codes "PORT") on) _
    (order-thruster (codes "PORT") on refl (short-known _ refl refl) (short-known _ refl refl))
    (order-one_of (part == 3) (Thruster (codes "STBD") on) _
    (order-thruster (codes "STBD") on refl (short-known _ refl refl) (short-known _ refl refl))
    (order-one_of (part == 4) (Generator (codes "G1") on) _
    (order-generator (codes "G1") on refl (short-known _ refl refl) (short-known _ refl refl))
    (order-one_of (part == 5) (Generator (codes "G2") on) _
    (order-generator (codes "G2") on refl (short-known _ refl refl) (short-known _ refl refl))
    (order-tie (codes "T1") on refl (short-known _ refl refl) (short-known _ refl refl)))))))

orders-where : (is_one : Bool) (t : Telegram) → IsDrillOrder t
    → All IsDrillOrder (cond is_one (t ∷ []) [])
orders-where true t is = All-cons IsDrillOrder t [] is (All-nil IsDrillOrder)
orders-where false t is = All-nil IsDrillOrder

pub orders-at : (step number : ℕ) → All IsDrillOrder (orders_at step number)
orders-at step number =
    let part = next_number number in
    orders-where (step % steps_of_an_order == 0) (switch_at number)
    (switch-of (drawn 7 part) (drawn 2 (next_number part) == 1))
