-- The telegrams of a step of a drill.
use Rattle.std.specs.Prelude.{ℕ, ◌-◌, ◌*◌, ◌%◌, ℤ, pos, ◌-ℤ◌, List, [], ◌∷◌, Bool, ◌==◌}
use Rattle.std.specs.Prelude.{if◌then◌else◌, codes}
use Rattle.telegram.specs.declared.telegram.Telegram.{Telegram}
use Rattle.telegram.specs.declared.telegram.Telegram.TheVariants.{Position, Wind, Thruster}
use Rattle.telegram.specs.declared.telegram.Telegram.TheVariants.{Generator, Tie}
use Rattle.drill_streams.specs.Draws.{drawn, next_number}

-- ---- sensors

-- a second after the step before it or, in one of 50, the moment of that step
abbrev pub moment_of : ℕ → ℕ → ℕ
moment_of step number = if drawn 50 number == 0 then 1000 * (step - 1) else 1000 * step

-- up to half a metre from the origin, either way
abbrev pub offset_of : ℕ → ℤ
offset_of number = pos (drawn 101 number) -ℤ pos 50

-- the telegram of a step where these four numbers were drawn: its kind, its moment and two values;
-- one of ten is a wind
abbrev pub sensor_of : ℕ → ℕ → ℕ → ℕ → ℕ → Telegram
sensor_of step kind moment one two =
    if drawn 10 kind == 0 then Wind (moment_of step moment) (drawn 300 one) (drawn 36000 two)
    else Position (moment_of step moment) (offset_of one) (offset_of two) 0

-- the sensors' telegram of a step before which the number is this
abbrev pub sensor_at : ℕ → ℕ → Telegram
sensor_at step number =
    let kind = next_number number in
    let moment = next_number kind in
    let one = next_number moment in
    sensor_of step kind moment one (next_number one)

-- the number after it
abbrev pub number_after_sensor : ℕ → ℕ
number_after_sensor number = next_number (next_number (next_number (next_number number)))

-- ---- operators

-- the switch of a part of the demo plant: one of its thrusters, generators and its tie
abbrev pub switch_of : ℕ → Bool → Telegram
switch_of part on =
    if part == 0 then Thruster (codes "BOW1") on
    else (if part == 1 then Thruster (codes "BOW2") on
    else (if part == 2 then Thruster (codes "PORT") on
    else (if part == 3 then Thruster (codes "STBD") on
    else (if part == 4 then Generator (codes "G1") on
    else (if part == 5 then Generator (codes "G2") on
    else Tie (codes "T1") on)))))

-- the operators' telegram where the number before it is this
abbrev pub switch_at : ℕ → Telegram
switch_at number =
    let part = next_number number in
    switch_of (drawn 7 part) (drawn 2 (next_number part) == 1)

-- each step of this many has a telegram of the operators
abbrev pub steps_of_an_order : ℕ
steps_of_an_order = 100

-- the operators' telegrams of a step after whose sensors' telegram the number is this: one or none
abbrev pub orders_at : ℕ → ℕ → List Telegram
orders_at step number = if step % steps_of_an_order == 0 then switch_at number ∷ [] else []

-- the number after them
abbrev pub number_after_orders : ℕ → ℕ → ℕ
number_after_orders step number =
    if step % steps_of_an_order == 0 then next_number (next_number number) else number
