-- The numbers of a drill: each follows from the one before it.
use Rattle.std.specs.Prelude.{ℕ, ◌+◌, ◌*◌, ◌/◌, ◌%◌}

-- the first number of a seed
abbrev pub first_number : ℕ → ℕ
first_number seed = seed % 2147483648

-- the number after this one
abbrev pub next_number : ℕ → ℕ
next_number number = (1103515245 * number + 12345) % 2147483648

-- what is drawn below a bound where the number is now this
abbrev pub drawn : ℕ → ℕ → ℕ
drawn bound number = (number / 65536) % bound
