-- What three references say together, and which of them are bad.
use Rattle.std.specs.Prelude.{ℕ, ◌+◌, ◌-◌, min, ℤ, ◌-ℤ◌, nat_abs, int_le, nat_le, nat_lt}
use Rattle.std.specs.Prelude.{Bool, ◌&&◌, ◌||◌, if◌then◌else◌}
use Rattle.std.specs.Int.{abs_diff}
use Rattle.plant_model.specs.declared.limits.TheConstants.{WHOLE_TURN}
use Rattle.sensor_vote.specs.declared.median.Median.{Median}
use Rattle.sensor_vote.specs.declared.median.TheConstants.{MOST_OFF_COURSE, MOST_OFF_POSITION}
use Rattle.sensor_vote.specs.declared.reference.Reference.{Reference}

-- the number lies between the two others, whichever of them is greater
abbrev pub lies_between : ℤ → ℤ → ℤ → Bool
lies_between p q z = (int_le p z && int_le z q) || (int_le q z && int_le z p)

-- the one of three numbers that lies between the two others
abbrev pub middle : ℤ → ℤ → ℤ → ℤ
middle a b c = if lies_between b c a then a else (if lies_between a c b then b else c)

-- how far two headings are apart: their difference, or the rest of a whole turn where that is less
abbrev pub distance : ℕ → ℕ → ℕ
distance a b = let difference = abs_diff a b in min difference (WHOLE_TURN - difference)

-- the heading of the three whose distances to the two others have the least sum, the first of such
abbrev pub heading_of : ℕ → ℕ → ℕ → ℕ
heading_of a b c =
    let from_a = distance a b + distance a c in
    let from_b = distance b a + distance b c in
    let from_c = distance c a + distance c b in
    if nat_le from_a from_b && nat_le from_a from_c then a
    else (if nat_le from_b from_c then b else c)

-- along each axis the middle one of the three, and the heading nearest to the others
abbrev pub median_of : Reference → Reference → Reference → Median
median_of a b c = record {
  x = middle a.x b.x c.x;
  y = middle a.y b.y c.y;
  heading = heading_of a.heading b.heading c.heading;
}

-- the two numbers are farther apart than this
abbrev pub differ_by_more : ℤ → ℤ → ℕ → Bool
differ_by_more a b most = nat_lt most (nat_abs (a -ℤ b))

-- a reference is bad that is too far from what the three say together
abbrev pub is_off : Median → Reference → Bool
is_off m r =
    differ_by_more r.x m.x MOST_OFF_POSITION || differ_by_more r.y m.y MOST_OFF_POSITION
    || nat_lt MOST_OFF_COURSE (distance r.heading m.heading)
