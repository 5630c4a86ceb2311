-- Laws of all votes. Their numbers are written out: they are what is promised.
use Rattle.std.specs.Prelude.{◌≡◌, ◌↔◌, ◌⊎◌, ℕ, ◌+◌, ◌-◌, ◌<◌, min, ℤ, ◌-ℤ◌, ◌≤ℤ◌, nat_abs, true}
use Rattle.std.specs.Int.{abs_diff}
use Rattle.sensor_vote.specs.Medians.{is_off, median_of}
use Rattle.sensor_vote.specs.References.{IsReference}
use Rattle.sensor_vote.specs.declared.median.Median.{Median}
use Rattle.sensor_vote.specs.declared.reference.Reference.{Reference}

-- the number lies between the two others, whichever of them is greater
abbrev pub IsBetween : ℤ → ℤ → ℤ → Type 0
IsBetween p q z = ((p ≤ℤ z) × (z ≤ℤ q)) ⊎ ((q ≤ℤ z) × (z ≤ℤ p))

-- how far two headings are apart, of a turn of 36000
abbrev pub apart : ℕ → ℕ → ℕ
apart a b = min (abs_diff a b) (36000 - abs_diff a b)

-- along each axis the answer lies between what the two say, and its heading on the shorter way from
-- one's heading to the other's, where they are less than a third of a turn apart
pub record LiesBetween (m : Median) (p q : Reference) : Type 0 where
  pub north : IsBetween p.x q.x m.x
  pub east : IsBetween p.y q.y m.y
  pub turn : apart p.heading q.heading < 12000
      → apart p.heading m.heading + apart m.heading q.heading ≡ apart p.heading q.heading

-- whatever the third says, the answer lies between any two
pub record LiesAmong (m : Median) (a b c : Reference) : Type 0 where
  pub first_second : LiesBetween m a b
  pub first_third : LiesBetween m a c
  pub second_third : LiesBetween m b c

abbrev pub IsBetweenOthers : Type 0
IsBetweenOthers = (a b c : Reference) → IsReference a → IsReference b → IsReference c
    → LiesAmong (median_of a b c) a b c

-- the reference is more than 5 m from the answer along an axis, or more than 3 degrees
abbrev pub IsFar : Median → Reference → Type 0
IsFar m r = (500 < nat_abs (r.x -ℤ m.x)) ⊎ ((500 < nat_abs (r.y -ℤ m.y))
    ⊎ (300 < apart r.heading m.heading))

-- exactly these are bad
abbrev pub MarksTheFar : Type 0
MarksTheFar = (m : Median) (r : Reference) → (is_off m r ≡ true) ↔ IsFar m r
