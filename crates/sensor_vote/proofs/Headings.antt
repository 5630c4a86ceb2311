-- Numbers and headings between two others.
use Rattle.std.proofs.Common.{◌≡◌, ℕ, ◌+◌, ◌<◌, ◌≤◌, ℤ, arith}
use Rattle.std.proofs.lemmas.Int.{ints}
use Rattle.std.specs.Int.{int_max, int_min}
use Rattle.std.specs.Prelude.{nat_le, ◌&&◌, if◌then◌else◌}
use Rattle.sensor_vote.specs.Laws.{IsBetween, LiesAmong, apart}
use Rattle.sensor_vote.specs.Medians.{median_of, middle}
use Rattle.sensor_vote.specs.References.{IsReference}
use Rattle.sensor_vote.specs.declared.reference.Reference.{Reference}

-- ---- the middle one of three numbers

pub middle-is : (a b c : ℤ) → int_max (int_min a b) (int_min (int_max a b) c) ≡ middle a b c
middle-is a b c = grind (arith, ints)

middle-first_second : (a b c : ℤ) → IsBetween a b (middle a b c)
middle-first_second a b c = grind (arith, ints)

middle-first_third : (a b c : ℤ) → IsBetween a c (middle a b c)
middle-first_third a b c = grind (arith, ints)

middle-second_third : (a b c : ℤ) → IsBetween b c (middle a b c)
middle-second_third a b c = grind (arith, ints)

-- ---- headings on a turn

apart-other : (p q : ℕ) → apart p q ≡ apart q p
apart-other p q = omega arith

apart-same : (p : ℕ) → apart p p ≡ 0
apart-same p = omega arith

-- a heading that is no farther from either of two others than they are from each other lies between
-- them, where they are less than a third of a turn apart
apart-between : (p q h : ℕ) → p < 36000 → q < 36000 → h < 36000 → apart p q < 12000
    → apart h q ≤ apart p q → apart h p ≤ apart p q → apart p h + apart h q ≡ apart p q
apart-between p q h = omega arith

-- what is asked of a distance for that
record IsDistance (d : ℕ → ℕ → ℕ) : Type 0 where
  other : (p q : ℕ) → d p q ≡ d q p
  same : (p : ℕ) → d p p ≡ 0
  between : (p q h : ℕ) → p < 36000 → q < 36000 → h < 36000 → d p q < 12000
      → d h q ≤ d p q → d h p ≤ d p q → d p h + d h q ≡ d p q

apart-is : IsDistance apart
apart-is = record { other = apart-other; same = apart-same; between = apart-between }

-- the one of three whose distances to the two others have the least sum, the first of such
abbrev nearest : (ℕ → ℕ → ℕ) → ℕ → ℕ → ℕ → ℕ
nearest d a b c =
    let from_a = d a b + d a c in
    let from_b = d b a + d b c in
    let from_c = d c a + d c b in
    if nat_le from_a from_b && nat_le from_a from_c then a
    else (if nat_le from_b from_c then b else c)

module _ (d : ℕ → ℕ → ℕ) (is : IsDistance d) (a b c : ℕ) (a_in : a < 36000) (b_in : b < 36000)
    (c_in : c < 36000) where
  nearest-first_second : d a b < 12000 → d a (nearest d a b c) + d (nearest d a b c) b ≡ d a b
  nearest-first_second near =
      grind (arith, is.other b a, is.other c a, is.other c b, is.same a, is.same b, is.between a b c)

  nearest-first_third : d a c < 12000 → d a (nearest d a b c) + d (nearest d a b c) c ≡ d a c
  nearest-first_third near =
      grind (arith, is.other b a, is.other c a, is.other c b, is.same a, is.same c, is.between a c b)

  nearest-second_third : d b c < 12000 → d b (nearest d a b c) + d (nearest d a b c) c ≡ d b c
  nearest-second_third near =
      grind (arith, is.other b a, is.other c a, is.other c b, is.same b, is.same c, is.between b c a)

-- ---- three references

pub lies_among : (a b c : Reference) → IsReference a → IsReference b → IsReference c
    → LiesAmong (median_of a b c) a b c
lies_among a b c a_in b_in c_in =
    let a_turn : a.heading < 36000 = omega (arith, a_in.fix.turn) in
    let b_turn : b.heading < 36000 = omega (arith, b_in.fix.turn) in
    let c_turn : c.heading < 36000 = omega (arith, c_in.fix.turn) in
    record {
      first_second = record {
        north = middle-first_second a.x b.x c.x;
        east = middle-first_second a.y b.y c.y;
        turn = nearest-first_second apart apart-is a.heading b.heading c.heading a_turn b_turn c_turn;
      };
      first_third = record {
        north = middle-first_third a.x b.x c.x;
        east = middle-first_third a.y b.y c.y;
        turn = nearest-first_third apart apart-is a.heading b.heading c.heading a_turn b_turn c_turn;
      };
      second_third = record {
        north = middle-second_third a.x b.x c.x;
        east = middle-second_third a.y b.y c.y;
        turn = nearest-second_third apart apart-is a.heading b.heading c.heading a_turn b_turn c_turn;
      };
    }
