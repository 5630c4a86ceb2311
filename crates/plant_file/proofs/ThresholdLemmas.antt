-- Thresholds, taken one by one.
use Rattle.std.proofs.Common.{◌≡◌, ℕ, List, ◌∷◌, false, ℤ, pos, negsuc, ◌≤ℤ◌, ◌<ℤ◌, arith}
use Rattle.std.proofs.lemmas.Bool.Decides.{nat_tests}
use Rattle.std.proofs.lemmas.Int.{ints}
use Rattle.plant_model.specs.declared.limits.TheConstants.{MOST_THRESHOLD}
use Rattle.plant_model.specs.Plants.{are_thresholds_from}
use Rattle.plant_file.specs.Documents.{natural}

-- one that is neither below the least nor above the greatest
pub are_thresholds-more : (least t : ℤ) (ts : List ℕ) → pos 1 ≤ℤ least → least ≤ℤ t
    → t ≤ℤ pos MOST_THRESHOLD
    → are_thresholds_from (natural least) (natural t ∷ ts) ≡ are_thresholds_from (natural t) ts
are_thresholds-more (pos l) (pos t) ts some low high = grind (arith, ints, nat_tests)
are_thresholds-more (pos l) (negsuc t) ts some low high = absurd (omega (arith, ints))
are_thresholds-more (negsuc l) t ts some low high = absurd (omega (arith, ints))

pub are_thresholds-low : (least t : ℤ) (ts : List ℕ) → pos 1 ≤ℤ least → t <ℤ least
    → are_thresholds_from (natural least) (natural t ∷ ts) ≡ false
are_thresholds-low (pos l) (pos t) ts some low = grind (arith, ints, nat_tests)
are_thresholds-low (pos l) (negsuc t) ts some low = grind (arith, ints, nat_tests)
are_thresholds-low (negsuc l) t ts some low = absurd (omega (arith, ints))

pub are_thresholds-high : (least t : ℤ) (ts : List ℕ) → pos MOST_THRESHOLD <ℤ t
    → are_thresholds_from (natural least) (natural t ∷ ts) ≡ false
are_thresholds-high least (pos t) ts high = grind (arith, ints, nat_tests)
are_thresholds-high least (negsuc t) ts high = absurd (omega (arith, ints))
