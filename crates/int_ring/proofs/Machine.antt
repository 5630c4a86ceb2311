-- Machine numbers as they stand in goals, with the wraps taken off. From the ranges of the parts an
-- interval is computed for each number on the way; where each step fits its type, the number is the
-- plain one. An unsigned number n is read as `pos n`. `search machine` finds the `Strips` of a
-- goal's number.
use Rattle.std.proofs.Common.{List, ◌∙◌, nat_abs, ◌≡◌, ℕ, ◌+◌, ◌-◌, ◌*◌, ◌/◌, ◌%◌, ◌<◌, ◌≤◌, Bool}
use Rattle.std.proofs.Common.{true, ◌&&◌, T, ℤ, pos, negsuc, ◌+ℤ◌, ◌-ℤ◌, ◌*ℤ◌, neg_ℤ, ◌≤ℤ◌, ◌<ℤ◌}
use Rattle.std.proofs.Common.{ap, int_le, eqb, Fits, SFits, to_z, of_z}
use Rattle.std.specs.Int.{Width, int_div_euclid, int_rem_euclid, int_min, int_max}
use lib.Signed.{non_neg}
use Rattle.int_ring.proofs.Ring.{Reads, ring, normal, none}
use Rattle.int_ring.proofs.Intervals.{Known, signed_low, signed_high, unsigned_high, fits_signed}
use Rattle.int_ring.proofs.Intervals.{least, greatest, under_both, known_itself, known_literal}
use Rattle.int_ring.proofs.Intervals.{next_low, next_high, signed_from, signed_to, natural_from}
use Rattle.int_ring.proofs.Intervals.{natural_to, natural_below, unsigned_to, known_same, known_sum}
use Rattle.int_ring.proofs.Intervals.{known_minus, known_product, known_floor, known_rest}
use Rattle.int_ring.proofs.Intervals.{known_least, known_greatest, known_fits, known_fits_unsigned}
use Rattle.int_ring.proofs.Intervals.{known_read, known_widen, known_bits, reads_back, known_size}
use Rattle.int_ring.proofs.Intervals.{size_of, known_cast, fits_unsigned, known_less, known_gap}

-- z with its plain value and an interval about that, where `ok` holds
pub record Strips (z : ℤ) : Type 0 where
  pub value : ℤ
  pub low : ℤ
  pub high : ℤ
  pub ok : Bool
  pub known : T ok → Known z value low high

-- ---- what they are for

-- z is the plain number: `returns c = record { value = strip (search machine depth 40) tt }`
pub strip : {z : ℤ} (s : Strips z) → T s.ok → z ≡ s.value
strip s t = (s.known t).is

-- z is a number that is the plain one up to the ring laws, as the list's numbers show
pub strip_ring : (env : List ℤ) {z v : ℤ} (s : Strips z) → T s.ok → (x : Reads env (s.value -ℤ v))
    → normal x.expression ≡ none → z ≡ v
strip_ring env s t x e = strip s t ∙ ring env x e

-- z fits its type: `overflow_mul-result c = fits (search machine depth 40) tt`
pub fits : {w : Width} {z : ℤ} (s : Strips z) → T (s.ok && fits_signed w s.low s.high) → SFits w z
fits {w} {z} s = under_both s.ok (fits_signed w s.low s.high) s.known (λ t. t)
    (known_fits w z s.value s.low s.high)

-- z fits the unsigned type that it is cast to
pub fits_cast : {w : Width} {z : ℤ} (s : Strips z) → T (s.ok && fits_unsigned w s.low s.high)
    → T (non_neg z) × Fits w (nat_abs z)
fits_cast {w} {z} s = under_both s.ok (fits_unsigned w s.low s.high) s.known (λ t. t)
    (known_cast w z s.value s.low s.high)

-- an unsigned number fits its type
pub fits_natural : {w : Width} {n : ℕ} (s : Strips (pos n))
    → T (s.ok && int_le s.high (unsigned_high w)) → Fits w n
fits_natural {w} {n} s = under_both s.ok (int_le s.high (unsigned_high w)) s.known (λ t. t)
    (known_fits_unsigned w n s.value s.low s.high)

-- ---- what is known of a number, by a bound of its own or by its type

pub record AtLeast (z : ℤ) : Type 0 where
  pub bound : ℤ
  pub holds : bound ≤ℤ z

pub record AtMost (z : ℤ) : Type 0 where
  pub bound : ℤ
  pub holds : z ≤ℤ bound

abbrev pub at_least_pos : (z : ℤ) (n : ℕ) → pos n ≤ℤ z → AtLeast z
at_least_pos z n h = record { bound = pos n; holds = h }

abbrev pub at_least_negsuc : (z : ℤ) (n : ℕ) → negsuc n ≤ℤ z → AtLeast z
at_least_negsuc z n h = record { bound = negsuc n; holds = h }

abbrev pub above_pos : (z : ℤ) (n : ℕ) → pos n <ℤ z → AtLeast z
above_pos z n h = record { bound = pos n +ℤ pos 1; holds = next_low (pos n) z h }

abbrev pub above_negsuc : (z : ℤ) (n : ℕ) → negsuc n <ℤ z → AtLeast z
above_negsuc z n h = record { bound = negsuc n +ℤ pos 1; holds = next_low (negsuc n) z h }

abbrev pub at_least_signed : (w : Width) (z : ℤ) → SFits w z → AtLeast z
at_least_signed w z h = record { bound = signed_low w; holds = signed_from w z h }

abbrev pub at_most_pos : (z : ℤ) (n : ℕ) → z ≤ℤ pos n → AtMost z
at_most_pos z n h = record { bound = pos n; holds = h }

abbrev pub at_most_negsuc : (z : ℤ) (n : ℕ) → z ≤ℤ negsuc n → AtMost z
at_most_negsuc z n h = record { bound = negsuc n; holds = h }

abbrev pub below_pos : (z : ℤ) (n : ℕ) → z <ℤ pos n → AtMost z
below_pos z n h = record { bound = pos n -ℤ pos 1; holds = next_high z (pos n) h }

abbrev pub below_negsuc : (z : ℤ) (n : ℕ) → z <ℤ negsuc n → AtMost z
below_negsuc z n h = record { bound = negsuc n -ℤ pos 1; holds = next_high z (negsuc n) h }

abbrev pub at_most_signed : (w : Width) (z : ℤ) → SFits w z → AtMost z
at_most_signed w z h = record { bound = signed_high w; holds = signed_to w z h }

abbrev pub at_most_natural : (m n : ℕ) → m ≤ n → AtMost (pos m)
at_most_natural m n h = record { bound = pos n; holds = natural_to m n h }

abbrev pub below_natural : (m n : ℕ) → m < n → AtMost (pos m)
below_natural m n h = record { bound = pos n -ℤ pos 1; holds = natural_below m n h }

abbrev pub at_most_unsigned : (w : Width) (n : ℕ) → Fits w n → AtMost (pos n)
at_most_unsigned w n h = record { bound = unsigned_high w; holds = unsigned_to w n h }

pub ruleset bounds = (
  at_least_pos,
  at_least_negsuc,
  above_pos,
  above_negsuc,
  at_least_signed,
  at_most_pos,
  at_most_negsuc,
  below_pos,
  below_negsuc,
  at_most_natural,
  below_natural,
  at_most_unsigned,
  at_most_signed,
)

-- ---- numbers that are not taken apart

abbrev pub strip_known : (z : ℤ) → AtLeast z → AtMost z → Strips z
strip_known z l h = record {
  value = z;
  low = l.bound;
  high = h.bound;
  ok = true;
  known = λ t. known_itself z l.bound h.bound l.holds h.holds;
}

-- a literal, at which the test computes
abbrev pub strip_negsuc : (n : ℕ) → eqb n n ≡ true → Strips (negsuc n)
strip_negsuc n e = record {
  value = negsuc n;
  low = negsuc n;
  high = negsuc n;
  ok = true;
  known = λ t. known_literal (negsuc n);
}

-- a call's result, which its clause equates with a number
abbrev pub strip_same : (y z : ℤ) → y ≡ z → Strips z → Strips y
strip_same y z e s = record {
  value = s.value;
  low = s.low;
  high = s.high;
  ok = s.ok;
  known = λ t. known_same y z s.value s.low s.high e (s.known t);
}

-- ---- operations on signed numbers

abbrev pub strip_sum : (y z : ℤ) → Strips y → Strips z → Strips (y +ℤ z)
strip_sum y z s t =
    record {
      value = s.value +ℤ t.value;
      low = s.low +ℤ t.low;
      high = s.high +ℤ t.high;
      ok = s.ok && t.ok;
      known = under_both s.ok t.ok s.known t.known
          (known_sum y s.value s.low s.high z t.value t.low t.high);
    }

abbrev pub strip_minus : (z : ℤ) → Strips z → Strips (neg_ℤ z)
strip_minus z s = record {
  value = neg_ℤ s.value;
  low = neg_ℤ s.high;
  high = neg_ℤ s.low;
  ok = s.ok;
  known = λ t. known_minus z s.value s.low s.high (s.known t);
}

abbrev pub strip_product : (y z : ℤ) → Strips y → Strips z → Strips (y *ℤ z)
strip_product y z s t =
    record {
      value = s.value *ℤ t.value;
      low = least (s.low *ℤ t.low) (s.low *ℤ t.high) (s.high *ℤ t.low) (s.high *ℤ t.high);
      high = greatest (s.low *ℤ t.low) (s.low *ℤ t.high) (s.high *ℤ t.low) (s.high *ℤ t.high);
      ok = s.ok && t.ok;
      known = under_both s.ok t.ok s.known t.known
          (known_product y s.value s.low s.high z t.value t.low t.high);
    }

-- the divisor's interval lies above 0
abbrev pub strip_floor : (y z : ℤ) → Strips y → Strips z → Strips (int_div_euclid y z)
strip_floor y z s t =
    record {
      value = int_div_euclid s.value t.value;
      low = int_min (int_div_euclid s.low t.low) (int_div_euclid s.low t.high);
      high = int_max (int_div_euclid s.high t.low) (int_div_euclid s.high t.high);
      ok = (s.ok && t.ok) && int_le (pos 1) t.low;
      known = under_both (s.ok && t.ok) (int_le (pos 1) t.low)
          (under_both s.ok t.ok s.known t.known
          (known_floor y s.value s.low s.high z t.value t.low t.high)) (λ o. o) (λ f o. f o);
    }

abbrev pub strip_rest : (y z : ℤ) → Strips y → Strips z → Strips (int_rem_euclid y z)
strip_rest y z s t =
    record {
      value = int_rem_euclid s.value t.value;
      low = pos 0;
      high = t.high -ℤ pos 1;
      ok = (s.ok && t.ok) && int_le (pos 1) t.low;
      known = under_both (s.ok && t.ok) (int_le (pos 1) t.low)
          (under_both s.ok t.ok s.known t.known
          (known_rest y s.value s.low s.high z t.value t.low t.high)) (λ o. o) (λ f o. f o);
    }

abbrev pub strip_least : (y z : ℤ) → Strips y → Strips z → Strips (int_min y z)
strip_least y z s t =
    record {
      value = int_min s.value t.value;
      low = int_min s.low t.low;
      high = int_min s.high t.high;
      ok = s.ok && t.ok;
      known = under_both s.ok t.ok s.known t.known
          (known_least y s.value s.low s.high z t.value t.low t.high);
    }

abbrev pub strip_greatest : (y z : ℤ) → Strips y → Strips z → Strips (int_max y z)
strip_greatest y z s t =
    record {
      value = int_max s.value t.value;
      low = int_max s.low t.low;
      high = int_max s.high t.high;
      ok = s.ok && t.ok;
      known = under_both s.ok t.ok s.known t.known
          (known_greatest y s.value s.low s.high z t.value t.low t.high);
    }

-- ---- unsigned numbers

-- what there is of an unsigned number that is no signed one's bits
pub record Natural (n : ℕ) : Type 0 where
  pub strips : Strips (pos n)

abbrev pub strip_natural : (n : ℕ) → Natural n → Strips (pos n)
strip_natural n s = s.strips

abbrev pub natural_literal : (n : ℕ) → eqb n n ≡ true → Natural n
natural_literal n e = record {
  strips =
      record {
        value = pos n;
        low = pos n;
        high = pos n;
        ok = true;
        known = λ t. known_literal (pos n);
      };
}

abbrev pub natural_known : (n : ℕ) → AtMost (pos n) → Natural n
natural_known n h = record {
  strips =
      record {
        value = pos n;
        low = pos 0;
        high = h.bound;
        ok = true;
        known = λ t. known_itself (pos n) (pos 0) h.bound (natural_from n) h.holds;
      };
}

abbrev pub natural_same : (m n : ℕ) → m ≡ n → Strips (pos n) → Natural m
natural_same m n e s = record { strips = strip_same (pos m) (pos n) (ap pos e) s }

-- what a cast to an unsigned type and `unsigned_abs` leave
abbrev pub natural_size : (z : ℤ) → Strips z → Natural (nat_abs z)
natural_size z s =
    record {
      strips = record {
        value = size_of (int_le (pos 0) s.low) s.value;
        low = int_max (pos 0) s.low;
        high = int_max (neg_ℤ s.low) s.high;
        ok = s.ok;
        known = λ t. known_size z s.value s.low s.high (s.known t);
      };
    }

abbrev pub natural_sum : (m n : ℕ) → Strips (pos m) → Strips (pos n) → Natural (m + n)
natural_sum m n s t = record { strips = strip_sum (pos m) (pos n) s t }

abbrev pub natural_product : (m n : ℕ) → Strips (pos m) → Strips (pos n) → Natural (m * n)
natural_product m n s t = record { strips = strip_product (pos m) (pos n) s t }

abbrev pub natural_floor : (m n : ℕ) → Strips (pos m) → Strips (pos n) → Natural (m / n)
natural_floor m n s t = record { strips = strip_floor (pos m) (pos n) s t }

abbrev pub natural_rest : (m n : ℕ) → Strips (pos m) → Strips (pos n) → Natural (m % n)
natural_rest m n s t = record { strips = strip_rest (pos m) (pos n) s t }

-- a difference that does not fall below 0, by a fact at hand or by the intervals
abbrev pub natural_less : (m n : ℕ) → n ≤ m → Strips (pos m) → Strips (pos n) → Natural (m - n)
natural_less m n h s t =
    record {
      strips = record {
        value = s.value -ℤ t.value;
        low = int_max (pos 0) (s.low -ℤ t.high);
        high = s.high -ℤ t.low;
        ok = s.ok && t.ok;
        known = under_both s.ok t.ok s.known t.known
            (λ k l. known_less m n s.value s.low s.high t.value t.low t.high k l h);
      };
    }

abbrev pub natural_gap : (m n : ℕ) → Strips (pos m) → Strips (pos n) → Natural (m - n)
natural_gap m n s t =
    record {
      strips = record {
        value = s.value -ℤ t.value;
        low = int_max (pos 0) (s.low -ℤ t.high);
        high = s.high -ℤ t.low;
        ok = (s.ok && t.ok) && int_le t.high s.low;
        known = under_both (s.ok && t.ok) (int_le t.high s.low)
            (under_both s.ok t.ok s.known t.known
            (known_gap m n s.value s.low s.high t.value t.low t.high)) (λ o. o) (λ f o. f o);
      };
    }

-- ---- wraps and casts

-- a signed number that went to bits and is read again
abbrev pub strip_wrap : (v w : Width) (z : ℤ) → Strips z → Strips (to_z v (of_z w z))
strip_wrap v w z s =
    record {
      value = s.value;
      low = s.low;
      high = s.high;
      ok = s.ok && reads_back v w s.low s.high;
      known = under_both s.ok (reads_back v w s.low s.high) s.known (λ t. t)
          (known_read v w z s.value s.low s.high);
    }

-- an unsigned number read as a signed one
abbrev pub strip_widen : (w : Width) (n : ℕ) → Natural n → Strips (to_z w n)
strip_widen w n t =
    let s = t.strips in
    record {
      value = s.value;
      low = s.low;
      high = s.high;
      ok = s.ok && int_le s.high (signed_high w);
      known = under_both s.ok (int_le s.high (signed_high w)) s.known (λ o. o)
          (known_widen w n s.value s.low s.high);
    }

-- a signed number of at least 0 read as an unsigned one
abbrev pub strip_bits : (w : Width) (z : ℤ) → Strips z → Strips (pos (of_z w z))
strip_bits w z s =
    record {
      value = s.value;
      low = s.low;
      high = s.high;
      ok = s.ok && int_le (pos 0) s.low;
      known = under_both s.ok (int_le (pos 0) s.low) s.known (λ t. t)
          (known_bits w z s.value s.low s.high);
    }

pub ruleset machine = (
  strip_wrap,
  strip_bits,
  strip_widen,
  strip_natural,
  natural_literal,
  natural_size,
  natural_sum,
  natural_product,
  natural_floor,
  natural_rest,
  natural_less,
  natural_gap,
  natural_same,
  natural_known,
  strip_negsuc,
  strip_sum,
  strip_minus,
  strip_product,
  strip_floor,
  strip_rest,
  strip_least,
  strip_greatest,
  strip_same,
  strip_known,
  bounds,
)
