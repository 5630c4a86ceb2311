-- What a right key holds, kind by kind.
use Rattle.std.proofs.Common.{◌≡◌, ℕ, zero, suc, ◌%◌, ◌<◌, ◌≤◌, ◌^◌, ◌==◌, List, [], ◌∷◌}
use Rattle.std.proofs.Common.{length, map, get_or, true, ◌&&◌, Option, Some}
use Rattle.std.proofs.Common.{None, ℤ, pos, negsuc, neg_ℤ, nat_abs, int_le, refl}
use Rattle.std.proofs.Common.{arith}
use Rattle.std.specs.Prelude.{option_map, unwrap_or, slice_get, nat_le}
use Rattle.std.specs.List.{list_all}
use Rattle.std.proofs.lemmas.Bool.{and_parts}
use Rattle.std.proofs.lemmas.Bool.Decides.{nat_tests}
use Rattle.std.proofs.lemmas.Int.{ints}
use Rattle.plant_model.specs.Names.{is_name}
use Rattle.plant_model.specs.Plants.{are_thresholds_from, is_wind_row}
use Rattle.plant_model.specs.Rings.{is_ring_point, is_thrust_coordinate}
use Rattle.plant_model.specs.declared.limits.TheConstants.{AXES}
use Rattle.plant_model.specs.declared.limits.TheConstants.{MOST_RING_POINTS, MOST_SECTORS}
use Rattle.plant_model.specs.declared.limits.TheConstants.{MOST_THRESHOLD, QUARTERS}
use Rattle.plant_model.specs.declared.limits.TheConstants.{THRESHOLDS, WIND_ROWS}
use Rattle.toml.specs.Data.{Data, string, integer, float, boolean, datetime, array, table}
use Rattle.plant_file.specs.declared.fault.Key.{Key}
use Rattle.plant_file.specs.declared.key.Row.{Row}
use Rattle.plant_file.specs.declared.kind.Count.{Count}
use Rattle.plant_file.specs.declared.kind.Span.{Span}
use Rattle.plant_file.specs.declared.kind.Kind.TheVariants as kind
use Rattle.plant_file.specs.Described.{held}
use Rattle.plant_file.specs.Documents.{is_text, is_whole, list_in, natural, number_at}
use Rattle.plant_file.specs.Documents.{number_in, text_in}
use Rattle.plant_file.specs.Keys.{needed, optional, point}
use Rattle.plant_file.specs.Kinds.{are_places, exactly, has_kind}
use Rattle.plant_file.specs.Kinds.{is_count, is_in, is_list, is_list_of_wholes}
use Rattle.plant_file.specs.Kinds.{keeps_limit, point_in, ring_count, sectors_count, span}
use Rattle.plant_file.specs.Kinds.{wind_row_in, within}
use Rattle.plant_file.specs.RightKeys.{has_right_keys, is_right}

-- one of the rows
pub right_at : (rs : List Row) (i : ℕ) (row : Row) (d : Data) → i < length rs
    → has_right_keys rs d ≡ true → is_right (get_or rs i row) (held (get_or rs i row).key d) ≡ true
right_at [] i row d within right = absurd (omega arith)
right_at (r ∷ rs) zero row d within right =
    (and_parts (is_right r (held r.key d)) (has_right_keys rs d) right).0
right_at (r ∷ rs) (suc i) row d within right =
    right_at rs i row d (omega arith)
    (and_parts (is_right r (held r.key d)) (has_right_keys rs d) right).1

-- a name
pub name_right : (key : Key) (held : Option Data) → is_right (needed key kind.Name) held ≡ true
    → is_name (unwrap_or (option_map text_in held) []) ≡ true
name_right key None right = absurd cc
name_right key (Some d) right = (and_parts (is_text d) (is_name (text_in d)) right).1

natural_in : (least most : ℕ) (z : ℤ) → (int_le (pos least) z && int_le z (pos most)) ≡ true
    → (least ≤ natural z) × (natural z ≤ most)
natural_in least most (pos n) is = (grind (arith, ints, nat_tests), grind (arith, ints, nat_tests))
natural_in least most (negsuc n) is = absurd cc

-- a number that isn't below 0
pub whole_right : (key : Key) (least most : ℕ) (held : Option Data)
    → is_right (needed key (kind.Whole (span (pos least) (pos most)))) held ≡ true
    → (least ≤ unwrap_or (option_map (λ e. natural (number_in e)) held) 0)
    × (unwrap_or (option_map (λ e. natural (number_in e)) held) 0 ≤ most)
whole_right key least most None right = absurd cc
whole_right key least most (Some d) right =
    natural_in least most (number_in d)
    (and_parts (is_whole d) (keeps_limit (kind.Whole (span (pos least) (pos most))) d) right).1

-- a list of numbers
pub wholes_of : (count : Count) (limits : Span) (d : Data)
    → (has_kind (kind.Wholes count limits) d && keeps_limit (kind.Wholes count limits) d) ≡ true
    → (is_count count (list_in d) ≡ true) × (list_all (is_in limits) (list_in d) ≡ true)
wholes_of count limits d right =
    and_parts (is_count count (list_in d)) (list_all (is_in limits) (list_in d))
    (and_parts (has_kind (kind.Wholes count limits) d)
    (keeps_limit (kind.Wholes count limits) d) right).1

within_in : (most : ℕ) (z : ℤ) → (int_le (neg_ℤ (pos most)) z && int_le z (pos most)) ≡ true
    → nat_abs z ≤ most
within_in most (pos n) is = grind (arith, ints, nat_tests)
within_in most (negsuc n) is = grind (arith, ints, nat_tests)

within_at : (most : ℕ) (ds : List Data) (place : ℕ) → list_all (is_in (within (pos most))) ds ≡ true
    → nat_abs (unwrap_or (option_map number_in (slice_get ds place)) (pos 0)) ≤ most
within_at most [] place all = omega arith
within_at most (d ∷ ds) zero all =
    within_in most (number_in d)
    (and_parts (is_in (within (pos most)) d) (list_all (is_in (within (pos most))) ds) all).0
within_at most (d ∷ ds) (suc place) all =
    within_at most ds place
    (and_parts (is_in (within (pos most)) d) (list_all (is_in (within (pos most))) ds) all).1

-- a point, of which each coordinate is at most so far from 0
pub point_within : (most : ℕ) (d : Data) (place : ℕ)
    → (has_kind (point (pos most)) d && keeps_limit (point (pos most)) d) ≡ true
    → nat_abs (number_at place d) ≤ most
point_within most d place right =
    within_at most (list_in d) place (wholes_of (exactly 2) (within (pos most)) d right).1

-- a count
pub counted : (count : Count) (ds : List Data) → is_count count ds ≡ true
    → (count.fewest ≤ length ds) × (length ds ≤ count.most)
counted count ds is = (grind (arith, nat_tests), grind (arith, nat_tests))

-- the points of a ring
pub ring_right : (key : Key) (held : Option Data) → is_right (needed key kind.Ring) held ≡ true
    → (length (unwrap_or (option_map list_in held) []) ≤ MOST_RING_POINTS)
    × (list_all (λ e. is_ring_point (point_in e)) (unwrap_or (option_map list_in held) []) ≡ true)
ring_right key None right = absurd cc
ring_right key (Some d) right =
    let both =
    and_parts (is_count ring_count (list_in d))
    (list_all (λ e. is_ring_point (point_in e)) (list_in d))
    (and_parts (has_kind kind.Ring d) (keeps_limit kind.Ring d) right).1 in
    ((counted ring_count (list_in d) both.0).1, both.1)

-- the sectors of a ring, which may be missing
pub sectors_right : (key : Key) (held : Option Data)
    → is_right (optional key kind.Sectors) held ≡ true
    → (length (unwrap_or (option_map list_in held) []) ≤ MOST_SECTORS)
    × (list_all are_places (unwrap_or (option_map list_in held) []) ≡ true)
sectors_right key None right = (omega arith, refl)
sectors_right key (Some d) right =
    let both =
    and_parts (is_count sectors_count (list_in d)) (list_all are_places (list_in d))
    (and_parts (has_kind kind.Sectors d) (keeps_limit kind.Sectors d) right).1 in
    ((counted sectors_count (list_in d) both.0).1, both.1)

-- a list of texts
pub texts_right : (key : Key) (count : Count) (held : Option Data)
    → is_right (needed key (kind.Texts count)) held ≡ true
    → (count.fewest ≤ length (unwrap_or (option_map list_in held) []))
    × (length (unwrap_or (option_map list_in held) []) ≤ count.most)
texts_right key count None right = absurd cc
texts_right key count (Some d) right =
    counted count (list_in d)
    (and_parts (has_kind (kind.Texts count) d) (keeps_limit (kind.Texts count) d) right).1

fixed_length : (n : ℕ) (d : Data) → is_list (exactly n) d ≡ true → length (list_in d) ≡ n
fixed_length n (string s) is = absurd cc
fixed_length n (integer z) is = absurd cc
fixed_length n (float x) is = absurd cc
fixed_length n (boolean b) is = absurd cc
fixed_length n (datetime t) is = absurd cc
fixed_length n (array ds) is = grind (arith, nat_tests)
fixed_length n (table ms) is = absurd cc

-- the thresholds of a thruster
pub thresholds_right : (key : Key) (held : Option Data)
    → is_right (needed key kind.Thresholds) held ≡ true
    → (length (unwrap_or (option_map list_in held) []) ≡ THRESHOLDS)
    × (are_thresholds_from 1
    (map (λ e. natural (number_in e)) (unwrap_or (option_map list_in held) [])) ≡ true)
thresholds_right key None right = absurd cc
thresholds_right key (Some d) right =
    let both = and_parts (has_kind kind.Thresholds d) (keeps_limit kind.Thresholds d) right in (
      fixed_length THRESHOLDS d
          (and_parts (is_list (exactly THRESHOLDS) d) (list_all is_whole (list_in d)) both.0).0,
      both.1,
    )

-- the wind table
pub wind_right : (key : Key) (held : Option Data) → is_right (needed key kind.Wind) held ≡ true
    → (length (unwrap_or (option_map list_in held) []) ≡ WIND_ROWS)
    × (list_all (λ e. is_wind_row (wind_row_in e)) (unwrap_or (option_map list_in held) []) ≡ true)
wind_right key None right = absurd cc
wind_right key (Some d) right =
    let both = and_parts (has_kind kind.Wind d) (keeps_limit kind.Wind d) right in (
      fixed_length WIND_ROWS d
          (and_parts (is_list (exactly WIND_ROWS) d)
          (list_all (is_list_of_wholes (exactly AXES)) (list_in d)) both.0).0,
      both.1,
    )

-- a list of so many numbers
pub wholes_right : (key : Key) (n : ℕ) (limits : Span) (held : Option Data)
    → is_right (needed key (kind.Wholes (exactly n) limits)) held ≡ true
    → (length (unwrap_or (option_map list_in held) []) ≡ n)
    × (list_all (is_in limits) (unwrap_or (option_map list_in held) []) ≡ true)
wholes_right key n limits None right = absurd cc
wholes_right key n limits (Some d) right =
    let both = wholes_of (exactly n) limits d right in
    let length_is = counted (exactly n) (list_in d) both.0 in
    (omega arith, both.1)

-- a threshold is within its limit
pub thresholds_most : (least : ℕ) (ts : List ℕ) (i : ℕ) → are_thresholds_from least ts ≡ true
    → get_or ts i 0 ≤ MOST_THRESHOLD
thresholds_most least [] i are = omega arith
thresholds_most least (t ∷ ts) zero are = grind (arith, nat_tests)
thresholds_most least (t ∷ ts) (suc i) are =
    thresholds_most t ts i
    (and_parts (nat_le least t && nat_le t MOST_THRESHOLD) (are_thresholds_from t ts) are).1

-- a number of a list is within the limits
pub natural_at_place : (most : ℕ) (ds : List Data) (i : ℕ)
    → list_all (is_in (span (pos 0) (pos most))) ds ≡ true
    → get_or (map (λ e. natural (number_in e)) ds) i 0 ≤ most
natural_at_place most [] i all = omega arith
natural_at_place most (d ∷ ds) zero all =
    (natural_in 0 most (number_in d)
    (and_parts (is_in (span (pos 0) (pos most)) d)
    (list_all (is_in (span (pos 0) (pos most))) ds) all).0).1
natural_at_place most (d ∷ ds) (suc i) all =
    natural_at_place most ds i
    (and_parts (is_in (span (pos 0) (pos most)) d)
    (list_all (is_in (span (pos 0) (pos most))) ds) all).1

-- a number of a list that isn't below 0 and at most so much
pub place_within : (most : ℕ) (ds : List Data) (place : ℕ)
    → list_all (is_in (span (pos 0) (pos most))) ds ≡ true
    → natural (unwrap_or (option_map number_in (slice_get ds place)) (pos 0)) ≤ most
place_within most [] place all = omega arith
place_within most (d ∷ ds) zero all =
    (natural_in 0 most (number_in d)
    (and_parts (is_in (span (pos 0) (pos most)) d)
    (list_all (is_in (span (pos 0) (pos most))) ds) all).0).1
place_within most (d ∷ ds) (suc place) all =
    place_within most ds place
    (and_parts (is_in (span (pos 0) (pos most)) d)
    (list_all (is_in (span (pos 0) (pos most))) ds) all).1

-- a point that a ring may have fits 32 bits
pub ring_point_x : (d : Data) → is_ring_point (point_in d) ≡ true → nat_abs (number_at 0 d) < 2 ^ 31
ring_point_x d is =
    let both =
    and_parts (is_thrust_coordinate (number_at 0 d)) (is_thrust_coordinate (number_at 1 d))
    (and_parts (is_thrust_coordinate (number_at 0 d)
    && is_thrust_coordinate (number_at 1 d)) (nat_abs (number_at 0 d) % QUARTERS == 0)
    (and_parts (is_thrust_coordinate (number_at 0 d) && is_thrust_coordinate (number_at 1 d)
    && nat_abs (number_at 0 d) % QUARTERS == 0) (nat_abs (number_at 1 d) % QUARTERS == 0)
    is).0).0 in
    let within = both.0 in
    grind (arith, nat_tests)

pub ring_point_y : (d : Data) → is_ring_point (point_in d) ≡ true → nat_abs (number_at 1 d) < 2 ^ 31
ring_point_y d is =
    let both =
    and_parts (is_thrust_coordinate (number_at 0 d)) (is_thrust_coordinate (number_at 1 d))
    (and_parts (is_thrust_coordinate (number_at 0 d)
    && is_thrust_coordinate (number_at 1 d)) (nat_abs (number_at 0 d) % QUARTERS == 0)
    (and_parts (is_thrust_coordinate (number_at 0 d) && is_thrust_coordinate (number_at 1 d)
    && nat_abs (number_at 0 d) % QUARTERS == 0) (nat_abs (number_at 1 d) % QUARTERS == 0)
    is).0).0 in
    let within = both.1 in
    grind (arith, nat_tests)
