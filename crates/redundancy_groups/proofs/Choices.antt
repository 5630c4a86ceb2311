-- After a loss no thruster has more pieces than before, and each has some.
use Rattle.std.proofs.Common.{◌≡◌, ℕ, ◌+◌, ◌*◌, ◌≤◌, List, [], ◌∷◌, length, map, Bool, true, false}
use Rattle.std.proofs.Common.{if◌then◌else◌, ◌==◌, arith}
use Rattle.std.specs.Prelude.{slice_index, slice_index_or}
use Rattle.std.specs.List.{enumerate_from, list_all}
use Rattle.std.proofs.lemmas.Bool.{and_parts}
use Rattle.std.proofs.lemmas.List.{length-map}
use Rattle.std.proofs.lemmas.Nat.{mul-le}
use Rattle.plant_model.specs.declared.parts.Thruster.{Thruster}
use Rattle.plant_model.specs.declared.plant.Parts.{Parts}
use Rattle.plant_model.specs.declared.status.Standing.{Standing}
use Rattle.plant_model.specs.declared.thrust.Piece.{Piece}
use Rattle.plant_model.specs.declared.thrust.Point.{Point}
use Rattle.plant_model.specs.Plants.{choices_of as plant_choices, is_thruster, piece_points}
use Rattle.thrust_region.specs.Choices.{choices_of}
use Rattle.thrust_region.specs.Scaling.{scaled_point, scaled_points}
use Rattle.thrust_region.specs.Left.{free, or_alone}
use Rattle.thrust_region.proofs.Free.{free_few}
use Rattle.redundancy_groups.specs.Surviving.{left_at, pieces_at, quarter_at}
use Rattle.redundancy_groups.proofs.Plants.{some_pieces}

-- there are some, and no more than so many
pub record IsCount (most : ℕ) (pieces : List (List Point)) : Type 0 where
  pub some : 1 ≤ length pieces
  pub few : length pieces ≤ most

count_by_test : (most : ℕ) (b : Bool) (xs ys : List (List Point)) → IsCount most xs →
    IsCount most ys → IsCount most (if b then xs else ys)
count_by_test most true xs ys h k = h
count_by_test most false xs ys h k = k

count_or_alone : (most : ℕ) (pieces : List (List Point)) → 1 ≤ most → length pieces ≤ most →
    IsCount most (or_alone pieces)
count_or_alone most [] some few = record { some = omega arith; few = some }
count_or_alone most (piece ∷ pieces) some few = record { some = omega arith; few = few }

count_left : (quarter mask : ℕ) (t : Thruster) → is_thruster t ≡ true →
    IsCount (length (piece_points t)) (left_at quarter mask t)
count_left quarter mask t fit =
    let some = some_pieces t fit in
    let scaled = scaled_points quarter (piece_points t) in
    let same : length scaled ≡ length (piece_points t) =
    length-map (piece_points t) (map (scaled_point quarter)) in
    let fewer = free_few mask scaled in
    count_by_test (length (piece_points t)) (quarter == 0) ([] ∷ []) (or_alone (free mask scaled))
    (record { some = omega arith; few = some })
    (count_or_alone (length (piece_points t)) (free mask scaled) some (omega arith))

pub count_at : (p : Parts) (s : Standing) (barred : List ℕ) (place : ℕ) (t : Thruster) →
    is_thruster t ≡ true → IsCount (length (piece_points t)) (pieces_at p s barred (place, t))
count_at p s barred place t fit =
    count_by_test (length (piece_points t)) (slice_index_or s.selected place false)
    (left_at (quarter_at p s t) (slice_index barred place) t) ([] ∷ [])
    (count_left (quarter_at p s t) (slice_index barred place) t fit)
    (record { some = omega arith; few = some_pieces t fit })

product_grows : (a b c d : ℕ) → 1 ≤ a → a ≤ c → 1 ≤ b → b ≤ d → (1 ≤ a * b) × (a * b ≤ c * d)
product_grows a b c d ha hc hb hd = (mul-le 1 1 a b ha hb, mul-le a b c d hc hd)

-- so there are some choices, and no more than before
pub choices_between : (value : ℕ × Thruster → List (List Point)) →
    ((place : ℕ) (t : Thruster) → is_thruster t ≡ true →
    IsCount (length (piece_points t)) (value (place, t))) → (n : ℕ) (ts : List Thruster) →
    list_all is_thruster ts ≡ true → (1 ≤ choices_of (map value (enumerate_from n ts)))
    × (choices_of (map value (enumerate_from n ts)) ≤ plant_choices ts)
choices_between value counts n [] fit = (omega arith, omega arith)
choices_between value counts n (t ∷ ts) fit =
    let both = and_parts (is_thruster t) (list_all is_thruster ts) fit in
    let here = counts n t both.0 in
    let rest = choices_between value counts (n + 1) ts both.1 in
    let few : length (value (n, t)) ≤ length t.pieces.list.items =
    (let f = here.few in
    omega (
      arith,
      length-map t.pieces.list.items (λ (piece : Piece). piece.points.items),
    )) in
    product_grows (length (value (n, t))) (choices_of (map value (enumerate_from (n + 1) ts)))
    (length t.pieces.list.items) (plant_choices ts) here.some few rest.0 rest.1
