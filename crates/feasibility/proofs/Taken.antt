-- Weighted points that are taken in turn.
use Rattle.std.proofs.Common.{◌≡◌, ◌∙◌, ℕ, zero, suc, ◌+◌, ◌<◌, ◌≤◌, ◌++◌, ℤ, pos, ◌+ℤ◌, ◌*ℤ◌, List}
use Rattle.std.proofs.Common.{[], ◌∷◌, length, length-append, drop, get_or, sym, ap, ap₂, refl}
use Rattle.std.proofs.Common.{arith}
use Rattle.std.proofs.lemmas.Int.{ints}
use Rattle.std.proofs.lemmas.List.{drop_all}
use Rattle.arrayvec.specs.ArrayVec.{ArrayVec}
use Rattle.int_ring.proofs.Laws.{linear}
use Rattle.plant_model.specs.Numbers.{IsWithin}
use Rattle.plant_model.specs.declared.thrust.Point.{Point}
use Rattle.plant_model.specs.declared.thrust.Thrust.{Thrust}
use Rattle.thrust_region.proofs.Lists.{goes_over, left_from, nothing_left}
use Rattle.wrench_geometry.specs.Wrenches.{IsPointWithin}
use Rattle.certificate.proofs.Beside.{same_thrust}
use Rattle.certificate.specs.Sides.{place_of}
use Rattle.feasibility.specs.Means.{HaveRoom, mean_beside, means_beside, weighted_point}
use Rattle.feasibility.specs.declared.mean.TheConstants.{MOST_MEAN, MOST_PART}

-- ---- the points of one piece

-- the total with what is left is the mean, and the fixed thrust and i points have added at most a
-- part each
pub record MeanSoFar (weights : List ℤ) (points : List Point) (t : ℤ) (fixed : Point) (i : ℕ)
    (total : Thrust) : Type 0 where
  pub x : total.x +ℤ (weighted_point (drop i weights) (drop i points)).x ≡
      (mean_beside weights points t fixed).x
  pub y : total.y +ℤ (weighted_point (drop i weights) (drop i points)).y ≡
      (mean_beside weights points t fixed).y
  pub within : IsPointWithin (pos (i + 1) *ℤ MOST_PART) (place_of total)

one_part : (z : ℤ) → IsWithin MOST_PART z → IsWithin (pos (0 + 1) *ℤ MOST_PART) z
one_part z h =
    let low = h.low in
    let high = h.high in
    record { low = omega (arith, linear, ints); high = omega (arith, linear, ints) }

pub mean_at_first : (weights : List ℤ) (points : List Point) (t : ℤ) (fixed : Point)
    (total : Thrust) →
    total.x ≡ t *ℤ fixed.x → total.y ≡ t *ℤ fixed.y → IsPointWithin MOST_PART (place_of total) →
    MeanSoFar weights points t fixed 0 total
mean_at_first weights points t fixed total x y within = record {
  x = turned total.x (t *ℤ fixed.x) (weighted_point weights points).x x;
  y = turned total.y (t *ℤ fixed.y) (weighted_point weights points).y y;
  within = record { x = one_part total.x within.x; y = one_part total.y within.y };
}
  where
    turned : (z a b : ℤ) → z ≡ a → z +ℤ b ≡ b +ℤ a
    turned z a b e = omega (arith, ints)

next_within : (i : ℕ) (y z : ℤ) → IsWithin (pos (i + 1) *ℤ MOST_PART) y → IsWithin MOST_PART z →
    IsWithin (pos (i + 1 + 1) *ℤ MOST_PART) (y +ℤ z)
next_within i y z h k =
    let a = h.low in
    let b = h.high in
    let c = k.low in
    let d = k.high in
    record { low = omega (arith, linear, ints); high = omega (arith, linear, ints) }

pub mean_more : (weights : List ℤ) (points : List Point) (t : ℤ) (fixed : Point) (i : ℕ) (w : ℤ)
    (p : Point) (total part new : Thrust) →
    i < length weights → i < length points → get_or weights i (pos 0) ≡ w → get_or points i p ≡ p →
    part.x ≡ w *ℤ p.x → part.y ≡ w *ℤ p.y → IsPointWithin MOST_PART (place_of part) →
    new.x ≡ total.x +ℤ part.x → new.y ≡ total.y +ℤ part.y →
    MeanSoFar weights points t fixed i total → MeanSoFar weights points t fixed (i + 1) new
mean_more weights points t fixed i w p total part new there here is_w is_p px py within nx ny
    so_far =
    let rest = weighted_point (drop (i + 1) weights) (drop (i + 1) points) in
    let left : weighted_point (drop i weights) (drop i points) ≡ record
    { x = w *ℤ p.x +ℤ rest.x; y = w *ℤ p.y +ℤ rest.y } =
    ap₂ weighted_point (left_from weights i (pos 0) there
    ∙ ap (λ (z : ℤ). z ∷ drop (i + 1) weights) is_w)
    (left_from points i p here ∙ ap (λ (a : Point). a ∷ drop (i + 1) points) is_p) in
    record {
      x = step new.x total.x part.x (w *ℤ p.x) rest.x nx px
          ∙ ap (λ (a : Point). total.x +ℤ a.x) (sym left) ∙ so_far.x;
      y = step new.y total.y part.y (w *ℤ p.y) rest.y ny py
          ∙ ap (λ (a : Point). total.y +ℤ a.y) (sym left) ∙ so_far.y;
      within = record {
        x = moved nx (next_within i total.x part.x so_far.within.x within.x);
        y = moved ny (next_within i total.y part.y so_far.within.y within.y);
      };
    }
  where
    step : (n z a b r : ℤ) → n ≡ z +ℤ a → a ≡ b → n +ℤ r ≡ z +ℤ (b +ℤ r)
    step n z a b r e f = omega (arith, ints)

    moved : {most a b : ℤ} → a ≡ b → IsWithin most b → IsWithin most a
    moved {most} {a} {b} e h =
        let low = h.low in
        let high = h.high in
        record { low = omega (arith, linear); high = omega (arith, linear) }

pub whole_mean : (weights : List ℤ) (points : List Point) (t : ℤ) (fixed : Point) (i : ℕ)
    (total : Thrust) → length points ≤ i →
    MeanSoFar weights points t fixed i total → total ≡ mean_beside weights points t fixed
whole_mean weights points t fixed i total all so_far =
    let none : weighted_point (drop i weights) (drop i points) ≡ record { x = pos 0; y = pos 0 } =
    ap (weighted_point (drop i weights)) (drop_all i points all) ∙ nothing (drop i weights) in
    same_thrust (add_nothing total.x (weighted_point (drop i weights) (drop i points)).x
    (ap (λ (a : Point). a.x) none) ∙ so_far.x)
    (add_nothing total.y (weighted_point (drop i weights) (drop i points)).y
    (ap (λ (a : Point). a.y) none) ∙ so_far.y)
  where
    nothing : (weights : List ℤ) → weighted_point weights [] ≡ record { x = pos 0; y = pos 0 }
    nothing [] = refl
    nothing (w ∷ weights) = refl

    add_nothing : (z r : ℤ) → r ≡ pos 0 → z ≡ z +ℤ r
    add_nothing z r e = omega (arith, ints)

pub few_parts : (i : ℕ) (total : Thrust) → i ≤ 8 →
    IsPointWithin (pos (i + 1) *ℤ MOST_PART) (place_of total) →
    IsPointWithin MOST_MEAN (place_of total)
few_parts i total few w = record { x = wider i total.x few w.x; y = wider i total.y few w.y }
  where
    wider : (i : ℕ) (z : ℤ) → i ≤ 8 → IsWithin (pos (i + 1) *ℤ MOST_PART) z → IsWithin MOST_MEAN z
    wider i z few w =
        let low = w.low in
        let high = w.high in
        record { low = omega (arith, linear, ints); high = omega (arith, linear, ints) }

-- ---- the pieces

-- i thrusts are made, and with those that are left they are all
pub record MeansSoFar (rows : List (ArrayVec ℤ)) (pieces : List (List Point)) (t : ℤ)
    (fixed : List Point) (i : ℕ) (made : List Thrust) : Type 0 where
  pub counted : length made ≡ i
  pub whole : made ++ means_beside (drop i rows) (drop i pieces) t (drop i fixed) ≡ means_beside
      rows pieces t fixed

pub means_at_first : (rows : List (ArrayVec ℤ)) (pieces : List (List Point)) (t : ℤ)
    (fixed : List Point) → MeansSoFar rows pieces t fixed 0 []
means_at_first rows pieces t fixed = record { counted = refl; whole = refl }

pub means_more : (rows : List (ArrayVec ℤ)) (pieces : List (List Point)) (t : ℤ)
    (fixed : List Point) (i : ℕ) (row : ArrayVec ℤ) (piece : List Point) (f : Point) (a : Thrust)
    (made more : List Thrust) → i < length rows → i < length pieces → i < length fixed →
    get_or rows i row ≡ row → get_or pieces i piece ≡ piece → get_or fixed i f ≡ f →
    a ≡ mean_beside row.items piece t f → more ≡ made ++ a ∷ [] →
    MeansSoFar rows pieces t fixed i made → MeansSoFar rows pieces t fixed (i + 1) more
means_more rows pieces t fixed i row piece f a made more in_rows in_pieces in_fixed is_row is_piece
    is_f is_a is_more so_far =
    let others = means_beside (drop (i + 1) rows) (drop (i + 1) pieces) t (drop (i + 1) fixed) in
    let left : means_beside (drop i rows) (drop i pieces) t (drop i fixed) ≡ a ∷ others =
    ap (λ (l : List (ArrayVec ℤ)). means_beside l (drop i pieces) t (drop i fixed))
    (left_from rows i row in_rows ∙ ap (λ (x : ArrayVec ℤ). x ∷ drop (i + 1) rows) is_row)
    ∙ ap (λ (l : List (List Point)). means_beside (row ∷ drop (i + 1) rows) l t (drop i fixed))
    (left_from pieces i piece in_pieces ∙ ap (λ (x : List Point). x ∷ drop (i + 1) pieces) is_piece)
    ∙ ap (means_beside (row ∷ drop (i + 1) rows) (piece ∷ drop (i + 1) pieces) t)
    (left_from fixed i f in_fixed ∙ ap (λ (x : Point). x ∷ drop (i + 1) fixed) is_f)
    ∙ ap (λ (x : Thrust). x ∷ others) (sym is_a) in
    record {
      counted = (let long = so_far.counted in omega
          (arith, ap length is_more, length-append made (a ∷ [])));
      whole = ap (λ (l : List Thrust). l ++ others) is_more
          ∙ goes_over made (means_beside (drop i rows) (drop i pieces) t (drop i fixed)) others
          (means_beside rows pieces t fixed) a left so_far.whole;
    }

pub all_means : (rows : List (ArrayVec ℤ)) (pieces : List (List Point)) (t : ℤ) (fixed : List Point)
    (i : ℕ) (made : List Thrust) →
    length pieces ≤ i → MeansSoFar rows pieces t fixed i made →
    made ≡ means_beside rows pieces t fixed
all_means rows pieces t fixed i made all so_far =
    nothing_left made (means_beside (drop i rows) (drop i pieces) t (drop i fixed))
    (means_beside rows pieces t fixed)
    (ap (λ (l : List (List Point)). means_beside (drop i rows) l t (drop i fixed))
    (drop_all i pieces all)
    ∙ nothing (drop i rows) (drop i fixed)) so_far.whole
  where
    nothing : (rows : List (ArrayVec ℤ)) (fixed : List Point) → means_beside rows [] t fixed ≡ []
    nothing [] fixed = refl
    nothing (row ∷ rows) fixed = refl

pub length-room : (rows : List (ArrayVec ℤ)) (pieces : List (List Point)) → HaveRoom rows pieces →
    length rows ≡ length pieces
length-room [] [] room = refl
length-room [] (piece ∷ pieces) room = absurd room
length-room (row ∷ rows) [] room = absurd room
length-room (row ∷ rows) (piece ∷ pieces) room = ap suc (length-room rows pieces room.1)

pub room_at : (rows : List (ArrayVec ℤ)) (pieces : List (List Point)) (i : ℕ) (row : ArrayVec ℤ)
    (piece : List Point) → HaveRoom rows pieces →
    i < length pieces → length (get_or pieces i piece) ≤ length (get_or rows i row).items
room_at [] [] i row piece room below = absurd (omega arith)
room_at [] (x ∷ pieces) i row piece room below = absurd room
room_at (r ∷ rows) [] i row piece room below = absurd room
room_at (r ∷ rows) (x ∷ pieces) zero row piece room below = room.0
room_at (r ∷ rows) (x ∷ pieces) (suc i) row piece room below = room_at rows pieces i row piece
    room.1 (omega arith)
