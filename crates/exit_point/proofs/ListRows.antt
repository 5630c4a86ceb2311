-- Weights of the lists so far, and of one list more.
use Rattle.std.proofs.Common.{◌≡◌, ℕ, zero, suc, ◌+◌, ◌<◌, ◌≤◌, ℤ, pos, ◌+ℤ◌, ◌*ℤ◌, List, [], ◌∷◌}
use Rattle.std.proofs.Common.{◌++◌, length, take, get_or, min, ap, ap₂, sym, ◌∙◌, refl, arith}
use Rattle.std.proofs.Common.{subst}
use Rattle.std.proofs.lemmas.List.{length-take, take_more}
use Rattle.int_ring.proofs.Ring.{ring, reads}
use Rattle.arrayvec.specs.ArrayVec.{ArrayVec}
use Rattle.wrench_geometry.specs.declared.vector.Vec3.{Vec3}
use Rattle.wrench_geometry.specs.declared.vertices.Vertex.{Vertex}
use Rattle.wrench_geometry.specs.Vectors.{sum_of, zero_vector}
use Rattle.wrench_geometry.specs.Vertices.{ArePlaces}
use Rattle.wrench_geometry.specs.Wrenches.{image_at, sum_at}
use Rattle.wrench_geometry.proofs.Bounds.{same_vector}
use Rattle.wrench_geometry.proofs.VertexSums.{ArePlaces-length, sum_at-append, sum-zero}
use Rattle.exit_point.specs.declared.weights.Shares.{Shares}
use Rattle.exit_point.specs.Exits.{AreWeights, EachHasWeights, weighted, weighted_sum}
use Rattle.exit_point.specs.Corners.{IsCorner, shared, total_of}
use Rattle.exit_point.proofs.Rows.{sum-assoc}

-- ---- three corners with their shares

shared_part : (p q r a b c d e f : ℤ) →
    p *ℤ (a +ℤ d) +ℤ q *ℤ (b +ℤ e) +ℤ r *ℤ (c +ℤ f) ≡ p *ℤ a +ℤ q *ℤ b +ℤ r *ℤ c +ℤ
    (p *ℤ d +ℤ q *ℤ e +ℤ r *ℤ f)
shared_part p q r a b c d e f = ring (p ∷ q ∷ r ∷ a ∷ b ∷ c ∷ d ∷ e ∷ f ∷ [])
    (search reads depth 40) refl

pub shared-sum : (s : Shares) (a b c d e f : Vec3) →
    shared s (sum_of a d) (sum_of b e) (sum_of c f) ≡ sum_of (shared s a b c) (shared s d e f)
shared-sum s a b c d e f =
    same_vector (shared_part s.first s.second s.third a.x b.x c.x d.x e.x f.x)
    (shared_part s.first s.second s.third a.y b.y c.y d.y e.y f.y)
    (shared_part s.first s.second s.third a.z b.z c.z d.z e.z f.z)

nothing_shared : (p q r : ℤ) → pos 0 ≡ p *ℤ pos 0 +ℤ q *ℤ pos 0 +ℤ r *ℤ pos 0
nothing_shared p q r = ring (p ∷ q ∷ r ∷ []) (search reads depth 40) refl

pub shared-zero : (s : Shares) → zero_vector ≡ shared s zero_vector zero_vector zero_vector
shared-zero s = same_vector (nothing_shared s.first s.second s.third)
    (nothing_shared s.first s.second s.third) (nothing_shared s.first s.second s.third)

-- ---- one list more

EachHasWeights-append : (q : ℤ) (lists : List (List Vec3)) (rows : List (ArrayVec ℤ))
    (images : List Vec3) (row : ArrayVec ℤ) →
    EachHasWeights q lists rows → AreWeights q images row.items →
    EachHasWeights q (lists ++ images ∷ []) (rows ++ row ∷ [])
EachHasWeights-append q [] [] images row h k = (k, tt)
EachHasWeights-append q [] (r ∷ rows) images row h k = absurd h
EachHasWeights-append q (l ∷ lists) [] images row h k = absurd h
EachHasWeights-append q (l ∷ lists) (r ∷ rows) images row h k =
    (h.0, EachHasWeights-append q lists rows images row h.1 k)

weighted_sum-append : (q : ℤ) (lists : List (List Vec3)) (rows : List (ArrayVec ℤ))
    (images : List Vec3) (row : ArrayVec ℤ) → EachHasWeights q lists rows →
    weighted_sum (rows ++ row ∷ []) (lists ++ images ∷ []) ≡ sum_of (weighted_sum rows lists)
    (weighted row.items images)
weighted_sum-append q [] [] images row h = sum-zero (weighted row.items images)
weighted_sum-append q [] (r ∷ rows) images row h = absurd h
weighted_sum-append q (l ∷ lists) [] images row h = absurd h
weighted_sum-append q (l ∷ lists) (r ∷ rows) images row h =
    ap (sum_of (weighted r.items l)) (weighted_sum-append q lists rows images row h.1)
    ∙ sum-assoc (weighted r.items l) (weighted_sum rows lists) (weighted row.items images)

rows-length : (q : ℤ) (lists : List (List Vec3)) (rows : List (ArrayVec ℤ)) →
    EachHasWeights q lists rows → length rows ≡ length lists
rows-length q [] [] h = refl
rows-length q [] (r ∷ rows) h = absurd h
rows-length q (l ∷ lists) [] h = absurd h
rows-length q (l ∷ lists) (r ∷ rows) h = ap suc (rows-length q lists rows h.1)

ArePlaces-take : (lists : List (List Vec3)) (places : List ℕ) (i : ℕ) → ArePlaces lists places →
    ArePlaces (take i lists) (take i places)
ArePlaces-take lists places zero h = tt
ArePlaces-take [] [] (suc i) h = tt
ArePlaces-take [] (p ∷ places) (suc i) h = absurd h
ArePlaces-take (l ∷ lists) [] (suc i) h = absurd h
ArePlaces-take (l ∷ lists) (p ∷ places) (suc i) h = (h.0, ArePlaces-take lists places i h.1)

pub place_within : (lists : List (List Vec3)) (places : List ℕ) (i : ℕ) (d : List Vec3) →
    ArePlaces lists places → i < length lists → get_or places i 0 ≤ length (get_or lists i d)
place_within [] places i d h k = absurd (omega arith)
place_within (l ∷ lists) [] i d h k = absurd h
place_within (l ∷ lists) (p ∷ places) zero d h k = h.0
place_within (l ∷ lists) (p ∷ places) (suc i) d h k = place_within lists places i d h.1
    (omega arith)

-- the sum at the first i places, and at one place more
sum_at_more : (lists : List (List Vec3)) (places : List ℕ) (i : ℕ) (d : List Vec3) →
    ArePlaces lists places → i < length lists →
    sum_at (take (i + 1) lists) (take (i + 1) places) ≡ sum_of
    (sum_at (take i lists) (take i places)) (image_at (get_or lists i d) (get_or places i 0))
sum_at_more lists places i d h k =
    let same = ArePlaces-length lists places h in
    ap₂ sum_at (take_more lists i d k) (take_more places i 0 (omega arith))
    ∙ sum_at-append (take i lists) (take i places) (get_or lists i d) (get_or places i 0)
    (ArePlaces-take lists places i h)

-- the weights of the first i lists
pub record RowsSoFar (s : Shares) (lists : List (List Vec3)) (i : ℕ) (rows : List (ArrayVec ℤ))
    (a b c : List ℕ) : Type 0 where
  pub weights : EachHasWeights (total_of s) (take i lists) rows
  pub sum : weighted_sum rows (take i lists) ≡ shared s (sum_at (take i lists) (take i a))
      (sum_at (take i lists) (take i b)) (sum_at (take i lists) (take i c))

pub no_rows : (s : Shares) (lists : List (List Vec3)) (rows : List (ArrayVec ℤ)) (a b c : List ℕ) →
    rows ≡ [] → RowsSoFar s lists 0 rows a b c
no_rows s lists rows a b c e = rw e (record { weights = tt; sum = shared-zero s })

pub rows_fit : (s : Shares) (lists : List (List Vec3)) (i : ℕ) (rows : List (ArrayVec ℤ))
    (a b c : List ℕ) → RowsSoFar s lists i rows a b c → length rows ≡ min i (length lists)
rows_fit s lists i rows a b c h = rows-length (total_of s) (take i lists) rows h.weights
    ∙ length-take i lists

pub next_row : (s : Shares) (lists : List (List Vec3)) (i : ℕ) (d : List Vec3)
    (rows new : List (ArrayVec ℤ)) (a b c : List ℕ) (row : ArrayVec ℤ) → i < length lists →
    ArePlaces lists a → ArePlaces lists b → ArePlaces lists c → RowsSoFar s lists i rows a b c →
    new ≡ rows ++ row ∷ [] → AreWeights (total_of s) (get_or lists i d) row.items →
    weighted row.items (get_or lists i d) ≡ shared s (image_at (get_or lists i d) (get_or a i 0))
    (image_at (get_or lists i d) (get_or b i 0)) (image_at (get_or lists i d) (get_or c i 0)) →
    RowsSoFar s lists (i + 1) new a b c
next_row s lists i d rows new a b c row h f g k so e w r =
    let images = get_or lists i d in
    let more = take_more lists i d h in
    rw e (record {
      weights = rw more
          (EachHasWeights-append (total_of s) (take i lists) rows images row so.weights w);
      sum = ap (λ (l : List (List Vec3)). weighted_sum (rows ++ row ∷ []) l) more
          ∙ weighted_sum-append (total_of s) (take i lists) rows images row so.weights
          ∙ ap₂ sum_of so.sum r
          ∙ sym (shared-sum s _ _ _ (image_at images (get_or a i 0))
          (image_at images (get_or b i 0)) (image_at images (get_or c i 0)))
          ∙ joined (sym (sum_at_more lists a i d f h)) (sym (sum_at_more lists b i d g h))
          (sym (sum_at_more lists c i d k h));
    })
  where
    joined : {a a' b b' c c' : Vec3} → a ≡ a' → b ≡ b' → c ≡ c' → shared s a b c ≡ shared s a' b' c'
    joined p q r = λ i. shared s (p i) (q i) (r i)

take_whole : {X : Type 0} (xs : List X) (i : ℕ) → length xs ≤ i → take i xs ≡ xs
take_whole [] zero h = refl
take_whole [] (suc i) h = refl
take_whole (x ∷ xs) zero h = absurd (omega arith)
take_whole (x ∷ xs) (suc i) h = ap (λ ys. x ∷ ys) (take_whole xs i (omega arith))

-- at the end they are the weights of all lists
pub all_rows : (s : Shares) (lists : List (List Vec3)) (i : ℕ) (rows : List (ArrayVec ℤ))
    (a b c : Vertex) → length lists ≤ i →
    IsCorner lists a → IsCorner lists b → IsCorner lists c →
    RowsSoFar s lists i rows a.places.items b.places.items c.places.items →
    EachHasWeights (total_of s) lists rows ×
    (weighted_sum rows lists ≡ shared s a.point b.point c.point)
all_rows s lists i rows a b c h f g k so =
    let whole = take_whole lists i h in (
      subst (λ (l : List (List Vec3)). EachHasWeights (total_of s) l rows) whole so.weights,
      ap (weighted_sum rows) (sym whole) ∙ so.sum ∙ joined (corner a f) (corner b g) (corner c k),
    )
  where
    corner : (v : Vertex) → IsCorner lists v →
        sum_at (take i lists) (take i v.places.items) ≡ v.point
    corner v is =
        let same = ArePlaces-length lists v.places.items is.chosen.places in
        ap₂ sum_at (take_whole lists i h) (take_whole v.places.items i (omega arith))
        ∙ sym is.chosen.point

    joined : {a a' b b' c c' : Vec3} → a ≡ a' → b ≡ b' → c ≡ c' → shared s a b c ≡ shared s a' b' c'
    joined p q r = λ i. shared s (p i) (q i) (r i)
