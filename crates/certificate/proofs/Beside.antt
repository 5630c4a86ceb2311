-- Thrusts in pieces beside fixed thrusts, and how far they are from 0.
use Rattle.std.proofs.Common.{◌≡◌, sym, subst, ℕ, suc, ℤ, pos, neg_ℤ, ◌+ℤ◌, ◌-ℤ◌, ◌*ℤ◌, ◌≤ℤ◌, List}
use Rattle.std.proofs.Common.{[], ◌∷◌, refl, SFits, w32, arith}
use Rattle.std.specs.Prelude.{All, sum}
use Rattle.std.proofs.lemmas.Int.{ints}
use Rattle.std.proofs.lemmas.List.Sums.{sum_by-cons}
use Rattle.int_ring.proofs.Laws.{linear}
use Rattle.int_ring.proofs.Order.{cancel_le_left, mul_le_left, mul_le_right}
use Rattle.int_ring.proofs.Ring.{ring, reads}
use Rattle.plant_model.specs.Lies.{LiesIn, weighted_x, weighted_y}
use Rattle.plant_model.specs.Numbers.{IsWithin}
use Rattle.plant_model.specs.declared.limits.TheConstants.{MOST_THRUST}
use Rattle.plant_model.specs.declared.thrust.Point.{Point}
use Rattle.plant_model.specs.declared.thrust.Thrust.{Thrust}
use Rattle.wrench_geometry.specs.Wrenches.{IsPointWithin}
use Rattle.certificate.specs.Outcomes.{without}
use Rattle.certificate.specs.Sides.{place_of}
use Rattle.certificate.specs.declared.holds.TheConstants.{FARTHEST_BESIDE}
use Rattle.certificate.specs.declared.hull.TheConstants.{FARTHEST}
use Rattle.certificate.proofs.Reach.{coordinate}

-- one weighted coordinate more
more_within : (w most p rest total : ℤ) → pos 0 ≤ℤ w → IsWithin most p →
    IsWithin (most *ℤ total) rest → IsWithin (most *ℤ (w +ℤ total)) (w *ℤ p +ℤ rest)
more_within w most p rest total ω h g =
    let low = mul_le_left (neg_ℤ most) p w h.low ω in
    let high = mul_le_left p most w h.high ω in
    let rl = g.low in
    let rh = g.high in
    let e : most *ℤ (w +ℤ total) ≡ w *ℤ most +ℤ most *ℤ total =
    ring (most ∷ w ∷ total ∷ []) (search reads depth 40) refl in
    let f : w *ℤ neg_ℤ most ≡ neg_ℤ (w *ℤ most) =
    ring (most ∷ w ∷ []) (search reads depth 40) refl in
    record { low = omega (arith, linear, e, f); high = omega (arith, linear, e, f) }

none_within : (most : ℤ) (n : ℕ) → pos 0 ≤ℤ most → IsWithin (most *ℤ pos n) (pos 0)
none_within most n μ =
    let g = mul_le_left (pos 0) most (pos n) μ (omega (arith, ints)) in
    let e : pos n *ℤ most ≡ most *ℤ pos n = ring (most ∷ pos n ∷ []) (search reads depth 40) refl in
    let f : pos n *ℤ pos 0 ≡ pos 0 = ring (pos n ∷ []) (search reads depth 40) refl in
    record { low = omega (arith, linear, e, f); high = omega (arith, linear, e, f) }

later : (P : Point → Type 0) (p : Point) (ps : List Point) → All P (p ∷ ps) → All P ps
later P p ps all k d below = all (suc k) d (omega arith)

weighted_x_within : (ws : List ℕ) (ps : List Point) → All (IsPointWithin MOST_THRUST) ps →
    IsWithin (MOST_THRUST *ℤ pos (sum ws)) (weighted_x ws ps)
weighted_x_within [] ps all = none_within MOST_THRUST 0 (omega (arith, ints))
weighted_x_within (w ∷ ws) [] all = none_within MOST_THRUST (sum (w ∷ ws)) (omega (arith, ints))
weighted_x_within (w ∷ ws) (p ∷ ps) all =
    subst (λ (n : ℕ). IsWithin (MOST_THRUST *ℤ pos n) (pos w *ℤ p.x +ℤ weighted_x ws ps))
    (sym (sum_by-cons (λ (x : ℕ). x) w ws))
    (more_within (pos w) MOST_THRUST p.x (weighted_x ws ps) (pos (sum ws)) (omega (arith, ints))
    (all 0 p (omega arith)).x
    (weighted_x_within ws ps (later (IsPointWithin MOST_THRUST) p ps all)))

weighted_y_within : (ws : List ℕ) (ps : List Point) → All (IsPointWithin MOST_THRUST) ps →
    IsWithin (MOST_THRUST *ℤ pos (sum ws)) (weighted_y ws ps)
weighted_y_within [] ps all = none_within MOST_THRUST 0 (omega (arith, ints))
weighted_y_within (w ∷ ws) [] all = none_within MOST_THRUST (sum (w ∷ ws)) (omega (arith, ints))
weighted_y_within (w ∷ ws) (p ∷ ps) all =
    subst (λ (n : ℕ). IsWithin (MOST_THRUST *ℤ pos n) (pos w *ℤ p.y +ℤ weighted_y ws ps))
    (sym (sum_by-cons (λ (x : ℕ). x) w ws))
    (more_within (pos w) MOST_THRUST p.y (weighted_y ws ps) (pos (sum ws)) (omega (arith, ints))
    (all 0 p (omega arith)).y
    (weighted_y_within ws ps (later (IsPointWithin MOST_THRUST) p ps all)))

-- where k times z is within a part of k times q, z is within q
divided : (most k q part rest z w : ℤ) → pos 0 ≤ℤ most → pos 1 ≤ℤ k → pos 0 ≤ℤ rest →
    part +ℤ rest ≡ k *ℤ q → w ≡ k *ℤ z → IsWithin (most *ℤ part) w → IsWithin (most *ℤ q) z
divided most k q part rest z w μ κ ρ whole is h =
    let low = h.low in
    let high = h.high in
    let g = mul_le_left part (k *ℤ q) most (omega (arith, linear)) μ in
    let e : most *ℤ (k *ℤ q) ≡ k *ℤ (most *ℤ q) =
    ring (most ∷ k ∷ q ∷ []) (search reads depth 40) refl in
    let f : k *ℤ neg_ℤ (most *ℤ q) ≡ neg_ℤ (k *ℤ (most *ℤ q)) =
    ring (most ∷ k ∷ q ∷ []) (search reads depth 40) refl in
    record {
      low =
          cancel_le_left (neg_ℤ (most *ℤ q)) z k (omega (arith, linear))
          (omega (arith, linear, e, f, g));
      high =
          cancel_le_left z (most *ℤ q) k (omega (arith, linear)) (omega (arith, linear, e, f, g));
    }

-- a thrust in a piece is no farther than the greatest one
lies_within : (points : List Point) (a : Thrust) (q : ℤ) → All (IsPointWithin MOST_THRUST) points →
    LiesIn points a q → IsPointWithin (MOST_THRUST *ℤ q) (place_of a)
lies_within points a q all lies =
    let ws = lies.weights in
    let o = lies.origin_weight in
    let whole : pos (sum ws) +ℤ pos o ≡ lies.k *ℤ q = lies.whole in
    record {
      x = divided MOST_THRUST lies.k q (pos (sum ws)) (pos o) a.x (weighted_x ws points)
          (omega (arith, ints)) lies.at_least_one (omega (arith, ints)) whole lies.x
          (weighted_x_within ws points all);
      y = divided MOST_THRUST lies.k q (pos (sum ws)) (pos o) a.y (weighted_y ws points)
          (omega (arith, ints)) lies.at_least_one (omega (arith, ints)) whole lies.y
          (weighted_y_within ws points all);
    }

-- what is left of z is within one bound, and what was taken off within another
together : (most far beside q x z : ℤ) → pos 0 ≤ℤ q → (most +ℤ far) ≤ℤ beside → IsWithin far x →
    IsWithin (most *ℤ q) (z -ℤ q *ℤ x) → IsWithin (beside *ℤ q) z
together most far beside q x z from_0 fits g h =
    let hl = h.low in
    let hh = h.high in
    let low = mul_le_left (neg_ℤ far) x q g.low from_0 in
    let high = mul_le_left x far q g.high from_0 in
    let all = mul_le_right (most +ℤ far) beside q fits from_0 in
    let e : (most +ℤ far) *ℤ q ≡ most *ℤ q +ℤ q *ℤ far =
    ring (most ∷ far ∷ q ∷ []) (search reads depth 40) refl in
    let f : q *ℤ neg_ℤ far ≡ neg_ℤ (q *ℤ far) = ring (far ∷ q ∷ []) (search reads depth 40) refl in
    record {
      low = omega (arith, linear, e, f, low, high, all);
      high =
          omega (arith, linear, e, f, low, high, all);
    }

-- a thrust that lies in a piece beside a fixed thrust is no farther than the two together
pub taken_together : (points : List Point) (f : Point) (a : Thrust) (q : ℤ) → pos 1 ≤ℤ q →
    SFits w32 f.x → SFits w32 f.y → All (IsPointWithin MOST_THRUST) points →
    LiesIn points (without q f a) q → IsPointWithin (FARTHEST_BESIDE *ℤ q) (place_of a)
taken_together points f a q from_1 fx fy all lies =
    let within = lies_within points (without q f a) q all lies in
    let from_0 : pos 0 ≤ℤ q = omega (arith, linear) in
    let fits : (pos 2000 +ℤ pos 2147483648) ≤ℤ pos 4294967296 = omega (arith, linear) in
    record {
      x = together MOST_THRUST FARTHEST FARTHEST_BESIDE q f.x a.x from_0 fits (coordinate f.x fx)
          within.x;
      y = together MOST_THRUST FARTHEST FARTHEST_BESIDE q f.y a.y from_0 fits (coordinate f.y fy)
          within.y;
    }

-- thrusts with the same coordinates
pub same_thrust : {a b : Thrust} → a.x ≡ b.x → a.y ≡ b.y → a ≡ b
same_thrust e f = λ i. record { x = e i; y = f i }
