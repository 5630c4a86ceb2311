-- Each piece of the cutting rule is a fan, at every quarter.
use Rattle.std.proofs.Common.{◌≡◌, ◌∙◌, ap, sym, refl, ℕ, ◌%◌}
use Rattle.std.proofs.Common.{◌≢◌, ℤ, pos, ◌+ℤ◌, ◌-ℤ◌, ◌*ℤ◌, ◌≤ℤ◌, ◌<ℤ◌, ◌==◌, nat_abs}
use Rattle.std.proofs.Common.{int_le, List, [], ◌∷◌, length, map, Bool, true, false, subst, arith}
use Rattle.std.specs.Int.{int_div_euclid}
use Rattle.std.specs.List.{list_all, Contains}
use Rattle.std.proofs.Math.Dec.{eqb}
use Rattle.std.proofs.lemmas.Bool.{and_from, and_parts}
use Rattle.std.proofs.lemmas.Bool.Decides.{nat_tests}
use Rattle.std.proofs.lemmas.Int.{by_lt_z, ints}
use Rattle.int_ring.proofs.Laws.{linear, mul_nonneg, mul_pos, square_nonneg, zero_mul}
use Rattle.int_ring.proofs.Order.{nonneg_of_mul_nonneg}
use Rattle.int_ring.proofs.Quotients.{floor_above, floor_below}
use Rattle.int_ring.proofs.Ring.{ring as identity, reads}
use Rattle.plant_model.specs.declared.limits.TheConstants.{QUARTERS}
use Rattle.plant_model.specs.declared.thrust.Point.{Point}
use Rattle.plant_model.specs.declared.thrust.Sector.{Sector}
use Rattle.plant_model.specs.Rings.{are_sectors, cross, cut, is_line, is_ring, is_ring_point}
use Rattle.plant_model.specs.Rings.{is_round, is_zero, origin, place_after, point_at}
use Rattle.plant_model.specs.Rings.{side}
use Rattle.thrust_region.specs.Scaling.{quarter_of, scaled_point}
use Rattle.thrust_region.proofs.Avoid.{pieces_are_wedges}
use Rattle.thrust_region.proofs.Lists.{all_at, Each, Each-contains}
use Rattle.thrust_region.proofs.Parts.{AreLinked, IsOpenEdge, IsWedge}
use Rattle.thrust_region.proofs.PiecePoints.{pieces_are_whole}
use Rattle.thrust_region.proofs.Rings.{at_least_left, edge_turns, ring_is_round}
use Rattle.thrust_region.proofs.Signs.{at_most_from_test, test_at_most}
use Rattle.wrench_geometry.specs.Fans.{are_left, are_left_from, is_fan}

-- ---- what makes a fan, as facts of its points

record IsLeft (points : List Point) (a b : Point) : Type 0 where
  of_origin : pos 0 ≤ℤ side a b origin
  of_points : Each (λ p. pos 0 ≤ℤ side a b p) points

abbrev AreLeft : List Point → Point → List Point → Type 0
AreLeft points a [] = IsLeft points a origin
AreLeft points a (b ∷ rest) = IsLeft points a b × AreLeft points b rest

list_test : (a b : Point) (points : List Point) → Each (λ p. pos 0 ≤ℤ side a b p) points →
    list_all (λ p. int_le (pos 0) (side a b p)) points ≡ true
list_test a b [] each = refl
list_test a b (p ∷ points) each =
    and_from (int_le (pos 0) (side a b p)) (list_all (λ q. int_le (pos 0) (side a b q)) points)
    (test_at_most (pos 0) (side a b p) each.0) (list_test a b points each.1)

left_test : (points : List Point) (a b : Point) → IsLeft points a b → are_left points a b ≡ true
left_test points a b is =
    and_from (int_le (pos 0) (side a b origin))
    (list_all (λ p. int_le (pos 0) (side a b p)) points)
    (test_at_most (pos 0) (side a b origin) is.of_origin) (list_test a b points is.of_points)

fan_test : (points : List Point) (a : Point) (rest : List Point) → AreLeft points a rest →
    are_left_from points a rest ≡ true
fan_test points a [] are = left_test points a origin are
fan_test points a (b ∷ rest) are =
    and_from (are_left points a b) (are_left_from points b rest) (left_test points a b are.0)
    (fan_test points b rest are.1)

-- ---- a wedge's points turn to its last one by at most half a turn

abbrev Turns : Point → List Point → Type 0
Turns p [] = Unit {0}
Turns p (q ∷ qs) = (pos 0 <ℤ cross p q) × Turns q qs

abbrev last_of : Point → List Point → Point
last_of p [] = p
last_of p (q ∷ qs) = last_of q qs

at_last : (P : Point → Type 0) (p : Point) (ps : List Point) → P p → Each P ps → P (last_of p ps)
at_last P p [] here each = here
at_last P p (q ∷ qs) here each = at_last P q qs each.0 each.1

four : (o q r s : Point) →
    cross o q *ℤ cross r s -ℤ cross o r *ℤ cross q s +ℤ cross o s *ℤ cross q r ≡ pos 0
four o q r s = identity (o.x ∷ o.y ∷ q.x ∷ q.y ∷ r.x ∷ r.y ∷ s.x ∷ s.y ∷ [])
    (search reads depth 40) refl

itself : (p : Point) → pos 0 ≤ℤ cross p p
itself p = from (identity (p.x ∷ p.y ∷ []) (search reads depth 40) refl)
  where
    from : {z : ℤ} → z ≡ pos 0 → pos 0 ≤ℤ z
    from {z} e = omega (arith, linear)

strictly : (oq rs o_r qs os qr : ℤ) → oq *ℤ rs -ℤ o_r *ℤ qs +ℤ os *ℤ qr ≡ pos 0 → pos 0 <ℤ oq →
    pos 0 <ℤ rs → pos 0 ≤ℤ o_r → pos 0 ≤ℤ os → pos 0 <ℤ qr → pos 0 <ℤ o_r
strictly oq rs o_r qs os qr e a b c d f =
    by_lt_z (pos 0) o_r (λ g. g)
    (λ g. absurd (let none : o_r ≡ pos 0 = omega (arith, linear) in
    let gone : o_r *ℤ qs ≡ pos 0 = ap (λ (z : ℤ). z *ℤ qs) none ∙ zero_mul qs in
    let p = mul_pos oq rs a b in
    let q = mul_nonneg os qr d (omega (arith, linear)) in
    omega (arith, linear)))

onward : (oq rl o_r ql ol qr : ℤ) → oq *ℤ rl -ℤ o_r *ℤ ql +ℤ ol *ℤ qr ≡ pos 0 → pos 0 <ℤ oq →
    pos 0 ≤ℤ rl → pos 0 <ℤ o_r → pos 0 ≤ℤ ol → pos 0 <ℤ qr → pos 0 ≤ℤ ql
onward oq rl o_r ql ol qr e a b c d f =
    let p = mul_nonneg oq rl (omega (arith, linear)) b in
    let q = mul_nonneg ol qr d (omega (arith, linear)) in
    nonneg_of_mul_nonneg o_r ql c (omega (arith, linear))

weaker : {z : ℤ} → pos 0 <ℤ z → pos 0 ≤ℤ z
weaker {z} h = omega (arith, linear)

-- o is a point before those of the list, which it turns to by at most half a turn
to_last : (o q : Point) (rest : List Point) → Turns q rest → pos 0 <ℤ cross o q →
    Each (λ r. pos 0 ≤ℤ cross o r) rest →
    Each (λ r. pos 0 ≤ℤ cross r (last_of q rest)) (q ∷ rest)
to_last o q [] turns ahead each = (itself q, tt)
to_last o q (r ∷ []) turns ahead each = (weaker turns.0, (itself r, tt))
to_last o q (r ∷ s ∷ more) turns ahead each =
    let strict : pos 0 <ℤ cross o r =
    strictly (cross o q) (cross r s) (cross o r) (cross q s) (cross o s) (cross q r) (four o q r s)
    ahead turns.1.0 each.0 each.1.0 turns.0 in
    let later = to_last o r (s ∷ more) turns.1 strict each.1 in
    let last : pos 0 ≤ℤ cross o (last_of s more) =
    at_last (λ x. pos 0 ≤ℤ cross o x) s more each.1.0 each.1.1 in (
      onward (cross o q) (cross r (last_of s more)) (cross o r) (cross q (last_of s more))
          (cross o (last_of s more)) (cross q r) (four o q r (last_of s more)) ahead later.0 strict
          last turns.0,
      later,
    )

-- ---- wedges

module _ (ring : List Point) (sectors : List Sector) (round : is_round ring ≡ true) where
  linked_turns : (p : Point) (ps : List Point) → AreLinked ring sectors (p ∷ ps) → Turns p ps
  linked_turns p [] linked = tt
  linked_turns p (q ∷ qs) linked = (turn linked.1, linked_turns q qs linked.2)
    where
      turn : IsOpenEdge ring sectors p q → pos 0 <ℤ cross p q
      turn link =
          subst (λ (r : Point). pos 0 <ℤ cross r q) (sym link.from)
          (subst (λ (r : Point). pos 0 <ℤ cross (point_at ring link.edge) r) (sym link.to)
          (edge_turns ring link.edge round link.there))

  -- linked points stand to the left of an open edge
  linked_left : (p q : Point) → IsOpenEdge ring sectors p q → (points : List Point) →
      AreLinked ring sectors points → Each (λ r. pos 0 ≤ℤ side p q r) points
  linked_left p q link [] linked = tt
  linked_left p q link (r ∷ points) linked = (here, linked_left p q link points linked.2)
    where
      at_ring : pos 0 ≤ℤ side (point_at ring link.edge)
          (point_at ring (place_after (length ring) link.edge)) (point_at ring linked.0.place)
      at_ring = at_least_left ring round link.edge linked.0.place link.there linked.0.there

      here : pos 0 ≤ℤ side p q r
      here =
          subst (λ (a : Point). pos 0 ≤ℤ side a q r) (sym link.from)
          (subst (λ (b : Point). pos 0 ≤ℤ side (point_at ring link.edge) b r) (sym link.to)
          (subst (λ (c : Point). pos 0 ≤ℤ side (point_at ring link.edge)
          (point_at ring (place_after (length ring) link.edge)) c) (sym linked.0.is) at_ring))

  side_of_origin : (a b : Point) → side a b origin ≡ cross a b
  side_of_origin a b = identity (a.x ∷ a.y ∷ b.x ∷ b.y ∷ []) (search reads depth 40) refl

  side_to_origin : (a b : Point) → side a origin b ≡ cross b a
  side_to_origin a b = identity (a.x ∷ a.y ∷ b.x ∷ b.y ∷ []) (search reads depth 40) refl

  side_from_origin : (a b : Point) → side origin a b ≡ cross a b
  side_from_origin a b = identity (a.x ∷ a.y ∷ b.x ∷ b.y ∷ []) (search reads depth 40) refl

  none_left : (a : Point) → pos 0 ≤ℤ side a origin origin
  none_left a = from (identity (a.x ∷ a.y ∷ []) (search reads depth 40) refl)
    where
      from : {z : ℤ} → z ≡ pos 0 → pos 0 ≤ℤ z
      from {z} e = omega (arith, linear)

  open_left : (points : List Point) → AreLinked ring sectors points → (p q : Point) →
      IsOpenEdge ring sectors p q → pos 0 <ℤ cross p q → IsLeft points p q
  open_left points linked p q link turn = record {
    of_origin = subst (λ (z : ℤ). pos 0 ≤ℤ z) (sym (side_of_origin p q)) (weaker turn);
    of_points = linked_left p q link points linked;
  }

  to_origin : (a : Point) (points : List Point) → Each (λ r. pos 0 ≤ℤ cross r a) points →
      Each (λ r. pos 0 ≤ℤ side a origin r) points
  to_origin a [] each = tt
  to_origin a (p ∷ points) each = (
    subst (λ (z : ℤ). pos 0 ≤ℤ z) (sym (side_to_origin a p)) each.0,
    to_origin a points each.1,
  )

  from_origin : (a : Point) (points : List Point) →
      Each (λ r. int_le (pos 0) (cross a r) ≡ true) points →
      Each (λ r. pos 0 ≤ℤ side origin a r) points
  from_origin a [] each = tt
  from_origin a (p ∷ points) each = (
    subst (λ (z : ℤ). pos 0 ≤ℤ z) (sym (side_from_origin a p))
        (at_most_from_test (pos 0) (cross a p) each.0),
    from_origin a points each.1,
  )

  turned_to : (p : Point) (ps : List Point) → Each (λ r. int_le (pos 0) (cross p r) ≡ true) ps →
      Each (λ r. pos 0 ≤ℤ cross p r) ps
  turned_to p [] each = tt
  turned_to p (q ∷ qs) each =
      (at_most_from_test (pos 0) (cross p q) each.0, turned_to p qs each.1)

  -- the lines from a point of a wedge on
  along : (points : List Point) → AreLinked ring sectors points → (p : Point) (ps : List Point) →
      AreLinked ring sectors (p ∷ ps) → Turns p ps →
      Each (λ r. pos 0 ≤ℤ cross r (last_of p ps)) points → AreLeft points p ps
  along points all p [] linked turns each = record {
    of_origin = none_left p;
    of_points = to_origin p points each;
  }
  along points all p (q ∷ qs) linked turns each = (
    open_left points all p q linked.1 turns.0,
    along points all q qs linked.2 turns.1 each,
  )

  all_to_last : (p : Point) (ps : List Point) → Turns p ps → Each (λ r. pos 0 ≤ℤ cross p r) ps →
      Each (λ r. pos 0 ≤ℤ cross r (last_of p ps)) (p ∷ ps)
  all_to_last p [] turns each = (itself p, tt)
  all_to_last p (q ∷ qs) turns each = (
    at_last (λ r. pos 0 ≤ℤ cross p r) q qs each.0 each.1,
    to_last p q qs turns.1 turns.0 each.1,
  )

  wedge_is_fan : (piece : List Point) → IsWedge ring sectors piece → AreLeft piece origin piece
  wedge_is_fan [] wedge = absurd wedge
  wedge_is_fan (p ∷ ps) wedge =
      let turns = linked_turns p ps wedge.0 in (
        record {
          of_origin = none_right p;
          of_points = from_origin p (p ∷ ps) wedge.1;
        },
        along (p ∷ ps) wedge.0 p ps wedge.0 turns
            (all_to_last p ps turns (turned_to p ps wedge.1.1)),
      )
    where
      none_right : (a : Point) → pos 0 ≤ℤ side origin a origin
      none_right a = from (identity (a.x ∷ a.y ∷ []) (search reads depth 40) refl)
        where
          from : {z : ℤ} → z ≡ pos 0 → pos 0 ≤ℤ z
          from {z} e = omega (arith, linear)

-- ---- two points on one line with the origin

on_line : (a b : Point) → cross a b ≡ pos 0 → AreLeft (a ∷ b ∷ []) origin (a ∷ b ∷ [])
on_line a b e = (
  record { of_origin = none (zero_1 a); of_points = (none (zero_2 a), (level (is_1 a b), tt)) },
  (
    record {
      of_origin = level (is_2 a b);
      of_points = (none (zero_3 a b), (none (zero_4 a b), tt));
    },
    record { of_origin = none (zero_5 b); of_points = (level (is_3 a b), (none (zero_6 b), tt)) },
  ),
)
  where
    none : {z : ℤ} → z ≡ pos 0 → pos 0 ≤ℤ z
    none {z} e = omega (arith, linear)

    level : {z : ℤ} → z ≡ cross a b → pos 0 ≤ℤ z
    level {z} f = none (f ∙ e)

    zero_1 : (a : Point) → side origin a origin ≡ pos 0
    zero_1 a = identity (a.x ∷ a.y ∷ []) (search reads depth 40) refl

    zero_2 : (a : Point) → side origin a a ≡ pos 0
    zero_2 a = identity (a.x ∷ a.y ∷ []) (search reads depth 40) refl

    is_1 : (a b : Point) → side origin a b ≡ cross a b
    is_1 a b = identity (a.x ∷ a.y ∷ b.x ∷ b.y ∷ []) (search reads depth 40) refl

    is_2 : (a b : Point) → side a b origin ≡ cross a b
    is_2 a b = identity (a.x ∷ a.y ∷ b.x ∷ b.y ∷ []) (search reads depth 40) refl

    zero_3 : (a b : Point) → side a b a ≡ pos 0
    zero_3 a b = identity (a.x ∷ a.y ∷ b.x ∷ b.y ∷ []) (search reads depth 40) refl

    zero_4 : (a b : Point) → side a b b ≡ pos 0
    zero_4 a b = identity (a.x ∷ a.y ∷ b.x ∷ b.y ∷ []) (search reads depth 40) refl

    zero_5 : (b : Point) → side b origin origin ≡ pos 0
    zero_5 b = identity (b.x ∷ b.y ∷ []) (search reads depth 40) refl

    is_3 : (a b : Point) → side b origin a ≡ cross a b
    is_3 a b = identity (a.x ∷ a.y ∷ b.x ∷ b.y ∷ []) (search reads depth 40) refl

    zero_6 : (b : Point) → side b origin b ≡ pos 0
    zero_6 b = identity (b.x ∷ b.y ∷ []) (search reads depth 40) refl

zero_from_test : (z : ℤ) → is_zero z ≡ true → z ≡ pos 0
zero_from_test z h =
    let none : nat_abs z ≡ 0 = grind (arith, nat_tests) in omega (arith, ints)

ring_is_line : (ring : List Point) → is_ring ring ≡ true → length ring ≡ 2 → is_line ring ≡ true
ring_is_line ring is two = grind (arith, nat_tests)

line_is_flat : (ring : List Point) → is_line ring ≡ true →
    is_zero (cross (point_at ring 0) (point_at ring 1)) ≡ true
line_is_flat ring line = grind (arith, nat_tests)

line_is_fan : (ring : List Point) → is_ring ring ≡ true → length ring ≡ 2 →
    AreLeft ring origin ring
line_is_fan [] is two = absurd (omega arith)
line_is_fan (a ∷ []) is two = absurd (omega arith)
line_is_fan (a ∷ b ∷ []) is two =
    on_line a b (zero_from_test (cross a b)
    (line_is_flat (a ∷ b ∷ []) (ring_is_line (a ∷ b ∷ []) is two)))
line_is_fan (a ∷ b ∷ c ∷ ring) is two = absurd (omega arith)

-- ---- at so many quarters

-- four times so many quarters of a multiple of four
quarter_is : (quarter : ℕ) (z : ℤ) → (nat_abs z % QUARTERS == 0) ≡ true →
    pos 4 *ℤ quarter_of quarter z ≡ pos quarter *ℤ z
quarter_is quarter z whole =
    let rest : nat_abs z % 4 ≡ 0 = grind (arith, nat_tests) in
    let low = floor_below z (pos 4) (omega (arith, ints)) in
    let high = floor_above z (pos 4) (omega (arith, ints)) in
    let four_times : z ≡ pos 4 *ℤ int_div_euclid z (pos 4) = omega (arith, ints) in
    let product : z *ℤ pos quarter ≡ pos 4 *ℤ (int_div_euclid z (pos 4) *ℤ pos quarter) =
    ap (λ (y : ℤ). y *ℤ pos quarter) four_times
    ∙ identity (int_div_euclid z (pos 4) ∷ pos quarter ∷ []) (search reads depth 40) refl in
    let below = floor_below (z *ℤ pos quarter) (pos 4) (omega (arith, ints)) in
    let above = floor_above (z *ℤ pos quarter) (pos 4) (omega (arith, ints)) in
    let is : quarter_of quarter z ≡ int_div_euclid z (pos 4) *ℤ pos quarter =
    exact (int_div_euclid (z *ℤ pos quarter) (pos 4)) (int_div_euclid z (pos 4) *ℤ pos quarter)
    (z *ℤ pos quarter) product below above in
    let turned : pos quarter *ℤ z ≡ z *ℤ pos quarter =
    identity (z ∷ pos quarter ∷ []) (search reads depth 40) refl in
    ap (λ (y : ℤ). pos 4 *ℤ y) is ∙ sym product ∙ sym turned
  where
    exact : (f m p : ℤ) → p ≡ pos 4 *ℤ m → (f *ℤ pos 4) ≤ℤ p → p <ℤ (f *ℤ pos 4 +ℤ pos 4) → f ≡ m
    exact f m p e g h = omega (arith, ints)

-- a point of which four times are so many times another one
record IsQuarterOf (quarter : ℕ) (r p : Point) : Type 0 where
  x : pos 4 *ℤ r.x ≡ pos quarter *ℤ p.x
  y : pos 4 *ℤ r.y ≡ pos quarter *ℤ p.y

point_quarter : (quarter : ℕ) (p : Point) → is_ring_point p ≡ true →
    IsQuarterOf quarter (scaled_point quarter p) p
point_quarter quarter p is = record {
  x = quarter_is quarter p.x (of_x is);
  y = quarter_is quarter p.y (of_y is);
}
  where
    of_x : is_ring_point p ≡ true → (nat_abs p.x % QUARTERS == 0) ≡ true
    of_x is = grind (arith, nat_tests)

    of_y : is_ring_point p ≡ true → (nat_abs p.y % QUARTERS == 0) ≡ true
    of_y is = grind (arith, nat_tests)

origin_quarter : (quarter : ℕ) → IsQuarterOf quarter origin origin
origin_quarter quarter = record { x = none (pos quarter); y = none (pos quarter) }
  where
    none : (k : ℤ) → pos 4 *ℤ pos 0 ≡ k *ℤ pos 0
    none k = identity (k ∷ []) (search reads depth 40) refl

abbrev turn : ℤ → ℤ → ℤ → ℤ → ℤ → ℤ → ℤ
turn ax ay bx by_ px py = (bx -ℤ ax) *ℤ (py -ℤ ay) -ℤ (by_ -ℤ ay) *ℤ (px -ℤ ax)

times : (k ax ay bx by_ px py : ℤ) →
    turn (k *ℤ ax) (k *ℤ ay) (k *ℤ bx) (k *ℤ by_) (k *ℤ px) (k *ℤ py)
    ≡ k *ℤ k *ℤ turn ax ay bx by_ px py
times k ax ay bx by_ px py =
    identity (k ∷ ax ∷ ay ∷ bx ∷ by_ ∷ px ∷ py ∷ []) (search reads depth 40) refl

side_quarter : (quarter : ℕ) (a b p a' b' p' : Point) → IsQuarterOf quarter a' a →
    IsQuarterOf quarter b' b → IsQuarterOf quarter p' p → pos 0 ≤ℤ side a b p →
    pos 0 ≤ℤ side a' b' p'
side_quarter quarter a b p a' b' p' α β π left =
    let same : turn (pos 4 *ℤ a'.x) (pos 4 *ℤ a'.y) (pos 4 *ℤ b'.x) (pos 4 *ℤ b'.y)
    (pos 4 *ℤ p'.x) (pos 4 *ℤ p'.y)
    ≡ turn (pos quarter *ℤ a.x) (pos quarter *ℤ a.y) (pos quarter *ℤ b.x) (pos quarter *ℤ b.y)
    (pos quarter *ℤ p.x) (pos quarter *ℤ p.y) =
    λ i. turn (α.x i) (α.y i) (β.x i) (β.y i) (π.x i) (π.y i) in
    let all : pos 4 *ℤ pos 4 *ℤ side a' b' p' ≡ pos quarter *ℤ pos quarter *ℤ side a b p =
    sym (times (pos 4) a'.x a'.y b'.x b'.y p'.x p'.y) ∙ same
    ∙ times (pos quarter) a.x a.y b.x b.y p.x p.y in
    let right : pos 0 ≤ℤ (pos quarter *ℤ pos quarter *ℤ side a b p) =
    mul_nonneg (pos quarter *ℤ pos quarter) (side a b p) (square_nonneg (pos quarter)) left in
    nonneg_of_mul_nonneg (pos 4 *ℤ pos 4) (side a' b' p') (omega (arith, ints))
    (subst (λ (z : ℤ). pos 0 ≤ℤ z) (sym all) right)

module _ (quarter : ℕ) where
  each_quarter : (a b a' b' : Point) → IsQuarterOf quarter a' a → IsQuarterOf quarter b' b →
      (points : List Point) → list_all is_ring_point points ≡ true →
      Each (λ p. pos 0 ≤ℤ side a b p) points →
      Each (λ p. pos 0 ≤ℤ side a' b' p) (map (scaled_point quarter) points)
  each_quarter a b a' b' α β [] whole each = tt
  each_quarter a b a' b' α β (p ∷ points) whole each =
      let both = and_parts (is_ring_point p) (list_all is_ring_point points) whole in (
        side_quarter quarter a b p a' b' (scaled_point quarter p) α β
            (point_quarter quarter p both.0) each.0,
        each_quarter a b a' b' α β points both.1 each.1,
      )

  left_quarter : (points : List Point) → list_all is_ring_point points ≡ true →
      (a b a' b' : Point) → IsQuarterOf quarter a' a → IsQuarterOf quarter b' b →
      IsLeft points a b → IsLeft (map (scaled_point quarter) points) a' b'
  left_quarter points whole a b a' b' α β is = record {
    of_origin = side_quarter quarter a b origin a' b' origin α β (origin_quarter quarter)
        is.of_origin;
    of_points = each_quarter a b a' b' α β points whole is.of_points;
  }

  fan_quarter : (points : List Point) → list_all is_ring_point points ≡ true → (a a' : Point) →
      IsQuarterOf quarter a' a → (rest : List Point) → list_all is_ring_point rest ≡ true →
      AreLeft points a rest →
      AreLeft (map (scaled_point quarter) points) a' (map (scaled_point quarter) rest)
  fan_quarter points whole a a' α [] rest_whole are =
      left_quarter points whole a origin a' origin α (origin_quarter quarter) are
  fan_quarter points whole a a' α (b ∷ rest) rest_whole are =
      let both = and_parts (is_ring_point b) (list_all is_ring_point rest) rest_whole in
      let β = point_quarter quarter b both.0 in (
        left_quarter points whole a b a' (scaled_point quarter b) α β are.0,
        fan_quarter points whole b (scaled_point quarter b) β rest both.1 are.1,
      )

-- ---- the law

piece_is_fan : (ring : List Point) (sectors : List Sector) → is_ring ring ≡ true →
    are_sectors (length ring) sectors ≡ true → (piece : List Point) →
    Contains (cut ring sectors) piece → AreLeft piece origin piece
piece_is_fan ring sectors is valid piece one = by_test (eqb (length ring) 2) refl
  where
    at_line : length ring ≡ 2 → Contains (ring ∷ []) piece → AreLeft piece origin piece
    at_line two one =
        Each-contains (λ p. AreLeft p origin p) (ring ∷ []) piece
        (line_is_fan ring is two, tt) one

    by_test : (b : Bool) → eqb (length ring) 2 ≡ b → AreLeft piece origin piece
    by_test true two =
        let count : length ring ≡ 2 = grind (arith, nat_tests) in
        let alone : cut ring sectors ≡ ring ∷ [] = rw two refl in
        at_line count (subst (λ (l : List (List Point)). Contains l piece) alone one)
    by_test false many =
        let longer : length ring ≢ 2 = grind (arith, nat_tests) in
        wedge_is_fan ring sectors (ring_is_round ring is longer) piece
        (Each-contains (IsWedge ring sectors) (cut ring sectors) piece
        (pieces_are_wedges ring sectors is valid longer) one)

piece_is_whole : (ring : List Point) (sectors : List Sector) → is_ring ring ≡ true →
    are_sectors (length ring) sectors ≡ true → (piece : List Point) →
    Contains (cut ring sectors) piece → list_all is_ring_point piece ≡ true
piece_is_whole ring sectors is valid piece one =
    subst (λ (p : List Point). list_all is_ring_point p ≡ true) one.2
    (all_at (list_all is_ring_point) (cut ring sectors) one.0 piece one.1
    (pieces_are_whole ring sectors is valid))

pub law : (ring : List Point) (sectors : List Sector) (piece : List Point) (quarter : ℕ) →
    is_ring ring ≡ true → are_sectors (length ring) sectors ≡ true →
    Contains (cut ring sectors) piece → is_fan (map (scaled_point quarter) piece) ≡ true
law ring sectors piece quarter is valid one =
    let whole = piece_is_whole ring sectors is valid piece one in
    fan_test (map (scaled_point quarter) piece) origin (map (scaled_point quarter) piece)
    (fan_quarter quarter piece whole origin origin (origin_quarter quarter) piece whole
    (piece_is_fan ring sectors is valid piece one))
