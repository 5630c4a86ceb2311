-- No thrust that lies in a piece is strictly inside a sector.
use Rattle.std.proofs.Common.{◌≡◌, ◌∙◌, ap₂, sym, refl, inl, inr, ℕ, zero, suc, ◌+◌, ◌<◌, ◌≢◌, ℤ}
use Rattle.std.proofs.Common.{pos, neg_ℤ, ◌+ℤ◌, ◌-ℤ◌, ◌*ℤ◌, ◌≤ℤ◌, ◌<ℤ◌, int_le, List, [], ◌∷◌, ◌++◌}
use Rattle.std.proofs.Common.{length, map, get_or, Bool, true, false, subst, ◌⊎◌, ◌||◌}
use Rattle.std.proofs.Common.{length-append, arith}
use Rattle.std.specs.Prelude.{filter}
use Rattle.std.specs.List.{list_any, Contains}
use Rattle.std.proofs.Math.Dec.{eqb}
use Rattle.std.proofs.lemmas.Bool.{eqb-true, ltb-true}
use Rattle.std.proofs.lemmas.Bool.Decides.{nat_tests}
use Rattle.std.proofs.lemmas.Int.{by_lt_z}
use Rattle.std.proofs.lemmas.List.{length-map}
use Rattle.int_ring.proofs.Laws.{linear, mul_nonneg, mul_pos, mul_zero, square_nonneg}
use Rattle.int_ring.proofs.Order.{cancel_left, nonneg_of_mul_nonneg, pos_of_mul_pos, zero_factor}
use Rattle.int_ring.proofs.Ring.{ring as identity, reads}
use Rattle.plant_model.specs.declared.thrust.Point.{Point}
use Rattle.plant_model.specs.declared.thrust.Sector.{Sector}
use Rattle.plant_model.specs.declared.thrust.Thrust.{Thrust}
use Rattle.plant_model.specs.Lies.{weighted_x, weighted_y, LiesIn}
use Rattle.plant_model.specs.Rings.{are_sectors, cross, cut, dot, edges_between, is_ring, is_round}
use Rattle.plant_model.specs.Rings.{place_after, places, point_at, run_from, wedges_along, IsInner}
use Rattle.plant_model.specs.Rings.{IsOnRay, IsBetweenRays, IsStrictlyInside}
use Rattle.thrust_region.specs.Exact.{point_of, AvoidSectors}
use Rattle.thrust_region.proofs.Cuts.{cut_by_places, cut_whole, whole_run_walk}
use Rattle.thrust_region.proofs.Lists.{all_at, Each, Each-contains, Each-filter, Each-flat_map}
use Rattle.thrust_region.proofs.Parts.{free_after, free_end, open_after, walk_is_linked, wedges_are}
use Rattle.thrust_region.proofs.Parts.{AreLinked, IsFree, IsOpen, IsOpenEdge, IsWedge}
use Rattle.thrust_region.proofs.Plane.{apart, cross_from, cross_to, form, on_ray_before, total}
use Rattle.thrust_region.proofs.Plane.{total_is, total_nonneg, total_zero}
use Rattle.thrust_region.proofs.Rings.{at_least_left, edge_turns, is_left, next_is_other}
use Rattle.thrust_region.proofs.Rings.{ring_is_round, round_has_three, second_is_other}
use Rattle.thrust_region.proofs.Runs.{begins_at, ends_at, run-walk, walk, walk_has_some}
use Rattle.thrust_region.proofs.Sectors.{IsOneOf}
use Rattle.thrust_region.proofs.Signs.{at_most_from_test}

-- ---- a thrust in a piece is in the angle of an open edge, or on the ray of a free place

-- a nonzero point is in the angle of an edge that no sector covers
pub record InOpenAngle (ring : List Point) (sectors : List Sector) (a : Point) : Type 0 where
  pub edge : ℕ
  pub there : edge < length ring
  pub open_ : IsOpen ring sectors edge
  pub after : pos 0 ≤ℤ cross (point_at ring edge) a
  pub before : pos 0 ≤ℤ cross a (point_at ring (place_after (length ring) edge))

-- it is on the ray of a place that no sector has inside
pub record OnFreeRay (ring : List Point) (sectors : List Sector) (a : Point) : Type 0 where
  pub place : ℕ
  pub there : place < length ring
  pub free : IsFree ring sectors place
  pub ray : IsOnRay (point_at ring place) a

module _ (ring : List Point) (sectors : List Sector) (a : Point) where
  -- going along linked points, the point is in the angle of an edge, or all points but the first
  -- turn to it
  scan : (p : Point) (ps : List Point) → AreLinked ring sectors (p ∷ ps) → pos 0 ≤ℤ cross p a
      → InOpenAngle ring sectors a ⊎ Each (λ q. pos 0 <ℤ cross q a) ps
  scan p [] linked h = inr tt
  scan p (q ∷ qs) linked h =
      by_lt_z (pos 0) (cross q a)
      (λ g. elim (scan q qs linked.2 (omega (arith, linear)))
      [ inl e ↦ inl e | inr all ↦ inr (g, all) ])
      (λ g. inl (angle linked.1 g))
    where
      angle : IsOpenEdge ring sectors p q → cross q a ≤ℤ pos 0 → InOpenAngle ring sectors a
      angle link g =
          let turned : cross a q ≡ neg_ℤ (cross q a) =
          identity (a.x ∷ a.y ∷ q.x ∷ q.y ∷ []) (search reads depth 40) refl in
          let below : pos 0 ≤ℤ cross a q = omega (arith, linear) in
          record {
            edge = link.edge;
            there = link.there;
            open_ = link.open_;
            after =
                subst (λ (r : Point). pos 0 ≤ℤ cross r a) link.from h;
            before =
                subst (λ (r : Point). pos 0 ≤ℤ cross a r) link.to below;
          }

  to_forms : (ps : List Point) → Each (λ q. pos 0 <ℤ cross q a) ps
      → Each (λ q. pos 0 <ℤ form a.y (neg_ℤ a.x) q) ps
  to_forms [] all = tt
  to_forms (q ∷ qs) all = (rw (cross_to a q) all.0, to_forms qs all.1)

  from_forms : (p : Point) (ps : List Point) → Each (λ r. int_le (pos 0) (cross p r) ≡ true) ps
      → Each (λ r. pos 0 ≤ℤ form (neg_ℤ p.y) p.x r) ps
  from_forms p [] all = tt
  from_forms p (r ∷ rs) all = (
    rw (cross_from p r) (at_most_from_test (pos 0) (cross p r) all.0),
    from_forms p rs all.1,
  )

-- k times the cross product of a point with a thrust that k times is a sum
times_from : (k x y u v : ℤ) → k *ℤ (u *ℤ y -ℤ v *ℤ x) ≡ neg_ℤ v *ℤ (k *ℤ x) +ℤ u *ℤ (k *ℤ y)
times_from k x y u v = identity (k ∷ x ∷ y ∷ u ∷ v ∷ []) (search reads depth 40) refl

times_itself : (k x y : ℤ) → y *ℤ (k *ℤ x) +ℤ neg_ℤ x *ℤ (k *ℤ y) ≡ pos 0
times_itself k x y = identity (k ∷ x ∷ y ∷ []) (search reads depth 40) refl

-- where k·a = w·p: cross and dot products of p and a
ray_cross : (k w px py x y : ℤ) → w *ℤ px ≡ k *ℤ x → w *ℤ py ≡ k *ℤ y → k *ℤ (px *ℤ y -ℤ py *ℤ x)
    ≡ pos 0
ray_cross k w px py x y e f =
    let one : k *ℤ (px *ℤ y -ℤ py *ℤ x)
    ≡ px *ℤ (k *ℤ y) -ℤ py *ℤ (k *ℤ x) =
    identity (k ∷ px ∷ py ∷ x ∷ y ∷ []) (search reads depth 40) refl in
    let two : px *ℤ (w *ℤ py) -ℤ py *ℤ (w *ℤ px)
    ≡ pos 0 = identity (w ∷ px ∷ py ∷ []) (search reads depth 40) refl in
    one ∙ ap₂ (λ (s : ℤ) (t : ℤ). px *ℤ s -ℤ py *ℤ t) (sym f) (sym e) ∙ two

ray_dot : (k w px py x y : ℤ) → w *ℤ px ≡ k *ℤ x → w *ℤ py ≡ k *ℤ y → w *ℤ (px *ℤ x +ℤ py *ℤ y)
    ≡ k *ℤ (x *ℤ x +ℤ y *ℤ y)
ray_dot k w px py x y e f =
    let one : w *ℤ (px *ℤ x +ℤ py *ℤ y)
    ≡ (w *ℤ px) *ℤ x +ℤ (w *ℤ py) *ℤ y =
    identity (w ∷ px ∷ py ∷ x ∷ y ∷ []) (search reads depth 40) refl in
    let two : (k *ℤ x) *ℤ x +ℤ (k *ℤ y) *ℤ y
    ≡ k *ℤ (x *ℤ x +ℤ y *ℤ y) = identity (k ∷ x ∷ y ∷ []) (search reads depth 40) refl in
    one ∙ ap₂ (λ (s : ℤ) (t : ℤ). s *ℤ x +ℤ t *ℤ y) e f ∙ two

-- where a thrust that lies in a piece points
pub lies_where : (ring : List Point) (sectors : List Sector) (piece : List Point) (thrust : Thrust)
    (q : ℤ) → IsWedge ring sectors piece → LiesIn piece thrust q →
    pos 0 <ℤ dot (point_of thrust) (point_of thrust) → InOpenAngle ring sectors (point_of thrust)
    ⊎ OnFreeRay ring sectors (point_of thrust)
lies_where ring sectors [] thrust q wedge lies nonzero = absurd wedge
lies_where ring sectors (p ∷ ps) thrust q wedge lies nonzero =
    elim (scan ring sectors a p ps wedge.0 first)
    [ inl e ↦ inl e | inr all ↦ inr (on_ray lies.weights lies.one_each lies.x lies.y all) ]
  where
    a : Point
    a = point_of thrust

    k : ℤ
    k = lies.k

    k_above : pos 0 <ℤ k
    k_above = let h = lies.at_least_one in omega (arith, linear)

    first : pos 0 ≤ℤ cross p a
    first =
        let sum = total_nonneg (neg_ℤ p.y) p.x lies.weights (p ∷ ps)
        (from_forms ring sectors a p (p ∷ ps) wedge.1) in
        let is = total_is (neg_ℤ p.y) p.x lies.weights (p ∷ ps) in
        let value : total (neg_ℤ p.y) p.x lies.weights (p ∷ ps) ≡ k *ℤ cross p a = is
        ∙ ap₂ (λ (s : ℤ) (t : ℤ). neg_ℤ p.y *ℤ s +ℤ p.x *ℤ t) lies.x lies.y
        ∙ sym (times_from k thrust.x thrust.y p.x p.y) in
        nonneg_of_mul_nonneg k (cross p a) k_above (subst (λ (z : ℤ). pos 0 ≤ℤ z) value sum)

    on_ray : (ws : List ℕ) → length ws ≡ length (p ∷ ps) → weighted_x ws (p ∷ ps) ≡ k *ℤ thrust.x
        → weighted_y ws (p ∷ ps) ≡ k *ℤ thrust.y → Each (λ r. pos 0 <ℤ cross r a) ps
        → OnFreeRay ring sectors a
    on_ray [] one_each x y all = absurd (omega arith)
    on_ray (w ∷ ws) one_each x y all =
        let forms = to_forms ring sectors a ps all in
        let sum : total a.y (neg_ℤ a.x) (w ∷ ws) (p ∷ ps) ≡ pos 0 =
        total_is a.y (neg_ℤ a.x) (w ∷ ws) (p ∷ ps)
        ∙ ap₂ (λ (s : ℤ) (t : ℤ). a.y *ℤ s +ℤ neg_ℤ a.x *ℤ t) x y
        ∙ times_itself k thrust.x thrust.y in
        let term : pos 0 ≤ℤ (pos w *ℤ form a.y (neg_ℤ a.x) p) =
        mul_nonneg (pos w) (form a.y (neg_ℤ a.x) p) (omega (arith, linear))
        (rw (cross_to a p) first) in
        let others : total a.y (neg_ℤ a.x) ws ps ≤ℤ pos 0 = omega (arith, linear) in
        let none = total_zero a.y (neg_ℤ a.x) ws ps forms others in
        let no_x = none.0 in
        let no_y = none.1 in
        let along_x : pos w *ℤ p.x ≡ k *ℤ thrust.x = omega (arith, linear) in
        let along_y : pos w *ℤ p.y ≡ k *ℤ thrust.y = omega (arith, linear) in
        let zero_cross : cross p a ≡ pos 0 =
        cancel_left (cross p a) (pos 0) k k_above
        (ray_cross k (pos w) p.x p.y thrust.x thrust.y along_x along_y ∙ sym (mul_zero k)) in
        let square : pos 0 <ℤ (k *ℤ dot a a) = mul_pos k (dot a a) k_above nonzero in
        let product : pos 0 <ℤ (pos w *ℤ dot p a) =
        subst (λ (z : ℤ). pos 0 <ℤ z) (sym
        (ray_dot k (pos w) p.x p.y thrust.x thrust.y along_x along_y)) square in
        let ahead : pos 0 <ℤ dot p a =
        pos_of_mul_pos (pos w) (dot p a) (omega (arith, linear)) product in
        let point = wedge.0.0 in
        record {
          place = point.place;
          there = point.there;
          free = point.free;
          ray =
              subst (λ (r : Point). IsOnRay r a) point.is
              (record { along = zero_cross; ahead = ahead });
        }

-- ---- all pieces are wedges

none_of_none : (s : Sector) → IsOneOf [] s → ⊥
none_of_none s one = cc (one.all (λ r. false) refl)

pub pieces_are_wedges : (ring : List Point) (sectors : List Sector) → is_ring ring ≡ true
    → are_sectors (length ring) sectors ≡ true → length ring ≢ 2
    → Each (IsWedge ring sectors) (cut ring sectors)
pieces_are_wedges ring [] is valid longer =
    let three = round_has_three ring (ring_is_round ring is longer) in
    let run : List Point = ring ++ point_at ring 0 ∷ [] in
    let walked : run ≡ map (point_at ring) (walk (λ p. false) (length ring) (length ring + 1) 0) =
    whole_run_walk ring (omega arith) in
    let linked : AreLinked ring [] run =
    subst (AreLinked ring []) (sym walked)
    (walk_is_linked ring [] (λ p. false)
    (λ place there free goes s one. absurd (none_of_none s one))
    (λ edge there open_ s one. absurd (none_of_none s one)) (length ring + 1) 0 (omega arith)
    (λ s one. absurd (none_of_none s one))) in
    let count : length run ≡ length ring + 1 = length-append ring (point_at ring 0 ∷ []) in
    subst (Each (IsWedge ring [])) (sym (cut_whole ring run [] refl longer refl))
    (wedges_are ring [] (length run) run linked (omega arith))
pieces_are_wedges ring (s ∷ ss) is valid longer =
    subst (Each (IsWedge ring (s ∷ ss))) (sym (cut_by_places ring s ss longer))
    (Each-flat_map (IsWedge ring (s ∷ ss))
    (λ place. wedges_along ring (run_from (length ring) (s ∷ ss) place))
    (filter (ends_at (s ∷ ss)) (places (length ring)))
    (Each-filter (λ place. Each (IsWedge ring (s ∷ ss))
    (wedges_along ring (run_from (length ring) (s ∷ ss) place))) (ends_at (s ∷ ss)) 0
    (length ring) along))
  where
    along : (place : ℕ) → place < 0 + length ring → ends_at (s ∷ ss) place ≡ true
        → Each (IsWedge ring (s ∷ ss)) (wedges_along ring (run_from (length ring) (s ∷ ss) place))
    along place h ends =
        let there : place < length ring = omega arith in
        let run : List ℕ = walk (begins_at (s ∷ ss)) (length ring) (length ring) place in
        let same : run_from (length ring) (s ∷ ss) place
        ≡ run = run-walk (begins_at (s ∷ ss)) (length ring) place there in
        let some : 0 < length run = walk_has_some (begins_at (s ∷ ss)) (length ring) (length ring)
        place (omega arith) in
        let points : length (map (point_at ring) run) ≡ length run = length-map run (point_at ring)
        in
        let linked : AreLinked ring (s ∷ ss) (map (point_at ring) run) =
        walk_is_linked ring (s ∷ ss) (begins_at (s ∷ ss)) (open_after ring (s ∷ ss) valid)
        (free_after ring (s ∷ ss) valid) (length ring) place there
        (free_end ring (s ∷ ss) valid place there ends) in
        subst (λ (l : List ℕ). Each (IsWedge ring (s ∷ ss)) (wedges_along ring l)) (sym same)
        (wedges_are ring (s ∷ ss) (length run) (map (point_at ring) run) linked (omega arith))

-- ---- angles of two edges

abbrev next_of : List Point → ℕ → ℕ
next_of ring place = place_after (length ring) place

module _ (ring : List Point) (round : is_round ring ≡ true) (a : Point) (i j : ℕ)
    (there : i < length ring) (here : j < length ring) where
  next_there : (place : ℕ) → next_of ring place < length ring
  next_there place = let three = round_has_three ring round in omega arith

  -- the point is in the angles of two edges, and not only on the ray of an end that they have in
  -- common
  clash : pos 0 ≤ℤ cross (point_at ring i) a → pos 0 ≤ℤ cross a (point_at ring (next_of ring i))
      → pos 0 ≤ℤ cross (point_at ring j) a → pos 0 ≤ℤ cross a (point_at ring (next_of ring j)) →
      ((pos 0 <ℤ cross a (point_at ring (next_of ring j))) × (j ≢ i) × (j ≢ next_of ring i))
      ⊎ ((pos 0 <ℤ cross (point_at ring j) a) × (next_of ring j ≢ i)
      × (next_of ring j ≢ next_of ring i)) → ⊥
  clash h2 h1 h4 h3 strict =
      apart a (point_at ring i) (point_at ring (next_of ring i)) (point_at ring j)
      (point_at ring (next_of ring j)) h1 h2 h3 h4
      (at_least_left ring round i j there here)
      (at_least_left ring round i (next_of ring j) there (next_there j))
      (at_least_left ring round j i here there)
      (at_least_left ring round j (next_of ring i) here (next_there i))
      (elim strict [
        | inl e ↦ inl (e.0, is_left ring round i j there here e.1 e.2)
        | inr e ↦ inr (e.0, is_left ring round i (next_of ring j) there (next_there j) e.1 e.2)
      ])

  clash_between : i ≢ j → pos 0 ≤ℤ cross (point_at ring i) a
      → pos 0 ≤ℤ cross a (point_at ring (next_of ring i))
      → IsBetweenRays (point_at ring j) (point_at ring (next_of ring j)) a → ⊥
  clash_between other h2 h1 between = by_test (eqb j (next_of ring i)) refl
    where
      by_test : (b : Bool) → eqb j (next_of ring i) ≡ b → ⊥
      by_test true is =
          let three = round_has_three ring round in
          let same : j ≡ next_of ring i = eqb-true j (next_of ring i) is in
          let left : pos 0 <ℤ cross (point_at ring j) a = between.after in
          let right : pos 0 <ℤ cross a (point_at ring (next_of ring j)) = between.before in
          let second : place_after (length ring) (place_after (length ring) i) ≢ i =
          second_is_other (length ring) i three there in
          let next : place_after (length ring) (place_after (length ring) i) ≢ place_after
          (length ring) i = next_is_other (length ring) (place_after (length ring) i)
          (omega arith) (next_there i) in
          clash h2 h1 (omega (arith, linear)) (omega (arith, linear))
          (inr (left, rw same second, rw same next))
      by_test false is =
          let left : pos 0 <ℤ cross (point_at ring j) a = between.after in
          let right : pos 0 <ℤ cross a (point_at ring (next_of ring j)) = between.before in
          clash h2 h1 (omega (arith, linear)) (omega (arith, linear))
          (inl (right, grind (arith, nat_tests), grind (arith, nat_tests)))

  clash_ray : i ≢ j → j ≢ next_of ring i → pos 0 ≤ℤ cross (point_at ring i) a
      → pos 0 ≤ℤ cross a (point_at ring (next_of ring i)) → IsOnRay (point_at ring j) a → ⊥
  clash_ray other after h2 h1 ray =
      let along : cross (point_at ring j) a ≡ pos 0 = ray.along in
      let right : pos 0 <ℤ cross a (point_at ring (next_of ring j)) =
      on_ray_before (point_at ring j) (point_at ring (next_of ring j)) a ray.along ray.ahead
      (edge_turns ring j round here) in
      clash h2 h1 (omega (arith, linear)) (omega (arith, linear))
      (inl (right, (λ e. other (sym e)), after))

-- ---- a point strictly inside a sector

any_at : {A : Type 0} (test : A → Bool) (xs : List A) (k : ℕ) (d : A) → k < length xs
    → test (get_or xs k d) ≡ true → list_any test xs ≡ true
any_at test [] k d there h = absurd (omega arith)
any_at test (x ∷ xs) zero d there h = rw h refl
any_at test (x ∷ xs) (suc k) d there h =
    or_right (test x) (list_any test xs) (any_at test xs k d (omega arith) h)
  where
    or_right : (b c : Bool) → c ≡ true → (b || c) ≡ true
    or_right true c h = refl
    or_right false c h = h

pub one_of : {A : Type 0} (xs : List A) (x : A) → Contains xs x → IsOneOf xs x
one_of xs x one = record {
  all = λ test h. subst (λ (y : _). test y ≡ true) one.2 (all_at test xs one.0 x one.1 h);
  any = λ test h. any_at test xs one.0 x one.1 (subst (λ (y : _). test y ≡ true) (sym one.2) h);
}

nonzero_from : (c d x y : ℤ) → pos 0 <ℤ (c *ℤ x +ℤ d *ℤ y) → pos 0 <ℤ (x *ℤ x +ℤ y *ℤ y)
nonzero_from c d x y above =
    by_lt_z (pos 0) (x *ℤ x +ℤ y *ℤ y) (λ g. g)
    (λ g.
    let sx = square_nonneg x in
    let sy = square_nonneg y in
    let xx : x *ℤ x ≡ pos 0 = omega (arith, linear) in
    let yy : y *ℤ y ≡ pos 0 = omega (arith, linear) in
    let zx : x ≡ pos 0 = elim (zero_factor x x xx) [ inl e ↦ e | inr e ↦ e ] in
    let zy : y ≡ pos 0 = elim (zero_factor y y yy) [ inl e ↦ e | inr e ↦ e ] in
    let cx : c *ℤ x ≡ pos 0 = rw zx (mul_zero c) in
    let dy : d *ℤ y ≡ pos 0 = rw zy (mul_zero d) in
    absurd (omega (arith, linear)))

inside_nonzero : (ring : List Point) (s : Sector) (a : Point) → IsStrictlyInside ring s a
    → pos 0 <ℤ dot a a
inside_nonzero ring s a (inl e) =
    nonzero_from (point_at ring e.0).x (point_at ring e.0).y a.x a.y e.2.ahead
inside_nonzero ring s a (inr e) =
    nonzero_from (neg_ℤ (point_at ring e.0).y) (point_at ring e.0).x a.x a.y
    (rw (cross_from (point_at ring e.0) a) e.3.after)

turned_round : (u a : Point) → cross u a ≡ pos 0 → cross a u ≡ pos 0
turned_round u a along =
    let turned : cross a u ≡ neg_ℤ (cross u a) =
    identity (a.x ∷ a.y ∷ u.x ∷ u.y ∷ []) (search reads depth 40) refl in
    omega (arith, linear)

module _ (ring : List Point) (sectors : List Sector) (round : is_round ring ≡ true)
    (valid : are_sectors (length ring) sectors ≡ true) (a : Point) (s : Sector)
    (one : IsOneOf sectors s) where
  -- in the angle of an open edge nothing is strictly inside
  not_in_angle : InOpenAngle ring sectors a → IsStrictlyInside ring s a → ⊥
  not_in_angle angle (inl e) =
      let inner = e.1 in
      let covers = inner.before in
      let other : angle.edge ≢ e.0 = λ (same : angle.edge ≡ e.0). angle.open_ s one (rw same covers)
      in
      let after : e.0 ≢ place_after (length ring) angle.edge =
      λ (same : e.0 ≡ place_after (length ring) angle.edge).
      free_after ring sectors valid angle.edge angle.there angle.open_ s one
      (subst (IsInner (length ring) s) same inner) in
      clash_ray ring round a angle.edge e.0 angle.there inner.there other after angle.after
      angle.before e.2
  not_in_angle angle (inr e) =
      let covers : edges_between (length ring) s.from e.0 < edges_between (length ring) s.from s.to
      = ltb-true (edges_between (length ring) s.from e.0)
      (edges_between (length ring) s.from s.to) e.2 in
      let other : angle.edge ≢ e.0 = λ (same : angle.edge ≡ e.0). angle.open_ s one (rw same covers)
      in
      clash_between ring round a angle.edge e.0 angle.there e.1 other angle.after angle.before e.3

  -- on the ray of a free place neither
  not_on_ray : OnFreeRay ring sectors a → IsStrictlyInside ring s a → ⊥
  not_on_ray on inside = by_part inside
    where
      before : pos 0 <ℤ cross a (point_at ring (place_after (length ring) on.place))
      before = on_ray_before (point_at ring on.place)
          (point_at ring (place_after (length ring) on.place)) a on.ray.along on.ray.ahead
          (edge_turns ring on.place round on.there)

      by_part : IsStrictlyInside ring s a → ⊥
      by_part (inl e) =
          let along : cross (point_at ring on.place) a ≡ pos 0 = on.ray.along in
          let right = before in
          let other : on.place ≢ e.0 = λ (same : on.place ≡ e.0). on.free s one
          (subst (IsInner (length ring) s) (sym same) e.1) in
          let after : e.0 ≢ place_after (length ring) on.place =
          λ (same : e.0 ≡ place_after (length ring) on.place).
          let none : cross a (point_at ring (place_after (length ring) on.place))
          ≡ pos 0 = subst (λ (k : ℕ). cross a (point_at ring k) ≡ pos 0) same
          (turned_round (point_at ring e.0) a e.2.along) in
          omega (arith, linear) in
          clash_ray ring round a on.place e.0 on.there e.1.there other after (omega (arith, linear))
          (omega (arith, linear)) e.2
      by_part (inr e) =
          let along : cross (point_at ring on.place) a ≡ pos 0 = on.ray.along in
          let right = before in
          let other : on.place ≢ e.0 = λ (same : on.place ≡ e.0).
          let above : pos 0 <ℤ cross (point_at ring on.place) a =
          subst (λ (k : ℕ). pos 0 <ℤ cross (point_at ring k) a) (sym same) e.3.after in
          omega (arith, linear) in
          clash_between ring round a on.place e.0 on.there e.1 other (omega (arith, linear))
          (omega (arith, linear)) e.3

-- a ring of two points has no sectors
two_have_none : (ring : List Point) (sectors : List Sector) → are_sectors (length ring) sectors
    ≡ true → length ring ≡ 2 → length sectors ≡ 0
two_have_none ring sectors valid two = grind (arith, nat_tests)

pub avoid_sectors : AvoidSectors
avoid_sectors ring sectors piece thrust q is valid above piece_in lies forbidden =
    by_test (eqb (length ring) 2) refl
  where
    s : Sector
    s = forbidden.0

    by_test : (b : Bool) → eqb (length ring) 2 ≡ b → ⊥
    by_test true two =
        let none = two_have_none ring sectors valid (eqb-true (length ring) 2 two) in
        let there : forbidden.1.0 < length sectors = forbidden.1.1 in
        omega arith
    by_test false many =
        let longer : length ring ≢ 2 = grind (arith, nat_tests) in
        let round : is_round ring ≡ true = ring_is_round ring is longer in
        let one : IsOneOf sectors s = one_of sectors s forbidden.1 in
        let wedge : IsWedge ring sectors piece =
        Each-contains (IsWedge ring sectors) (cut ring sectors) piece
        (pieces_are_wedges ring sectors is valid longer) piece_in in
        elim (lies_where ring sectors piece thrust q wedge lies
        (inside_nonzero ring s (point_of thrust) forbidden.2)) [
          | inl angle ↦ not_in_angle ring sectors round valid (point_of thrust) s one angle
              forbidden.2
          | inr on ↦ not_on_ray ring sectors round valid (point_of thrust) s one on forbidden.2
        ]
