-- Each thrust that lies in a ring and is strictly inside no sector lies in a piece.
use Rattle.std.proofs.Common.{◌≡◌, ◌∙◌, ap, ap₂, sym, refl, inl, inr, ◌⊎◌, ℕ, zero, suc, ◌+◌, ◌-◌}
use Rattle.std.proofs.Common.{◌<◌, ◌≤◌, ◌≢◌, ℤ, pos, neg_ℤ, ◌+ℤ◌, ◌-ℤ◌, ◌*ℤ◌, ◌≤ℤ◌, ◌<ℤ◌, List, []}
use Rattle.std.proofs.Common.{◌∷◌, ◌++◌, length, map, take, drop, subst, Bool, true, false, ◌||◌}
use Rattle.std.proofs.Common.{arith}
use Rattle.std.specs.Prelude.{filter}
use Rattle.std.specs.List.{list_any, Contains}
use Rattle.std.proofs.Math.Dec.{eqb, ltb}
use Rattle.std.proofs.lemmas.Bool.{lt-ltb, ltb-false, ltb-true}
use Rattle.std.proofs.lemmas.Bool.Decides.{nat_tests}
use Rattle.std.proofs.lemmas.Int.{by_lt_z}
use Rattle.std.proofs.lemmas.List.{drop-map, length-map}
use Rattle.int_ring.proofs.Laws.{linear, mul_zero, one_mul, square_nonneg}
use Rattle.int_ring.proofs.Order.{cancel_left, zero_factor}
use Rattle.int_ring.proofs.Ring.{ring as identity, reads}
use Rattle.plant_model.specs.declared.thrust.Point.{Point}
use Rattle.plant_model.specs.declared.thrust.Sector.{Sector}
use Rattle.plant_model.specs.declared.thrust.Thrust.{Thrust}
use Rattle.plant_model.specs.Lies.{LiesIn}
use Rattle.plant_model.specs.Rings.{are_sectors, cross, cut, dot, edges_between, is_covered_by}
use Rattle.plant_model.specs.Rings.{is_ring, is_round, place_after, places, point_at, run_from}
use Rattle.plant_model.specs.Rings.{side, wedges_along}
use Rattle.thrust_region.specs.Exact.{point_of, CoverTheRest, IsForbidden}
use Rattle.thrust_region.proofs.Avoid.{one_of}
use Rattle.thrust_region.proofs.Cuts.{cut_by_places, cut_whole, whole_run_walk}
use Rattle.thrust_region.proofs.LiesParts.{lies_in_whole}
use Rattle.thrust_region.proofs.Lists.{Each, HasPart, SomeOf, SomeOf-contains, SomeOf-filter}
use Rattle.thrust_region.proofs.Lists.{SomeOf-flat_map, SomeOf-map}
use Rattle.thrust_region.proofs.Parts.{IsOpen}
use Rattle.thrust_region.proofs.Plane.{cross_from, cross_to, form, total, total_is, total_zero}
use Rattle.thrust_region.proofs.Reach.{begin_reached, edge_reached, end_reached, open_goes}
use Rattle.thrust_region.proofs.Reach.{steps_are, steps_below, steps_on, steps_reach, steps_round}
use Rattle.thrust_region.proofs.Reach.{walk_never, IsReached}
use Rattle.thrust_region.proofs.Rings.{after_below, at_least_left, edge_turns, ring_is_round}
use Rattle.thrust_region.proofs.Rings.{round_has_three, walk_turns}
use Rattle.thrust_region.proofs.Runs.{begins_at, ends_at, run-walk, walk}
use Rattle.thrust_region.proofs.Sectors.{edge_to_next, edges_below, edges_last, edges_none}
use Rattle.thrust_region.proofs.Sectors.{edges_step, same_edges, sector_of, IsOneOf}
use Rattle.thrust_region.proofs.Triangles.{ahead_first, ahead_second, beneath, lies_in_triangle}
use Rattle.thrust_region.proofs.Triangles.{lies_on_first, lies_on_second, natural}
use Rattle.thrust_region.proofs.WedgeCounts.{AreTurning}
use Rattle.thrust_region.proofs.WedgeParts.{wedges_part}

-- ---- what tests of numbers tell

none_left : (n : ℕ) → ltb 0 n ≡ false → n ≡ 0
none_left n h = let most = ltb-false 0 n h in omega arith

differ : (a b : ℕ) → eqb a b ≡ false → a ≢ b
differ a b h = grind (arith, nat_tests)

-- ---- what a run has, some piece has

module _ (ring : List Point) (is : is_ring ring ≡ true) (longer : length ring ≢ 2) where
  round_too : is_round ring ≡ true
  round_too = ring_is_round ring is longer

  of_run : (part : List Point) (s : Sector) (ss : List Sector) (start from : ℕ) → 1 ≤ length part
      → length part ≤ 2 → start < length ring → ends_at (s ∷ ss) start ≡ true →
      take (length part) (drop from (map (point_at ring)
      (walk (begins_at (s ∷ ss)) (length ring) (length ring) start))) ≡ part
      → SomeOf (HasPart part) (cut ring (s ∷ ss))
  of_run part s ss start from some few there ends has =
      subst (SomeOf (HasPart part)) (sym (cut_by_places ring s ss longer))
      (SomeOf-flat_map (HasPart part)
      (λ place. wedges_along ring (run_from (length ring) (s ∷ ss) place))
      (filter (ends_at (s ∷ ss)) (places (length ring)))
      (SomeOf-filter (λ place. SomeOf (HasPart part)
      (wedges_along ring (run_from (length ring) (s ∷ ss) place))) (ends_at (s ∷ ss)) 0
      (length ring) start (omega arith) (omega arith) ends along))
    where
      along : SomeOf (HasPart part) (wedges_along ring (run_from (length ring) (s ∷ ss) start))
      along =
          let run : List ℕ = walk (begins_at (s ∷ ss)) (length ring) (length ring) start in
          let count = length-map run (point_at ring) in
          subst (λ (l : List ℕ). SomeOf (HasPart part) (wedges_along ring l))
          (sym (run-walk (begins_at (s ∷ ss)) (length ring) start there))
          (wedges_part part some few (length run) (map (point_at ring) run) from
          (walk_turns ring round_too (begins_at (s ∷ ss)) (length ring) start there)
          (omega arith) has)

  -- the first one or two places of what is left of a walk
  front_one : (stops : ℕ → Bool) (list : List ℕ) (from left place : ℕ) → 0 < left → drop from list
      ≡ walk stops (length ring) left place → take 1 (drop from (map (point_at ring) list))
      ≡ point_at ring place ∷ []
  front_one stops list from left place some e =
      let m : left ≡ suc (left - 1) = omega arith in
      ap (take 1) (drop-map (point_at ring) from list
      ∙ ap (map (point_at ring)) (e ∙ ap (λ (k : ℕ). walk stops (length ring) k place) m))

  front_two : (stops : ℕ → Bool) (list : List ℕ) (from left place : ℕ) → 1 < left → stops place
      ≡ false → drop from list ≡ walk stops (length ring) left place →
      take 2 (drop from (map (point_at ring) list))
      ≡ point_at ring place ∷ point_at ring (place_after (length ring) place) ∷ []
  front_two stops list from left place some goes e =
      let m : left ≡ suc (suc (left - 2)) = omega arith in
      ap (take 2) (drop-map (point_at ring) from list
      ∙ ap (map (point_at ring)) (e ∙ ap (λ (k : ℕ). walk stops (length ring) k place) m))
      ∙ rw goes refl

  pub place_in_piece : (s : Sector) (ss : List Sector) (place most : ℕ) → most < length ring
      → IsReached (length ring) (s ∷ ss) place most
      → SomeOf (HasPart (point_at ring place ∷ [])) (cut ring (s ∷ ss))
  place_in_piece s ss place most small r =
      let few = r.few in
      of_run (point_at ring place ∷ []) s ss r.start r.steps (omega arith) (omega arith) r.there
      r.ends
      (front_one (begins_at (s ∷ ss))
      (walk (begins_at (s ∷ ss)) (length ring) (length ring) r.start) r.steps
      (length ring - r.steps) place (omega arith) r.is)

  pub place_in_some : (sectors : List Sector) (s : Sector) (place most : ℕ) → IsOneOf sectors s
      → most < length ring → IsReached (length ring) sectors place most
      → SomeOf (HasPart (point_at ring place ∷ [])) (cut ring sectors)
  place_in_some [] s place most one small r = cc (one.all (λ x. false) refl)
  place_in_some (x ∷ xs) s place most one small r = place_in_piece x xs place most small r

  pub edge_in_piece : (sectors : List Sector) (edge : ℕ) → are_sectors (length ring) sectors ≡ true
      → edge < length ring → IsOpen ring sectors edge →
      SomeOf (HasPart (point_at ring edge ∷ point_at ring (place_after (length ring) edge) ∷ []))
      (cut ring sectors)
  edge_in_piece [] edge valid there open_ =
      let three = round_has_three ring round_too in
      let never : ℕ → Bool = λ p. false in
      let run : List Point = ring ++ point_at ring 0 ∷ [] in
      let walked : run ≡ map (point_at ring) (walk (λ p. false) (length ring) (length ring + 1) 0) =
      whole_run_walk ring (omega arith) in
      let at : steps_on (length ring) 0 edge
      ≡ edge = elim (steps_are (length ring) 0 edge (omega arith) (omega arith))
      [ inl e ↦ (let f = e.1 in omega arith) | inr e ↦ (let f = e.0 in absurd (omega arith)) ]
      in
      let left : drop edge (walk (λ p. false) (length ring) (length ring + 1) 0)
      ≡ walk (λ p. false) (length ring) (length ring + 1 - edge) edge =
      walk_never (length ring) (length ring + 1) 0 edge (omega arith)
      ∙ ap (λ (k : ℕ). walk (λ p. false) (length ring) (length ring + 1 - edge) k) at in
      let part : List Point = point_at ring edge ∷ point_at ring (place_after (length ring) edge) ∷
      [] in
      let front : take 2 (drop edge (map (point_at ring)
      (walk (λ p. false) (length ring) (length ring + 1) 0))) ≡ part =
      front_two (λ p. false) (walk (λ p. false) (length ring) (length ring + 1) 0) edge
      (length ring + 1 - edge) edge (omega arith) refl left in
      subst (SomeOf (HasPart part)) (sym (cut_whole ring run [] refl longer refl))
      (wedges_part part (omega arith) (omega arith) (length run) run edge
      (subst AreTurning (sym walked)
      (walk_turns ring round_too (λ p. false) (length ring + 1) 0 (omega arith))) (omega arith)
      (subst (λ (l : List Point). take 2 (drop edge l) ≡ part) (sym walked) front))
  edge_in_piece (s ∷ ss) edge valid there open_ =
      let r = edge_reached ring (s ∷ ss) valid edge s there (first_one s ss) open_ in
      let reached = r.2 in
      let small : r.0 + 1 < length ring = r.1 in
      let few = reached.few in
      of_run (point_at ring edge ∷ point_at ring (place_after (length ring) edge) ∷ []) s ss
      reached.start reached.steps (omega arith) (omega arith) reached.there reached.ends
      (front_two (begins_at (s ∷ ss))
      (walk (begins_at (s ∷ ss)) (length ring) (length ring) reached.start) reached.steps
      (length ring - reached.steps) edge (omega arith)
      (open_goes ring (s ∷ ss) valid edge there open_) reached.is)
    where
      first_one : (x : Sector) (xs : List Sector) → IsOneOf (x ∷ xs) x
      first_one x xs = one_of (x ∷ xs) x (0, omega arith, refl)

  -- there is a piece
  pub some_piece : (sectors : List Sector) → are_sectors (length ring) sectors ≡ true
      → SomeOf (HasPart []) (cut ring sectors)
  some_piece [] valid =
      let three = round_has_three ring round_too in
      SomeOf-map (HasPart (point_at ring 0 ∷ point_at ring (place_after (length ring) 0) ∷ []))
      (HasPart []) (cut ring []) (λ piece has. record { from = 0; is = refl })
      (edge_in_piece [] 0 valid (omega arith) (λ s one covers. absurd (none_of s one)))
    where
      none_of : (s : Sector) → IsOneOf [] s → ⊥
      none_of s one = cc (one.all (λ r. false) refl)
  some_piece (s ∷ ss) valid =
      let three = round_has_three ring round_too in
      SomeOf-map (HasPart (point_at ring s.to ∷ [])) (HasPart []) (cut ring (s ∷ ss))
      (λ piece has. record { from = 0; is = refl })
      (place_in_piece s ss s.to 0 (omega arith)
      (end_reached ring (s ∷ ss) valid s (one_of (s ∷ ss) s (0, omega arith, refl))))

-- ---- the edge in whose angle a thrust of the ring is

pub record InAngle (ring : List Point) (a : Point) : Type 0 where
  pub edge : ℕ
  pub there : edge < length ring
  pub after : pos 0 ≤ℤ cross (point_at ring edge) a
  pub before : pos 0 ≤ℤ cross a (point_at ring (place_after (length ring) edge))

-- the first point at which a form isn't above 0
not_above : (f : Point → ℤ) (ps : List Point) → Each (λ p. pos 0 <ℤ f p) ps
    ⊎ ((k : ℕ) × (k < length ps) × (f (point_at ps k) ≤ℤ pos 0))
not_above f [] = inl tt
not_above f (p ∷ ps) =
    by_lt_z (pos 0) (f p)
    (λ g. elim (not_above f ps) [
      | inl all ↦ inl (g, all)
      | inr one ↦ inr (suc one.0, (let there = one.1 in omega arith), one.2)
    ])
    (λ g. inr (0, omega arith, g))

turned : (p a : Point) → cross p a ≡ neg_ℤ (cross a p)
turned p a = identity (p.x ∷ p.y ∷ a.x ∷ a.y ∷ []) (search reads depth 40) refl

module _ (ring : List Point) (thrust : Thrust) (q : ℤ) (lies : LiesIn ring thrust q)
    (nonzero : pos 0 <ℤ dot (point_of thrust) (point_of thrust)) where
  abbrev pub a : Point
  a = point_of thrust

  k_above : pos 0 <ℤ lies.k
  k_above = let h = lies.at_least_one in omega (arith, linear)

  -- a form that is 0 at the thrust isn't above 0 at each point
  not_one_side : (c e : ℤ) → c *ℤ thrust.x +ℤ e *ℤ thrust.y ≡ pos 0
      → Each (λ p. pos 0 <ℤ form c e p) ring → ⊥
  not_one_side c e none each =
      let above = k_above in
      let scaled : c *ℤ (lies.k *ℤ thrust.x) +ℤ e *ℤ (lies.k *ℤ thrust.y)
      ≡ lies.k *ℤ (c *ℤ thrust.x +ℤ e *ℤ thrust.y) =
      identity (c ∷ e ∷ lies.k ∷ thrust.x ∷ thrust.y ∷ []) (search reads depth 40) refl in
      let zero_sum : total c e lies.weights ring ≡ pos 0 =
      total_is c e lies.weights ring ∙ ap₂ (λ (u : ℤ) (v : ℤ). c *ℤ u +ℤ e *ℤ v) lies.x lies.y
      ∙ scaled ∙ ap (λ (z : ℤ). lies.k *ℤ z) none ∙ mul_zero lies.k in
      let zeros = total_zero c e lies.weights ring each (omega (arith, linear)) in
      let x : thrust.x ≡ pos 0 = cancel_left thrust.x (pos 0) lies.k above
      (sym lies.x ∙ zeros.0 ∙ sym (mul_zero lies.k)) in
      let y : thrust.y ≡ pos 0 = cancel_left thrust.y (pos 0) lies.k above
      (sym lies.y ∙ zeros.1 ∙ sym (mul_zero lies.k)) in
      let xx : thrust.x *ℤ thrust.x ≡ pos 0 = rw x refl in
      let yy : thrust.y *ℤ thrust.y ≡ pos 0 = rw y refl in
      omega (arith, linear)

  each_to : (ps : List Point) → Each (λ p. pos 0 <ℤ cross p a) ps
      → Each (λ p. pos 0 <ℤ form a.y (neg_ℤ a.x) p) ps
  each_to [] each = tt
  each_to (p ∷ ps) each = (rw (cross_to a p) each.0, each_to ps each.1)

  each_from : (ps : List Point) → Each (λ p. pos 0 <ℤ cross a p) ps
      → Each (λ p. pos 0 <ℤ form (neg_ℤ a.y) a.x p) ps
  each_from [] each = tt
  each_from (p ∷ ps) each = (rw (cross_from a p) each.0, each_from ps each.1)

  zero_to : a.y *ℤ thrust.x +ℤ neg_ℤ a.x *ℤ thrust.y ≡ pos 0
  zero_to = identity (thrust.x ∷ thrust.y ∷ []) (search reads depth 40) refl

  zero_from : neg_ℤ a.y *ℤ thrust.x +ℤ a.x *ℤ thrust.y ≡ pos 0
  zero_from = identity (thrust.x ∷ thrust.y ∷ []) (search reads depth 40) refl

  some_before : (k : ℕ) × (k < length ring) × (cross (point_at ring k) a ≤ℤ pos 0)
  some_before = elim (not_above (λ p. cross p a) ring) [
    | inl each ↦ absurd (not_one_side a.y (neg_ℤ a.x) zero_to (each_to ring each))
    | inr one ↦ one
  ]

  some_after : (k : ℕ) × (k < length ring) × (cross a (point_at ring k) ≤ℤ pos 0)
  some_after = elim (not_above (λ p. cross a p) ring) [
    | inl each ↦ absurd (not_one_side (neg_ℤ a.y) a.x zero_from (each_from ring each))
    | inr one ↦ one
  ]

  -- going round from a place at or before the thrust, until one is not before it
  go : (start : ℕ) → start < length ring → pos 0 ≤ℤ cross (point_at ring start) a → (m : ℕ)
      → m ≤ length ring →
      InAngle ring a ⊎ ((j : ℕ) → 1 ≤ j → j ≤ m
      → pos 0 <ℤ cross (point_at ring (steps_on (length ring) start j)) a)
  go start there least zero few = inr (λ j one none. absurd (omega arith))
  go start there least (suc m) few = on (go start there least m (omega arith))
    where
      here : steps_on (length ring) start m < length ring
      here = steps_below (length ring) start m there (omega arith)

      current : ((j : ℕ) → 1 ≤ j → j ≤ m
          → pos 0 <ℤ cross (point_at ring (steps_on (length ring) start j)) a) → (l : ℕ) → l ≤ m
          → m ≤ l → pos 0 ≤ℤ cross (point_at ring (steps_on (length ring) start l)) a
      current all zero low high = least
      current all (suc l) low high = let above = all (suc l) (omega arith) low
          in omega (arith, linear)

      on : InAngle ring a ⊎ ((j : ℕ) → 1 ≤ j → j ≤ m
          → pos 0 <ℤ cross (point_at ring (steps_on (length ring) start j)) a) →
          InAngle ring a ⊎ ((j : ℕ) → 1 ≤ j → j ≤ suc m
          → pos 0 <ℤ cross (point_at ring (steps_on (length ring) start j)) a)
      on (inl found_one) = inl found_one
      on (inr all) =
          by_lt_z (pos 0) (cross (point_at ring (steps_on (length ring) start (suc m))) a)
          (λ g. inr (λ j one low. more g all j one low (ltb j (suc m)) refl))
          (λ g. inl (record {
            edge = steps_on (length ring) start m;
            there = here;
            after = current all m (omega arith) (omega arith);
            before = (let turn = turned (point_at ring (steps_on (length ring) start (suc m))) a
                in omega (arith, linear));
          }))
        where
          more : pos 0 <ℤ cross (point_at ring (steps_on (length ring) start (suc m))) a
              → ((j : ℕ) → 1 ≤ j → j ≤ m → pos 0 <ℤ cross
              (point_at ring (steps_on (length ring) start j)) a) →
              (j : ℕ) → 1 ≤ j → j ≤ suc m → (b : Bool) → ltb j (suc m) ≡ b
              → pos 0 <ℤ cross (point_at ring (steps_on (length ring) start j)) a
          more g all j one low true h = all j one (let below = ltb-true j (suc m) h in omega arith)
          more g all j one low false h =
              let same : j ≡ suc m = let above = ltb-false j (suc m) h in omega arith
              in subst (λ (i : ℕ). pos 0 <ℤ cross (point_at ring (steps_on (length ring) start i))
              a) (sym same) g

  pub angle_of : InAngle ring a
  angle_of =
      let s = some_after in
      let t = some_before in
      let turn = turned (point_at ring s.0) a in
      let side_of = s.2 in
      elim (go s.0 s.1 (omega (arith, linear)) (length ring) (omega arith)) [
        | inl found_one ↦ found_one
        | inr all ↦
            let reach = steps_reach (length ring) s.0 t.0 s.1 t.1 in
            absurd (by_steps (edges_between (length ring) s.0 t.0) reach.0 reach.1 all)
      ]
    where
      by_steps : (j : ℕ) → j < length ring → steps_on (length ring) some_after.0 j ≡ some_before.0
          → ((i : ℕ) → 1 ≤ i → i ≤ length ring
          → pos 0 <ℤ cross (point_at ring (steps_on (length ring) some_after.0 i)) a) → ⊥
      by_steps zero small is all =
          let low = some_before.2 in
          let whole : steps_on (length ring) some_after.0 (length ring)
          ≡ some_before.0 = steps_round (length ring) some_after.0 some_after.1 ∙ is in
          let above : pos 0 <ℤ cross (point_at ring some_before.0) a =
          subst (λ (i : ℕ). pos 0 <ℤ cross (point_at ring i) a) whole
          (all (length ring) (omega arith) (omega arith)) in
          omega (arith, linear)
      by_steps (suc j) small is all =
          let low = some_before.2 in
          let above : pos 0 <ℤ cross (point_at ring some_before.0) a =
          subst (λ (i : ℕ). pos 0 <ℤ cross (point_at ring i) a) is
          (all (suc j) (omega arith) (omega arith)) in
          omega (arith, linear)

-- ---- all together

by_place : (P : Point → Type 0) (ps : List Point) → ((k : ℕ) → k < length ps → P (point_at ps k))
    → Each P ps
by_place P [] each = tt
by_place P (p ∷ ps) each = (
  each 0 (omega arith),
  by_place P ps (λ k there. each (suc k) (omega arith)),
)

found_in : {A : Type 0} (test : A → Bool) (xs : List A) → list_any test xs ≡ true → (x : A)
    × (test x ≡ true) × Contains xs x
found_in test [] h = cc
found_in {A} test (x ∷ xs) h = by_test (test x) refl h (found_in test xs)
  where
    by_test : (b : Bool) → test x ≡ b → (b || list_any test xs) ≡ true
        → (list_any test xs ≡ true → (y : A) × (test y ≡ true) × Contains xs y) → (y : A)
        × (test y ≡ true) × Contains (x ∷ xs) y
    by_test true is h others = (x, is, (0, omega arith, refl))
    by_test false is h others = let o = others h
        in (o.0, o.1, (suc o.2.0, (let there = o.2.1 in omega arith), o.2.2))

-- the zero thrust lies in whatever piece
zero_lies : (thrust : Thrust) (q : ℤ) → pos 1 ≤ℤ q
    → dot (point_of thrust) (point_of thrust) ≤ℤ pos 0 → LiesIn [] thrust q
zero_lies thrust q above none =
    let sx = square_nonneg thrust.x in
    let sy = square_nonneg thrust.y in
    let xx : thrust.x *ℤ thrust.x ≡ pos 0 = omega (arith, linear) in
    let yy : thrust.y *ℤ thrust.y ≡ pos 0 = omega (arith, linear) in
    let x : thrust.x ≡ pos 0 = elim (zero_factor thrust.x thrust.x xx) [ inl e ↦ e | inr e ↦ e ] in
    let y : thrust.y ≡ pos 0 = elim (zero_factor thrust.y thrust.y yy) [ inl e ↦ e | inr e ↦ e ] in
    let o = natural q (omega (arith, linear)) in
    let o_is = o.1 in
    record {
      k = pos 1;
      at_least_one = omega (arith, linear);
      weights = [];
      origin_weight = o.0;
      one_each = refl;
      whole = omega (arith, linear, one_mul q);
      x = rw x refl;
      y = rw y refl;
    }

module _ (ring : List Point) (sectors : List Sector) (thrust : Thrust) (q : ℤ)
    (is : is_ring ring ≡ true) (valid : are_sectors (length ring) sectors ≡ true)
    (longer : length ring ≢ 2)
    (lies : LiesIn ring thrust q) (free : IsForbidden ring sectors thrust → ⊥)
    (nonzero : pos 0 <ℤ dot (point_of thrust) (point_of thrust)) where
  abbrev SomeLies : Type 0
  SomeLies = SomeOf (λ piece. LiesIn piece thrust q) (cut ring sectors)

  by_part : (part : List Point) → LiesIn part thrust q → SomeOf (HasPart part) (cut ring sectors)
      → SomeLies
  by_part part lies_part some = SomeOf-map (HasPart part) (λ piece. LiesIn piece thrust q)
      (cut ring sectors) (λ piece has. lies_in_whole part piece thrust q lies_part has) some

  nonzero_lies : SomeLies
  nonzero_lies = by_test (list_any (is_covered_by n edge) sectors) refl
    where
      n : ℕ
      n = length ring

      round : is_round ring ≡ true
      round = ring_is_round ring is longer

      angle : InAngle ring (point_of thrust)
      angle = angle_of ring thrust q lies nonzero

      edge : ℕ
      edge = angle.edge

      next : ℕ
      next = place_after n edge

      next_there : next < n
      next_there = after_below ring round (λ p. false) edge angle.there

      r : Point
      r = point_at ring edge

      s : Point
      s = point_at ring next

      turns : pos 0 <ℤ cross r s
      turns = edge_turns ring edge round angle.there

      under : pos 0 ≤ℤ (q *ℤ cross r s -ℤ (cross (point_of thrust) s +ℤ cross r (point_of thrust)))
      under = beneath ring thrust q r s lies turns
          (by_place (λ p. pos 0 ≤ℤ side r s p) ring
          (λ k here. at_least_left ring round edge k angle.there here))

      begins_run : (t : Sector) → IsOneOf sectors t → t.from ≡ edge → cross r (point_of thrust)
          ≡ pos 0 → SomeLies
      begins_run t one same none =
          let reached = begin_reached ring sectors valid t one in
          by_part (r ∷ []) (lies_on_first thrust q r s turns angle.before angle.after under none)
          (subst (λ (place : ℕ). SomeOf (HasPart (point_at ring place ∷ [])) (cut ring sectors))
          same (place_in_some ring is longer sectors t t.from reached.0 one reached.1
          reached.2))

      ends_run : (t : Sector) → IsOneOf sectors t → t.to ≡ next → cross (point_of thrust) s ≡ pos 0
          → SomeLies
      ends_run t one same none =
          let three = round_has_three ring round in
          by_part (s ∷ []) (lies_on_second thrust q r s turns angle.before angle.after under none)
          (subst (λ (place : ℕ). SomeOf (HasPart (point_at ring place ∷ [])) (cut ring sectors))
          same (place_in_some ring is longer sectors t t.to 0 one (omega arith)
          (end_reached ring sectors valid t one)))

      on_first : (t : Sector) → Contains sectors t
          → edges_between n t.from edge < edges_between n t.from t.to → cross r (point_of thrust)
          ≡ pos 0 → (b : Bool) → ltb 0 (edges_between n t.from edge) ≡ b → SomeLies
      on_first t one covers none true h =
          absurd (free (
            t,
            one,
            inl (
              edge,
              record {
                there = angle.there;
                behind =
                    ltb-true 0 (edges_between n t.from edge) h;
                before = covers;
              },
              record {
                along = none;
                ahead =
                    ahead_first r s (point_of thrust) turns nonzero angle.before none;
              },
            ),
          ))
      on_first t one covers none false h =
          let sector = sector_of n sectors t valid (one_of sectors t one) in
          let zero_edges = none_left (edges_between n t.from edge) h in
          begins_run t (one_of sectors t one)
          (edges_none n t.from edge sector.from angle.there zero_edges) none

      on_second : (t : Sector) → Contains sectors t
          → edges_between n t.from edge < edges_between n t.from t.to → cross (point_of thrust) s
          ≡ pos 0 →
          (b d : Bool) → ltb 0 (edges_between n t.from next) ≡ b
          → ltb (edges_between n t.from next) (edges_between n t.from t.to) ≡ d → SomeLies
      on_second t one covers none true true h k =
          absurd (free (
            t,
            one,
            inl (
              next,
              record {
                there = next_there;
                behind =
                    ltb-true 0 (edges_between n t.from next) h;
                before =
                    ltb-true (edges_between n t.from next) (edges_between n t.from t.to) k;
              },
              record {
                along = (let turn = turned s (point_of thrust) in omega (arith, linear));
                ahead = ahead_second r s (point_of thrust) turns nonzero angle.after none;
              },
            ),
          ))
      on_second t one covers none true false h k =
          let sector = sector_of n sectors t valid (one_of sectors t one) in
          let step = edges_step n t.from edge next sector.from (edge_to_next n edge angle.there)
          (ltb-true 0 (edges_between n t.from next) h) in
          let past = ltb-false (edges_between n t.from next) (edges_between n t.from t.to) k in
          ends_run t (one_of sectors t one)
          (same_edges n t.from t.to next sector.from sector.to next_there (omega arith)) none
      on_second t one covers none false d h k =
          let sector = sector_of n sectors t valid (one_of sectors t one) in
          let zero_edges = none_left (edges_between n t.from next) h in
          let same : t.from ≡ next = edges_none n t.from next sector.from next_there zero_edges in
          let last : edges_between n next edge + 1
          ≡ n = edges_last n edge next next_there angle.there (edge_to_next n edge angle.there)
          in
          let last_too : edges_between n t.from edge + 1 ≡ n = rw same last in
          let below = edges_below n t.from t.to sector.from sector.to in
          absurd (omega arith)

      covered : (t : Sector) → is_covered_by n edge t ≡ true → Contains sectors t → SomeLies
      covered t test one =
          let covers : edges_between n t.from edge < edges_between n t.from t.to =
          ltb-true (edges_between n t.from edge) (edges_between n t.from t.to) test in
          let low_after = angle.after in
          let low_before = angle.before in
          by_lt_z (pos 0) (cross r (point_of thrust))
          (λ g. by_lt_z (pos 0) (cross (point_of thrust) s)
          (λ h. absurd (free (
            t,
            one,
            inr
                (edge, angle.there, test, record { after = g; before = h }),
          )))
          (λ h. on_second t one covers (omega (arith, linear)) (ltb 0 (edges_between n t.from next))
          (ltb (edges_between n t.from next) (edges_between n t.from t.to)) refl refl))
          (λ g. on_first t one covers (omega (arith, linear)) (ltb 0 (edges_between n t.from edge))
          refl)

      by_test : (b : Bool) → list_any (is_covered_by n edge) sectors ≡ b → SomeLies
      by_test true h = let f = found_in (is_covered_by n edge) sectors h in covered f.0 f.1 f.2
      by_test false h =
          by_part (r ∷ s ∷ []) (lies_in_triangle thrust q r s turns angle.before angle.after under)
          (edge_in_piece ring is longer sectors edge valid angle.there open_)
        where
          open_ : IsOpen ring sectors edge
          open_ t one covers = let covered_one : list_any (is_covered_by n edge) sectors
              ≡ true = one.any (is_covered_by n edge)
              (lt-ltb (edges_between n t.from edge) (edges_between n t.from t.to) covers) in cc

pub cover_the_rest : CoverTheRest
cover_the_rest ring sectors thrust q is valid above lies free = by_test (eqb (length ring) 2) refl
  where
    by_test : (b : Bool) → eqb (length ring) 2 ≡ b → (piece : List Point)
        × Contains (cut ring sectors) piece × LiesIn piece thrust q
    by_test true two =
        let one : cut ring sectors ≡ ring ∷ [] = rw two refl in (
          ring,
          subst (λ (l : List (List Point)). Contains l ring) (sym one) (0, omega arith, refl),
          lies,
        )
    by_test false many =
        let longer = differ (length ring) 2 many in
        SomeOf-contains (λ piece. LiesIn piece thrust q) (cut ring sectors)
        (by_lt_z (pos 0) (dot (point_of thrust) (point_of thrust))
        (λ nonzero. nonzero_lies ring sectors thrust q is valid longer lies free nonzero)
        (λ none. SomeOf-map (HasPart []) (λ piece. LiesIn piece thrust q) (cut ring sectors)
        (λ piece has. lies_in_whole [] piece thrust q (zero_lies thrust q above none) has)
        (some_piece ring is longer sectors valid)))
