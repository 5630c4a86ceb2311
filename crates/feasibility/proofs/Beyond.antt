-- Demands that are farther than any sum of thrusts, those that are met by the fixed thrusts, and
-- what the outcomes tell.
use Rattle.std.proofs.Common.{◌≡◌, ◌≢◌, ◌∙◌, ◌⊎◌, inl, inr, ℕ, ◌<◌, ◌≤◌, ℤ, pos, neg_ℤ, ◌-ℤ◌}
use Rattle.std.proofs.Common.{◌*ℤ◌, ◌≤ℤ◌, ◌<ℤ◌, ◌↔◌, List, [], ◌∷◌, length, map, get_or, refl}
use Rattle.std.proofs.Common.{sym, ap}
use Rattle.std.proofs.Common.{ap₂, take, ◌++◌, ◌+◌, arith}
use Rattle.std.proofs.lemmas.Int.{ints}
use Rattle.std.proofs.lemmas.List.{get_or-map, length-map, map-append, take_more}
use Rattle.int_ring.proofs.Ring.{ring, reads}
use Rattle.dp_num.specs.Fractions.{Divides}
use Rattle.plant_model.specs.Numbers.{IsWithin}
use Rattle.plant_model.specs.Rings.{origin}
use Rattle.plant_model.specs.declared.limits.TheConstants.{MOST_FORCE, MOST_MOMENT}
use Rattle.plant_model.specs.declared.thrust.Point.{Point}
use Rattle.plant_model.specs.declared.thrust.Thrust.{Thrust}
use Rattle.thrust_region.specs.Choices.{choice_of, choices_of}
use Rattle.wrench_geometry.specs.declared.vector.Vec3.{Vec3}
use Rattle.wrench_geometry.specs.declared.vertices.TheConstants.{SHORT_FORCE, SHORT_MOMENT}
use Rattle.wrench_geometry.specs.Vectors.{dot_of, zero_vector}
use Rattle.wrench_geometry.proofs.Bounds.{same_vector}
use Rattle.certificate.specs.declared.outcome.Outcome.{Outcome}
use Rattle.certificate.specs.declared.outcome.Outcome.TheVariants.{Holds, Lost}
use Rattle.certificate.specs.Outcomes.{IsAhead, IsFeasible, IsOneEach, IsValid, Question, no_thrust}
use Rattle.certificate.specs.Outcomes.{total_of, without}
use Rattle.certificate.specs.Sides.{place_of}
use Rattle.certificate.proofs.Held.{holds_valid}
use Rattle.certificate.proofs.Hulls.{lies_of_zero}
use Rattle.certificate.proofs.Shown.{valid_shows}
use Rattle.feasibility.specs.Beyond.{IsBeyond, IsSide, IsStill}
use Rattle.feasibility.specs.Reached.{IsHolds, IsLost}

-- ---- one component outside its limits

sign_of : (most z s : ℤ) → IsSide most z s → s ≢ pos 0 → (s ≡ pos 1) ⊎ (s ≡ neg_ℤ (pos 1))
sign_of most z s (inl within) some = absurd (some within.0)
sign_of most z s (inr (inl above)) some = inl above.0
sign_of most z s (inr (inr below)) some = inr below.0

divides_sign : (g s : ℤ) → (s ≡ pos 1) ⊎ (s ≡ neg_ℤ (pos 1)) → Divides g s → Divides g (pos 1)
divides_sign g s (inl e) h = (h.0, h.1 ∙ e)
divides_sign g s (inr e) h = (neg_ℤ h.0, turned h.0 (h.1 ∙ e))
  where
    turned : (k : ℤ) → k *ℤ g ≡ neg_ℤ (pos 1) → neg_ℤ k *ℤ g ≡ pos 1
    turned k f =
        let opposite : neg_ℤ k *ℤ g ≡ neg_ℤ (k *ℤ g) =
        ring (k ∷ g ∷ []) (search reads depth 40) refl in
        omega (arith, ints, opposite, f)

farther : (most z s v : ℤ) → IsSide most z s → s ≢ pos 0 → IsWithin most v →
    (s *ℤ v) <ℤ (s *ℤ z)
farther most z s v (inl within) some h = absurd (some within.0)
farther most z s v (inr (inl above)) some h =
    let once : (a : ℤ) → s *ℤ a ≡ a = λ a. ap (λ (k : ℤ). k *ℤ a) above.0
    ∙ ring (a ∷ []) (search reads depth 40) refl in
    let past = above.1 in
    let high = h.high in
    let less : v <ℤ z = omega (arith, ints, past, high) in
    rw (once v, once z) less
farther most z s v (inr (inr below)) some h =
    let turned : (a : ℤ) → s *ℤ a ≡ neg_ℤ a = λ a. ap (λ (k : ℤ). k *ℤ a) below.0
    ∙ ring (a ∷ []) (search reads depth 40) refl in
    let past = below.1 in
    let low = h.low in
    let less : neg_ℤ v <ℤ neg_ℤ z = omega (arith, ints, past, low) in
    rw (turned v, turned z) less

sign_within : (most z s bound : ℤ) → pos 1 ≤ℤ bound → IsSide most z s → s ≢ pos 0 →
    IsWithin bound s
sign_within most z s bound from_1 side some = of_sign (sign_of most z s side some)
  where
    of_sign : (s ≡ pos 1) ⊎ (s ≡ neg_ℤ (pos 1)) → IsWithin bound s
    of_sign (inl e) = record { low = omega (arith, ints); high = omega (arith, ints) }
    of_sign (inr e) = record { low = omega (arith, ints); high = omega (arith, ints) }

zero_within : (bound : ℤ) → pos 1 ≤ℤ bound → IsWithin bound (pos 0)
zero_within bound from_1 = record { low = omega (arith, ints); high = omega (arith, ints) }

pub beyond_x : (ahead : Vec3) (s : ℤ) → IsSide MOST_FORCE ahead.x s → s ≢ pos 0 →
    IsBeyond ahead (record { x = s; y = pos 0; z = pos 0 })
beyond_x ahead s side some = record {
  short = record {
    x = sign_within MOST_FORCE ahead.x s SHORT_FORCE (omega (arith, ints)) side some;
    y = zero_within SHORT_FORCE (omega (arith, ints));
    z = zero_within SHORT_MOMENT (omega (arith, ints));
  };
  primitive = λ g divides. divides_sign g s (sign_of MOST_FORCE ahead.x s side some) divides.x;
  past = λ v within. alone v (farther MOST_FORCE ahead.x s v.x side some within.x);
}
  where
    along : (v : Vec3) → dot_of (record { x = s; y = pos 0; z = pos 0 }) v ≡ s *ℤ v.x
    along v = ring (s ∷ v.x ∷ v.y ∷ v.z ∷ []) (search reads depth 40) refl

    alone : (v : Vec3) → (s *ℤ v.x) <ℤ (s *ℤ ahead.x) →
        dot_of (record { x = s; y = pos 0; z = pos 0 }) v
        <ℤ dot_of (record { x = s; y = pos 0; z = pos 0 }) ahead
    alone v h = rw (along v, along ahead) h

pub beyond_y : (ahead : Vec3) (s : ℤ) → IsSide MOST_FORCE ahead.y s → s ≢ pos 0 →
    IsBeyond ahead (record { x = pos 0; y = s; z = pos 0 })
beyond_y ahead s side some = record {
  short = record {
    x = zero_within SHORT_FORCE (omega (arith, ints));
    y = sign_within MOST_FORCE ahead.y s SHORT_FORCE (omega (arith, ints)) side some;
    z = zero_within SHORT_MOMENT (omega (arith, ints));
  };
  primitive = λ g divides. divides_sign g s (sign_of MOST_FORCE ahead.y s side some) divides.y;
  past = λ v within. alone v (farther MOST_FORCE ahead.y s v.y side some within.y);
}
  where
    along : (v : Vec3) → dot_of (record { x = pos 0; y = s; z = pos 0 }) v ≡ s *ℤ v.y
    along v = ring (s ∷ v.x ∷ v.y ∷ v.z ∷ []) (search reads depth 40) refl

    alone : (v : Vec3) → (s *ℤ v.y) <ℤ (s *ℤ ahead.y) →
        dot_of (record { x = pos 0; y = s; z = pos 0 }) v
        <ℤ dot_of (record { x = pos 0; y = s; z = pos 0 }) ahead
    alone v h = rw (along v, along ahead) h

pub beyond_z : (ahead : Vec3) (s : ℤ) → IsSide MOST_MOMENT ahead.z s → s ≢ pos 0 →
    IsBeyond ahead (record { x = pos 0; y = pos 0; z = s })
beyond_z ahead s side some = record {
  short = record {
    x = zero_within SHORT_FORCE (omega (arith, ints));
    y = zero_within SHORT_FORCE (omega (arith, ints));
    z = sign_within MOST_MOMENT ahead.z s SHORT_MOMENT (omega (arith, ints)) side some;
  };
  primitive = λ g divides. divides_sign g s (sign_of MOST_MOMENT ahead.z s side some) divides.z;
  past = λ v within. alone v (farther MOST_MOMENT ahead.z s v.z side some within.z);
}
  where
    along : (v : Vec3) → dot_of (record { x = pos 0; y = pos 0; z = s }) v ≡ s *ℤ v.z
    along v = ring (s ∷ v.x ∷ v.y ∷ v.z ∷ []) (search reads depth 40) refl

    alone : (v : Vec3) → (s *ℤ v.z) <ℤ (s *ℤ ahead.z) →
        dot_of (record { x = pos 0; y = pos 0; z = s }) v
        <ℤ dot_of (record { x = pos 0; y = pos 0; z = s }) ahead
    alone v h = rw (along v, along ahead) h

-- ---- the fixed thrusts alone

pub still_valid : (question : Question) → IsOneEach question → 1 ≤ choices_of question.regions →
    IsAhead question zero_vector → (outcome : Outcome) → IsStill question.fixed outcome →
    IsValid question outcome
still_valid question one_each some is_ahead (Lost cuts) still = absurd still
still_valid question one_each some is_ahead (Holds choice q thrusts) still =
    let list = thrusts.list.items in
    let first = still.0 in
    let is_1 = still.1 in
    let same = still.2 in
    let long : length list ≡ length question.levers =
    sym (length-map list place_of) ∙ ap length same ∙ one_each.fixed in
    let from_1 : pos 1 ≤ℤ q = omega (arith, ints, is_1) in
    let load = total_of question.levers question.fixed in
    holds_valid question choice q thrusts
    (record { from_1 = from_1; there = omega (arith, first, some); one_each = long })
    (λ i below.
    let a = get_or list i no_thrust in
    let here : place_of a ≡ get_or question.fixed i origin =
    sym (get_or-map place_of list i no_thrust origin below)
    ∙ ap (λ (l : List Point). get_or l i origin) same in
    lies_of_zero (get_or (choice_of question.regions choice) i [])
    (without q (get_or question.fixed i origin) a) q from_1
    (nothing q a.x (get_or question.fixed i origin).x is_1 (ap (λ (p : Point). p.x) here))
    (nothing q a.y (get_or question.fixed i origin).y is_1 (ap (λ (p : Point). p.y) here)))
    (ap (total_of question.levers) same
    ∙ same_vector
    (once q question.demand.x load.x is_1 (ap (λ (v : Vec3). v.x) is_ahead))
    (once q question.demand.y load.y is_1 (ap (λ (v : Vec3). v.y) is_ahead))
    (once q question.demand.z load.z is_1 (ap (λ (v : Vec3). v.z) is_ahead)))
  where
    nothing : (q a f : ℤ) → q ≡ pos 1 → a ≡ f → a -ℤ q *ℤ f ≡ pos 0
    nothing q a f e same =
        ap₂ (λ (x y : ℤ). x -ℤ y *ℤ f) same e ∙ ring (f ∷ []) (search reads depth 40) refl

    once : (q d f : ℤ) → q ≡ pos 1 → pos 0 ≡ d -ℤ f → f ≡ q *ℤ d
    once q d f e none =
        let same : f ≡ d = omega (arith, ints, none) in
        same ∙ sym (ap (λ (z : ℤ). z *ℤ d) e ∙ ring (d ∷ []) (search reads depth 40) refl)

pub same_point : {a b : Point} → a.x ≡ b.x → a.y ≡ b.y → a ≡ b
same_point e f = λ i. record { x = e i; y = f i }

-- points that are taken as thrusts in turn
pub thrusts_more : (points : List Point) (i : ℕ) (made more : List Thrust) (a : Thrust) →
    i < length points → place_of a ≡ get_or points i origin → more ≡ made ++ a ∷ [] →
    map place_of made ≡ take i points → map place_of more ≡ take (i + 1) points
thrusts_more points i made more a there here is so_far =
    ap (map place_of) is ∙ map-append place_of made (a ∷ [])
    ∙ ap₂ (λ (l : List Point) (p : Point). l ++ p ∷ []) so_far here
    ∙ sym (take_more points i origin there)

-- ---- what the outcomes tell

pub holds_where_feasible : (question : Question) → IsOneEach question → (outcome : Outcome) →
    IsValid question outcome → IsHolds outcome ↔ IsFeasible question
holds_where_feasible question one_each (Holds choice q thrusts) valid = (
  λ holds. valid_shows question one_each (Holds choice q thrusts) valid,
  λ feasible. tt,
)
holds_where_feasible question one_each (Lost cuts) valid = (
  λ none. absurd none,
  λ feasible. absurd (valid_shows question one_each (Lost cuts) valid feasible),
)

pub lost_where_not : (question : Question) → IsOneEach question → (outcome : Outcome) →
    IsValid question outcome → IsLost outcome ↔ ¬ IsFeasible question
lost_where_not question one_each (Holds choice q thrusts) valid = (
  λ none. absurd none,
  λ not. absurd (not (valid_shows question one_each (Holds choice q thrusts) valid)),
)
lost_where_not question one_each (Lost cuts) valid = (
  λ lost. valid_shows question one_each (Lost cuts) valid,
  λ not. tt,
)
