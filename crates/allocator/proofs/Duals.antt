-- No part of a demand that a choice can give is greater than that up to which the demand's ray
-- stays in the choice's sums.
use Rattle.std.proofs.Common.{◌≡◌, ◌∙◌, ℕ, ◌<◌, ℤ, pos, ◌+ℤ◌, ◌*ℤ◌, ◌≤ℤ◌, ◌<ℤ◌, List, [], ◌∷◌}
use Rattle.std.proofs.Common.{map, refl, sym, ap, subst, SFits, ◌^◌, ◌-◌, arith}
use Rattle.std.specs.Int.{int_max, w128}
use Rattle.std.proofs.lemmas.Int.{ints, int_max_is, by_lt_z}
use Rattle.int_ring.proofs.Intervals.{known_fits}
use Rattle.int_ring.proofs.Laws.{linear}
use Rattle.int_ring.proofs.Order.{cancel_le_left, mul_le_left, mul_le_right, nonneg_of_mul_nonneg}
use Rattle.int_ring.proofs.Ring.{ring, reads}
use Rattle.dp_num.specs.Fractions.{SameQuotient}
use Rattle.dp_num.specs.Quotients.{IsFloor}
use Rattle.thrust_region.specs.Choices.{choice_of, choices_of}
use Rattle.wrench_geometry.specs.declared.vector.Vec3.{Vec3}
use Rattle.wrench_geometry.specs.Chosen.{images_of}
use Rattle.wrench_geometry.specs.Vectors.{dot_of, scaled_by, support_of, zero_vector}
use Rattle.separation.proofs.Supports.{support_from_0}
use Rattle.exit_point.specs.declared.weights.ExitWeights.{ExitWeights}
use Rattle.exit_point.specs.Exits.{IsExit}
use Rattle.certificate.specs.Outcomes.{IsOneEach, Question, total_of}
use Rattle.certificate.specs.Sides.{place_of}
use Rattle.certificate.proofs.Choosing.{length-choice}
use Rattle.certificate.proofs.Duality.{all_at_most}
use Rattle.thrust_allocation.specs.Allocations.{CanGive, IsPart}
use Rattle.allocator.specs.Reaches.{AreAtRest, IsGreatestIn, denominator_of}
use Rattle.allocator.proofs.Resting.{total_at_rest}

-- ---- the parts that the cut lets through

-- a part more/rest of a demand, given by thrusts over q whose product with the cut's direction is z
lets_through : (z s q more rest b : ℤ) → pos 1 ≤ℤ q → pos 1 ≤ℤ rest → z ≤ℤ (s *ℤ q) →
    rest *ℤ z ≡ q *ℤ more *ℤ b → (more *ℤ b) ≤ℤ (rest *ℤ s)
lets_through z s q more rest b from_1 some most same =
    let grown = mul_le_left z (s *ℤ q) rest most (omega (arith, linear)) in
    let e : rest *ℤ (s *ℤ q) ≡ q *ℤ (rest *ℤ s) =
    ring (rest ∷ s ∷ q ∷ []) (search reads depth 40) refl in
    let f : q *ℤ more *ℤ b ≡ q *ℤ (more *ℤ b) =
    ring (q ∷ more ∷ b ∷ []) (search reads depth 40) refl in
    cancel_le_left (more *ℤ b) (rest *ℤ s) q (omega (arith, linear))
    (omega (arith, linear, grown, same, e, f))

-- and with the quotient t/q of the support and the product of the demand
up_to_exit : (t q s b more rest : ℤ) → pos 1 ≤ℤ b → pos 0 ≤ℤ q → t *ℤ b ≡ q *ℤ s →
    (more *ℤ b) ≤ℤ (rest *ℤ s) → (more *ℤ q) ≤ℤ (rest *ℤ t)
up_to_exit t q s b more rest from_1 from_0 same most =
    let grown = mul_le_right (more *ℤ b) (rest *ℤ s) q most from_0 in
    let e : rest *ℤ s *ℤ q ≡ rest *ℤ (q *ℤ s) =
    ring (rest ∷ s ∷ q ∷ []) (search reads depth 40) refl in
    let f : rest *ℤ (t *ℤ b) ≡ b *ℤ (rest *ℤ t) =
    ring (rest ∷ t ∷ b ∷ []) (search reads depth 40) refl in
    let g : more *ℤ b *ℤ q ≡ b *ℤ (more *ℤ q) =
    ring (more ∷ b ∷ q ∷ []) (search reads depth 40) refl in
    let h : rest *ℤ (q *ℤ s) ≡ rest *ℤ (t *ℤ b) = ap (λ (z : ℤ). rest *ℤ z) (sym same) in
    cancel_le_left (more *ℤ q) (rest *ℤ t) b (omega (arith, linear))
    (omega (arith, linear, grown, e, f, g, h))

-- no part is more than the whole
up_to_whole : (t q more rest : ℤ) → pos 0 ≤ℤ t → more ≤ℤ rest → (more *ℤ q) ≤ℤ (rest *ℤ t) →
    (more *ℤ int_max q t) ≤ℤ (rest *ℤ t)
up_to_whole t q more rest from_0 part most = by_lt_z q t
    (λ h. subst (λ (m : ℤ). (more *ℤ m) ≤ℤ (rest *ℤ t)) (greater h)
    (mul_le_right more rest t part from_0))
    (λ h. subst (λ (m : ℤ). (more *ℤ m) ≤ℤ (rest *ℤ t)) (lesser h) most)
  where
    greater : q <ℤ t → t ≡ int_max q t
    greater h = omega (arith, linear, int_max_is)

    lesser : t ≤ℤ q → q ≡ int_max q t
    lesser h = omega (arith, linear, int_max_is)

-- so none is more than the quotient of t and the greater of q and t
no_greater : (t m top bottom more rest : ℤ) → pos 1 ≤ℤ m → pos 0 ≤ℤ bottom →
    top *ℤ m ≡ t *ℤ bottom → (more *ℤ m) ≤ℤ (rest *ℤ t) → (more *ℤ bottom) ≤ℤ (top *ℤ rest)
no_greater t m top bottom more rest from_1 from_0 same most =
    let grown = mul_le_right (more *ℤ m) (rest *ℤ t) bottom most from_0 in
    let e : more *ℤ m *ℤ bottom ≡ m *ℤ (more *ℤ bottom) =
    ring (more ∷ m ∷ bottom ∷ []) (search reads depth 40) refl in
    let f : rest *ℤ t *ℤ bottom ≡ rest *ℤ (t *ℤ bottom) =
    ring (rest ∷ t ∷ bottom ∷ []) (search reads depth 40) refl in
    let g : rest *ℤ (top *ℤ m) ≡ m *ℤ (top *ℤ rest) =
    ring (rest ∷ top ∷ m ∷ []) (search reads depth 40) refl in
    let h : rest *ℤ (t *ℤ bottom) ≡ rest *ℤ (top *ℤ m) = ap (λ (z : ℤ). rest *ℤ z) (sym same) in
    cancel_le_left (more *ℤ bottom) (top *ℤ rest) m (omega (arith, linear))
    (omega (arith, linear, grown, e, f, g, h))

-- ---- the exit

pub exit_from_0 : (lists : List (List Vec3)) (d : Vec3) (exit : ExitWeights) →
    IsExit lists d exit → pos 0 ≤ℤ exit.t
exit_from_0 lists d exit exits =
    let low : pos 0 ≤ℤ exit.cut.top =
    subst (λ (z : ℤ). pos 0 ≤ℤ z) (sym exits.cut.top) (support_from_0 lists exit.cut.w) in
    let ahead = exits.cut.bottom_from_1 in
    let from_1 = exits.q_from_1 in
    let product = mul_le_left (pos 0) exit.cut.top exit.q low (omega (arith, linear, from_1)) in
    let none : exit.q *ℤ pos 0 ≡ pos 0 = ring (exit.q ∷ []) (search reads depth 40) refl in
    let same = exits.same_quotient in
    let turned : exit.cut.bottom *ℤ exit.t ≡ exit.t *ℤ exit.cut.bottom =
    ring (exit.t ∷ exit.cut.bottom ∷ []) (search reads depth 40) refl in
    nonneg_of_mul_nonneg exit.cut.bottom exit.t (omega (arith, linear, ahead))
    (omega (arith, linear, product, none, same, turned))

-- along any direction no part of the demand is farther than the support of the choice
pub through_cut : (question : Question) (choice : ℕ) (w : Vec3) → IsOneEach question →
    AreAtRest question.fixed → choice < choices_of question.regions → (more rest : ℤ) →
    pos 1 ≤ℤ rest → CanGive question choice more rest → (more *ℤ dot_of w question.demand)
    ≤ℤ (rest *ℤ support_of (images_of question.levers (choice_of question.regions choice)) w)
through_cut question choice w one_each at_rest there more rest some can =
    let levers = question.levers in
    let pieces = choice_of question.regions choice in
    let lists = images_of levers pieces in
    let d = question.demand in
    let gives = can.gives in
    let total = total_of levers (map place_of can.thrusts) in
    let most : dot_of w total ≤ℤ (support_of lists w *ℤ can.q) =
    subst (λ (z : ℤ). dot_of w total ≤ℤ (z *ℤ can.q)) beside
    (all_at_most w can.q levers pieces question.fixed can.thrusts
    (length-choice question.regions choice there ∙ one_each.regions) gives.lie) in
    let sum : rest *ℤ dot_of w total ≡ can.q *ℤ more *ℤ dot_of w d =
    sym (dot_scaled rest total) ∙ ap (dot_of w) gives.sum ∙ dot_scaled (can.q *ℤ more) d in
    lets_through (dot_of w total) (support_of lists w) can.q more rest (dot_of w d) gives.from_1
    some most sum
  where
    dot_scaled : (k : ℤ) (v : Vec3) → dot_of w (scaled_by k v) ≡ k *ℤ dot_of w v
    dot_scaled k v = ring (k ∷ w.x ∷ w.y ∷ w.z ∷ v.x ∷ v.y ∷ v.z ∷ []) (search reads depth 40) refl

    no_product : dot_of w zero_vector ≡ pos 0
    no_product = ring (w.x ∷ w.y ∷ w.z ∷ []) (search reads depth 40) refl

    beside : support_of (images_of question.levers (choice_of question.regions choice)) w
        +ℤ dot_of w (total_of question.levers question.fixed)
        ≡ support_of (images_of question.levers (choice_of question.regions choice)) w
    beside = plus_nothing _ _ (ap (dot_of w)
        (total_at_rest question.levers question.fixed at_rest) ∙ no_product)
      where
        plus_nothing : (a b : ℤ) → b ≡ pos 0 → a +ℤ b ≡ a
        plus_nothing a b e = omega (arith, ints)

pub greatest_in : (question : Question) (choice : ℕ) (exit : ExitWeights) (top bottom : ℤ) →
    IsOneEach question → AreAtRest question.fixed → choice < choices_of question.regions →
    IsExit (images_of question.levers (choice_of question.regions choice)) question.demand exit →
    pos 1 ≤ℤ bottom → SameQuotient top bottom exit.t (denominator_of exit) →
    IsGreatestIn question choice top bottom
greatest_in question choice exit top bottom one_each at_rest there exits some same more rest part
    less can =
    let lists = images_of question.levers (choice_of question.regions choice) in
    let d = question.demand in
    let w = exit.cut.w in
    let q_from_1 = exits.q_from_1 in
    let part_to_1 = part.to_1 in
    let through = through_cut question choice w one_each at_rest there more rest
    part.bottom_from_1 can in
    let quotient : exit.t *ℤ dot_of w d ≡ exit.q *ℤ support_of lists w =
    ap (λ (z : ℤ). exit.t *ℤ z) (sym exits.cut.bottom) ∙ exits.same_quotient
    ∙ ap (λ (z : ℤ). exit.q *ℤ z) exits.cut.top in
    let ahead : pos 1 ≤ℤ dot_of w d =
    subst (λ (z : ℤ). pos 1 ≤ℤ z) exits.cut.bottom exits.cut.bottom_from_1 in
    let to_exit = up_to_exit exit.t exit.q (support_of lists w) (dot_of w d) more rest ahead
    (omega (arith, linear, q_from_1)) quotient through in
    let to_whole = up_to_whole exit.t exit.q more rest (exit_from_0 lists d exit exits) part_to_1
    to_exit in
    let none = no_greater exit.t (denominator_of exit) top bottom more rest
    (from_1_of exit.q exit.t q_from_1) (omega (arith, linear, some)) same to_whole in
    omega (arith, linear, none, less)
  where
    from_1_of : (q t : ℤ) → pos 1 ≤ℤ q → pos 1 ≤ℤ int_max q t
    from_1_of q t h = omega (arith, linear, int_max_is)

-- where the support of a direction isn't past a part of the demand, no greater part can be given
pub greatest_within : (question : Question) (choice : ℕ) (w : Vec3) (top bottom : ℤ) →
    IsOneEach question → AreAtRest question.fixed → choice < choices_of question.regions →
    pos 1 ≤ℤ bottom → pos 1 ≤ℤ dot_of w question.demand →
    (support_of (images_of question.levers (choice_of question.regions choice)) w *ℤ bottom)
    ≤ℤ (top *ℤ dot_of w question.demand) → IsGreatestIn question choice top bottom
greatest_within question choice w top bottom one_each at_rest there some ahead most more rest part
    less can =
    past (support_of (images_of question.levers (choice_of question.regions choice)) w)
    (dot_of w question.demand) more rest part.bottom_from_1 ahead
    (through_cut question choice w one_each at_rest there more rest part.bottom_from_1 can) most less
  where
    past : (s b more rest : ℤ) → pos 1 ≤ℤ rest → pos 1 ≤ℤ b → (more *ℤ b) ≤ℤ (rest *ℤ s) →
        (s *ℤ bottom) ≤ℤ (top *ℤ b) → (top *ℤ rest) <ℤ (more *ℤ bottom) → ⊥
    past s b more rest rest_some b_some through most less =
        let grown = mul_le_right (more *ℤ b) (rest *ℤ s) bottom through (omega (arith, linear, some))
        in
        let scaled = mul_le_left (s *ℤ bottom) (top *ℤ b) rest most (omega (arith, linear)) in
        let e : more *ℤ b *ℤ bottom ≡ b *ℤ (more *ℤ bottom) =
        ring (more ∷ b ∷ bottom ∷ []) (search reads depth 40) refl in
        let f : rest *ℤ s *ℤ bottom ≡ rest *ℤ (s *ℤ bottom) =
        ring (rest ∷ s ∷ bottom ∷ []) (search reads depth 40) refl in
        let g : rest *ℤ (top *ℤ b) ≡ b *ℤ (top *ℤ rest) =
        ring (rest ∷ top ∷ b ∷ []) (search reads depth 40) refl in
        let none = cancel_le_left (more *ℤ bottom) (top *ℤ rest) b (omega (arith, linear))
        (omega (arith, linear, grown, scaled, e, f, g)) in
        omega (arith, linear, none, less)

-- a quotient that is held to 1 is a part
pub part_to_1 : (t m top bottom : ℤ) → pos 1 ≤ℤ m → pos 0 ≤ℤ bottom → t ≤ℤ m →
    top *ℤ m ≡ t *ℤ bottom → top ≤ℤ bottom
part_to_1 t m top bottom from_1 from_0 most same =
    let grown = mul_le_right t m bottom most from_0 in
    let e : top *ℤ m ≡ m *ℤ top = ring (top ∷ m ∷ []) (search reads depth 40) refl in
    cancel_le_left top bottom m (omega (arith, linear)) (omega (arith, linear, grown, same, e))

pub held_to_1 : (exit : ExitWeights) (top bottom : ℤ) → pos 1 ≤ℤ exit.q → pos 0 ≤ℤ top →
    pos 1 ≤ℤ bottom → SameQuotient top bottom exit.t (denominator_of exit) → IsPart top bottom
held_to_1 exit top bottom q_from_1 from_0 bottom_from_1 same = record {
  from_0 = from_0;
  to_1 = part_to_1 exit.t (denominator_of exit) top bottom (some exit.q exit.t q_from_1)
      (omega (arith, linear, bottom_from_1)) (most exit.q exit.t) same;
  bottom_from_1 = bottom_from_1;
}
  where
    some : (q t : ℤ) → pos 1 ≤ℤ q → pos 1 ≤ℤ int_max q t
    some q t h = omega (arith, linear, int_max_is)

    most : (q t : ℤ) → t ≤ℤ int_max q t
    most q t = omega (arith, linear, int_max_is)

-- ---- how far along a direction a part of the demand is

-- what is below one more than the floor is no more than the quotient
pub up_to_floor : (p b f : ℤ) → pos 1 ≤ℤ b → (f *ℤ b) ≤ℤ p → (s : ℤ) → s <ℤ (f +ℤ pos 1) →
    (s *ℤ b) ≤ℤ p
up_to_floor p b f some below s less =
    let grown = mul_le_right s f b (omega (arith, linear, less)) (omega (arith, linear)) in
    omega (arith, linear, grown, below)

pub floor_fits : (p b f : ℤ) → pos 1 ≤ℤ b → pos 0 ≤ℤ p → p ≤ℤ pos (2 ^ 126) → IsFloor p b f →
    SFits w128 (f +ℤ pos 1)
floor_fits p b f some low high floor =
    let none : pos 0 *ℤ b ≡ pos 0 = ring (b ∷ []) (search reads depth 40) refl in
    let from_0 = floor.greatest (pos 0) (omega (arith, linear, none, low)) in
    let grown = mul_le_left (pos 1) b f some from_0 in
    let one : f *ℤ pos 1 ≡ f = ring (f ∷ []) (search reads depth 40) refl in
    let below = floor.below in
    known_fits w128 (f +ℤ pos 1) (f +ℤ pos 1) (pos 0) (pos (2 ^ 127 - 1))
    (record {
      is = refl;
      from_low = omega (arith, linear, from_0);
      to_high = omega (arith, linear, grown, one, below, high);
    }) tt
