-- The weights and the least cut of a choice's exit show the greatest part of a demand that the choice
-- can give.
use Rattle.std.proofs.Common.{◌≡◌, ◌∙◌, ℕ, suc, ◌<◌, ℤ, pos, ◌+ℤ◌, ◌*ℤ◌, ◌≤ℤ◌, List, [], ◌∷◌}
use Rattle.std.proofs.Common.{length, map, refl, sym, ap, ap₂, subst, arith}
use Rattle.std.proofs.lemmas.Int.{ints}
use Rattle.int_ring.proofs.Laws.{linear}
use Rattle.int_ring.proofs.Order.{cancel_le_left, mul_le_left, mul_le_right, nonneg_of_mul_nonneg}
use Rattle.int_ring.proofs.Ring.{ring, reads}
use Rattle.dp_num.specs.Fractions.{SameQuotient}
use Rattle.plant_model.specs.Lies.{LiesIn}
use Rattle.plant_model.specs.Rings.{origin}
use Rattle.plant_model.specs.declared.thrust.Point.{Point}
use Rattle.plant_model.specs.declared.thrust.Thrust.{Thrust}
use Rattle.thrust_region.specs.Choices.{choice_of, choices_of}
use Rattle.wrench_geometry.specs.declared.vector.Vec3.{Vec3}
use Rattle.wrench_geometry.specs.Chosen.{images_of}
use Rattle.wrench_geometry.specs.Vectors.{dot_of, scaled_by, sum_of, support_of, zero_vector}
use Rattle.wrench_geometry.specs.Wrenches.{image_of}
use Rattle.wrench_geometry.proofs.Bounds.{same_vector}
use Rattle.separation.proofs.Supports.{support_from_0}
use Rattle.exit_point.specs.declared.weights.ExitWeights.{ExitWeights}
use Rattle.exit_point.specs.Exits.{IsExit}
use Rattle.certificate.specs.Beside.{LieBelow}
use Rattle.certificate.specs.Outcomes.{EachStands, IsOneEach, Question, total_of}
use Rattle.certificate.specs.Sides.{place_of}
use Rattle.certificate.proofs.Choosing.{length-choice}
use Rattle.certificate.proofs.Duality.{all_at_most}
use Rattle.feasibility.specs.Means.{means_beside}
use Rattle.feasibility.proofs.Means.{length-means, means_lie, total_of_means}
use Rattle.thrust_allocation.specs.Allocations.{CanGive}
use Rattle.capability.specs.Reserves.{AreAtRest, IsMostIn}

-- ---- thrusts beside fixed ones that are zero

no_image : (lever : Point) → image_of lever origin ≡ zero_vector
no_image lever = same_vector refl refl (ring (lever.x ∷ lever.y ∷ []) (search reads depth 40) refl)

pub total_at_rest : (levers fixed : List Point) → AreAtRest fixed →
    total_of levers fixed ≡ zero_vector
total_at_rest [] fixed rest = refl
total_at_rest (lever ∷ levers) [] rest = refl
total_at_rest (lever ∷ levers) (p ∷ fixed) rest =
    ap₂ sum_of (ap (image_of lever) rest.0 ∙ no_image lever) (total_at_rest levers fixed rest.1)

-- thrusts that lie in their pieces at each place stand in them
stand_each : (pieces : List (List Point)) (fixed : List Point) (thrusts : List Thrust) (q : ℤ) →
    length fixed ≡ length pieces → length thrusts ≡ length pieces →
    LieBelow pieces fixed thrusts q (length pieces) →
    EachStands (λ piece a. LiesIn piece a q) q pieces fixed thrusts
stand_each [] [] [] q fixed_each one_each each = tt
stand_each [] (p ∷ fixed) thrusts q fixed_each one_each each = absurd (omega arith)
stand_each [] [] (a ∷ thrusts) q fixed_each one_each each = absurd (omega arith)
stand_each (piece ∷ pieces) [] thrusts q fixed_each one_each each = absurd (omega arith)
stand_each (piece ∷ pieces) (p ∷ fixed) [] q fixed_each one_each each = absurd (omega arith)
stand_each (piece ∷ pieces) (p ∷ fixed) (a ∷ thrusts) q fixed_each one_each each = (
  each 0 (omega arith),
  stand_each pieces fixed thrusts q (omega arith) (omega arith)
      (λ i below. each (suc i) (omega arith)),
)

-- ---- the exit

pub exit_from_0 : (lists : List (List Vec3)) (d : Vec3) (exit : ExitWeights) →
    IsExit lists d exit → pos 0 ≤ℤ exit.t
exit_from_0 lists d exit exits =
    let low : pos 0 ≤ℤ exit.cut.top =
    subst (λ (z : ℤ). pos 0 ≤ℤ z) (sym exits.cut.top) (support_from_0 lists exit.cut.w) in
    let ahead = exits.cut.bottom_from_1 in
    let from_1 = exits.q_from_1 in
    let product = mul_le_left (pos 0) exit.cut.top exit.q low (omega (arith, linear, from_1)) in
    let none : exit.q *ℤ pos 0 ≡ pos 0 = ring (exit.q ∷ []) (search reads depth 40) refl in
    let same = exits.same_quotient in
    let turned : exit.cut.bottom *ℤ exit.t ≡ exit.t *ℤ exit.cut.bottom =
    ring (exit.t ∷ exit.cut.bottom ∷ []) (search reads depth 40) refl in
    nonneg_of_mul_nonneg exit.cut.bottom exit.t (omega (arith, linear, ahead))
    (omega (arith, linear, product, none, same, turned))

-- a part more/rest of a demand, given by thrusts over q whose product with the cut's direction is z
lets_through : (z s q more rest b : ℤ) → pos 1 ≤ℤ q → pos 1 ≤ℤ rest → z ≤ℤ (s *ℤ q) →
    rest *ℤ z ≡ q *ℤ more *ℤ b → (more *ℤ b) ≤ℤ (rest *ℤ s)
lets_through z s q more rest b from_1 some most same =
    let grown = mul_le_left z (s *ℤ q) rest most (omega (arith, linear)) in
    let e : rest *ℤ (s *ℤ q) ≡ q *ℤ (rest *ℤ s) =
    ring (rest ∷ s ∷ q ∷ []) (search reads depth 40) refl in
    let f : q *ℤ more *ℤ b ≡ q *ℤ (more *ℤ b) =
    ring (q ∷ more ∷ b ∷ []) (search reads depth 40) refl in
    cancel_le_left (more *ℤ b) (rest *ℤ s) q (omega (arith, linear))
    (omega (arith, linear, grown, same, e, f))

-- is no more than the quotient of the support and the product of the demand
up_to_exit : (t q s b more rest : ℤ) → pos 1 ≤ℤ b → pos 0 ≤ℤ q → t *ℤ b ≡ q *ℤ s →
    (more *ℤ b) ≤ℤ (rest *ℤ s) → (more *ℤ q) ≤ℤ (rest *ℤ t)
up_to_exit t q s b more rest from_1 from_0 same most =
    let grown = mul_le_right (more *ℤ b) (rest *ℤ s) q most from_0 in
    let e : rest *ℤ s *ℤ q ≡ rest *ℤ (q *ℤ s) =
    ring (rest ∷ s ∷ q ∷ []) (search reads depth 40) refl in
    let f : rest *ℤ (t *ℤ b) ≡ b *ℤ (rest *ℤ t) =
    ring (rest ∷ t ∷ b ∷ []) (search reads depth 40) refl in
    let g : more *ℤ b *ℤ q ≡ b *ℤ (more *ℤ q) =
    ring (more ∷ b ∷ q ∷ []) (search reads depth 40) refl in
    let h : rest *ℤ (q *ℤ s) ≡ rest *ℤ (t *ℤ b) = ap (λ (z : ℤ). rest *ℤ z) (sym same) in
    cancel_le_left (more *ℤ q) (rest *ℤ t) b (omega (arith, linear))
    (omega (arith, linear, grown, e, f, g, h))

-- nor than that quotient in other terms
up_to_part : (t q top bottom more rest : ℤ) → pos 1 ≤ℤ q → pos 0 ≤ℤ bottom →
    top *ℤ q ≡ t *ℤ bottom → (more *ℤ q) ≤ℤ (rest *ℤ t) → (more *ℤ bottom) ≤ℤ (top *ℤ rest)
up_to_part t q top bottom more rest from_1 from_0 same most =
    let grown = mul_le_right (more *ℤ q) (rest *ℤ t) bottom most from_0 in
    let e : more *ℤ q *ℤ bottom ≡ q *ℤ (more *ℤ bottom) =
    ring (more ∷ q ∷ bottom ∷ []) (search reads depth 40) refl in
    let f : rest *ℤ t *ℤ bottom ≡ rest *ℤ (t *ℤ bottom) =
    ring (rest ∷ t ∷ bottom ∷ []) (search reads depth 40) refl in
    let g : rest *ℤ (top *ℤ q) ≡ q *ℤ (top *ℤ rest) =
    ring (rest ∷ top ∷ q ∷ []) (search reads depth 40) refl in
    let h : rest *ℤ (t *ℤ bottom) ≡ rest *ℤ (top *ℤ q) = ap (λ (z : ℤ). rest *ℤ z) (sym same) in
    cancel_le_left (more *ℤ bottom) (top *ℤ rest) q (omega (arith, linear))
    (omega (arith, linear, grown, e, f, g, h))

-- thrusts over q that are t times the demand give the part
part_of_demand : (q t top bottom : ℤ) (v d : Vec3) → top *ℤ q ≡ t *ℤ bottom → v ≡ scaled_by t d →
    scaled_by bottom v ≡ scaled_by (q *ℤ top) d
part_of_demand q t top bottom v d quotient same = same_vector
    (along v.x d.x (ap (λ (a : Vec3). a.x) same)) (along v.y d.y (ap (λ (a : Vec3). a.y) same))
    (along v.z d.z (ap (λ (a : Vec3). a.z) same))
  where
    along : (a b : ℤ) → a ≡ t *ℤ b → bottom *ℤ a ≡ q *ℤ top *ℤ b
    along a b e =
        ap (λ (z : ℤ). bottom *ℤ z) e ∙ turned ∙ ap (λ (z : ℤ). z *ℤ b) (sym quotient) ∙ together
      where
        turned : bottom *ℤ (t *ℤ b) ≡ t *ℤ bottom *ℤ b
        turned = ring (bottom ∷ t ∷ b ∷ []) (search reads depth 40) refl

        together : top *ℤ q *ℤ b ≡ q *ℤ top *ℤ b
        together = ring (top ∷ q ∷ b ∷ []) (search reads depth 40) refl

nothing_more : (t m : ℤ) (d : Vec3) →
    sum_of (scaled_by t d) (scaled_by m zero_vector) ≡ scaled_by t d
nothing_more t m d = same_vector (along d.x) (along d.y) (along d.z)
  where
    along : (a : ℤ) → t *ℤ a +ℤ m *ℤ pos 0 ≡ t *ℤ a
    along a = ring (t ∷ m ∷ a ∷ []) (search reads depth 40) refl

module _ (question : Question) (choice : ℕ) (exit : ExitWeights) (top bottom : ℤ)
    (one_each : IsOneEach question) (at_rest : AreAtRest question.fixed)
    (there : choice < choices_of question.regions)
    (exits : IsExit (images_of question.levers (choice_of question.regions choice)) question.demand
    exit) (same : SameQuotient top bottom exit.t exit.q) where
  piece_each : length (choice_of question.regions choice) ≡ length question.levers
  piece_each = length-choice question.regions choice there ∙ one_each.regions

  pub exit_gives : CanGive question choice top bottom
  exit_gives =
      let q = exit.q in
      let levers = question.levers in
      let rows = exit.weights.items in
      let pieces = choice_of question.regions choice in
      let fixed = question.fixed in
      let long : length (means_beside rows pieces q fixed) ≡ length levers =
      length-means q q levers rows pieces fixed piece_each one_each.fixed exits.weights in
      let lie : LieBelow pieces fixed (means_beside rows pieces q fixed) q (length levers) =
      means_lie q q levers rows pieces fixed (omega (arith, linear)) piece_each one_each.fixed
      exits.weights in
      let whole : total_of levers (map place_of (means_beside rows pieces q fixed))
      ≡ scaled_by exit.t question.demand =
      total_of_means q q levers rows pieces fixed piece_each one_each.fixed exits.weights
      ∙ ap₂ sum_of exits.meets (ap (scaled_by q) (total_at_rest levers fixed at_rest))
      ∙ nothing_more exit.t q question.demand in
      record {
        q = q;
        thrusts = means_beside rows pieces q fixed;
        gives = record {
          from_1 = exits.q_from_1;
          one_each = long;
          lie = stand_each pieces fixed (means_beside rows pieces q fixed) q
              (one_each.fixed ∙ sym piece_each) (long ∙ sym piece_each)
              (λ i below. lie i (omega (arith, piece_each, below)));
          sum = part_of_demand q exit.t top bottom
              (total_of levers (map place_of (means_beside rows pieces q fixed))) question.demand
              same whole;
        };
      }

  pub exit_is_most : pos 1 ≤ℤ bottom → IsMostIn question choice top bottom
  exit_is_most bottom_from_1 more rest some less can =
      let levers = question.levers in
      let pieces = choice_of question.regions choice in
      let lists = images_of levers pieces in
      let d = question.demand in
      let w = exit.cut.w in
      let gives = can.gives in
      let q_from_1 = exits.q_from_1 in
      let total = total_of levers (map place_of can.thrusts) in
      let most : dot_of w total ≤ℤ (support_of lists w *ℤ can.q) =
      subst (λ (z : ℤ). dot_of w total ≤ℤ (z *ℤ can.q)) beside
      (all_at_most w can.q levers pieces question.fixed can.thrusts piece_each gives.lie) in
      let sum : rest *ℤ dot_of w total ≡ can.q *ℤ more *ℤ dot_of w d =
      sym (dot_scaled rest total) ∙ ap (dot_of w) gives.sum ∙ dot_scaled (can.q *ℤ more) d in
      let through : (more *ℤ dot_of w d) ≤ℤ (rest *ℤ support_of lists w) =
      lets_through (dot_of w total) (support_of lists w) can.q more rest (dot_of w d) gives.from_1
      some most sum in
      let quotient : exit.t *ℤ dot_of w d ≡ exit.q *ℤ support_of lists w =
      ap (λ (z : ℤ). exit.t *ℤ z) (sym exits.cut.bottom) ∙ exits.same_quotient
      ∙ ap (λ (z : ℤ). exit.q *ℤ z) exits.cut.top in
      let ahead : pos 1 ≤ℤ dot_of w d =
      subst (λ (z : ℤ). pos 1 ≤ℤ z) exits.cut.bottom exits.cut.bottom_from_1 in
      let to_exit = up_to_exit exit.t exit.q (support_of lists w) (dot_of w d) more rest ahead
      (omega (arith, linear, q_from_1)) quotient through in
      let none = up_to_part exit.t exit.q top bottom more rest q_from_1
      (omega (arith, linear, bottom_from_1)) same to_exit in
      omega (arith, linear, none, less)
    where
      dot_scaled : (k : ℤ) (v : Vec3) →
          dot_of exit.cut.w (scaled_by k v) ≡ k *ℤ dot_of exit.cut.w v
      dot_scaled k v = ring
          (k ∷ exit.cut.w.x ∷ exit.cut.w.y ∷ exit.cut.w.z ∷ v.x ∷ v.y ∷ v.z ∷ [])
          (search reads depth 40) refl

      no_product : dot_of exit.cut.w zero_vector ≡ pos 0
      no_product =
          ring (exit.cut.w.x ∷ exit.cut.w.y ∷ exit.cut.w.z ∷ []) (search reads depth 40) refl

      beside : support_of (images_of question.levers (choice_of question.regions choice)) exit.cut.w
          +ℤ dot_of exit.cut.w (total_of question.levers question.fixed)
          ≡ support_of (images_of question.levers (choice_of question.regions choice)) exit.cut.w
      beside = plus_nothing _ _ (ap (dot_of exit.cut.w)
          (total_at_rest question.levers question.fixed at_rest) ∙ no_product)
        where
          plus_nothing : (a b : ℤ) → b ≡ pos 0 → a +ℤ b ≡ a
          plus_nothing a b e = omega (arith, ints)
