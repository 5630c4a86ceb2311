-- The weighted points of a choice's exit give the part of the demand up to which its ray stays in
-- the sums.
use Rattle.std.proofs.Common.{◌≡◌, ◌∙◌, ℕ, suc, ◌<◌, ℤ, pos, ◌+ℤ◌, ◌*ℤ◌, ◌≤ℤ◌, ◌<ℤ◌, List, []}
use Rattle.std.proofs.Common.{◌∷◌, length, map, refl, sym, ap, ap₂, subst, arith}
use Rattle.std.proofs.lemmas.Int.{int_max_is}
use Rattle.std.proofs.lemmas.List.{length-map}
use Rattle.int_ring.proofs.Laws.{linear}
use Rattle.int_ring.proofs.Order.{cancel_left, cancel_lt_left}
use Rattle.int_ring.proofs.Ring.{ring, reads}
use Rattle.dp_num.specs.Fractions.{SameQuotient}
use Rattle.plant_model.specs.Lies.{LiesIn}
use Rattle.plant_model.specs.declared.thrust.Point.{Point}
use Rattle.plant_model.specs.declared.thrust.Thrust.{Thrust}
use Rattle.thrust_region.specs.Choices.{choice_of, choices_of}
use Rattle.wrench_geometry.specs.declared.vector.Vec3.{Vec3}
use Rattle.wrench_geometry.specs.Chosen.{images_of}
use Rattle.wrench_geometry.specs.Vectors.{scaled_by, sum_of, zero_vector}
use Rattle.wrench_geometry.proofs.Bounds.{same_vector}
use Rattle.exit_point.specs.declared.weights.ExitWeights.{ExitWeights}
use Rattle.exit_point.specs.Exits.{IsExit}
use Rattle.certificate.specs.Beside.{LieBelow}
use Rattle.certificate.specs.Outcomes.{EachStands, IsOneEach, Question, total_of}
use Rattle.certificate.specs.Sides.{place_of}
use Rattle.certificate.proofs.Choosing.{length-choice}
use Rattle.feasibility.specs.Lowest.{AreReduced, times}
use Rattle.feasibility.specs.Means.{means_beside}
use Rattle.feasibility.proofs.Means.{length-means, means_lie, total_of_means}
use Rattle.feasibility.proofs.Reached.{lie_divided, total_of_times}
use Rattle.thrust_allocation.specs.Allocations.{Gives}
use Rattle.allocator.specs.Reaches.{AreAtRest, denominator_of}
use Rattle.allocator.proofs.Resting.{means_over, total_at_rest}

-- thrusts that lie in their pieces at each place stand in them
stand_each : (pieces : List (List Point)) (fixed : List Point) (thrusts : List Thrust) (q : ℤ) →
    length fixed ≡ length pieces → length thrusts ≡ length pieces →
    LieBelow pieces fixed thrusts q (length pieces) →
    EachStands (λ piece a. LiesIn piece a q) q pieces fixed thrusts
stand_each [] [] [] q fixed_each one_each each = tt
stand_each [] (p ∷ fixed) thrusts q fixed_each one_each each = absurd (omega arith)
stand_each [] [] (a ∷ thrusts) q fixed_each one_each each = absurd (omega arith)
stand_each (piece ∷ pieces) [] thrusts q fixed_each one_each each = absurd (omega arith)
stand_each (piece ∷ pieces) (p ∷ fixed) [] q fixed_each one_each each = absurd (omega arith)
stand_each (piece ∷ pieces) (p ∷ fixed) (a ∷ thrusts) q fixed_each one_each each = (
  each 0 (omega arith),
  stand_each pieces fixed thrusts q (omega arith) (omega arith)
      (λ i below. each (suc i) (omega arith)),
)

-- thrusts that g times are t times the demand, over m that is g times r
part_of_demand : (g r m t top bottom : ℤ) (v d : Vec3) → pos 1 ≤ℤ g → m ≡ g *ℤ r →
    top *ℤ m ≡ t *ℤ bottom → scaled_by g v ≡ scaled_by t d →
    scaled_by bottom v ≡ scaled_by (r *ℤ top) d
part_of_demand g r m t top bottom v d from_1 is_m quotient same = same_vector
    (along v.x d.x (ap (λ (a : Vec3). a.x) same)) (along v.y d.y (ap (λ (a : Vec3). a.y) same))
    (along v.z d.z (ap (λ (a : Vec3). a.z) same))
  where
    along : (a b : ℤ) → g *ℤ a ≡ t *ℤ b → bottom *ℤ a ≡ r *ℤ top *ℤ b
    along a b e = cancel_left (bottom *ℤ a) (r *ℤ top *ℤ b) g (omega (arith, linear))
        (ring (g ∷ bottom ∷ a ∷ []) (search reads depth 40) refl
        ∙ ap (λ (z : ℤ). bottom *ℤ z) e
        ∙ turned ∙ ap (λ (z : ℤ). z *ℤ b) (sym quotient)
        ∙ ap (λ (z : ℤ). top *ℤ z *ℤ b) is_m ∙ together)
      where
        turned : bottom *ℤ (t *ℤ b) ≡ t *ℤ bottom *ℤ b
        turned = ring (bottom ∷ t ∷ b ∷ []) (search reads depth 40) refl

        together : top *ℤ (g *ℤ r) *ℤ b ≡ g *ℤ (r *ℤ top *ℤ b)
        together = ring (top ∷ g ∷ r ∷ b ∷ []) (search reads depth 40) refl

nothing_more : (t m : ℤ) (d : Vec3) →
    sum_of (scaled_by t d) (scaled_by m zero_vector) ≡ scaled_by t d
nothing_more t m d = same_vector (along d.x) (along d.y) (along d.z)
  where
    along : (a : ℤ) → t *ℤ a +ℤ m *ℤ pos 0 ≡ t *ℤ a
    along a = ring (t ∷ m ∷ a ∷ []) (search reads depth 40) refl

module _ (question : Question) (choice : ℕ) (exit : ExitWeights) (top bottom r : ℤ)
    (one_each : IsOneEach question) (rest : AreAtRest question.fixed)
    (there : choice < choices_of question.regions)
    (exits : IsExit (images_of question.levers (choice_of question.regions choice)) question.demand
    exit) (same : SameQuotient top bottom exit.t (denominator_of exit)) where
  of_choice : (lowest : List Thrust) →
      AreReduced (denominator_of exit) (means_beside exit.weights.items
      (choice_of question.regions choice) (denominator_of exit) question.fixed) r lowest →
      Gives question choice top bottom r lowest
  of_choice lowest reduced =
      let q = exit.q in
      let m = denominator_of exit in
      let g = reduced.factor in
      let levers = question.levers in
      let rows = exit.weights.items in
      let pieces = choice_of question.regions choice in
      let fixed = question.fixed in
      let means = means_beside rows pieces m fixed in
      let q_from_1 = exits.q_from_1 in
      let enough : q ≤ℤ m = omega (arith, linear, int_max_is) in
      let piece_each : length pieces ≡ length levers =
      length-choice question.regions choice there ∙ one_each.regions in
      let fixed_each = one_each.fixed in
      let long : length lowest ≡ length levers =
      sym (length-map lowest (times g)) ∙ sym (ap length reduced.multiples)
      ∙ length-means q m levers rows pieces fixed piece_each fixed_each exits.weights in
      let lie : LieBelow pieces fixed lowest r (length levers) =
      lie_divided pieces fixed g r m lowest means (length levers) reduced.from_1
      reduced.denominator reduced.multiples (omega (arith, long))
      (means_lie q m levers rows pieces fixed enough piece_each fixed_each exits.weights) in
      let whole : total_of levers (map place_of means) ≡ scaled_by exit.t question.demand =
      total_of_means q m levers rows pieces fixed piece_each fixed_each exits.weights
      ∙ ap₂ sum_of exits.meets (ap (scaled_by m) (total_at_rest levers fixed rest))
      ∙ nothing_more exit.t m question.demand in
      record {
        from_1 = above_0 g r m reduced.from_1 reduced.denominator
            (omega (arith, linear, q_from_1, enough));
        one_each = long;
        lie = stand_each pieces fixed lowest r (fixed_each ∙ sym piece_each) (long ∙ sym piece_each)
            (λ i below. lie i (omega (arith, piece_each)));
        sum = part_of_demand g r m exit.t top bottom (total_of levers (map place_of lowest))
            question.demand reduced.from_1 reduced.denominator same
            (sym (total_of_times g levers lowest)
            ∙ ap (λ (l : List Thrust). total_of levers (map place_of l)) (sym reduced.multiples)
            ∙ whole);
      }
    where
      above_0 : (g r m : ℤ) → pos 1 ≤ℤ g → m ≡ g *ℤ r → pos 1 ≤ℤ m → pos 1 ≤ℤ r
      above_0 g r m h is k =
          let none : g *ℤ pos 0 ≡ pos 0 = ring (g ∷ []) (search reads depth 40) refl in
          let low : pos 0 <ℤ r = cancel_lt_left (pos 0) r g (omega (arith, linear))
          (omega (arith, linear, none, is)) in
          omega (arith, linear)

  pub shares_give : (pieces : List (List Point)) (fixed : List Point) (lowest : List Thrust) →
      pieces ≡ choice_of question.regions choice → fixed ≡ question.fixed →
      AreReduced (denominator_of exit) (means_beside exit.weights.items pieces exit.t fixed) r
      lowest → Gives question choice top bottom r lowest
  shares_give pieces fixed lowest chosen same_fixed reduced =
      let rows = exit.weights.items in
      let m = denominator_of exit in
      of_choice lowest (subst (λ (l : List Thrust). AreReduced m l r lowest)
      (ap₂ (λ (p : List (List Point)) (f : List Point). means_beside rows p exit.t f) chosen
      same_fixed
      ∙ means_over rows (choice_of question.regions choice) exit.t m question.fixed rest) reduced)
