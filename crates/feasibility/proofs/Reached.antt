-- Where a choice meets a demand: thrusts in lowest terms, made of its exit weights, are valid.
use Rattle.std.proofs.Common.{◌≡◌, ◌∙◌, ℕ, ◌≤◌, ℤ, pos, ◌+ℤ◌, ◌-ℤ◌, ◌*ℤ◌, ◌≤ℤ◌, ◌<ℤ◌}
use Rattle.std.proofs.Common.{List, [], ◌∷◌, length, map, get_or, refl, sym, ap, ap₂, subst, arith}
use Rattle.std.proofs.lemmas.Int.{ints}
use Rattle.std.proofs.lemmas.List.{get_or-map, length-map}
use Rattle.int_ring.proofs.Laws.{linear}
use Rattle.int_ring.proofs.Order.{cancel_left, cancel_lt_left, mul_le_mul}
use Rattle.int_ring.proofs.Ring.{ring, reads}
use Rattle.plant_model.specs.Lies.{LiesIn}
use Rattle.plant_model.specs.Rings.{origin}
use Rattle.plant_model.specs.declared.thrust.Point.{Point}
use Rattle.plant_model.specs.declared.thrust.Thrust.{Thrust}
use Rattle.plant_model.specs.declared.thrust.Thrusts.{Thrusts}
use Rattle.thrust_region.specs.Choices.{choice_of}
use Rattle.wrench_geometry.specs.declared.vector.Vec3.{Vec3}
use Rattle.wrench_geometry.specs.Vectors.{difference_of, scaled_by, sum_of, zero_vector}
use Rattle.wrench_geometry.specs.Wrenches.{image_of}
use Rattle.wrench_geometry.proofs.Bounds.{same_vector}
use Rattle.exit_point.specs.declared.weights.ExitWeights.{ExitWeights}
use Rattle.certificate.specs.declared.outcome.Outcome.TheVariants.{Holds}
use Rattle.certificate.specs.Beside.{LieBelow}
use Rattle.certificate.specs.Outcomes.{IsValid, Question, no_thrust, total_of, without}
use Rattle.certificate.specs.Sides.{place_of}
use Rattle.certificate.proofs.Choosing.{length-choice}
use Rattle.certificate.proofs.Held.{holds_valid}
use Rattle.feasibility.specs.Lowest.{AreReduced, times}
use Rattle.feasibility.specs.Means.{means_beside}
use Rattle.feasibility.specs.Reached.{IsReached}
use Rattle.feasibility.proofs.Means.{length-means, means_lie, total_of_means}

-- ---- thrusts and their denominator, each a whole number of times as great

lies_divided : (points : List Point) (g r : ℤ) (f : Point) (a : Thrust) → pos 1 ≤ℤ g →
    LiesIn points (without (g *ℤ r) f (times g a)) (g *ℤ r) → LiesIn points (without r f a) r
lies_divided points g r f a from_1 lies =
    let k = lies.k in
    record {
      k = k *ℤ g;
      at_least_one = product_from_1 k g lies.at_least_one from_1;
      weights = lies.weights;
      origin_weight = lies.origin_weight;
      one_each = lies.one_each;
      whole = lies.whole ∙ ring (k ∷ g ∷ r ∷ []) (search reads depth 40) refl;
      x = lies.x ∙ ring (k ∷ g ∷ r ∷ a.x ∷ f.x ∷ []) (search reads depth 40) refl;
      y = lies.y ∙ ring (k ∷ g ∷ r ∷ a.y ∷ f.y ∷ []) (search reads depth 40) refl;
    }
  where
    product_from_1 : (a b : ℤ) → pos 1 ≤ℤ a → pos 1 ≤ℤ b → pos 1 ≤ℤ (a *ℤ b)
    product_from_1 a b h k =
        let low = mul_le_mul (pos 1) a (pos 1) b h k (omega (arith, ints)) (omega (arith, linear))
        in
        omega (arith, linear, ints)

pub lie_divided : (pieces : List (List Point)) (fixed : List Point) (g r t : ℤ)
    (lowest thrusts : List Thrust) (n : ℕ) →
    pos 1 ≤ℤ g → t ≡ g *ℤ r → thrusts ≡ map (times g) lowest → n ≤ length lowest →
    LieBelow pieces fixed thrusts t n → LieBelow pieces fixed lowest r n
lie_divided pieces fixed g r t lowest thrusts n from_1 is_t are few each i below =
    let piece = get_or pieces i [] in
    let f = get_or fixed i origin in
    let same : get_or thrusts i no_thrust ≡ times g (get_or lowest i no_thrust) =
    ap (λ (l : List Thrust). get_or l i no_thrust) are
    ∙ get_or-map (times g) lowest i no_thrust no_thrust (omega arith) in
    lies_divided piece g r f (get_or lowest i no_thrust) from_1
    (subst (λ (a : Thrust). LiesIn piece (without (g *ℤ r) f a) (g *ℤ r)) same
    (subst (λ (q : ℤ). LiesIn piece (without q f (get_or thrusts i no_thrust)) q) is_t
    (each i below)))

pub total_of_times : (g : ℤ) (levers : List Point) (thrusts : List Thrust) →
    total_of levers (map place_of (map (times g) thrusts)) ≡ scaled_by g
    (total_of levers (map place_of thrusts))
total_of_times g [] thrusts = nothing g
  where
    nothing : (g : ℤ) → zero_vector ≡ scaled_by g zero_vector
    nothing g = same_vector (ring (g ∷ []) (search reads depth 40) refl)
        (ring (g ∷ []) (search reads depth 40) refl) (ring (g ∷ []) (search reads depth 40) refl)
total_of_times g (lever ∷ levers) [] = nothing g
  where
    nothing : (g : ℤ) → zero_vector ≡ scaled_by g zero_vector
    nothing g = same_vector (ring (g ∷ []) (search reads depth 40) refl)
        (ring (g ∷ []) (search reads depth 40) refl) (ring (g ∷ []) (search reads depth 40) refl)
total_of_times g (lever ∷ levers) (a ∷ thrusts) =
    ap (sum_of (image_of lever (place_of (times g a)))) (total_of_times g levers thrusts)
    ∙ joined (total_of levers (map place_of thrusts))
  where
    joined : (v : Vec3) → sum_of (image_of lever (place_of (times g a))) (scaled_by g v)
        ≡ scaled_by g (sum_of (image_of lever (place_of a)) v)
    joined v = same_vector (ring (g ∷ a.x ∷ v.x ∷ []) (search reads depth 40) refl)
        (ring (g ∷ a.y ∷ v.y ∷ []) (search reads depth 40) refl)
        (ring (g ∷ a.x ∷ a.y ∷ lever.x ∷ lever.y ∷ v.z ∷ []) (search reads depth 40) refl)

cancelled : (g r t : ℤ) (v d : Vec3) → pos 1 ≤ℤ g → t ≡ g *ℤ r → scaled_by g v ≡ scaled_by t d →
    v ≡ scaled_by r d
cancelled g r t v d from_1 is_t same = same_vector
    (along v.x d.x (ap (λ (a : Vec3). a.x) same)) (along v.y d.y (ap (λ (a : Vec3). a.y) same))
    (along v.z d.z (ap (λ (a : Vec3). a.z) same))
  where
    along : (a b : ℤ) → g *ℤ a ≡ t *ℤ b → a ≡ r *ℤ b
    along a b e = cancel_left a (r *ℤ b) g (omega (arith, linear))
        (e ∙ ap (λ (z : ℤ). z *ℤ b) is_t ∙ ring (g ∷ r ∷ b ∷ []) (search reads depth 40) refl)

-- ---- the Holds

pub reduced_as : {q x r s : ℤ} {thrusts others lowest : List Thrust} → q ≡ x → thrusts ≡ others →
    r ≡ s →
    AreReduced q thrusts r lowest → AreReduced x others s lowest
reduced_as {q} {x} {r} {s} {thrusts} {others} {lowest} e f h reduced =
    subst (λ (n : ℤ). AreReduced x others n lowest) h
    (subst (λ (l : List Thrust). AreReduced x l r lowest) f
    (subst (λ (n : ℤ). AreReduced n thrusts r lowest) e reduced))

pub back_together : (t : ℤ) (demand fixed : Vec3) →
    sum_of (scaled_by t (difference_of demand fixed)) (scaled_by t fixed) ≡ scaled_by t demand
back_together t demand fixed = same_vector (along demand.x fixed.x) (along demand.y fixed.y)
    (along demand.z fixed.z)
  where
    along : (d f : ℤ) → t *ℤ (d -ℤ f) +ℤ t *ℤ f ≡ t *ℤ d
    along d f = ring (t ∷ d ∷ f ∷ []) (search reads depth 40) refl

pub reached_valid : (question : Question) (ahead : Vec3) (number : ℕ) (pieces : List (List Point))
    (fixed : List Point) (exit : ExitWeights)
    (r : ℤ) (thrusts : Thrusts) → IsReached question ahead number pieces fixed exit →
    AreReduced exit.t (means_beside exit.weights.items pieces exit.t fixed) r thrusts.list.items →
    IsValid question (Holds number r thrusts)
reached_valid question ahead number pieces fixed exit r thrusts reached reduced =
    let q = exit.q in
    let t = exit.t in
    let g = reduced.factor in
    let levers = question.levers in
    let lowest = thrusts.list.items in
    let means = means_beside exit.weights.items pieces t fixed in
    let weights = reached.exits.weights in
    let one_each : length pieces ≡ length levers = ap length reached.chosen
    ∙ length-choice question.regions number reached.there ∙ reached.one_each.regions in
    let fixed_each : length fixed ≡ length levers = ap length reached.same_fixed
    ∙ reached.one_each.fixed in
    let long : length lowest ≡ length levers =
    sym (length-map lowest (times g)) ∙ sym (ap length reduced.multiples)
    ∙ length-means q t levers exit.weights.items pieces fixed one_each fixed_each weights in
    let lie : LieBelow pieces fixed lowest r (length levers) =
    lie_divided pieces fixed g r t lowest means (length levers) reduced.from_1 reduced.denominator
    reduced.multiples (omega (arith, long))
    (means_lie q t levers exit.weights.items pieces fixed reached.enough one_each fixed_each
    weights) in
    let whole : total_of levers (map place_of means) ≡ scaled_by t question.demand =
    total_of_means q t levers exit.weights.items pieces fixed one_each fixed_each weights
    ∙ ap₂ sum_of (reached.exits.meets ∙ ap (scaled_by t) reached.is_ahead)
    (ap (λ (l : List Point). scaled_by t (total_of levers l)) reached.same_fixed)
    ∙ back_together t question.demand (total_of levers question.fixed) in
    let divided : total_of levers (map place_of lowest) ≡ scaled_by r question.demand =
    cancelled g r t (total_of levers (map place_of lowest)) question.demand reduced.from_1
    reduced.denominator
    (sym (total_of_times g levers lowest)
    ∙ ap (λ (l : List Thrust). total_of levers (map place_of l)) (sym reduced.multiples) ∙ whole) in
    holds_valid question number r thrusts
    (record {
      from_1 = above_0 g r t q reduced.from_1 reduced.denominator reached.exits.q_from_1
          reached.enough;
      there = reached.there;
      one_each = long;
    })
    (subst (λ (n : ℕ). LieBelow (choice_of question.regions number) question.fixed lowest r n)
    (sym long)
    (subst (λ (p : List (List Point)). LieBelow p question.fixed lowest r (length levers))
    reached.chosen
    (subst (λ (f : List Point). LieBelow pieces f lowest r (length levers)) reached.same_fixed
    lie))) divided
  where
    above_0 : (g r t q : ℤ) → pos 1 ≤ℤ g → t ≡ g *ℤ r → pos 1 ≤ℤ q → q ≤ℤ t → pos 1 ≤ℤ r
    above_0 g r t q h is k l =
        let none : g *ℤ pos 0 ≡ pos 0 = ring (g ∷ []) (search reads depth 40) refl in
        let low : pos 0 <ℤ r = cancel_lt_left (pos 0) r g (omega (arith, linear))
        (omega (arith, linear, none, is)) in
        omega (arith, linear)
