-- Plants of which no thrust is fixed.
use Rattle.std.proofs.Common.{◌≡◌, ◌∙◌, ℕ, zero, suc, ◌+◌, ◌++◌, ◌≤◌, ℤ, pos, ◌+ℤ◌, ◌-ℤ◌, ◌*ℤ◌, List, [], ◌∷◌}
use Rattle.std.proofs.Common.{length, map, refl, sym, ap, ap₂, arith}
use Rattle.std.proofs.lemmas.Int.{ints}
use Rattle.std.proofs.lemmas.List.{length-map}
use Rattle.std.specs.List.{enumerate_from}
use Rattle.arrayvec.specs.ArrayVec.{ArrayVec}
use Rattle.int_ring.proofs.Ring.{ring, reads}
use Rattle.plant_model.specs.Lies.{LiesIn}
use Rattle.plant_model.specs.Rings.{origin}
use Rattle.plant_model.specs.declared.parts.Thruster.{Thruster}
use Rattle.plant_model.specs.declared.plant.Parts.{Parts}
use Rattle.plant_model.specs.declared.status.Loss.TheVariants.{Intact}
use Rattle.plant_model.specs.declared.status.Status.{Status}
use Rattle.plant_model.specs.declared.thrust.Point.{Point}
use Rattle.plant_model.specs.declared.thrust.Thrust.{Thrust}
use Rattle.redundancy_groups.specs.Surviving.{fixed_at, fixed_of}
use Rattle.thrust_region.specs.Choices.{choice_of, choices_of}
use Rattle.wrench_geometry.specs.Chosen.{levers_of}
use Rattle.wrench_geometry.specs.Vectors.{scaled_by, sum_of, zero_vector}
use Rattle.wrench_geometry.specs.Wrenches.{image_of}
use Rattle.wrench_geometry.proofs.Bounds.{same_vector}
use Rattle.certificate.specs.Outcomes.{EachStands, IsOneEach, Question, no_thrust, total_of, without}
use Rattle.certificate.specs.Sides.{place_of}
use Rattle.certificate.proofs.Beside.{same_thrust}
use Rattle.certificate.proofs.Choosing.{length-choice}
use Rattle.certificate.proofs.Hulls.{lies_of_zero}
use Rattle.feasibility.specs.Means.{means_beside, weighted_point}
use Rattle.thrust_allocation.specs.Allocations.{Gives}
use Rattle.allocator.specs.Reaches.{AreAtRest}

-- ---- with no loss no thruster stays at its frozen thrust

at_rest_from : (plant : Parts) (status : Status) (n : ℕ) (thrusters : List Thruster) →
    AreAtRest (map (fixed_at plant status Intact) (enumerate_from n thrusters))
at_rest_from plant status n [] = tt
at_rest_from plant status n (t ∷ thrusters) = (refl, at_rest_from plant status (n + 1) thrusters)

pub intact_at_rest : (plant : Parts) (status : Status) → AreAtRest (fixed_of plant status Intact)
intact_at_rest plant status = at_rest_from plant status 0 plant.thrusters.items

-- ---- what is said of thrusts beside fixed ones that are zero

no_image : (lever : Point) → image_of lever origin ≡ zero_vector
no_image lever = same_vector refl refl (ring (lever.x ∷ lever.y ∷ []) (search reads depth 40) refl)

pub total_at_rest : (levers fixed : List Point) → AreAtRest fixed →
    total_of levers fixed ≡ zero_vector
total_at_rest [] fixed rest = refl
total_at_rest (lever ∷ levers) [] rest = refl
total_at_rest (lever ∷ levers) (p ∷ fixed) rest =
    ap₂ sum_of (ap (image_of lever) rest.0 ∙ no_image lever) (total_at_rest levers fixed rest.1)

-- weighted points are the same over each denominator
pub means_over : (rows : List (ArrayVec ℤ)) (pieces : List (List Point)) (t m : ℤ)
    (fixed : List Point) → AreAtRest fixed →
    means_beside rows pieces t fixed ≡ means_beside rows pieces m fixed
means_over [] pieces t m fixed rest = refl
means_over (row ∷ rows) [] t m fixed rest = refl
means_over (row ∷ rows) (piece ∷ pieces) t m [] rest = refl
means_over (row ∷ rows) (piece ∷ pieces) t m (f ∷ fixed) rest =
    let p = weighted_point row.items piece in
    ap₂ (λ (a : Thrust) (l : List Thrust). a ∷ l)
    (same_thrust (along p.x f.x (ap (λ (v : Point). v.x) rest.0))
    (along p.y f.y (ap (λ (v : Point). v.y) rest.0)))
    (means_over rows pieces t m fixed rest.1)
  where
    along : (a f : ℤ) → f ≡ pos 0 → a +ℤ t *ℤ f ≡ a +ℤ m *ℤ f
    along a f e =
        ap (λ (z : ℤ). a +ℤ t *ℤ z) e ∙ ring (a ∷ t ∷ m ∷ []) (search reads depth 40) refl
        ∙ sym (ap (λ (z : ℤ). a +ℤ m *ℤ z) e)

-- ---- no thrust of any thruster

abbrev pub no_thrusts : List Point → List Thrust
no_thrusts levers = map (λ lever. no_thrust) levers

nothing_stands : (levers : List Point) (pieces : List (List Point)) (fixed : List Point) →
    length pieces ≡ length levers → length fixed ≡ length levers → AreAtRest fixed →
    EachStands (λ piece a. LiesIn piece a (pos 1)) (pos 1) pieces fixed (no_thrusts levers)
nothing_stands [] [] [] one_each fixed_each rest = tt
nothing_stands [] (piece ∷ pieces) fixed one_each fixed_each rest = absurd (omega arith)
nothing_stands [] [] (p ∷ fixed) one_each fixed_each rest = absurd (omega arith)
nothing_stands (lever ∷ levers) [] fixed one_each fixed_each rest = absurd (omega arith)
nothing_stands (lever ∷ levers) (piece ∷ pieces) [] one_each fixed_each rest = absurd (omega arith)
nothing_stands (lever ∷ levers) (piece ∷ pieces) (p ∷ fixed) one_each fixed_each rest = (
  lies_of_zero piece (without (pos 1) p no_thrust) (pos 1) (omega (arith, ints))
      (none p.x (ap (λ (v : Point). v.x) rest.0)) (none p.y (ap (λ (v : Point). v.y) rest.0)),
  nothing_stands levers pieces fixed (omega arith) (omega arith) rest.1,
)
  where
    none : (f : ℤ) → f ≡ pos 0 → pos 0 -ℤ pos 1 *ℤ f ≡ pos 0
    none f e = ap (λ (z : ℤ). pos 0 -ℤ pos 1 *ℤ z) e

total_of_nothing : (levers : List Point) →
    total_of levers (map place_of (no_thrusts levers)) ≡ zero_vector
total_of_nothing [] = refl
total_of_nothing (lever ∷ levers) = ap₂ sum_of (no_image lever) (total_of_nothing levers)

-- it gives what is no part of the demand, or a part of no demand
pub nothing_gives : (question : Question) → IsOneEach question → AreAtRest question.fixed →
    1 ≤ choices_of question.regions → (top bottom : ℤ) →
    scaled_by (pos 1 *ℤ top) question.demand ≡ zero_vector →
    Gives question 0 top bottom (pos 1) (no_thrusts question.levers)
nothing_gives question one_each rest some top bottom none =
    let levers = question.levers in
    record {
      from_1 = omega (arith, ints);
      one_each = length-map levers (λ (lever : Point). no_thrust);
      lie = nothing_stands levers (choice_of question.regions 0) question.fixed
          (length-choice question.regions 0 some ∙ one_each.regions) one_each.fixed rest;
      sum = ap (scaled_by bottom) (total_of_nothing levers) ∙ nothing ∙ sym none;
    }
  where
    nothing : scaled_by bottom zero_vector ≡ zero_vector
    nothing = same_vector (ring (bottom ∷ []) (search reads depth 40) refl)
        (ring (bottom ∷ []) (search reads depth 40) refl)
        (ring (bottom ∷ []) (search reads depth 40) refl)

-- ---- the zero thrusts, taken in turn

abbrev pub rests : ℕ → List Thrust
rests zero = []
rests (suc n) = no_thrust ∷ rests n

pub length-rests : (n : ℕ) → length (rests n) ≡ n
length-rests zero = refl
length-rests (suc n) = ap suc (length-rests n)

rests_end : (n : ℕ) → rests n ++ no_thrust ∷ [] ≡ rests (suc n)
rests_end zero = refl
rests_end (suc n) = ap (λ (l : List Thrust). no_thrust ∷ l) (rests_end n)

pub rests_more : (n : ℕ) (made more : List Thrust) (a : Thrust) → a ≡ no_thrust →
    more ≡ made ++ a ∷ [] → made ≡ rests n → more ≡ rests (n + 1)
rests_more n made more a none is so_far =
    is ∙ ap₂ (λ (l : List Thrust) (x : Thrust). l ++ x ∷ []) so_far none ∙ rests_end n
    ∙ ap rests (one_more n)
  where
    one_more : (n : ℕ) → suc n ≡ n + 1
    one_more n = omega arith

rests_each : (thrusters : List Thruster) →
    rests (length thrusters) ≡ no_thrusts (map (λ (t : Thruster). t.lever) thrusters)
rests_each [] = refl
rests_each (t ∷ thrusters) = ap (λ (l : List Thrust). no_thrust ∷ l) (rests_each thrusters)

pub all_rests : (plant : Parts) (n : ℕ) (made : List Thrust) → n ≡ length plant.thrusters.items →
    made ≡ rests n → made ≡ no_thrusts (levers_of plant)
all_rests plant n made all so_far = so_far ∙ ap rests all ∙ rests_each plant.thrusters.items
