-- Common divisors of a denominator and thrusts over it, and of the components of a direction.
use Rattle.std.proofs.Common.{◌≡◌, ◌∙◌, ℕ, zero, suc, ◌+◌, ◌<◌, ◌≤◌, ℤ, pos, ◌+ℤ◌, ◌-ℤ◌, ◌*ℤ◌, ◌≤ℤ◌}
use Rattle.std.proofs.Common.{List, [], ◌∷◌, length, map, take, ◌++◌, get_or, refl, sym, ap}
use Rattle.std.proofs.Common.{ap₂, subst, below_more, arith}
use Rattle.std.specs.Prelude.{All, slice_index_or}
use Rattle.std.specs.Int.{int_div_euclid, int_rem_euclid}
use Rattle.std.proofs.lemmas.Int.{ints}
use Rattle.std.proofs.lemmas.List.{get_or_default, map-append, take_more}
use Rattle.int_ring.proofs.Laws.{linear, mul_assoc}
use Rattle.int_ring.proofs.Order.{cancel}
use Rattle.int_ring.proofs.Quotients.{floor_rest}
use Rattle.int_ring.proofs.Ring.{ring, reads}
use Rattle.plant_model.specs.declared.thrust.Thrust.{Thrust}
use Rattle.dp_num.specs.Fractions.{Divides, IsGreatestCommonDivisor}
use Rattle.wrench_geometry.specs.declared.vector.Vec3.{Vec3}
use Rattle.wrench_geometry.specs.Vectors.{dot_of}
use Rattle.wrench_geometry.proofs.Bounds.{same_vector}
use Rattle.exit_point.specs.Corners.{DividesEach}
use Rattle.exit_point.proofs.Divided.{divides_through, exact}
use Rattle.certificate.specs.Outcomes.{no_thrust}
use Rattle.certificate.proofs.Beside.{same_thrust}
use Rattle.feasibility.specs.Lowest.{AreReduced, DividesBoth}
use Rattle.feasibility.specs.Lowest.{IsGreatestDivisor, IsGreatestOf, IsShortened}
use Rattle.feasibility.specs.Lowest.{divided_by, times}

-- ---- one number more

divides_sum : (d a b : ℤ) → Divides d a → Divides d b → Divides d (a +ℤ b)
divides_sum d a b h k = (
  h.0 +ℤ k.0,
  ring (h.0 ∷ k.0 ∷ d ∷ []) (search reads depth 40) refl ∙ ap₂ (λ (x y : ℤ). x +ℤ y) h.1 k.1,
)

divides_product : (d k a : ℤ) → Divides d a → Divides d (k *ℤ a)
divides_product d k a h = (k *ℤ h.0, mul_assoc k h.0 d ∙ ap (λ (z : ℤ). k *ℤ z) h.1)

divides_difference : (d a b : ℤ) → Divides d a → Divides d b → Divides d (a -ℤ b)
divides_difference d a b h k = (
  h.0 -ℤ k.0,
  ring (h.0 ∷ k.0 ∷ d ∷ []) (search reads depth 40) refl ∙ ap₂ (λ (x y : ℤ). x -ℤ y) h.1 k.1,
)

-- a number and what it leaves of another have the divisors that it and the other have
pub gcd_of_rest : (a b g : ℤ) → pos 1 ≤ℤ a → IsGreatestCommonDivisor a (int_rem_euclid b a) g →
    IsGreatestCommonDivisor a b g
gcd_of_rest a b g from_1 h =
    let r = int_rem_euclid b a in
    let k = int_div_euclid b a in
    let whole : k *ℤ a +ℤ r ≡ b = floor_rest b a (omega (arith, linear)) in
    record {
      positive = h.positive;
      divides_first = h.divides_first;
      divides_second = subst (Divides g) whole
          (divides_sum g (k *ℤ a) r (divides_product g k a h.divides_first) h.divides_second);
      greatest = λ d first second. h.greatest d first
          (subst (Divides d) (left (k *ℤ a) r b whole)
          (divides_difference d b (k *ℤ a) second (divides_product d k a first)));
    }
  where
    left : (p r b : ℤ) → p +ℤ r ≡ b → b -ℤ p ≡ r
    left p r b e = omega (arith, ints)

-- the same of equal numbers
pub gcd_as : {a b g x y z : ℤ} → a ≡ x → b ≡ y → g ≡ z → IsGreatestCommonDivisor a b g →
    IsGreatestCommonDivisor x y z
gcd_as {a} {b} {g} {x} {y} {z} e f h is =
    subst (IsGreatestCommonDivisor x y) h (subst (λ (n : ℤ). IsGreatestCommonDivisor x n g) f
    (subst (λ (n : ℤ). IsGreatestCommonDivisor n b g) e is))

-- ---- thrusts, taken in turn

abbrev pub DivideBelow : ℤ → List Thrust → ℕ → Type 0
DivideBelow g thrusts i = (k : ℕ) → k < i → DividesBoth g (slice_index_or thrusts k no_thrust)

-- g is the greatest common divisor of q and the first i thrusts
pub record DivisorSoFar (q : ℤ) (thrusts : List Thrust) (i : ℕ) (g : ℤ) : Type 0 where
  pub from_1 : pos 1 ≤ℤ g
  pub denominator : Divides g q
  pub each : DivideBelow g thrusts i
  pub greatest : (d : ℤ) → Divides d q → DivideBelow d thrusts i → Divides d g

one_times : (g : ℤ) → pos 1 *ℤ g ≡ g
one_times g = ring (g ∷ []) (search reads depth 40) refl

pub divisor_at_first : (q : ℤ) (thrusts : List Thrust) → pos 1 ≤ℤ q → DivisorSoFar q thrusts 0 q
divisor_at_first q thrusts from_1 = record {
  from_1 = from_1;
  denominator = (pos 1, one_times q);
  each = λ k below. absurd (omega arith);
  greatest = λ d divides each. divides;
}

fewer : (d : ℤ) (thrusts : List Thrust) (i : ℕ) → DivideBelow d thrusts (i + 1) →
    DivideBelow d thrusts i
fewer d thrusts i each k below = each k (omega arith)

pub divisor_more : (q : ℤ) (thrusts : List Thrust) (i : ℕ) (g f e : ℤ) (a : Thrust) →
    slice_index_or thrusts i no_thrust ≡ a → DivisorSoFar q thrusts i g →
    IsGreatestCommonDivisor g a.x f → IsGreatestCommonDivisor f a.y e →
    DivisorSoFar q thrusts (i + 1) e
divisor_more q thrusts i g f e a here so_far first second =
    let of_g = divides_through e f g second.divides_first first.divides_first in
    let both : DividesBoth e a = record {
      x = divides_through e f a.x second.divides_first first.divides_second;
      y = second.divides_second;
    } in
    record {
      from_1 = second.positive;
      denominator = divides_through e g q of_g so_far.denominator;
      each = below_more (λ k. DividesBoth e (slice_index_or thrusts k no_thrust)) i
          (λ k below. let old = so_far.each k below in record {
            x = divides_through e g _ of_g old.x;
            y = divides_through e g _ of_g old.y;
          })
          (subst (DividesBoth e) (sym here) both);
      greatest = λ d divides each.
          let last = subst (DividesBoth d) here (each i (omega arith)) in
          second.greatest d
          (first.greatest d (so_far.greatest d divides (fewer d thrusts i each)) last.x) last.y;
    }

pub greatest_divisor : (q : ℤ) (thrusts : List Thrust) (i : ℕ) (g : ℤ) → length thrusts ≤ i →
    DivisorSoFar q thrusts i g → i ≤ length thrusts → IsGreatestDivisor q thrusts g
greatest_divisor q thrusts i g all so_far few = record {
  from_1 = so_far.from_1;
  common = record {
    denominator = so_far.denominator;
    coordinates = λ k d below. subst (DividesBoth g) (get_or_default thrusts k no_thrust d below)
        (so_far.each k (omega arith));
  };
  greatest = λ d common. so_far.greatest d common.denominator
      (λ k below. common.coordinates k no_thrust (omega arith));
}

-- ---- quotients

pub map_more : (f : Thrust → Thrust) (thrusts : List Thrust) (i : ℕ) (made more : List Thrust)
    (a b : Thrust) → i < length thrusts → made ≡ map f (take i thrusts) → more ≡ made ++ b ∷ [] →
    b ≡ f (get_or thrusts i a) → more ≡ map f (take (i + 1) thrusts)
map_more f thrusts i made more a b there so_far is same =
    is ∙ ap₂ (λ (l : List Thrust) (x : Thrust). l ++ x ∷ []) so_far same
    ∙ sym (ap (map f) (take_more thrusts i a there)
    ∙ map-append f (take i thrusts) (get_or thrusts i a ∷ []))

same_list : (thrusts : List Thrust) (f : Thrust → Thrust) →
    ((k : ℕ) (d : Thrust) → k < length thrusts → get_or thrusts k d ≡ f (get_or thrusts k d)) →
    thrusts ≡ map f thrusts
same_list [] f each = refl
same_list (a ∷ thrusts) f each =
    ap₂ (λ (x : Thrust) (l : List Thrust). x ∷ l) (each 0 a (omega arith))
    (same_list thrusts f (λ k d below. each (suc k) d (omega arith)))

map_twice : (f g : Thrust → Thrust) (thrusts : List Thrust) →
    map (λ a. f (g a)) thrusts ≡ map f (map g thrusts)
map_twice f g [] = refl
map_twice f g (a ∷ thrusts) = ap (λ (l : List Thrust). f (g a) ∷ l) (map_twice f g thrusts)

pub quotients_multiply : (thrusts : List Thrust) (g : ℤ) → pos 1 ≤ℤ g →
    All (DividesBoth g) thrusts →
    thrusts ≡ map (times g) (map (divided_by g) thrusts)
quotients_multiply thrusts g from_1 each =
    same_list thrusts (λ a. times g (divided_by g a)) (λ k d below.
    let h = each k d below in
    same_thrust (exact (get_or thrusts k d).x g h.x from_1)
    (exact (get_or thrusts k d).y g h.y from_1))
    ∙ map_twice (times g) (divided_by g) thrusts

one_left : (d g : ℤ) → pos 1 ≤ℤ g → Divides (d *ℤ g) g → Divides d (pos 1)
one_left d g from_1 h = (
  h.0,
  cancel (h.0 *ℤ d) (pos 1) g (omega (arith, linear))
      (mul_assoc h.0 d g ∙ h.1 ∙ sym (one_times g)),
)

divides_times : (d g a b : ℤ) → a ≡ g *ℤ b → Divides d b → Divides (d *ℤ g) a
divides_times d g a b is h = (
  h.0,
  ring (h.0 ∷ d ∷ g ∷ []) (search reads depth 40) refl ∙ ap (λ (z : ℤ). g *ℤ z) h.1 ∙ sym is,
)

pub reduced : (q : ℤ) (thrusts : List Thrust) (g r : ℤ) (lowest : List Thrust) →
    IsGreatestDivisor q thrusts g → r ≡ int_div_euclid q g → lowest ≡ map (divided_by g) thrusts →
    AreReduced q thrusts r lowest
reduced q thrusts g r lowest greatest denominator quotients =
    let from_1 = greatest.from_1 in
    let common = greatest.common in
    let is_q : q ≡ g *ℤ r = exact q g common.denominator from_1
    ∙ ap (λ (z : ℤ). g *ℤ z) (sym denominator) in
    let are : thrusts ≡ map (times g) lowest = quotients_multiply thrusts g from_1
    common.coordinates
    ∙ ap (map (times g)) (sym quotients) in
    record {
      factor = g;
      from_1 = from_1;
      denominator = is_q;
      multiples = are;
      are_lowest = λ d h. one_left d g from_1 (greatest.greatest (d *ℤ g) (record {
        denominator = divides_times d g q r is_q h.denominator;
        coordinates = subst (All (DividesBoth (d *ℤ g))) (sym are)
            (all_times d g lowest h.coordinates);
      }));
    }
  where
    all_times : (d g : ℤ) (xs : List Thrust) → All (DividesBoth d) xs →
        All (DividesBoth (d *ℤ g)) (map (times g) xs)
    all_times d g [] all k e below = absurd (omega arith)
    all_times d g (a ∷ xs) all zero e below =
        let h = all 0 a (omega arith) in
        record {
          x = divides_times d g (g *ℤ a.x) a.x refl h.x;
          y = divides_times d g (g *ℤ a.y) a.y
              refl h.y;
        }
    all_times d g (a ∷ xs) all (suc k) e below =
        all_times d g xs (λ j c under. all (suc j) c (omega arith)) k e (omega arith)

-- ---- directions

-- the greatest common divisor of the components divides their product with any vector
pub greatest_of_three : (w d : Vec3) (b e f g : ℤ) → b ≡ dot_of w d →
    IsGreatestCommonDivisor b w.x e → IsGreatestCommonDivisor e w.y f →
    IsGreatestCommonDivisor f w.z g → IsGreatestOf w g
greatest_of_three w d b e f g is first second third = record {
  from_1 = third.positive;
  divides = record {
    x = divides_through g f w.x third.divides_first
        (divides_through f e w.x second.divides_first first.divides_second);
    y = divides_through g f w.y third.divides_first second.divides_second;
    z = third.divides_second;
  };
  greatest = λ c h. third.greatest c (second.greatest c
      (first.greatest c (subst (Divides c) (sym is) (divides_dot c w d h)) h.x) h.y) h.z;
}
  where
    swapped : (g a b : ℤ) → Divides g a → Divides g (a *ℤ b)
    swapped g a b h = (
      h.0 *ℤ b,
      ring (h.0 ∷ b ∷ g ∷ []) (search reads depth 40) refl ∙ ap (λ (z : ℤ). z *ℤ b) h.1,
    )

    divides_dot : (g : ℤ) (w d : Vec3) → DividesEach g w → Divides g (dot_of w d)
    divides_dot g w d h = divides_sum g (w.x *ℤ d.x +ℤ w.y *ℤ d.y) (w.z *ℤ d.z)
        (divides_sum g (w.x *ℤ d.x) (w.y *ℤ d.y) (swapped g w.x d.x h.x) (swapped g w.y d.y h.y))
        (swapped g w.z d.z h.z)

pub shortened : (w v : Vec3) (g : ℤ) → IsGreatestOf w g → v.x ≡ int_div_euclid w.x g →
    v.y ≡ int_div_euclid w.y g → v.z ≡ int_div_euclid w.z g → IsShortened w v
shortened w v g greatest vx vy vz =
    let from_1 = greatest.from_1 in
    let divides = greatest.divides in
    let is_x : w.x ≡ g *ℤ v.x = exact w.x g divides.x from_1 ∙ ap (λ (n : ℤ). g *ℤ n) (sym vx) in
    let is_y : w.y ≡ g *ℤ v.y = exact w.y g divides.y from_1 ∙ ap (λ (n : ℤ). g *ℤ n) (sym vy) in
    let is_z : w.z ≡ g *ℤ v.z = exact w.z g divides.z from_1 ∙ ap (λ (n : ℤ). g *ℤ n) (sym vz) in
    record {
      factor = g;
      from_1 = from_1;
      is = same_vector is_x is_y is_z;
      primitive = λ c h. one_left c g from_1 (greatest.greatest (c *ℤ g) (record {
        x = divides_times c g w.x v.x is_x h.x;
        y = divides_times c g w.y v.y is_y h.y;
        z = divides_times c g w.z v.z is_z h.z;
      }));
    }
