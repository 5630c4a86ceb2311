-- Which allocations are right.
use Rattle.std.proofs.Common.{◌≡◌, ◌≢◌, ◌∙◌, ℕ, ◌<◌, ◌≤◌, ℤ, pos, ◌*ℤ◌, ◌≤ℤ◌, ◌<ℤ◌, List, sym, ap}
use Rattle.std.proofs.Common.{subst, refl, arith, [], ◌∷◌}
use Rattle.std.proofs.lemmas.Int.{ints}
use Rattle.int_ring.proofs.Laws.{linear}
use Rattle.int_ring.proofs.Ring.{ring, reads}
use Rattle.dp_num.specs.Fractions.{Divides, IsInLowestTerms}
use Rattle.plant_model.specs.declared.thrust.Thrust.{Thrust}
use Rattle.thrust_region.specs.Choices.{choices_of}
use Rattle.wrench_geometry.specs.Vectors.{scaled_by, zero_vector}
use Rattle.wrench_geometry.specs.declared.vector.Vec3.{Vec3}
use Rattle.wrench_geometry.proofs.Bounds.{same_vector}
use Rattle.certificate.specs.Outcomes.{IsOneEach, Question}
use Rattle.feasibility.specs.Lowest.{AreLowest}
use Rattle.thrust_allocation.specs.Allocations.{AsksNothing, CanGive, Gives, IsPart, IsRight, IsWhole}
use Rattle.thrust_allocation.specs.declared.allocation.Allocation.{Allocation}
use Rattle.allocator.specs.Reaches.{AreAtRest, IsFarthest}
use Rattle.allocator.specs.declared.reach.Reach.{Reach}
use Rattle.allocator.proofs.Resting.{nothing_gives}

-- what is said of two numbers is said of their equals
said_of_both : (P : ℤ → ℤ → Type 0) {a b c d : ℤ} → a ≡ c → b ≡ d → P a b → P c d
said_of_both P {a} {b} {c} {d} e f said =
    subst (P c) f (subst (λ (z : ℤ). P z b) e said)

gives_as : (question : Question) {k n : ℕ} {a b c d q r : ℤ} {thrusts others : List Thrust} →
    k ≡ n → a ≡ c → b ≡ d → q ≡ r → thrusts ≡ others → Gives question k a b q thrusts →
    Gives question n c d r others
gives_as question {k} {n} {a} {b} {c} {d} {q} {r} {thrusts} {others} e f g h i said =
    subst (Gives question n c d r) i
    (subst (λ (z : ℤ). Gives question n c d z thrusts) h
    (said_of_both (λ (x y : ℤ). Gives question n x y q thrusts) f g
    (subst (λ (j : ℕ). Gives question j a b q thrusts) e said)))

one_divides : (z : ℤ) → Divides (pos 1) z
one_divides z = (z, ring (z ∷ []) (search reads depth 40) refl)

pub one_is_lowest : (thrusts : List Thrust) → AreLowest (pos 1) thrusts
one_is_lowest thrusts g common = common.denominator

module _ (question : Question) (a : Allocation) where
  -- a part of no demand
  pub none_asked_right : IsOneEach question → AreAtRest question.fixed →
      1 ≤ choices_of question.regions → question.demand ≡ zero_vector → IsWhole a →
      AsksNothing question a → IsRight question a
  none_asked_right one_each rest some none whole asks = record {
    part = said_of_both IsPart (sym whole.top) (sym whole.bottom) (record {
      from_0 = omega (arith, ints);
      to_1 = omega (arith, ints);
      bottom_from_1 = omega (arith, ints);
    });
    lowest = said_of_both IsInLowestTerms (sym whole.top) (sym whole.bottom) (record {
      positive = omega (arith, ints);
      divides_first = one_divides (pos 1);
      divides_second = one_divides (pos 1);
      greatest = λ d first second. first;
    });
    choice = (let first = asks.choice in omega (arith, first, some));
    gives = gives_as question (sym asks.choice) (sym whole.top) (sym whole.bottom) (sym asks.q)
        (sym asks.thrusts) (nothing_gives question one_each rest some (pos 1) (pos 1) nothing);
    greatest = λ choice more rest part there less can. past more rest part.to_1 less;
    first = λ choice below can. before choice below;
    no_demand = λ e. (whole, asks);
    no_part = λ e. asks;
  }
    where
      nothing : scaled_by (pos 1 *ℤ pos 1) question.demand ≡ zero_vector
      nothing = ap (scaled_by (pos 1 *ℤ pos 1)) none

      past : (more rest : ℤ) → more ≤ℤ rest →
          (a.fraction.top *ℤ rest) <ℤ (more *ℤ a.fraction.bottom) → ⊥
      past more rest part less =
          let e : a.fraction.top *ℤ rest ≡ rest = ap (λ (z : ℤ). z *ℤ rest) whole.top
          ∙ ring (rest ∷ []) (search reads depth 40) refl in
          let f : more *ℤ a.fraction.bottom ≡ more = ap (λ (z : ℤ). more *ℤ z) whole.bottom
          ∙ ring (more ∷ []) (search reads depth 40) refl in
          omega (arith, linear, e, f, less, part)

      before : (choice : ℕ) → choice < a.choice → ⊥
      before choice below = let first = asks.choice in omega (arith, first, below)

  module _ (reach : Reach) (farthest : IsFarthest question (choices_of question.regions) reach)
      (some : question.demand ≢ zero_vector) (same : a.fraction ≡ reach.part) where
    top_is : reach.part.top ≡ a.fraction.top
    top_is = sym (ap (λ f. f.top) same)

    bottom_is : reach.part.bottom ≡ a.fraction.bottom
    bottom_is = sym (ap (λ f. f.bottom) same)

    -- nothing of the demand
    pub none_given_right : IsOneEach question → AreAtRest question.fixed →
        reach.part.top ≡ pos 0 → AsksNothing question a → IsRight question a
    none_given_right one_each rest none asks = record {
      part = said_of_both IsPart top_is bottom_is farthest.reached.part;
      lowest = said_of_both IsInLowestTerms top_is bottom_is farthest.reached.lowest;
      choice = (let first = asks.choice in let below = farthest.below in
          omega (arith, first, below));
      gives = gives_as question (sym asks.choice) top_is bottom_is (sym asks.q) (sym asks.thrusts)
          (nothing_gives question one_each rest (first_there farthest.below) reach.part.top
          reach.part.bottom nothing);
      greatest = λ choice more rest part there. said_of_both
          (λ (x y : ℤ). (x *ℤ rest) <ℤ (more *ℤ y) → ¬ CanGive question choice more rest) top_is
          bottom_is (farthest.greatest choice there more rest part);
      first = λ choice below can. before choice below;
      no_demand = λ e. absurd (some e);
      no_part = λ e. asks;
    }
      where
        nothing : scaled_by (pos 1 *ℤ reach.part.top) question.demand ≡ zero_vector
        nothing = ap (λ (z : ℤ). scaled_by (pos 1 *ℤ z) question.demand) none ∙ times_0
            question.demand
          where
            times_0 : (d : Vec3) → scaled_by (pos 1 *ℤ pos 0) d ≡ zero_vector
            times_0 d = same_vector (ring (d.x ∷ []) (search reads depth 40) refl)
                (ring (d.y ∷ []) (search reads depth 40) refl)
                (ring (d.z ∷ []) (search reads depth 40) refl)

        first_there : {i n : ℕ} → i < n → 1 ≤ n
        first_there {i} {n} below = omega arith

        before : (choice : ℕ) → choice < a.choice → ⊥
        before choice below = let first = asks.choice in omega (arith, first, below)

    -- the part that the farthest reach gives
    pub given_right : reach.part.top ≢ pos 0 → a.choice ≡ reach.choice →
        Gives question reach.choice reach.part.top reach.part.bottom a.q a.thrusts.list.items →
        IsRight question a
    given_right not_0 chosen gives = record {
      part = said_of_both IsPart top_is bottom_is farthest.reached.part;
      lowest = said_of_both IsInLowestTerms top_is bottom_is farthest.reached.lowest;
      choice = (let below = farthest.below in omega (arith, chosen, below));
      gives = gives_as question (sym chosen) top_is bottom_is refl refl gives;
      greatest = λ choice more rest part there. said_of_both
          (λ (x y : ℤ). (x *ℤ rest) <ℤ (more *ℤ y) → ¬ CanGive question choice more rest) top_is
          bottom_is (farthest.greatest choice there more rest part);
      first = λ choice below. said_of_both (λ (x y : ℤ). ¬ CanGive question choice x y) top_is
          bottom_is (farthest.first choice (omega (arith, chosen, below)));
      no_demand = λ e. absurd (some e);
      no_part = λ e. absurd (not_0 (top_is ∙ e));
    }
