-- The first choice that reaches farthest, while choices are taken in turn.
use Rattle.std.proofs.Common.{◌≡◌, inl, inr, ℕ, ◌+◌, ◌<◌, ◌≤◌, ℤ, pos, ◌*ℤ◌, ◌≤ℤ◌, ◌<ℤ◌, sym, ap}
use Rattle.std.proofs.Common.{[], ◌∷◌, ◌∙◌, ◌-◌, max, Bool, true, false, refl, subst, below_more, arith}
use Rattle.std.proofs.Math.Dec.{ltb}
use Rattle.std.proofs.Math.Nat.{le-max_right, max-eq_left, max-eq_right}
use Rattle.std.proofs.lemmas.Bool.{ltb-true}
use Rattle.std.proofs.lemmas.Bool.Decides.{nat_tests}
use Rattle.int_ring.proofs.Laws.{linear}
use Rattle.int_ring.proofs.Ring.{ring, reads}
use Rattle.int_ring.proofs.Order.{fraction_le_lt_trans, mul_le_right}
use Rattle.certificate.specs.Outcomes.{Question}
use Rattle.thrust_allocation.specs.Allocations.{IsPart}
use Rattle.allocator.specs.Reaches.{IsFarther, IsFarthest, IsGreatestIn, IsReach}
use Rattle.allocator.specs.declared.reach.Reach.{Reach}

above_0 : (z : ℤ) → pos 1 ≤ℤ z → pos 0 <ℤ z
above_0 z h = omega (arith, linear)

-- what no greater part than a/b can be given in, no greater part than c/d can that is as great
greatest_beyond : (question : Question) (choice : ℕ) (a b c d : ℤ) → IsPart a b → IsPart c d →
    (a *ℤ d) ≤ℤ (c *ℤ b) → IsGreatestIn question choice a b → IsGreatestIn question choice c d
greatest_beyond question choice a b c d first second most greatest more rest part less =
    greatest more rest part
    (fraction_le_lt_trans a b c d more rest (above_0 b first.bottom_from_1)
    (above_0 d second.bottom_from_1) (above_0 rest part.bottom_from_1) most less)

pub first_farthest : (question : Question) (reach : Reach) → reach.choice ≡ 0 →
    IsReach question reach → IsFarthest question 1 reach
first_farthest question reach is_first reached = record {
  reached = reached;
  below = omega (arith, is_first);
  greatest = λ choice below. subst
      (λ (k : ℕ). IsGreatestIn question k reach.part.top reach.part.bottom)
      (only choice below) reached.greatest;
  first = λ choice below can. none choice below;
}
  where
    only : (choice : ℕ) → choice < 1 → reach.choice ≡ choice
    only choice below = omega (arith, is_first)

    none : (choice : ℕ) → choice < reach.choice → ⊥
    none choice below = omega (arith, is_first)

-- all of the demand is the greatest part in each choice
pub whole_farthest : (question : Question) (k n : ℕ) (reach : Reach) → k ≤ n →
    reach.part.top ≡ reach.part.bottom → IsFarthest question k reach → IsFarthest question n reach
whole_farthest question k n reach fewer whole farthest =
    let below = farthest.below in
    record {
      reached = farthest.reached;
      below = omega (arith, below);
      greatest = λ choice there more rest part less can.
          past more rest part.to_1 less;
      first = farthest.first;
    }
  where
    past : (more rest : ℤ) → more ≤ℤ rest →
        (reach.part.top *ℤ rest) <ℤ (more *ℤ reach.part.bottom) → ⊥
    past more rest part less =
        let b = reach.part.bottom in
        let some = farthest.reached.part.bottom_from_1 in
        let most = mul_le_right more rest b part (omega (arith, linear, some)) in
        let same : reach.part.top *ℤ rest ≡ rest *ℤ b = ap (λ (z : ℤ). z *ℤ rest) whole
        ∙ turned b rest in
        omega (arith, linear, most, same, less)
      where
        turned : (b rest : ℤ) → b *ℤ rest ≡ rest *ℤ b
        turned b rest = ring (b ∷ rest ∷ []) (search reads depth 40) refl

module _ (question : Question) (k : ℕ) (best new : Reach) (farthest : IsFarthest question k best)
    (reached : IsReach question new) (is_next : new.choice ≡ k) where
  old_stays : (new.part.top *ℤ best.part.bottom) ≤ℤ (best.part.top *ℤ new.part.bottom) →
      IsFarthest question (k + 1) best
  old_stays most =
      let below = farthest.below in
      record {
        reached = farthest.reached;
        below = omega (arith, below);
        greatest = below_more
            (λ choice. IsGreatestIn question choice best.part.top best.part.bottom) k
            farthest.greatest
            (greatest_beyond question k new.part.top new.part.bottom best.part.top best.part.bottom
            reached.part farthest.reached.part most
            (subst (λ (i : ℕ). IsGreatestIn question i new.part.top new.part.bottom) is_next
            reached.greatest));
        first = farthest.first;
      }

  new_stands : (best.part.top *ℤ new.part.bottom) <ℤ (new.part.top *ℤ best.part.bottom) →
      IsFarthest question (k + 1) new
  new_stands more = record {
    reached = reached;
    below = omega (arith, is_next);
    greatest = below_more (λ choice. IsGreatestIn question choice new.part.top new.part.bottom) k
        (λ choice below. greatest_beyond question choice best.part.top best.part.bottom
        new.part.top new.part.bottom farthest.reached.part reached.part (omega (arith, linear))
        (farthest.greatest choice below))
        (subst (λ (i : ℕ). IsGreatestIn question i new.part.top new.part.bottom) is_next
        reached.greatest);
    first = λ choice below. farthest.greatest choice (omega (arith, is_next, below)) new.part.top
        new.part.bottom reached.part more;
  }

  pub farthest_more : (more : Reach) → IsFarther best new more → IsFarthest question (k + 1) more
  farthest_more more (inl second) =
      subst (IsFarthest question (k + 1)) (sym second.0) (new_stands second.1)
  farthest_more more (inr first) =
      subst (IsFarthest question (k + 1)) (sym first.0) (old_stays first.1)

-- more choices that can't give a greater part
pub farthest_past : (question : Question) (k n from count : ℕ) (best : Reach) → k ≤ n →
    IsFarthest question k best → from ≤ k → n ≤ from + count →
    ((m : ℕ) → m < count →
    IsGreatestIn question (from + m) best.part.top best.part.bottom) → IsFarthest question n best
farthest_past question k n from count best fewer farthest early far none =
    let below = farthest.below in
    record {
      reached = farthest.reached;
      below = omega (arith, below, fewer);
      greatest = λ choice there. by_test choice there (ltb choice k) refl;
      first = farthest.first;
    }
  where
    by_test : (choice : ℕ) → choice < n → (b : Bool) → ltb choice k ≡ b →
        IsGreatestIn question choice best.part.top best.part.bottom
    by_test choice there true test = farthest.greatest choice (ltb-true choice k test)
    by_test choice there false test =
        let past : k ≤ choice = grind (arith, nat_tests) in
        let same : from + (choice - from) ≡ choice = omega (arith, past, early) in
        subst (λ (i : ℕ). IsGreatestIn question i best.part.top best.part.bottom) same
        (none (choice - from) (omega (arith, past, early, far, there)))

-- what is below the greater of a count and 1, and isn't 0, is below the count
below_count : (m count : ℕ) → 1 ≤ m → m < max count 1 → m < count
below_count m count some below = by_test (ltb count 1) refl
  where
    by_test : (b : Bool) → ltb count 1 ≡ b → m < count
    by_test true test =
        let few = ltb-true count 1 test in
        let one : max count 1 ≡ 1 = max-eq_right (omega (arith, few)) in
        omega (arith, some, below, one)
    by_test false test =
        let many : 1 ≤ count = grind (arith, nat_tests) in
        let all : max count 1 ≡ count = max-eq_left many in
        omega (arith, below, all)

pub to_max : (k count n all : ℕ) → n ≡ max count 1 → k < all → k + count ≤ all → k + n ≤ all
to_max k count n all is there far = by_test (ltb count 1) refl
  where
    by_test : (b : Bool) → ltb count 1 ≡ b → k + n ≤ all
    by_test true test =
        let few = ltb-true count 1 test in
        let one : max count 1 ≡ 1 = max-eq_right (omega (arith, few)) in
        omega (arith, there, is, one)
    by_test false test =
        let many : 1 ≤ count = grind (arith, nat_tests) in
        let same : max count 1 ≡ count = max-eq_left many in
        omega (arith, far, is, same)

pub from_max : (count n : ℕ) → n ≡ max count 1 → 1 ≤ n
from_max count n is =
    let some = le-max_right count 1 in omega (arith, is, some)

-- the choice itself, and as many from it on as can't give a greater part
pub farthest_on : (question : Question) (k count n : ℕ) (best : Reach) →
    IsFarthest question (k + 1) best → n ≡ max count 1 →
    ((m : ℕ) → m < count →
    IsGreatestIn question (k + m) best.part.top best.part.bottom) → IsFarthest question (k + n) best
farthest_on question k count n best farthest is none =
    let some = from_max count n is in
    farthest_past question (k + 1) (k + n) k n best (omega (arith, some)) farthest (omega arith)
    (omega arith) (λ m below. by_test m below (ltb 0 m) refl)
  where
    by_test : (m : ℕ) → m < n → (b : Bool) → ltb 0 m ≡ b →
        IsGreatestIn question (k + m) best.part.top best.part.bottom
    by_test m below true test =
        let some = ltb-true 0 m test in
        none m (below_count m count (omega (arith, some)) (subst (λ (i : ℕ). m < i) is below))
    by_test m below false test =
        let low : m ≤ 0 = grind (arith, nat_tests) in
        farthest.greatest (k + m) (omega (arith, low))
