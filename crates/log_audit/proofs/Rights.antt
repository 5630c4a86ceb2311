-- Of a demand there is one greatest part, and one first choice in which it can be given.
use Rattle.std.proofs.Common.{◌≡◌, ℕ, ◌<◌, ℤ, ◌*ℤ◌, ◌<ℤ◌, sym, subst, arith}
use Rattle.std.proofs.lemmas.Bool.Decides.{nat_tests}
use Rattle.std.proofs.lemmas.Int.{ints}
use Rattle.certificate.specs.Outcomes.{Question}
use Rattle.thrust_allocation.specs.Allocations.{CanGive, IsRight}
use Rattle.thrust_allocation.specs.declared.allocation.Allocation.{Allocation}
use Rattle.log_audit.specs.Twins.{RightsAreAlike}
use Rattle.log_audit.proofs.Lowest.{lowest_terms_are_one}

same_unless : (x y : ℤ) → (x <ℤ y → ⊥) → (y <ℤ x → ⊥) → x ≡ y
same_unless x y below above =
    first_of (omega (arith, ints, below, above), grind (arith, ints, below, above))

same_number : (m n : ℕ) → (m < n → ⊥) → (n < m → ⊥) → m ≡ n
same_number m n below above =
    first_of (omega (arith, below, above), grind (arith, nat_tests, below, above))

-- what an allocation that is right gives can be given
gives_own : (question : Question) (a : Allocation) → IsRight question a
    → CanGive question a.choice a.fraction.top a.fraction.bottom
gives_own question a right =
    record { q = a.q; thrusts = a.thrusts.list.items; gives = right.gives }

-- no other allocation that is right gives a greater part
not_less : (question : Question) (a b : Allocation) → IsRight question a → IsRight question b
    → (a.fraction.top *ℤ b.fraction.bottom) <ℤ (b.fraction.top *ℤ a.fraction.bottom) → ⊥
not_less question a b first second less =
    first.greatest b.choice b.fraction.top b.fraction.bottom second.part second.choice less
    (gives_own question b second)

-- nor is it given in an earlier choice
not_earlier : (question : Question) (a b : Allocation) → IsRight question a → IsRight question b
    → a.fraction.top ≡ b.fraction.top → a.fraction.bottom ≡ b.fraction.bottom
    → a.choice < b.choice → ⊥
not_earlier question a b first second tops bottoms earlier =
    second.first a.choice earlier
    (subst (λ (top : ℤ). CanGive question a.choice top b.fraction.bottom) tops
    (subst (λ (bottom : ℤ). CanGive question a.choice a.fraction.top bottom) bottoms
    (gives_own question a first)))

pub rights_alike : RightsAreAlike
rights_alike question a b first second =
    let same = same_unless (a.fraction.top *ℤ b.fraction.bottom)
    (b.fraction.top *ℤ a.fraction.bottom) (not_less question a b first second)
    (not_less question b a second first) in
    let parts = lowest_terms_are_one a.fraction.top a.fraction.bottom b.fraction.top
    b.fraction.bottom first.part.from_0 first.part.bottom_from_1 second.part.from_0
    second.part.bottom_from_1 first.lowest second.lowest same in
    record {
      top = parts.0;
      bottom = parts.1;
      choice = same_number a.choice b.choice
          (not_earlier question a b first second parts.0 parts.1)
          (not_earlier question b a second first (sym parts.0) (sym parts.1));
    }
