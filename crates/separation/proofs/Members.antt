-- Members of a list that pass a test, and the member with the least quotient.
use Rattle.std.proofs.Common.{◌≡◌, ◌⊎◌, inl, inr, ℤ, pos, ◌*ℤ◌, ◌≤ℤ◌, ◌<ℤ◌, List, [], ◌∷◌, Bool}
use Rattle.std.proofs.Common.{true, false, refl, subst, arith}
use Rattle.std.proofs.lemmas.Int.{by_lt_z}
use Rattle.std.proofs.lemmas.List.Elements.{Contains-append_right, Contains-append_cases}
use Rattle.std.proofs.lemmas.List.Elements.{Contains-push_cases}
use Rattle.std.specs.Prelude.{Contains}
use Rattle.int_ring.proofs.Laws.{linear}
use Rattle.int_ring.proofs.Order.{fraction_le_trans}

pub among_head : {X : Type 0} (x : X) (xs : List X) → Contains (x ∷ xs) x
among_head x xs = (0, omega arith, refl)

pub among_tail : {X : Type 0} (x : X) (xs : List X) (y : X) → Contains xs y → Contains (x ∷ xs) y
among_tail x xs y c = Contains-append_right (x ∷ []) xs y c

pub none_among : {X P : Type 0} (y : X) → Contains [] y → P
none_among y c = absurd (omega (arith, c.1))

-- what holds of the head and of each later member holds of each member
pub each_among : {X : Type 0} (P : X → Type 0) (x : X) (xs : List X) → P x →
    ((y : X) → Contains xs y → P y) → (y : X) → Contains (x ∷ xs) y → P y
each_among P x xs here later y c =
    elim (Contains-append_cases (x ∷ []) xs y c) [
      | inl head ↦
          (elim (Contains-push_cases [] x y head)
          [ inl none ↦ none_among y none | inr same ↦ subst P same here ])
      | inr tail ↦ later y tail
    ]

-- some member passes the test, or none does
pub some_or_none : {X : Type 0} (test : X → Bool) (xs : List X) →
    ((x : X) × Contains xs x × (test x ≡ true)) ⊎ ((x : X) → Contains xs x → test x ≡ false)
some_or_none test [] = inr (λ x c. none_among x c)
some_or_none {X} test (x ∷ xs) = here (test x) refl (some_or_none test xs)
  where
    here : (b : Bool) → test x ≡ b →
        ((y : X) × Contains xs y × (test y ≡ true)) ⊎ ((y : X) → Contains xs y → test y ≡ false) →
        ((y : X) × Contains (x ∷ xs) y × (test y ≡ true)) ⊎
        ((y : X) → Contains (x ∷ xs) y → test y ≡ false)
    here true e rest = inl (x, among_head x xs, e)
    here false e (inl found) = inl (found.0, among_tail x xs found.0 found.1, found.2)
    here false e (inr none) = inr (each_among (λ y. test y ≡ false) x xs e none)

-- the member's quotient of p and r, with r above 0, is the least of all members'
pub record IsLeastQuotient {X : Type 0} (p r : X → ℤ) (xs : List X) (x : X) : Type 0 where
  pub among : Contains xs x
  pub above : pos 0 <ℤ r x
  pub least : (y : X) → Contains xs y → pos 0 <ℤ r y → (p x *ℤ r y) ≤ℤ (p y *ℤ r x)

-- some member has the least quotient, or no member has an r above 0
pub least_quotient : {X : Type 0} (p r : X → ℤ) (xs : List X) →
    ((x : X) × IsLeastQuotient p r xs x) ⊎ ((x : X) → Contains xs x → r x ≤ℤ pos 0)
least_quotient p r [] = inr (λ x c. none_among x c)
least_quotient {X} p r (x ∷ xs) =
    by_lt_z (pos 0) (r x) (λ g. above g (least_quotient p r xs))
    (λ g. below g (least_quotient p r xs))
  where
    Found : List X → Type 0
    Found ys = ((y : X) × IsLeastQuotient p r ys y) ⊎ ((y : X) → Contains ys y → r y ≤ℤ pos 0)

    below : r x ≤ℤ pos 0 → ((y : X) × IsLeastQuotient p r xs y) ⊎
        ((y : X) → Contains xs y → r y ≤ℤ pos 0) →
        ((y : X) × IsLeastQuotient p r (x ∷ xs) y) ⊎ ((y : X) → Contains (x ∷ xs) y → r y ≤ℤ pos 0)
    below g (inl found) = inl (
      found.0,
      record {
        among = among_tail x xs found.0 found.1.among;
        above = found.1.above;
        least = each_among (λ y. pos 0 <ℤ r y → (p found.0 *ℤ r y) ≤ℤ (p y *ℤ r found.0)) x xs
            (λ h. absurd (omega (arith, linear))) found.1.least;
      },
    )
    below g (inr none) = inr (each_among (λ y. r y ≤ℤ pos 0) x xs g none)

    first : pos 0 <ℤ r x → ((y : X) → Contains xs y → pos 0 <ℤ r y → (p x *ℤ r y) ≤ℤ (p y *ℤ r x)) →
        IsLeastQuotient p r (x ∷ xs) x
    first g rest = record {
      among = among_head x xs;
      above = g;
      least = each_among (λ y. pos 0 <ℤ r y → (p x *ℤ r y) ≤ℤ (p y *ℤ r x)) x xs
          (λ h. omega (arith, linear)) rest;
    }

    above : pos 0 <ℤ r x → ((y : X) × IsLeastQuotient p r xs y) ⊎
        ((y : X) → Contains xs y → r y ≤ℤ pos 0) →
        ((y : X) × IsLeastQuotient p r (x ∷ xs) y) ⊎ ((y : X) → Contains (x ∷ xs) y → r y ≤ℤ pos 0)
    above g (inr none) = inl (x, first g (λ y c h. absurd (omega (arith, linear, none y c))))
    above g (inl found) =
        by_lt_z (p found.0 *ℤ r x) (p x *ℤ r found.0)
        (λ less. inl (
          found.0,
          record {
            among = among_tail x xs found.0 found.1.among;
            above = found.1.above;
            least = each_among (λ y. pos 0 <ℤ r y → (p found.0 *ℤ r y) ≤ℤ (p y *ℤ r found.0)) x xs
                (λ h. omega (arith, linear)) found.1.least;
          },
        ))
        (λ more. inl (
          x,
          first g
              (λ y c h. fraction_le_trans (p x) (r x) (p found.0) (r found.0) (p y)
              (r y) g found.1.above h more (found.1.least y c h)),
        ))
