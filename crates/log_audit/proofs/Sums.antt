-- Totals, and their parts of a demand.
use Rattle.std.proofs.Common.{◌≡◌, ◌∙◌, ap, ℤ, pos, ◌-ℤ◌, ◌*ℤ◌, ◌≤ℤ◌, ◌<ℤ◌, [], ◌∷◌, refl}
use Rattle.std.proofs.Common.{arith, subst, Bool, IsTrue}
use Rattle.int_ring.proofs.Laws.{linear, mul_nonneg}
use Rattle.int_ring.proofs.Order.{mul_neg_pos}
use Rattle.int_ring.proofs.Ring.{ring, reads}
use Rattle.certificate.specs.declared.totals.Total.{Total as Vector}
use Rattle.dp_num.specs.Fractions.{SameQuotient}
use Rattle.log_audit.specs.declared.totals.Total.{Total}

-- as the total of which the lemmas on sums speak
abbrev pub as_total : Total → Vector
as_total total = record { x = total.x; y = total.y; z = total.z }

module _ (sum q top bottom component : ℤ) where
  -- both of at least 0
  pub above_is : SameQuotient sum q (top *ℤ component) bottom
      → bottom *ℤ sum ≡ (q *ℤ top) *ℤ component
  above_is same =
      ring (sum ∷ bottom ∷ []) (search reads depth 40) refl ∙ same
      ∙ ring (q ∷ top ∷ component ∷ []) (search reads depth 40) refl

  pub above_only : bottom *ℤ sum ≡ (q *ℤ top) *ℤ component
      → SameQuotient sum q (top *ℤ component) bottom
  above_only is =
      ring (sum ∷ bottom ∷ []) (search reads depth 40) refl ∙ is
      ∙ ring (q ∷ top ∷ component ∷ []) (search reads depth 40) refl

  -- both below 0
  pub below_is : SameQuotient (pos 0 -ℤ sum) q (pos 0 -ℤ top *ℤ component) bottom
      → bottom *ℤ sum ≡ (q *ℤ top) *ℤ component
  below_is same =
      ring (sum ∷ bottom ∷ []) (search reads depth 40) refl
      ∙ ap (λ (z : ℤ). pos 0 -ℤ z) same
      ∙ ring (q ∷ top ∷ component ∷ []) (search reads depth 40) refl

  pub below_only : bottom *ℤ sum ≡ (q *ℤ top) *ℤ component
      → SameQuotient (pos 0 -ℤ sum) q (pos 0 -ℤ top *ℤ component) bottom
  below_only is =
      ring (sum ∷ bottom ∷ []) (search reads depth 40) refl
      ∙ ap (λ (z : ℤ). pos 0 -ℤ z) is
      ∙ ring (q ∷ top ∷ component ∷ []) (search reads depth 40) refl

  -- of two numbers that are one both are below 0, or neither is
  pub not_apart : pos 1 ≤ℤ q → pos 1 ≤ℤ bottom → sum <ℤ pos 0 → pos 0 ≤ℤ (top *ℤ component)
      → bottom *ℤ sum ≡ (q *ℤ top) *ℤ component → ⊥
  not_apart from_1 some below above is =
      let less : (sum *ℤ bottom) <ℤ pos 0 = mul_neg_pos sum bottom below (omega (arith, linear)) in
      let more : pos 0 ≤ℤ (q *ℤ (top *ℤ component)) =
      mul_nonneg q (top *ℤ component) (omega (arith, linear)) above in
      let turn : sum *ℤ bottom ≡ bottom *ℤ sum =
      ring (sum ∷ bottom ∷ []) (search reads depth 40) refl in
      let turned : q *ℤ (top *ℤ component) ≡ (q *ℤ top) *ℤ component =
      ring (q ∷ top ∷ component ∷ []) (search reads depth 40) refl in
      absurd (omega (arith, linear, less, more, turn, turned, is))

  pub not_apart_back : pos 1 ≤ℤ q → pos 1 ≤ℤ bottom → pos 0 ≤ℤ sum → (top *ℤ component) <ℤ pos 0
      → bottom *ℤ sum ≡ (q *ℤ top) *ℤ component → ⊥
  not_apart_back from_1 some above below is =
      let less : ((top *ℤ component) *ℤ q) <ℤ pos 0 =
      mul_neg_pos (top *ℤ component) q below (omega (arith, linear)) in
      let more : pos 0 ≤ℤ (bottom *ℤ sum) =
      mul_nonneg bottom sum (omega (arith, linear)) above in
      let turned : (top *ℤ component) *ℤ q ≡ (q *ℤ top) *ℤ component =
      ring (q ∷ top ∷ component ∷ []) (search reads depth 40) refl in
      absurd (omega (arith, linear, less, more, turned, is))

-- what tells whether two fractions are one number tells it of equal ones
pub said_of_equals : (test : Bool) {a b c d e f g h : ℤ} → a ≡ e → b ≡ f → c ≡ g → d ≡ h
    → ((IsTrue test → SameQuotient a b c d) × (SameQuotient a b c d → IsTrue test))
    → ((IsTrue test → SameQuotient e f g h) × (SameQuotient e f g h → IsTrue test))
said_of_equals test {a} {b} {c} {d} {e} {f} {g} {h} first second third fourth said =
    let same : SameQuotient a b c d ≡ SameQuotient e f g h =
    λ i. SameQuotient (first i) (second i) (third i) (fourth i) in
    subst (λ (P : Type 0). (IsTrue test → P) × (P → IsTrue test)) same said
