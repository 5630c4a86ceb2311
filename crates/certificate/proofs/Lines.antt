-- Points of a plane by two numbers each, how far they stand to the side and how high: either some
-- of them cross the
-- upright line through the origin at no less than its height, one that stands on the line or a pair
-- on both its sides,
-- or a slanted line through the origin has them all below it.
use Rattle.std.proofs.Common.{◌≡◌, ◌⊎◌, inl, inr, ℤ, pos, ◌+ℤ◌, ◌-ℤ◌, ◌*ℤ◌, neg_ℤ, ◌≤ℤ◌, ◌<ℤ◌, List}
use Rattle.std.proofs.Common.{[], ◌∷◌, nat_abs, arith, refl, subst, ap, ◌∙◌}
use Rattle.std.proofs.lemmas.Int.{by_lt_z, ints}
use Rattle.int_ring.proofs.Laws.{linear, mul_nonneg, mul_pos, mul_zero}
use Rattle.int_ring.proofs.Ring.{ring, reads}
use Rattle.int_ring.proofs.Order.{cancel_lt_left, mul_lt_left, mul_le_left}
use Rattle.certificate.proofs.Among.{Among}

-- every member is below the line, whose slope is top over bottom
pub record IsBelow {X : Type 0} (aside high : X → ℤ) (xs : List X) : Type 0 where
  pub bottom : ℤ
  pub top : ℤ
  pub rises : pos 0 <ℤ bottom
  pub below : (x : X) → Among xs x → (bottom *ℤ high x) <ℤ (top *ℤ aside x)

-- by how much the pair p, r crosses the upright line above the origin, by a positive factor where p
-- and r stand on
-- different sides
abbrev pub crossing : {X : Type 0} (aside high : X → ℤ) → X → X → ℤ
crossing aside high p r = aside p *ℤ high r -ℤ aside r *ℤ high p

-- what holds of the head and of each later member holds of each member
each : {X : Type 0} (P : X → Type 0) (x : X) (xs : List X) → P x → ((y : X) → Among xs y → P y) →
    (y : X) → Among (x ∷ xs) y → P y
each P x xs here later y (inl same) = subst P same here
each P x xs here later y (inr among) = later y among

-- some member has t below 0 and f not, or each with t below 0 has f below 0
scan : {X : Type 0} (f t : X → ℤ) (xs : List X) →
    ((x : X) × Among xs x × (t x <ℤ pos 0) × (pos 0 ≤ℤ f x)) ⊎ ((x : X) → Among xs x →
    t x <ℤ pos 0 → f x <ℤ pos 0)
scan f t [] = inr (λ x among. absurd among)
scan {X} f t (x ∷ xs) = here (scan f t xs)
  where
    Found : List X → Type 0
    Found ys = (y : X) × Among ys y × (t y <ℤ pos 0) × (pos 0 ≤ℤ f y)

    None : List X → Type 0
    None ys = (y : X) → Among ys y → t y <ℤ pos 0 → f y <ℤ pos 0

    here : Found xs ⊎ None xs → Found (x ∷ xs) ⊎ None (x ∷ xs)
    here (inl found) = inl (found.0, inr found.1, found.2, found.3)
    here (inr none) =
        by_lt_z (t x) (pos 0)
        (λ g. by_lt_z (f x) (pos 0) (λ h. inr (each (λ y. t y <ℤ pos 0 →
        f y <ℤ pos 0) x xs (λ k. h) none)) (λ h. inl (x, inl refl, g, h)))
        (λ g. inr (each (λ y. t y <ℤ pos 0 →
        f y <ℤ pos 0) x xs (λ k. absurd (omega (arith, linear))) none))

-- where f is below 0 on all members, some multiple of it stays there with t added
pub record Outweighs {X : Type 0} (f t : X → ℤ) (xs : List X) : Type 0 where
  pub times : ℤ
  pub rises : pos 0 <ℤ times
  pub below : (x : X) → Among xs x → (times *ℤ f x +ℤ t x) <ℤ pos 0

outweighs : {X : Type 0} (f t : X → ℤ) (xs : List X) → ((x : X) → Among xs x → f x <ℤ pos 0) →
    Outweighs f t xs
outweighs f t [] below = record {
  times = pos 1;
  rises = omega (arith, linear);
  below =
      λ x among. absurd among;
}
outweighs {X} f t (x ∷ xs) below = more (outweighs f t xs (λ y among. below y (inr among)))
  where
    head : (m n a b : ℤ) → pos 0 <ℤ m → pos 0 ≤ℤ n → b ≤ℤ n → a <ℤ pos 0 →
        ((m +ℤ n) *ℤ a +ℤ b) <ℤ pos 0
    head m n a b h k l g =
        let e : (m +ℤ n) *ℤ (neg_ℤ a -ℤ pos 1) ≡ neg_ℤ ((m +ℤ n) *ℤ a) -ℤ m -ℤ n =
        ring (m ∷ n ∷ a ∷ []) (search reads depth 40) refl in
        omega (
          arith,
          linear,
          e,
          mul_nonneg (m +ℤ n) (neg_ℤ a -ℤ pos 1) (omega (arith, linear))
              (omega (arith, linear)),
        )

    tail : (m n a b : ℤ) → pos 0 ≤ℤ n → a <ℤ pos 0 → (m *ℤ a +ℤ b) <ℤ pos 0 →
        ((m +ℤ n) *ℤ a +ℤ b) <ℤ pos 0
    tail m n a b k g h =
        let e : (m +ℤ n) *ℤ a ≡ m *ℤ a -ℤ n *ℤ neg_ℤ a =
        ring (m ∷ n ∷ a ∷ []) (search reads depth 40) refl in
        omega (arith, linear, e, mul_nonneg n (neg_ℤ a) k (omega (arith, linear)))

    size : (z : ℤ) → z ≤ℤ pos (nat_abs z)
    size z = omega (arith, ints)

    more : Outweighs f t xs → Outweighs f t (x ∷ xs)
    more later =
        let n : ℤ = pos (nat_abs (t x)) in
        let from_0 : pos 0 ≤ℤ n = omega (arith, ints) in
        let rises = later.rises in
        record {
          times = later.times +ℤ n;
          rises = omega (arith, linear);
          below = each (λ y. ((later.times +ℤ n) *ℤ f y +ℤ t y) <ℤ pos 0) x xs
              (head later.times n (f x) (t x) rises from_0 (size (t x)) (below x (inl refl)))
              (λ y among. tail later.times n (f y) (t y) from_0 (below y (inr among))
              (later.below y among));
        }

-- a new point p to the right and not below the line makes a pair with one to the left, or a line
-- through p, slanted a
-- little more, has all below it
raised : {X : Type 0} (aside high : X → ℤ) (p : X) (xs : List X) → pos 0 <ℤ aside p →
    (line : IsBelow aside high xs) → (line.top *ℤ aside p) ≤ℤ (line.bottom *ℤ high p) →
    ((r : X) × Among xs r × (aside r <ℤ pos 0) × (pos 0 ≤ℤ crossing aside high p r))
    ⊎ IsBelow aside high (p ∷ xs)
raised {X} aside high p xs right line above = found (scan (crossing aside high p) aside xs)
  where
    -- points to the right of the upright line or on it, which are below the old line, are below the
    -- way to p
    old : (a b s g t h : ℤ) → pos 0 <ℤ a → pos 0 <ℤ s → (b *ℤ s) ≤ℤ (a *ℤ g) → pos 0 ≤ℤ t →
        (a *ℤ h) <ℤ (b *ℤ t) → (s *ℤ h -ℤ t *ℤ g) <ℤ pos 0
    old a b s g t h α σ over τ under =
        let m = mul_lt_left (a *ℤ h) (b *ℤ t) s under σ in
        let n = mul_le_left (b *ℤ s) (a *ℤ g) t over τ in
        let e : a *ℤ (s *ℤ h -ℤ t *ℤ g) ≡ s *ℤ (a *ℤ h) -ℤ t *ℤ (a *ℤ g) =
        ring (a ∷ s ∷ h ∷ t ∷ g ∷ []) (search reads depth 40) refl in
        let f : s *ℤ (b *ℤ t) ≡ t *ℤ (b *ℤ s) =
        ring (b ∷ s ∷ t ∷ []) (search reads depth 40) refl in
        cancel_lt_left (s *ℤ h -ℤ t *ℤ g) (pos 0) a (omega (arith, linear))
        (omega (arith, linear, m, n, e, f, mul_zero a))

    slanted : (m s g t h : ℤ) → (m *ℤ (s *ℤ h -ℤ t *ℤ g) +ℤ neg_ℤ t) <ℤ pos 0 →
        (m *ℤ s *ℤ h) <ℤ ((m *ℤ g +ℤ pos 1) *ℤ t)
    slanted m s g t h under =
        let e : m *ℤ s *ℤ h -ℤ (m *ℤ g +ℤ pos 1) *ℤ t ≡ m *ℤ (s *ℤ h -ℤ t *ℤ g) +ℤ neg_ℤ t =
        ring (m ∷ s ∷ g ∷ t ∷ h ∷ []) (search reads depth 40) refl in
        omega (arith, linear, e)

    itself : (m s g : ℤ) → pos 0 <ℤ s → (m *ℤ s *ℤ g) <ℤ ((m *ℤ g +ℤ pos 1) *ℤ s)
    itself m s g σ =
        let e : (m *ℤ g +ℤ pos 1) *ℤ s ≡ m *ℤ s *ℤ g +ℤ s =
        ring (m ∷ s ∷ g ∷ []) (search reads depth 40) refl in
        omega (arith, linear, e)

    found : ((r : X) × Among xs r × (aside r <ℤ pos 0) × (pos 0 ≤ℤ crossing aside high p r))
        ⊎ ((r : X) → Among xs r → aside r <ℤ pos 0 → crossing aside high p r <ℤ pos 0) →
        ((r : X) × Among xs r × (aside r <ℤ pos 0) × (pos 0 ≤ℤ crossing aside high p r))
        ⊎ IsBelow aside high (p ∷ xs)
    found (inl pair) = inl pair
    found (inr none) =
        let under : (x : X) → Among xs x → crossing aside high p x <ℤ pos 0 = (λ x among.
        by_lt_z (aside x) (pos 0) (none x among)
        (λ g. old line.bottom line.top (aside p) (high p) (aside x) (high x) line.rises right above
        g (line.below x among))) in
        let tilt = outweighs (crossing aside high p) (λ x. neg_ℤ (aside x)) xs under in
        inr (record {
          bottom = tilt.times *ℤ aside p;
          top = tilt.times *ℤ high p +ℤ pos 1;
          rises = mul_pos tilt.times (aside p) tilt.rises right;
          below =
              each (λ x. (tilt.times *ℤ aside p *ℤ high x)
              <ℤ ((tilt.times *ℤ high p +ℤ pos 1) *ℤ aside x)) p xs
              (itself tilt.times (aside p) (high p) right)
              (λ x among. slanted tilt.times (aside p) (high p) (aside x) (high x)
              (tilt.below x among));
        })

-- ---- either a crossing or a line

-- two members of the list for which the relation holds
pub record Crosses {X : Type 0} (C : X → X → Type 0) (xs : List X) : Type 0 where
  pub p : X
  pub r : X
  pub p_among : Among xs p
  pub r_among : Among xs r
  pub holds : C p r

mirror_line : {X : Type 0} (aside high : X → ℤ) (xs : List X) → IsBelow aside high xs →
    IsBelow (λ x. neg_ℤ (aside x)) high xs
mirror_line aside high xs line = record {
  bottom = line.bottom;
  top = neg_ℤ line.top;
  rises = line.rises;
  below = λ x among. turned line.bottom line.top (aside x) (high x) (line.below x among);
}
  where
    turned : (a b s g : ℤ) → (a *ℤ g) <ℤ (b *ℤ s) → (a *ℤ g) <ℤ (neg_ℤ b *ℤ neg_ℤ s)
    turned a b s g h = let e : neg_ℤ b *ℤ neg_ℤ s ≡ b *ℤ s =
        ring (b ∷ s ∷ []) (search reads depth 40) refl in omega (arith, linear, e)

mirror_back : {X : Type 0} (aside high : X → ℤ) (xs : List X) →
    IsBelow (λ x. neg_ℤ (aside x)) high xs → IsBelow aside high xs
mirror_back aside high xs line = record {
  bottom = line.bottom;
  top = neg_ℤ line.top;
  rises = line.rises;
  below = λ x among. turned line.bottom line.top (aside x) (high x) (line.below x among);
}
  where
    turned : (a b s g : ℤ) → (a *ℤ g) <ℤ (b *ℤ neg_ℤ s) → (a *ℤ g) <ℤ (neg_ℤ b *ℤ s)
    turned a b s g h = let e : b *ℤ neg_ℤ s ≡ neg_ℤ b *ℤ s =
        ring (b ∷ s ∷ []) (search reads depth 40) refl in omega (arith, linear, e)

pub crosses_or_below : {X : Type 0} (C : X → X → Type 0) (aside high : X → ℤ) →
    ((p : X) → aside p ≡ pos 0 → pos 0 ≤ℤ high p → C p p) →
    ((p r : X) → pos 0 <ℤ aside p → aside r <ℤ pos 0 → pos 0 ≤ℤ crossing aside high p r → C p r) →
    (xs : List X) → Crosses C xs ⊎ IsBelow aside high xs
unfolding mirror_line
crosses_or_below C aside high one two [] =
    inr (record {
      bottom = pos 1;
      top = pos 0;
      rises = omega (arith, linear);
      below =
          λ x among. absurd among;
    })
crosses_or_below {X} C aside high one two (p ∷ xs) = step (crosses_or_below C aside high one two xs)
  where
    flat : (a g : ℤ) → pos 0 <ℤ a → pos 0 ≤ℤ (a *ℤ g) → pos 0 ≤ℤ g
    flat a g α h =
        by_lt_z g (pos 0)
        (λ k. absurd (omega (
          arith,
          linear,
          mul_pos a (neg_ℤ g) α (omega (arith, linear)),
          opposite
              a g,
        ))) (λ k. k)
      where
        opposite : (a g : ℤ) → a *ℤ neg_ℤ g ≡ neg_ℤ (a *ℤ g)
        opposite a g = ring (a ∷ g ∷ []) (search reads depth 40) refl

    on_line : (a b s g : ℤ) → pos 0 <ℤ a → s ≡ pos 0 → (b *ℤ s) ≤ℤ (a *ℤ g) → pos 0 ≤ℤ g
    on_line a b s g α e h =
        let z : b *ℤ s ≡ pos 0 = ap (λ (y : ℤ). b *ℤ y) e ∙ mul_zero b in
        flat a g α (omega (arith, linear, z))

    facing : (s g t h : ℤ) → neg_ℤ s *ℤ h -ℤ neg_ℤ t *ℤ g ≡ t *ℤ g -ℤ s *ℤ h
    facing s g t h = ring (s ∷ g ∷ t ∷ h ∷ []) (search reads depth 40) refl

    mirrored : (a b s g : ℤ) → (b *ℤ s) ≤ℤ (a *ℤ g) → (neg_ℤ b *ℤ neg_ℤ s) ≤ℤ (a *ℤ g)
    mirrored a b s g h = let e : neg_ℤ b *ℤ neg_ℤ s ≡ b *ℤ s =
        ring (b ∷ s ∷ []) (search reads depth 40) refl in omega (arith, linear, e)

    right : pos 0 <ℤ aside p →
        ((r : X) × Among xs r × (aside r <ℤ pos 0) × (pos 0 ≤ℤ crossing aside high p r))
        ⊎ IsBelow aside high (p ∷ xs) →
        Crosses C (p ∷ xs) ⊎ IsBelow aside high (p ∷ xs)
    right g (inl pair) =
        inl (record {
          p = p;
          r = pair.0;
          p_among = inl refl;
          r_among = inr pair.1;
          holds =
              two p pair.0 g pair.2 pair.3;
        })
    right g (inr line) = inr line

    left : aside p <ℤ pos 0 →
        ((r : X) × Among xs r × (neg_ℤ (aside r) <ℤ pos 0)
        × (pos 0 ≤ℤ crossing (λ x. neg_ℤ (aside x)) high p r)) ⊎ IsBelow (λ x. neg_ℤ (aside x))
        high (p ∷ xs) →
        Crosses C (p ∷ xs) ⊎ IsBelow aside high (p ∷ xs)
    left g (inl pair) =
        let r = pair.0 in
        let on_right = pair.2 in
        let crossed = pair.3 in
        inl (record {
          p = r;
          r = p;
          p_among = inr pair.1;
          r_among = inl refl;
          holds =
              two r p (omega (arith, linear)) g
              (omega (arith, linear, facing (aside p) (high p) (aside r) (high r)));
        })
    left g (inr line) = inr (mirror_back aside high (p ∷ xs) line)

    step : Crosses C xs ⊎ IsBelow aside high xs → Crosses C (p ∷ xs) ⊎ IsBelow aside high (p ∷ xs)
    step (inl later) =
        inl (record {
          p = later.p;
          r = later.r;
          p_among = inr later.p_among;
          r_among =
              inr later.r_among;
          holds = later.holds;
        })
    step (inr line) =
        by_lt_z (line.bottom *ℤ high p) (line.top *ℤ aside p)
        (λ under. inr (record {
          bottom = line.bottom;
          top = line.top;
          rises = line.rises;
          below =
              each (λ x. (line.bottom *ℤ high x) <ℤ (line.top *ℤ aside x)) p xs under line.below;
        }))
        (λ above. by_lt_z (pos 0) (aside p) (λ g. right g (raised aside high p xs g line above))
        (λ not_right. by_lt_z (aside p) (pos 0)
        (λ g. left g (raised (λ x. neg_ℤ (aside x)) high p xs (omega (arith, linear))
        (mirror_line aside high xs line) (mirrored line.bottom line.top (aside p) (high p) above)))
        (λ not_left.
        let zero : aside p ≡ pos 0 = omega (arith, linear) in
        inl (record {
          p = p;
          r = p;
          p_among = inl refl;
          r_among = inl refl;
          holds =
              one p zero (on_line line.bottom line.top (aside p) (high p) line.rises zero above);
        }))))
