-- The order of products: factors of a known sign are multiplied in and cancelled, and fractions are
-- compared by their cross products.
use Rattle.std.proofs.Common.{◌≡◌, ◌≢◌, ◌⊎◌, inl, inr, ℤ, pos, negsuc, ◌+ℤ◌, ◌-ℤ◌, ◌*ℤ◌, neg_ℤ}
use Rattle.std.proofs.Common.{◌≤ℤ◌, ◌<ℤ◌, arith, List, ap, sym, ◌∙◌}
use Rattle.std.proofs.lemmas.Int.{by_lt_z, ints}
use Rattle.std.proofs.Math.IntN.{*ℤ_comm}
use Rattle.int_ring.proofs.Laws.{linear, add_mul, neg_mul, mul_neg, mul_nonneg, mul_pos, mul_assoc}
use Rattle.int_ring.proofs.Ring.{ring, Reads, none, normal}

-- ---- a difference that an identity shows not to be negative

-- certificates: `at_most (a ∷ b ∷ []) (search reads depth 40) refl (square_nonneg (a -ℤ b))` where
-- b less a is the square
pub at_most : (env : List ℤ) {a b c : ℤ} (x : Reads env (b -ℤ a -ℤ c)) → normal x.expression ≡ none
    → pos 0 ≤ℤ c → a ≤ℤ b
at_most env {a} {b} {c} x e h = let d : b -ℤ a ≡ c = ring env x e in omega (arith, linear)

pub below : (env : List ℤ) {a b c : ℤ} (x : Reads env (b -ℤ a -ℤ c)) → normal x.expression ≡ none
    → pos 0 <ℤ c → a <ℤ b
below env {a} {b} {c} x e h = let d : b -ℤ a ≡ c = ring env x e in omega (arith, linear)

-- ---- a factor that is multiplied in

difference : (a b c : ℤ) → (b -ℤ a) *ℤ c ≡ b *ℤ c -ℤ a *ℤ c
difference a b c = add_mul b (neg_ℤ a) c ∙ ap (λ (z : ℤ). b *ℤ c +ℤ z) (neg_mul a c)

pub mul_le_right : (a b c : ℤ) → a ≤ℤ b → pos 0 ≤ℤ c → (a *ℤ c) ≤ℤ (b *ℤ c)
mul_le_right a b c h k = let p : pos 0 ≤ℤ (b -ℤ a) = omega (arith, linear) in
    omega (arith, linear, mul_nonneg (b -ℤ a) c p k, difference a b c)

pub mul_lt_right : (a b c : ℤ) → a <ℤ b → pos 0 <ℤ c → (a *ℤ c) <ℤ (b *ℤ c)
mul_lt_right a b c h k = let p : pos 0 <ℤ (b -ℤ a) = omega (arith, linear) in
    omega (arith, linear, mul_pos (b -ℤ a) c p k, difference a b c)

pub mul_le_left : (a b c : ℤ) → a ≤ℤ b → pos 0 ≤ℤ c → (c *ℤ a) ≤ℤ (c *ℤ b)
mul_le_left a b c h k = omega (arith, linear, mul_le_right a b c h k, *ℤ_comm a c, *ℤ_comm b c)

pub mul_lt_left : (a b c : ℤ) → a <ℤ b → pos 0 <ℤ c → (c *ℤ a) <ℤ (c *ℤ b)
mul_lt_left a b c h k = omega (arith, linear, mul_lt_right a b c h k, *ℤ_comm a c, *ℤ_comm b c)

-- a factor that is not positive turns the order round
pub mul_ge_right : (a b c : ℤ) → a ≤ℤ b → c ≤ℤ pos 0 → (b *ℤ c) ≤ℤ (a *ℤ c)
mul_ge_right a b c h k =
    let n : pos 0 ≤ℤ neg_ℤ c = omega (arith, linear) in
    omega (arith, linear, mul_le_right a b (neg_ℤ c) h n, mul_neg a c, mul_neg b c)

pub mul_ge_left : (a b c : ℤ) → a ≤ℤ b → c ≤ℤ pos 0 → (c *ℤ b) ≤ℤ (c *ℤ a)
mul_ge_left a b c h k = omega (arith, linear, mul_ge_right a b c h k, *ℤ_comm a c, *ℤ_comm b c)

pub mul_le_mul : (a b c d : ℤ) → a ≤ℤ b → c ≤ℤ d → pos 0 ≤ℤ a → pos 0 ≤ℤ d → (a *ℤ c) ≤ℤ (b *ℤ d)
mul_le_mul a b c d h k p q = omega (arith, linear, mul_le_left c d a k p, mul_le_right a b d h q)

-- ---- a positive factor that is cancelled

pub cancel_le : (a b c : ℤ) → pos 0 <ℤ c → (a *ℤ c) ≤ℤ (b *ℤ c) → a ≤ℤ b
cancel_le a b c k h = by_lt_z b a (λ g. omega (arith, linear, mul_lt_right b a c g k)) (λ g. g)

pub cancel_lt : (a b c : ℤ) → pos 0 ≤ℤ c → (a *ℤ c) <ℤ (b *ℤ c) → a <ℤ b
cancel_lt a b c k h = by_lt_z a b (λ g. g) (λ g. omega (arith, linear, mul_le_right b a c g k))

pub cancel : (a b c : ℤ) → pos 0 <ℤ c → a *ℤ c ≡ b *ℤ c → a ≡ b
cancel a b c k e =
    let g : (a *ℤ c) ≤ℤ (b *ℤ c) = omega (arith, linear) in
    let h : (b *ℤ c) ≤ℤ (a *ℤ c) = omega (arith, linear) in
    omega (arith, linear, cancel_le a b c k g, cancel_le b a c k h)

pub cancel_le_left : (a b c : ℤ) → pos 0 <ℤ c → (c *ℤ a) ≤ℤ (c *ℤ b) → a ≤ℤ b
cancel_le_left a b c k h = let g : (a *ℤ c) ≤ℤ (b *ℤ c) =
    omega (arith, linear, *ℤ_comm a c, *ℤ_comm b c) in cancel_le a b c k g

pub cancel_lt_left : (a b c : ℤ) → pos 0 ≤ℤ c → (c *ℤ a) <ℤ (c *ℤ b) → a <ℤ b
cancel_lt_left a b c k h = let g : (a *ℤ c) <ℤ (b *ℤ c) =
    omega (arith, linear, *ℤ_comm a c, *ℤ_comm b c) in cancel_lt a b c k g

pub cancel_left : (a b c : ℤ) → pos 0 <ℤ c → c *ℤ a ≡ c *ℤ b → a ≡ b
cancel_left a b c k e = cancel a b c k (*ℤ_comm a c ∙ e ∙ *ℤ_comm c b)

-- ---- signs of products and of their factors

pub mul_nonpos : (a b : ℤ) → pos 0 ≤ℤ a → b ≤ℤ pos 0 → (a *ℤ b) ≤ℤ pos 0
mul_nonpos a b h k = let n : pos 0 ≤ℤ neg_ℤ b = omega (arith, linear) in
    omega (arith, linear, mul_nonneg a (neg_ℤ b) h n, mul_neg a b)

pub mul_neg_pos : (a b : ℤ) → a <ℤ pos 0 → pos 0 <ℤ b → (a *ℤ b) <ℤ pos 0
mul_neg_pos a b h k = let n : pos 0 <ℤ neg_ℤ a = omega (arith, linear) in
    omega (arith, linear, mul_pos (neg_ℤ a) b n k, neg_mul a b)

pub mul_pos_neg : (a b : ℤ) → pos 0 <ℤ a → b <ℤ pos 0 → (a *ℤ b) <ℤ pos 0
mul_pos_neg a b h k = omega (arith, linear, mul_neg_pos b a k h, *ℤ_comm a b)

pub mul_neg_neg : (a b : ℤ) → a <ℤ pos 0 → b <ℤ pos 0 → pos 0 <ℤ (a *ℤ b)
mul_neg_neg (pos a) b h k = omega (arith, linear)
mul_neg_neg (negsuc a) (pos b) h k = omega (arith, linear)
mul_neg_neg (negsuc a) (negsuc b) h k = omega (arith, ints)

pub pos_of_mul_pos : (a b : ℤ) → pos 0 ≤ℤ a → pos 0 <ℤ (a *ℤ b) → pos 0 <ℤ b
pos_of_mul_pos a b h k = by_lt_z (pos 0) b (λ g. g) (λ g. omega (arith, linear, mul_nonpos a b h g))

pub nonneg_of_mul_nonneg : (a b : ℤ) → pos 0 <ℤ a → pos 0 ≤ℤ (a *ℤ b) → pos 0 ≤ℤ b
nonneg_of_mul_nonneg a b h k =
    by_lt_z b (pos 0) (λ g. omega (arith, linear, mul_pos_neg a b h g)) (λ g. g)

pub zero_factor : (a b : ℤ) → a *ℤ b ≡ pos 0 → (a ≡ pos 0) ⊎ (b ≡ pos 0)
zero_factor a b e =
    by_lt_z a (pos 0)
    (λ g. inr (by_lt_z b (pos 0) (λ h. omega (arith, linear, mul_neg_neg a b g h))
    (λ h. by_lt_z (pos 0) b (λ p. omega (arith, linear, mul_neg_pos a b g p))
    (λ p. omega (arith, linear)))))
    (λ g. by_lt_z (pos 0) a
    (λ p. inr (by_lt_z b (pos 0) (λ h. omega (arith, linear, mul_pos_neg a b p h))
    (λ h. by_lt_z (pos 0) b (λ q. omega (arith, linear, mul_pos a b p q))
    (λ q. omega (arith, linear)))))
    (λ p. inl (omega (arith, linear))))

pub square_pos : (a : ℤ) → a ≢ pos 0 → pos 0 <ℤ (a *ℤ a)
square_pos a n = by_lt_z (pos 0) (a *ℤ a) (λ g. g) (λ g. absurd (n (zero_square a g)))
  where
    zero_square : (a : ℤ) → (a *ℤ a) ≤ℤ pos 0 → a ≡ pos 0
    zero_square a g =
        by_lt_z a (pos 0) (λ h. omega (arith, linear, mul_neg_neg a a h h))
        (λ h. by_lt_z (pos 0) a (λ p. omega (arith, linear, mul_pos a a p p))
        (λ p. omega (arith, linear)))

-- ---- fractions: a/b is at most c/d where a·d is at most c·b, for b and d above 0

turn : (a b c : ℤ) → a *ℤ b *ℤ c ≡ a *ℤ c *ℤ b
turn a b c = mul_assoc a b c ∙ ap (λ (z : ℤ). a *ℤ z) (*ℤ_comm b c) ∙ sym (mul_assoc a c b)

pub fraction_le_trans : (a b c d e f : ℤ) → pos 0 <ℤ b → pos 0 <ℤ d → pos 0 <ℤ f
    → (a *ℤ d) ≤ℤ (c *ℤ b) → (c *ℤ f) ≤ℤ (e *ℤ d) → (a *ℤ f) ≤ℤ (e *ℤ b)
fraction_le_trans a b c d e f β δ φ h k =
    let m = mul_le_right (a *ℤ d) (c *ℤ b) f h (omega (arith, linear)) in
    let n = mul_le_right (c *ℤ f) (e *ℤ d) b k (omega (arith, linear)) in
    cancel_le (a *ℤ f) (e *ℤ b) d δ (omega
    (arith, linear, m, n, turn a d f, turn c b f, turn e d b))

pub fraction_lt_le_trans : (a b c d e f : ℤ) → pos 0 <ℤ b → pos 0 <ℤ d → pos 0 <ℤ f
    → (a *ℤ d) <ℤ (c *ℤ b) → (c *ℤ f) ≤ℤ (e *ℤ d) → (a *ℤ f) <ℤ (e *ℤ b)
fraction_lt_le_trans a b c d e f β δ φ h k =
    let m = mul_lt_right (a *ℤ d) (c *ℤ b) f h φ in
    let n = mul_le_right (c *ℤ f) (e *ℤ d) b k (omega (arith, linear)) in
    cancel_lt (a *ℤ f) (e *ℤ b) d (omega (arith, linear))
    (omega (arith, linear, m, n, turn a d f, turn c b f, turn e d b))

pub fraction_le_lt_trans : (a b c d e f : ℤ) → pos 0 <ℤ b → pos 0 <ℤ d → pos 0 <ℤ f
    → (a *ℤ d) ≤ℤ (c *ℤ b) → (c *ℤ f) <ℤ (e *ℤ d) → (a *ℤ f) <ℤ (e *ℤ b)
fraction_le_lt_trans a b c d e f β δ φ h k =
    let m = mul_le_right (a *ℤ d) (c *ℤ b) f h (omega (arith, linear)) in
    let n = mul_lt_right (c *ℤ f) (e *ℤ d) b k β in
    cancel_lt (a *ℤ f) (e *ℤ b) d (omega (arith, linear))
    (omega (arith, linear, m, n, turn a d f, turn c b f, turn e d b))

pub fraction_lt_trans : (a b c d e f : ℤ) → pos 0 <ℤ b → pos 0 <ℤ d → pos 0 <ℤ f
    → (a *ℤ d) <ℤ (c *ℤ b) → (c *ℤ f) <ℤ (e *ℤ d) → (a *ℤ f) <ℤ (e *ℤ b)
fraction_lt_trans a b c d e f β δ φ h k =
    fraction_lt_le_trans a b c d e f β δ φ h (omega (arith, linear))

pub fraction_same_trans : (a b c d e f : ℤ) → pos 0 <ℤ d → a *ℤ d ≡ c *ℤ b → c *ℤ f ≡ e *ℤ d
    → a *ℤ f ≡ e *ℤ b
fraction_same_trans a b c d e f δ h k =
    cancel (a *ℤ f) (e *ℤ b) d δ (turn a f d ∙ ap (λ (z : ℤ). z *ℤ f) h ∙ turn c b f
    ∙ ap (λ (z : ℤ). z *ℤ b) k ∙ turn e d b)

-- both parts of a fraction times a positive number
pub fraction_scale : (a b k c d : ℤ) → pos 0 <ℤ k → (a *ℤ k *ℤ d) ≤ℤ (c *ℤ (b *ℤ k))
    → (a *ℤ d) ≤ℤ (c *ℤ b)
fraction_scale a b k c d κ h =
    cancel_le (a *ℤ d) (c *ℤ b) k κ (omega (arith, linear, turn a k d, mul_assoc c b k))
