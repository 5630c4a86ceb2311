-- The floor of a quotient by a number above 0: between which products it lies, and how it follows
-- the order of the dividend and of the divisor. `int_div_euclid a b` is that floor.
use Rattle.std.proofs.Common.{◌≡◌, ◌<◌, ℤ, pos, negsuc, ◌+ℤ◌, ◌*ℤ◌, ◌≤ℤ◌, ◌<ℤ◌, arith, div-add-mod'}
use Rattle.std.proofs.Common.{mod-lt, ap, ◌∙◌}
use Rattle.std.specs.Int.{int_div_euclid, int_rem_euclid}
use Rattle.std.proofs.lemmas.Int.{ints}
use Rattle.int_ring.proofs.Laws.{linear, add_mul, one_mul}
use Rattle.int_ring.proofs.Order.{cancel_lt, mul_le_left, mul_ge_left}

pub floor_below : (a b : ℤ) → pos 0 <ℤ b → (int_div_euclid a b *ℤ b) ≤ℤ a
floor_below (pos a) (pos b) h = omega (arith, ints, div-add-mod' a b)
floor_below (negsuc a) (pos b) h =
    let p : 0 < b = omega (arith, ints) in omega (arith, ints, div-add-mod' a b, mod-lt a p)
floor_below a (negsuc b) h = omega (arith, linear)

pub floor_above : (a b : ℤ) → pos 0 <ℤ b → a <ℤ (int_div_euclid a b *ℤ b +ℤ b)
floor_above (pos a) (pos b) h =
    let p : 0 < b = omega (arith, ints) in omega (arith, ints, div-add-mod' a b, mod-lt a p)
floor_above (negsuc a) (pos b) h =
    let p : 0 < b = omega (arith, ints) in omega (arith, ints, div-add-mod' a b, mod-lt a p)
floor_above a (negsuc b) h = omega (arith, linear)

next : (q b : ℤ) → (q +ℤ pos 1) *ℤ b ≡ q *ℤ b +ℤ b
next q b = add_mul q (pos 1) b ∙ ap (λ (z : ℤ). q *ℤ b +ℤ z) (one_mul b)

-- the greatest number whose product with the divisor is at most the dividend
pub floor_greatest : (a b r : ℤ) → pos 0 <ℤ b → (r *ℤ b) ≤ℤ a → r ≤ℤ int_div_euclid a b
floor_greatest a b r h k =
    let q = int_div_euclid a b in
    let l : (r *ℤ b) <ℤ ((q +ℤ pos 1) *ℤ b) = omega (arith, linear, floor_above a b h, next q b) in
    let m : r <ℤ (q +ℤ pos 1) = cancel_lt r (q +ℤ pos 1) b (omega (arith, linear)) l in
    omega (arith, linear)

pub floor_is : (a b q : ℤ) → pos 0 <ℤ b → (q *ℤ b) ≤ℤ a → a <ℤ (q *ℤ b +ℤ b)
    → int_div_euclid a b ≡ q
floor_is a b q h k l =
    let f = int_div_euclid a b in
    let g : f <ℤ (q +ℤ pos 1) = cancel_lt f (q +ℤ pos 1) b (omega (arith, linear))
    (omega (arith, linear, floor_below a b h, next q b)) in
    omega (arith, linear, floor_greatest a b q h k)

pub floor_mono : (a c b : ℤ) → pos 0 <ℤ b → a ≤ℤ c → int_div_euclid a b ≤ℤ int_div_euclid c b
floor_mono a c b h k =
    floor_greatest c b (int_div_euclid a b) h (omega (arith, linear, floor_below a b h))

pub floor_nonneg : (a b : ℤ) → pos 0 <ℤ b → pos 0 ≤ℤ a → pos 0 ≤ℤ int_div_euclid a b
floor_nonneg (pos a) (pos b) h k = omega (arith, linear)
floor_nonneg (negsuc a) b h k = omega (arith, linear)
floor_nonneg a (negsuc b) h k = omega (arith, linear)

pub floor_negative : (a b : ℤ) → pos 0 <ℤ b → a <ℤ pos 0 → int_div_euclid a b <ℤ pos 0
floor_negative (pos a) b h k = omega (arith, linear)
floor_negative (negsuc a) (pos b) h k = omega (arith, linear)
floor_negative a (negsuc b) h k = omega (arith, linear)

-- a greater divisor brings the floor nearer to 0
pub floor_down : (a b c : ℤ) → pos 0 <ℤ b → b ≤ℤ c → pos 0 ≤ℤ a
    → int_div_euclid a c ≤ℤ int_div_euclid a b
floor_down a b c h k n =
    let p : pos 0 <ℤ c = omega (arith, linear) in
    let q = int_div_euclid a c in
    floor_greatest a b q h (omega (
      arith,
      linear,
      floor_below a c p,
      mul_le_left b c q k (floor_nonneg a c p n),
    ))

pub floor_up : (a b c : ℤ) → pos 0 <ℤ b → b ≤ℤ c → a <ℤ pos 0
    → int_div_euclid a b ≤ℤ int_div_euclid a c
floor_up a b c h k n =
    let p : pos 0 <ℤ c = omega (arith, linear) in
    let q = int_div_euclid a b in
    let l : q ≤ℤ pos 0 = omega (arith, linear, floor_negative a b h n) in
    floor_greatest a c q p (omega (arith, linear, floor_below a b h, mul_ge_left b c q k l))

-- the remainder lies from 0 to below the divisor, and with the floor makes the dividend
pub floor_rest : (a b : ℤ) → pos 0 <ℤ b → int_div_euclid a b *ℤ b +ℤ int_rem_euclid a b ≡ a
floor_rest (pos a) (pos b) h = omega (arith, ints, div-add-mod' a b)
floor_rest (negsuc a) (pos b) h =
    let p : 0 < b = omega (arith, ints) in omega (arith, ints, div-add-mod' a b, mod-lt a p)
floor_rest a (negsuc b) h = omega (arith, linear)

pub rest_nonneg : (a b : ℤ) → pos 0 ≤ℤ int_rem_euclid a b
rest_nonneg (pos a) b = omega (arith, linear)
rest_nonneg (negsuc a) b = omega (arith, linear)

pub rest_below : (a b : ℤ) → pos 0 <ℤ b → int_rem_euclid a b <ℤ b
rest_below a b h = omega (arith, linear, floor_rest a b h, floor_above a b h)
