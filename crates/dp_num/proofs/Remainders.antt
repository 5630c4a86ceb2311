-- The order of two quotients from that of their whole parts, and then from that of their
-- remainders.
use Rattle.std.proofs.Common.{◌≡◌, refl, ◌∙◌, ap, ℕ, ◌+◌, ◌*◌, ◌/◌, ◌%◌, ◌<◌, ◌≤◌, ◌⊎◌, inl, inr}
use Rattle.std.proofs.Common.{⊎_elim, ℤ, pos, negsuc, ◌<ℤ◌, ◌≤ℤ◌, Ordering, Less, Equal, Greater}
use Rattle.std.proofs.Common.{arith}
use Rattle.std.proofs.Math.Nat.{mul-le-mul_right, mul-lt-mul_of_pos_right, mul_comm, pos_of_ne-zero}
use Rattle.std.proofs.lemmas.Cmp.{int_ranked}
use Rattle.std.proofs.lemmas.Int.{ints}
use Rattle.std.proofs.lemmas.Nat.{div-add-mod', mod_below}
use Rattle.std.specs.Cmp.{int_cmp_is}
use Rattle.std.specs.Int.RustNames.{int_div, int_rem, unsigned_abs}
use Rattle.std.specs.Ordering.{int_cmp, MatchOrdering}
use Rattle.dp_num.specs.Fractions.{order_of_quotients}

-- ---- the order of two naturals

-- two pairs of numbers that lie the same way compare the same
same_rank : (m n m' n' : ℕ) → (m < n → m' < n') → (m ≡ n → m' ≡ n') → (n < m → n' < m')
    → int_cmp (pos m) (pos n) ≡ int_cmp (pos m') (pos n')
same_rank m n m' n' less same more =
    by (int_cmp (pos m) (pos n)) (int_ranked (pos m) (pos n) (int_cmp (pos m) (pos n)) refl)
  where
    by : (o : Ordering) → MatchOrdering o (pos m <ℤ pos n) (pos m ≡ pos n) (pos n <ℤ pos m)
        → o ≡ int_cmp (pos m') (pos n')
    by Less h = let below = less (omega (arith, ints)) in
        int_cmp_is (pos m') (pos n') Less (omega (arith, ints))
    by Equal h = int_cmp_is (pos m') (pos n') Equal (ap pos (same (omega (arith, ints))))
    by Greater h = let above = more (omega (arith, ints)) in
        int_cmp_is (pos m') (pos n') Greater (omega (arith, ints))

-- to add one number to both, or to scale both, keeps the order
added : (k m n : ℕ) → int_cmp (pos m) (pos n) ≡ int_cmp (pos (k + m)) (pos (k + n))
added k m n = same_rank m n (k + m) (k + n) (λ h. omega arith) (λ h. omega arith) (λ h. omega arith)

-- ---- quotients of naturals

-- the smaller whole part has the smaller quotient
below : (x y u v : ℕ) → 0 < y → 0 < v → x / y < u / v → x * v < u * y
below x y u v p q h =
    let under : x < u / v * y =
    omega (arith, div-add-mod' x y, mod_below x y p, mul-le-mul_right y h) in
    let scaled : x * v < u / v * y * v = mul-lt-mul_of_pos_right under q in
    let over : u / v * v ≤ u = omega (arith, div-add-mod' u v) in
    omega (arith, mul-le-mul_right y over)

-- where the whole parts are the same, the remainders decide
by_remainders : (x y u v : ℕ) → x / y ≡ u / v
    → int_cmp (pos (x % y * v)) (pos (u % v * y)) ≡ int_cmp (pos (x * v)) (pos (u * y))
by_remainders x y u v e =
    let k : ℕ = x / y * (y * v) in
    let first : k + x % y * v ≡ x * v = omega (arith, ap (λ (n : ℕ). n * v) (div-add-mod' x y)) in
    let second : k + u % v * y ≡ u * y =
    omega (arith, ap (λ (n : ℕ). n * y) (div-add-mod' u v), ap (λ (n : ℕ). n * (y * v)) e) in
    added k (x % y * v) (u % v * y) ∙ ap (λ (n : ℕ). int_cmp (pos n) (pos (k + u % v * y))) first
    ∙ ap (λ (n : ℕ). int_cmp (pos (x * v)) (pos n)) second

-- where one of two numbers is 0, a scale for each keeps their order
one_zero : (l r v y : ℕ) → 0 < v → 0 < y → (l ≡ 0) ⊎ (r ≡ 0)
    → int_cmp (pos l) (pos r) ≡ int_cmp (pos (l * v)) (pos (r * y))
one_zero l r v y p q h =
    same_rank l r (l * v) (r * y) (λ k. less h k) (λ k. same h k) (λ k. more h k)
  where
    less : (l ≡ 0) ⊎ (r ≡ 0) → l < r → l * v < r * y
    less h k = grind (arith, mul-le-mul_right)

    same : (l ≡ 0) ⊎ (r ≡ 0) → l ≡ r → l * v ≡ r * y
    same h k = grind arith

    more : (l ≡ 0) ⊎ (r ≡ 0) → r < l → r * y < l * v
    more h k = grind (arith, mul-le-mul_right)

-- ---- a step of the comparison

-- x/y and u/v are ordered as a/b and c/d are, with tops of at least 0 and bottoms of at least 1
pub record SameOrder (a b c d x y u v : ℤ) : Type 0 where
  pub first_top : pos 0 ≤ℤ x
  pub first_bottom : pos 1 ≤ℤ y
  pub second_top : pos 0 ≤ℤ u
  pub second_bottom : pos 1 ≤ℤ v
  pub same : order_of_quotients x y u v ≡ order_of_quotients a b c d

-- whole parts that differ decide
pub order-whole : (a b c d x y u v : ℤ) (o : Ordering) → SameOrder a b c d x y u v
    → o ≡ int_cmp (int_div x y) (int_div u v) → ¬ (o ≡ Equal) → o ≡ order_of_quotients a b c d
order-whole a b c d (pos x) (pos y) (pos u) (pos v) o h e apart =
    by o (int_ranked (pos (x / y)) (pos (u / v)) o e) apart ∙ h.same
  where
    some : 0 < y
    some = omega (arith, ints, h.first_bottom)

    some_more : 0 < v
    some_more = omega (arith, ints, h.second_bottom)

    by : (r : Ordering) → MatchOrdering r (pos (x / y) <ℤ pos (u / v)) (pos (x / y) ≡ pos (u / v))
        (pos (u / v) <ℤ pos (x / y)) → ¬ (r ≡ Equal)
        → r ≡ order_of_quotients (pos x) (pos y) (pos u) (pos v)
    by Less k n = let less : x * v < u * y = below x y u v some some_more (omega (arith, ints)) in
        int_cmp_is (pos (x * v)) (pos (u * y)) Less (omega (arith, ints))
    by Equal k n = absurd (n refl)
    by Greater k n = let more : u * y < x * v =
        below u v x y some_more some (omega (arith, ints)) in
        int_cmp_is (pos (x * v)) (pos (u * y)) Greater (omega (arith, ints))
order-whole a b c d (pos x) (pos y) (pos u) (negsuc v) o h e apart =
    absurd (omega (arith, ints, h.second_bottom))
order-whole a b c d (pos x) (pos y) (negsuc u) v o h e apart =
    absurd (omega (arith, ints, h.second_top))
order-whole a b c d (pos x) (negsuc y) u v o h e apart =
    absurd (omega (arith, ints, h.first_bottom))
order-whole a b c d (negsuc x) y u v o h e apart = absurd (omega (arith, ints, h.first_top))

same_whole : (x y u v : ℕ) → Equal ≡ int_cmp (pos (x / y)) (pos (u / v)) → x / y ≡ u / v
same_whole x y u v e = let h = int_ranked (pos (x / y)) (pos (u / v)) Equal e in omega (arith, ints)

-- the same whole parts, and one remainder of 0: the remainders decide as they are
pub order-rest : (a b c d x y u v : ℤ) → SameOrder a b c d x y u v
    → Equal ≡ int_cmp (int_div x y) (int_div u v) → (int_rem x y ≡ pos 0) ⊎ (int_rem u v ≡ pos 0)
    → int_cmp (int_rem x y) (int_rem u v) ≡ order_of_quotients a b c d
order-rest a b c d (pos x) (pos y) (pos u) (pos v) h e none =
    let some : 0 < y = omega (arith, ints, h.first_bottom) in
    let some_more : 0 < v = omega (arith, ints, h.second_bottom) in
    let zero_left : (x % y ≡ 0) ⊎ (u % v ≡ 0) =
    ⊎_elim (λ p. inl (omega (arith, ints))) (λ p. inr (omega (arith, ints))) none in
    one_zero (x % y) (u % v) v y some_more some zero_left
    ∙ by_remainders x y u v (same_whole x y u v e) ∙ h.same
order-rest a b c d (pos x) (pos y) (pos u) (negsuc v) h e none =
    absurd (omega (arith, ints, h.second_bottom))
order-rest a b c d (pos x) (pos y) (negsuc u) v h e none =
    absurd (omega (arith, ints, h.second_top))
order-rest a b c d (pos x) (negsuc y) u v h e none = absurd (omega (arith, ints, h.first_bottom))
order-rest a b c d (negsuc x) y u v h e none = absurd (omega (arith, ints, h.first_top))

-- the same whole parts, and no remainder of 0: the remainders turned upside down decide
pub order-turned : (a b c d x y u v : ℤ) → SameOrder a b c d x y u v
    → Equal ≡ int_cmp (int_div x y) (int_div u v) → ¬ (int_rem x y ≡ pos 0)
    → ¬ (int_rem u v ≡ pos 0) → SameOrder a b c d v (int_rem u v) y (int_rem x y)
order-turned a b c d (pos x) (pos y) (pos u) (pos v) h e left right = record {
  first_top = omega (arith, ints, h.second_bottom);
  first_bottom = omega (arith, ints, pos_of_ne-zero (λ k. right (ap pos k)));
  second_top = omega (arith, ints, h.first_bottom);
  second_bottom = omega (arith, ints, pos_of_ne-zero (λ k. left (ap pos k)));
  same =
      ap (λ (n : ℕ). int_cmp (pos n) (pos (y * (u % v)))) (mul_comm v (x % y))
      ∙ ap (λ (n : ℕ). int_cmp (pos (x % y * v)) (pos n)) (mul_comm y (u % v))
      ∙ by_remainders x y u v (same_whole x y u v e)
      ∙ h.same;
}
order-turned a b c d (pos x) (pos y) (pos u) (negsuc v) h e left right =
    absurd (omega (arith, ints, h.second_bottom))
order-turned a b c d (pos x) (pos y) (negsuc u) v h e left right =
    absurd (omega (arith, ints, h.second_top))
order-turned a b c d (pos x) (negsuc y) u v h e left right =
    absurd (omega (arith, ints, h.first_bottom))
order-turned a b c d (negsuc x) y u v h e left right = absurd (omega (arith, ints, h.first_top))

-- the bottoms get smaller
pub bottoms_fall : (a b c d x y u v : ℤ) → SameOrder a b c d x y u v
    → unsigned_abs (int_rem u v) + unsigned_abs (int_rem x y) < unsigned_abs y + unsigned_abs v
bottoms_fall a b c d (pos x) (pos y) (pos u) (pos v) h =
    let left : x % y < y = mod_below x y (omega (arith, ints, h.first_bottom)) in
    let right : u % v < v = mod_below u v (omega (arith, ints, h.second_bottom)) in
    omega arith
bottoms_fall a b c d (pos x) (pos y) (pos u) (negsuc v) h =
    absurd (omega (arith, ints, h.second_bottom))
bottoms_fall a b c d (pos x) (pos y) (negsuc u) v h = absurd (omega (arith, ints, h.second_top))
bottoms_fall a b c d (pos x) (negsuc y) u v h = absurd (omega (arith, ints, h.first_bottom))
bottoms_fall a b c d (negsuc x) y u v h = absurd (omega (arith, ints, h.first_top))
