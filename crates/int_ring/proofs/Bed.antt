-- What the library is measured by: identities of vectors, orders of turns and of fractions, and a
-- number that fits. Each is an example of one line's use.
use Rattle.std.proofs.Common.{T, nat_abs, ◌≡◌, ℕ, ◌≤◌, ◌*◌, List, [], ◌∷◌, ℤ, pos, negsuc, ◌+ℤ◌}
use Rattle.std.proofs.Common.{◌-ℤ◌, ◌*ℤ◌, ◌≤ℤ◌, ◌<ℤ◌, arith, refl, Fits, SFits, to_z, of_z, w32}
use Rattle.std.proofs.Common.{w64}
use lib.Signed.{non_neg}
use Rattle.std.specs.Int.{int_div_euclid, w128}
use Rattle.int_ring.proofs.Laws.{linear, square_nonneg}
use Rattle.int_ring.proofs.Ring.{ring, ring_with, reads}
use Rattle.int_ring.proofs.Order.{at_most, fraction_le_trans}
use Rattle.int_ring.proofs.Machine.{fits, fits_cast, fits_natural, strip, strip_ring, machine}
use Rattle.int_ring.proofs.Machine.{Strips, strip_known, at_least_negsuc, at_most_pos}

-- ---- vectors in space

record Vector : Type 0 where
  x : ℤ
  y : ℤ
  z : ℤ

abbrev dot : Vector → Vector → ℤ
dot a b = a.x *ℤ b.x +ℤ a.y *ℤ b.y +ℤ a.z *ℤ b.z

abbrev cross : Vector → Vector → Vector
cross a b = record {
  x = a.y *ℤ b.z -ℤ a.z *ℤ b.y;
  y = a.z *ℤ b.x -ℤ a.x *ℤ b.z;
  z = a.x *ℤ b.y -ℤ a.y *ℤ b.x;
}

abbrev det : Vector → Vector → Vector → ℤ
det a b c = dot a (cross b c)

-- the places of two, three and four vectors
abbrev two : Vector → Vector → List ℤ
two a b = a.x ∷ a.y ∷ a.z ∷ b.x ∷ b.y ∷ b.z ∷ []

abbrev three : Vector → Vector → Vector → List ℤ
three a b c = a.x ∷ a.y ∷ a.z ∷ two b c

abbrev four : Vector → Vector → Vector → Vector → List ℤ
four a b c d = a.x ∷ a.y ∷ a.z ∷ three b c d

cyclic : (a b c : Vector) → det a b c ≡ det b c a
cyclic a b c = ring (three a b c) (search reads depth 40) refl

-- Lagrange's identity
lagrange : (a b : Vector) → dot (cross a b) (cross a b) ≡ dot a a *ℤ dot b b -ℤ dot a b *ℤ dot a b
lagrange a b = ring (two a b) (search reads depth 40) refl

-- the inequality of Cauchy and Schwarz is the same identity as a certificate
schwarz : (a b : Vector) → (dot a b *ℤ dot a b) ≤ℤ (dot a a *ℤ dot b b)
schwarz a b =
    let c = cross a b in
    omega (arith, linear, lagrange a b, square_nonneg c.x, square_nonneg c.y, square_nonneg c.z)

-- Cramer's rule: a vector times the determinant of three, as their combination
cramer_x : (a b c d : Vector) → det a b c *ℤ d.x ≡ det d b c *ℤ a.x +ℤ det a d c *ℤ b.x
    +ℤ det a b d *ℤ c.x
cramer_x a b c d = ring (four a b c d) (search reads depth 40) refl

cramer_y : (a b c d : Vector) → det a b c *ℤ d.y ≡ det d b c *ℤ a.y +ℤ det a d c *ℤ b.y
    +ℤ det a b d *ℤ c.y
cramer_y a b c d = ring (four a b c d) (search reads depth 40) refl

cramer_z : (a b c d : Vector) → det a b c *ℤ d.z ≡ det d b c *ℤ a.z +ℤ det a d c *ℤ b.z
    +ℤ det a b d *ℤ c.z
cramer_z a b c d = ring (four a b c d) (search reads depth 40) refl

-- ---- turns in the plane

record Point : Type 0 where
  x : ℤ
  y : ℤ

-- above 0 where a, b, c turn left
abbrev turn : Point → Point → Point → ℤ
turn a b c = (b.x -ℤ a.x) *ℤ (c.y -ℤ a.y) -ℤ (b.y -ℤ a.y) *ℤ (c.x -ℤ a.x)

turns : (a b c p : Point) → turn a b c ≡ turn p a b +ℤ turn p b c +ℤ turn p c a
turns a b c p =
    ring (a.x ∷ a.y ∷ b.x ∷ b.y ∷ c.x ∷ c.y ∷ p.x ∷ p.y ∷ []) (search reads depth 40) refl

left : (a b c p : Point) → pos 0 <ℤ turn p a b → pos 0 <ℤ turn p b c → pos 0 <ℤ turn p c a
    → pos 0 <ℤ turn a b c
left a b c p h k l = omega (arith, linear, turns a b c p)

-- the five-point relation that stands behind the transitivity of turns
interior : (t a b c d : Point) → turn t a b *ℤ turn t c d
    +ℤ turn t b c *ℤ turn t a d ≡ turn t a c *ℤ turn t b d
interior t a b c d = ring (t.x ∷ t.y ∷ a.x ∷ a.y ∷ b.x ∷ b.y ∷ c.x ∷ c.y ∷ d.x ∷ d.y ∷ [])
    (search reads depth 40) refl

-- ---- orders

twice_mean : (a b : ℤ) → (pos 2 *ℤ (a *ℤ b)) ≤ℤ (a *ℤ a +ℤ b *ℤ b)
twice_mean a b = at_most (a ∷ b ∷ []) (search reads depth 40) refl (square_nonneg (a -ℤ b))

fractions : (a b c d e f : ℤ) → pos 0 <ℤ b → pos 0 <ℤ d → pos 0 <ℤ f → (a *ℤ d) ≤ℤ (c *ℤ b)
    → (c *ℤ f) ≤ℤ (e *ℤ d) → (a *ℤ f) ≤ℤ (e *ℤ b)
fractions a b c d e f h k l p q = fraction_le_trans a b c d e f h k l p q

naturals : (m n : ℕ) (a : ℤ) → pos (m * n) *ℤ a ≡ a *ℤ pos n *ℤ pos m
naturals m n a = ring (a ∷ pos m ∷ pos n ∷ []) (search reads depth 40) refl

-- under an equation: the point p lies on the line through 0 and d
on_line : (d p : Point) (k : ℤ) → d.x *ℤ p.y ≡ d.y *ℤ p.x → d.x *ℤ (p.y *ℤ k) ≡ p.x *ℤ k *ℤ d.y
on_line d p k h = ring_with (d.x ∷ d.y ∷ p.x ∷ p.y ∷ k ∷ []) k h (search reads depth 40) refl

-- 26 places
places : (a b c d e f g h i j k l m n o p q r s t u v w x y z : ℤ)
    → (a +ℤ z) *ℤ (b +ℤ y) *ℤ (m +ℤ n) ≡ (n +ℤ m) *ℤ (y *ℤ z +ℤ a *ℤ b +ℤ a *ℤ y +ℤ b *ℤ z)
places a b c d e f g h i j k l m n o p q r s t u v w x y z =
    ring (a ∷ b ∷ c ∷ d ∷ e ∷ f ∷ g ∷ h ∷ i ∷ j ∷ k ∷ l ∷ m ∷ n ∷ o ∷ p ∷ q ∷ r ∷ s ∷ t ∷ u ∷ v ∷ w
    ∷ x ∷ y ∷ z ∷ []) (search reads depth 40) refl

-- ---- machine numbers, as goals show them

-- a position whose coordinates are `i32` fields within 1 000 000
record Position (p : Vector) : Type 0 where
  x_low : negsuc 999999 ≤ℤ p.x
  x_high : p.x ≤ℤ pos 1000000
  y_low : negsuc 999999 ≤ℤ p.y
  y_high : p.y ≤ℤ pos 1000000
  z_low : negsuc 999999 ≤ℤ p.z
  z_high : p.z ≤ℤ pos 1000000

-- `i64::from(..)` of a difference of two `i32`
abbrev gap : ℤ → ℤ → ℤ
gap a b = to_z w64 (of_z w64 (to_z w32 (of_z w32 (to_z w32 (of_z w32 a) -ℤ to_z w32 (of_z w32 b)))))

volume_fits : (a b : Vector) → Position a → Position b
    → SFits w64 (to_z w64 (of_z w64 (gap a.x b.x *ℤ gap a.y b.y)) *ℤ gap a.z b.z)
volume_fits a b h k = fits (search machine depth 40) tt

volume_is : (a b : Vector) → Position a → Position b →
    to_z w64 (of_z w64 (to_z w64 (of_z w64 (gap a.x b.x *ℤ gap a.y b.y)) *ℤ gap a.z b.z)) ≡ (a.x
    -ℤ b.x) *ℤ (a.y -ℤ b.y) *ℤ (a.z -ℤ b.z)
volume_is a b h k = strip (search machine depth 40) tt

-- the same where the definition is written in another form
area_is : (a b : Vector) → Position a → Position b
    → to_z w64 (of_z w64 (gap a.x b.x *ℤ gap a.y b.y)) ≡ a.x *ℤ a.y -ℤ a.x *ℤ b.y -ℤ b.x *ℤ a.y
    +ℤ b.x *ℤ b.y
area_is a b h k = strip_ring (a.x ∷ a.y ∷ b.x ∷ b.y ∷ []) (search machine depth 40) tt
    (search reads depth 40) refl

-- a floor whose divisor is a number within bounds: 40 000·c·(18 000 - c) over 405 000 000 - c·(18
-- 000 - c)
arch_fits : (c : ℕ) → c ≤ 18000 →
    SFits w32 (int_div_euclid (pos 40000 *ℤ (to_z w64 c *ℤ (pos 18000 -ℤ to_z w64 c)))
    (pos 405000000 -ℤ to_z w64 c *ℤ (pos 18000 -ℤ to_z w64 c)))
arch_fits c h = fits (search machine depth 40 fits 5000) tt

-- numbers of 64 bits with no bound of their own fit 128 bits
wide_fits : (e : ℤ) (k : ℕ) → SFits w64 e → Fits w64 k →
    SFits w128 (int_div_euclid (to_z w128 k *ℤ to_z w128 (of_z w128 (to_z w64 (of_z w64 e))))
    (pos 1000) -ℤ e)
wide_fits e k h l = fits (search machine depth 40) tt

-- bounds that no hypothesis has in a form that is read
half_fits : (k : ℤ) → negsuc 1999 ≤ℤ (k +ℤ k) → (k +ℤ k) ≤ℤ pos 2000
    → SFits w32 (to_z w32 (of_z w32 k) *ℤ k)
half_fits k h l =
    let low : negsuc 999 ≤ℤ k = omega (arith, linear) in
    let high : k ≤ℤ pos 1000 = omega (arith, linear) in
    fits (search machine depth 40) tt

-- the tighter of two bounds, where the looser stands nearer
tight_fits : (k : ℤ) → negsuc 999 ≤ℤ k → k ≤ℤ pos 1000 → k ≤ℤ pos 5000000 → SFits w32 (k *ℤ k)
tight_fits k low high loose =
    let s : Strips k = strip_known k (at_least_negsuc k 999 low) (at_most_pos k 1000 high) in
    fits (search machine depth 40) tt

-- a product of two negative numbers as a `u32`
cast_fits : (e f : ℤ) → SFits w32 e → negsuc 1000 ≤ℤ f → f ≤ℤ negsuc 5 → negsuc 1000 ≤ℤ e
    → e ≤ℤ negsuc 7 → T (non_neg (e *ℤ f)) × Fits w32 (nat_abs (e *ℤ f))
cast_fits e f h k l m n = fits_cast (search machine depth 40) tt

cast_is : (e f : ℤ) → negsuc 1000 ≤ℤ f → f ≤ℤ negsuc 5 → negsuc 1000 ≤ℤ e → e ≤ℤ negsuc 7
    → to_z w64 (nat_abs (e *ℤ f)) ≡ e *ℤ f
cast_is e f k l m n = strip (search machine depth 40) tt

size_fits : (e f : ℤ) → SFits w32 e → SFits w32 f → Fits w64 (nat_abs (e *ℤ f) * 2)
size_fits e f h k = fits_natural (search machine depth 40) tt

unsigned_fits : (m n : ℕ) → Fits w32 m → n ≤ 1000 → Fits w64 (m * n * n)
unsigned_fits m n h k = fits_natural (search machine depth 40) tt
