-- A number with its plain value and an interval about it, carried through the operations.
use Rattle.std.proofs.Common.{nat_abs, ◌≡◌, ℕ, ◌-◌, ◌^◌, ◌<◌, ◌≤◌, Bool, true, false, ◌&&◌, ◌||◌, T}
use Rattle.std.proofs.Common.{nat_eq, subst, ℤ, pos, negsuc, ◌+ℤ◌, ◌-ℤ◌, ◌*ℤ◌, neg_ℤ, ◌≤ℤ◌, ◌<ℤ◌}
use Rattle.std.proofs.Common.{arith, refl, ap, ap₂, ◌∙◌, int_le, Fits, SFits, to_z, of_z, pow_pos}
use Rattle.std.specs.Int.{Width, int_div_euclid, int_rem_euclid, int_min, int_max}
use Rattle.std.proofs.lemmas.Int.{by_lt_z, clamps, to_z-of_z, to_z_pos}
use lib.Signed.{non_neg}
use mir.Val.{bits, hbits}
use Rattle.int_ring.proofs.Laws.{linear}
use Rattle.int_ring.proofs.Order.{mul_le_right, mul_ge_right, mul_le_left, mul_ge_left}
use Rattle.int_ring.proofs.Quotients.{floor_mono, floor_down, floor_up, rest_nonneg, rest_below}

-- z is the value, which lies from low to high
pub record Known (z value low high : ℤ) : Type 0 where
  pub is : z ≡ value
  pub from_low : low ≤ℤ value
  pub to_high : value ≤ℤ high

-- ---- intervals and tests of them

-- the ends of a signed and of an unsigned width
abbrev pub signed_low : Width → ℤ
signed_low w = negsuc (2 ^ hbits w - 1)

abbrev pub signed_high : Width → ℤ
signed_high w = pos (2 ^ hbits w - 1)

abbrev pub unsigned_high : Width → ℤ
unsigned_high w = pos (2 ^ bits w - 1)

-- the interval from low to high fits the width
abbrev pub fits_signed : Width → ℤ → ℤ → Bool
fits_signed w low high = int_le (signed_low w) low && int_le high (signed_high w)

abbrev pub fits_unsigned : Width → ℤ → ℤ → Bool
fits_unsigned w low high = int_le (pos 0) low && int_le high (unsigned_high w)

abbrev pub least : ℤ → ℤ → ℤ → ℤ → ℤ
least a b c d = int_min (int_min a b) (int_min c d)

abbrev pub greatest : ℤ → ℤ → ℤ → ℤ → ℤ
greatest a b c d = int_max (int_max a b) (int_max c d)

-- what follows from two facts that each hold under a test
pub under_both : {A B C : Type 0} (a b : Bool) → (T a → A) → (T b → B) → (A → B → C) → T (a && b)
    → C
under_both true b f g h t = h (f tt) (g t)
under_both false b f g h t = absurd t

-- ---- the types' own intervals

pub known_itself : (z low high : ℤ) → low ≤ℤ z → z ≤ℤ high → Known z z low high
known_itself z low high l h = record { is = refl; from_low = l; to_high = h }

pub known_literal : (z : ℤ) → Known z z z z
known_literal z =
    record { is = refl; from_low = omega (arith, linear); to_high = omega (arith, linear) }

pub next_low : (a z : ℤ) → a <ℤ z → (a +ℤ pos 1) ≤ℤ z
next_low a z h = omega (arith, linear)

pub next_high : (z b : ℤ) → z <ℤ b → z ≤ℤ (b -ℤ pos 1)
next_high z b h = omega (arith, linear)

pub signed_from : (w : Width) (z : ℤ) → SFits w z → signed_low w ≤ℤ z
signed_from w z h = omega (arith, linear)

pub signed_to : (w : Width) (z : ℤ) → SFits w z → z ≤ℤ signed_high w
signed_to w z h = omega (arith, linear)

pub natural_from : (n : ℕ) → pos 0 ≤ℤ pos n
natural_from n = omega (arith, linear)

pub natural_to : (m n : ℕ) → m ≤ n → pos m ≤ℤ pos n
natural_to m n h = omega (arith, linear)

pub natural_below : (m n : ℕ) → m < n → pos m ≤ℤ (pos n -ℤ pos 1)
natural_below m n h = omega (arith, linear)

pub unsigned_to : (w : Width) (n : ℕ) → Fits w n → pos n ≤ℤ unsigned_high w
unsigned_to w n h = let f : n < 2 ^ bits w = h.fits in omega (arith, linear)

-- ---- the operations

pub known_same : (y z v l h : ℤ) → y ≡ z → Known z v l h → Known y v l h
known_same y z v l h e k = record { is = e ∙ k.is; from_low = k.from_low; to_high = k.to_high }

pub known_sum : (y v l h z w m k : ℤ) → Known y v l h → Known z w m k
    → Known (y +ℤ z) (v +ℤ w) (l +ℤ m) (h +ℤ k)
known_sum y v l h z w m k p q =
    let a = p.from_low in
    let b = p.to_high in
    let c = q.from_low in
    let d = q.to_high in
    record {
      is = ap₂ ◌+ℤ◌ p.is q.is;
      from_low = omega (arith, linear, a, c);
      to_high = omega (arith, linear, b, d);
    }

pub known_minus : (z v l h : ℤ) → Known z v l h → Known (neg_ℤ z) (neg_ℤ v) (neg_ℤ h) (neg_ℤ l)
known_minus z v l h p =
    let a = p.from_low in
    let b = p.to_high in
    record {
      is = ap neg_ℤ p.is;
      from_low = omega (arith, linear, b);
      to_high = omega (arith, linear, a);
    }

-- for a number y of any sign, x·y lies between the products of y with the ends
side_low : (l x h y : ℤ) → l ≤ℤ x → x ≤ℤ h → int_min (l *ℤ y) (h *ℤ y) ≤ℤ (x *ℤ y)
side_low l x h y p q =
    by_lt_z y (pos 0)
    (λ g. let k : y ≤ℤ pos 0 = omega (arith, linear) in
    omega (arith, linear, clamps, mul_ge_right x h y q k))
    (λ g. omega (arith, linear, clamps, mul_le_right l x y p g))

side_high : (l x h y : ℤ) → l ≤ℤ x → x ≤ℤ h → (x *ℤ y) ≤ℤ int_max (l *ℤ y) (h *ℤ y)
side_high l x h y p q =
    by_lt_z y (pos 0)
    (λ g. let k : y ≤ℤ pos 0 = omega (arith, linear) in
    omega (arith, linear, clamps, mul_ge_right l x y p k))
    (λ g. omega (arith, linear, clamps, mul_le_right x h y q g))

turned_low : (x m y k : ℤ) → m ≤ℤ y → y ≤ℤ k → int_min (x *ℤ m) (x *ℤ k) ≤ℤ (x *ℤ y)
turned_low x m y k p q =
    by_lt_z x (pos 0)
    (λ g. let n : x ≤ℤ pos 0 = omega (arith, linear) in
    omega (arith, linear, clamps, mul_ge_left y k x q n))
    (λ g. omega (arith, linear, clamps, mul_le_left m y x p g))

turned_high : (x m y k : ℤ) → m ≤ℤ y → y ≤ℤ k → (x *ℤ y) ≤ℤ int_max (x *ℤ m) (x *ℤ k)
turned_high x m y k p q =
    by_lt_z x (pos 0)
    (λ g. let n : x ≤ℤ pos 0 = omega (arith, linear) in
    omega (arith, linear, clamps, mul_ge_left m y x p n))
    (λ g. omega (arith, linear, clamps, mul_le_left y k x q g))

corner_low : (l x h m y k : ℤ) → l ≤ℤ x → x ≤ℤ h → m ≤ℤ y → y ≤ℤ k
    → least (l *ℤ m) (l *ℤ k) (h *ℤ m) (h *ℤ k) ≤ℤ (x *ℤ y)
corner_low l x h m y k p q r s = omega
    (arith, linear, clamps, side_low l x h y p q, turned_low l m y k r s, turned_low h m y k r s)

corner_high : (l x h m y k : ℤ) → l ≤ℤ x → x ≤ℤ h → m ≤ℤ y → y ≤ℤ k
    → (x *ℤ y) ≤ℤ greatest (l *ℤ m) (l *ℤ k) (h *ℤ m) (h *ℤ k)
corner_high l x h m y k p q r s = omega
    (arith, linear, clamps, side_high l x h y p q, turned_high l m y k r s, turned_high h m y k r s)

pub known_product : (y v l h z w m k : ℤ) → Known y v l h → Known z w m k →
    Known (y *ℤ z) (v *ℤ w) (least (l *ℤ m) (l *ℤ k) (h *ℤ m) (h *ℤ k))
    (greatest (l *ℤ m) (l *ℤ k) (h *ℤ m) (h *ℤ k))
known_product y v l h z w m k p q =
    record {
      is = ap₂ ◌*ℤ◌ p.is q.is;
      from_low = corner_low l v h m w k p.from_low p.to_high q.from_low q.to_high;
      to_high = corner_high l v h m w k p.from_low p.to_high q.from_low q.to_high;
    }

-- the floor lies between those of the ends, each by an end of the divisor, which is above 0
floor_low : (l v m w k : ℤ) → l ≤ℤ v → pos 0 <ℤ m → m ≤ℤ w → w ≤ℤ k
    → int_min (int_div_euclid l m) (int_div_euclid l k) ≤ℤ int_div_euclid v w
floor_low l v m w k p q r s =
    let o : pos 0 <ℤ w = omega (arith, linear) in
    let f = floor_mono l v w o p in
    by_lt_z l (pos 0)
    (λ g. omega (arith, linear, clamps, f, floor_up l m w q r g))
    (λ g. omega (arith, linear, clamps, f, floor_down l w k o s g))

floor_high : (v h m w k : ℤ) → v ≤ℤ h → pos 0 <ℤ m → m ≤ℤ w → w ≤ℤ k
    → int_div_euclid v w ≤ℤ int_max (int_div_euclid h m) (int_div_euclid h k)
floor_high v h m w k p q r s =
    let o : pos 0 <ℤ w = omega (arith, linear) in
    let f = floor_mono v h w o p in
    by_lt_z h (pos 0)
    (λ g. omega (arith, linear, clamps, f, floor_up h w k o s g))
    (λ g. omega (arith, linear, clamps, f, floor_down h m w q r g))

pub known_floor : (y v l h z w m k : ℤ) → Known y v l h → Known z w m k → T (int_le (pos 1) m) →
    Known (int_div_euclid y z) (int_div_euclid v w)
    (int_min (int_div_euclid l m) (int_div_euclid l k))
    (int_max (int_div_euclid h m) (int_div_euclid h k))
known_floor y v l h z w m k p q t =
    let o : pos 0 <ℤ m = omega (arith, linear) in
    record {
      is = ap₂ int_div_euclid p.is q.is;
      from_low = floor_low l v m w k p.from_low o q.from_low q.to_high;
      to_high = floor_high v h m w k p.to_high o q.from_low q.to_high;
    }

pub known_rest : (y v l h z w m k : ℤ) → Known y v l h → Known z w m k → T (int_le (pos 1) m) →
    Known (int_rem_euclid y z) (int_rem_euclid v w) (pos 0) (k -ℤ pos 1)
known_rest y v l h z w m k p q t =
    let a = q.from_low in
    let b = q.to_high in
    let o : pos 0 <ℤ w = omega (arith, linear) in
    record {
      is = ap₂ int_rem_euclid p.is q.is;
      from_low = rest_nonneg v w;
      to_high = omega (arith, linear, b, rest_below v w o);
    }

pub known_least : (y v l h z w m k : ℤ) → Known y v l h → Known z w m k
    → Known (int_min y z) (int_min v w) (int_min l m) (int_min h k)
known_least y v l h z w m k p q =
    let a = p.from_low in
    let b = p.to_high in
    let c = q.from_low in
    let d = q.to_high in
    record {
      is = ap₂ int_min p.is q.is;
      from_low = omega (arith, linear, clamps, a, c);
      to_high = omega (arith, linear, clamps, b, d);
    }

pub known_greatest : (y v l h z w m k : ℤ) → Known y v l h → Known z w m k
    → Known (int_max y z) (int_max v w) (int_max l m) (int_max h k)
known_greatest y v l h z w m k p q =
    let a = p.from_low in
    let b = p.to_high in
    let c = q.from_low in
    let d = q.to_high in
    record {
      is = ap₂ int_max p.is q.is;
      from_low = omega (arith, linear, clamps, a, c);
      to_high = omega (arith, linear, clamps, b, d);
    }

-- ---- what fits

pub known_fits : (w : Width) (z v l h : ℤ) → Known z v l h → T (fits_signed w l h) → SFits w z
known_fits w z v l h k =
    under_both (int_le (signed_low w) l) (int_le h (signed_high w)) (λ t. t) (λ t. t) fit
  where
    fit : T (int_le (signed_low w) l) → T (int_le h (signed_high w)) → SFits w z
    fit s t =
        let a = k.is in
        let b = k.from_low in
        let c = k.to_high in
        omega (arith, linear, pow_pos (hbits w))

pub known_fits_unsigned : (w : Width) (n : ℕ) (v l h : ℤ) → Known (pos n) v l h
    → T (int_le h (unsigned_high w)) → Fits w n
known_fits_unsigned w n v l h k t =
    let a = k.is in
    let c = k.to_high in
    record { fits = omega (arith, linear, pow_pos (bits w)) }

-- what a cast to an unsigned width asks
pub known_cast : (w : Width) (z v l h : ℤ) → Known z v l h → T (fits_unsigned w l h) → T (non_neg z)
    × Fits w (nat_abs z)
known_cast w z v l h k =
    under_both (int_le (pos 0) l) (int_le h (unsigned_high w)) (λ t. t) (λ t. t) fit
  where
    fit : T (int_le (pos 0) l) → T (int_le h (unsigned_high w)) → T (non_neg z) × Fits w (nat_abs z)
    fit s t =
        let a = k.is in
        let b = k.from_low in
        let c = k.to_high in
        (omega (arith, linear), record { fits = omega (arith, linear, pow_pos (bits w)) })

-- an unsigned number that is read as a signed one
pub known_widen : (w : Width) (n : ℕ) (v l h : ℤ) → Known (pos n) v l h
    → T (int_le h (signed_high w)) → Known (to_z w n) v l h
known_widen w n v l h k t =
    let a = k.is in
    let c = k.to_high in
    known_same (to_z w n) (pos n) v l h (to_z_pos w n (omega (arith, linear, pow_pos (hbits w)))) k

-- the bits of a number of at least 0 are the number
pub known_bits : (w : Width) (z v l h : ℤ) → Known z v l h → T (int_le (pos 0) l)
    → Known (pos (of_z w z)) v l h
known_bits w (pos n) v l h k t = k
known_bits w (negsuc n) v l h k t =
    let a = k.is in
    let b = k.from_low in
    absurd (omega (arith, linear))

-- bits that are read again: at the same width where the number fits that, and at any that the
-- number fits where it is at least 0
abbrev pub same_width : Width → Width → Bool
same_width a b = nat_eq (bits a) (bits b)

abbrev pub reads_back : Width → Width → ℤ → ℤ → Bool
reads_back a b l h =
    (same_width a b && fits_signed a l h) || (int_le (pos 0) l && int_le h (signed_high a))

same_widths : (a b : Width) → T (same_width a b) → a ≡ b
same_widths a b t = grind arith

wrapped : (a b : Width) (z v l h : ℤ) → Known z v l h → T (same_width a b) → T (fits_signed a l h)
    → Known (to_z a (of_z b z)) v l h
wrapped a b z v l h k s t =
    subst (λ (w : Width). Known (to_z a (of_z w z)) v l h) (same_widths a b s)
    (known_same (to_z a (of_z a z)) z v l h (to_z-of_z a z (known_fits a z v l h k t)) k)

pub known_read : (a b : Width) (z v l h : ℤ) → Known z v l h → T (reads_back a b l h)
    → Known (to_z a (of_z b z)) v l h
known_read a b z v l h k =
    either (same_width a b && fits_signed a l h) (int_le (pos 0) l && int_le h (signed_high a))
    (under_both (same_width a b) (fits_signed a l h) (λ s. s) (λ t. t) (wrapped a b z v l h k))
    (under_both (int_le (pos 0) l) (int_le h (signed_high a)) (λ s. s) (λ t. t)
    (λ s t. known_widen a (of_z b z) v l h (known_bits b z v l h k s) t))
  where
    either : {A : Type 0} (p q : Bool) → (T p → A) → (T q → A) → T (p || q) → A
    either true q f g t = f tt
    either false q f g t = g t

-- a number's size, which is the number itself where the interval lies at 0 and above
abbrev pub size_of : Bool → ℤ → ℤ
size_of true v = v
size_of false v = pos (nat_abs v)

pub known_size : (z v l h : ℤ) → Known z v l h
    → Known (pos (nat_abs z)) (size_of (int_le (pos 0) l) v) (int_max (pos 0) l)
    (int_max (neg_ℤ l) h)
known_size z v l h k = by_sign (int_le (pos 0) l) refl
  where
    by_sign : (b : Bool) → int_le (pos 0) l ≡ b
        → Known (pos (nat_abs z)) (size_of b v) (int_max (pos 0) l) (int_max (neg_ℤ l) h)
    by_sign true e =
        let a = k.is in
        let b = k.from_low in
        let c = k.to_high in
        record {
          is = omega (arith, linear);
          from_low = omega (arith, linear, clamps);
          to_high = omega (arith, linear, clamps);
        }
    by_sign false e =
        let b = k.from_low in
        let c = k.to_high in
        record {
          is = ap (λ (u : ℤ). pos (nat_abs u)) k.is;
          from_low = omega (arith, linear, clamps);
          to_high = omega (arith, linear, clamps);
        }

-- a difference of unsigned numbers, where it does not fall below 0
pub known_less : (m n : ℕ) (v l h w p k : ℤ) → Known (pos m) v l h → Known (pos n) w p k → n ≤ m
    → Known (pos (m - n)) (v -ℤ w) (int_max (pos 0) (l -ℤ k)) (h -ℤ p)
known_less m n v l h w p k s t e =
    let a = s.is in
    let b = s.from_low in
    let c = s.to_high in
    let d = t.is in
    let f = t.from_low in
    let g = t.to_high in
    record {
      is = omega (arith, linear);
      from_low = omega (arith, linear, clamps);
      to_high = omega (arith, linear);
    }

-- the same, where the intervals show it
pub known_gap : (m n : ℕ) (v l h w p k : ℤ) → Known (pos m) v l h → Known (pos n) w p k
    → T (int_le k l) → Known (pos (m - n)) (v -ℤ w) (int_max (pos 0) (l -ℤ k)) (h -ℤ p)
known_gap m n v l h w p k s t e =
    let a = s.is in
    let b = s.from_low in
    let d = t.is in
    let g = t.to_high in
    known_less m n v l h w p k s t (omega (arith, linear))
