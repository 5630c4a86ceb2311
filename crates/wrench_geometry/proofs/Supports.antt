-- Greatest products and supports, one element more, and what they are at least.
use Rattle.std.proofs.Common.{Bool, true, false, cond, ◌≡◌, ℕ, zero, suc, ◌+◌, ◌*◌, ◌^◌, ◌<◌, ◌≤◌}
use Rattle.std.proofs.Common.{ℤ, pos, ◌+ℤ◌, ◌≤ℤ◌, List, [], ◌∷◌, All, fold, map, length, take}
use Rattle.std.proofs.Common.{get_or, ap, ap₂, sym, ◌∙◌, refl, arith, SFits, w64}
use Rattle.std.specs.Int.{int_max}
use Rattle.std.specs.Ordering.{ord_max, int_cmp, is_lt}
use Rattle.std.specs.declared.cmp.Ordering.TheVariants.{Less, Equal, Greater}
use Rattle.std.proofs.Common.{int_lt}
use Rattle.std.proofs.lemmas.Int.{fold-int_max_bounds, int_max_is}
use Rattle.std.proofs.lemmas.List.Sums.{fold_more}
use Rattle.std.proofs.lemmas.List.Folds.{fold-map}
use Rattle.int_ring.proofs.Laws.{linear}
use Rattle.int_ring.proofs.Machine.{machine}
use Rattle.plant_model.specs.Numbers.{IsWithin}
use Rattle.wrench_geometry.specs.declared.vector.Vec3.{Vec3}
use Rattle.wrench_geometry.specs.Vectors.{dot_of, greatest_of, support_of, zero_vector}
use Rattle.wrench_geometry.specs.Vertices.{IsShort}
use Rattle.wrench_geometry.specs.Wrenches.{IsImage, image_at}
use Rattle.wrench_geometry.proofs.Bounds.{within}

pub greatest_more : (w : Vec3) (list : List Vec3) (i : ℕ) (d : Vec3) → i < length list →
    greatest_of w (take (i + 1) list) ≡ int_max (greatest_of w (take i list))
    (dot_of w (get_or list i d))
greatest_more w list i d h =
    fold-map int_max (dot_of w) (pos 0) (take (i + 1) list)
    ∙ fold_more (λ b v. int_max b (dot_of w v)) (pos 0) list i d h
    ∙ ap (λ (g : ℤ). int_max g (dot_of w (get_or list i d)))
    (sym (fold-map int_max (dot_of w) (pos 0) (take i list)))

pub support_more : (w : Vec3) (lists : List (List Vec3)) (i : ℕ) (d : List Vec3) →
    i < length lists →
    support_of (take (i + 1) lists) w ≡ support_of (take i lists) w +ℤ greatest_of w
    (get_or lists i d)
support_more w lists i d h =
    fold-map ◌+ℤ◌ (greatest_of w) (pos 0) (take (i + 1) lists)
    ∙ fold_more (λ b l. b +ℤ greatest_of w l) (pos 0) lists i d h
    ∙ ap (λ (s : ℤ). s +ℤ greatest_of w (get_or lists i d))
    (sym (fold-map ◌+ℤ◌ (greatest_of w) (pos 0) (take i lists)))

-- the product of any direction of 64 bits with an image
pub product_within : (w v : Vec3) → SFits w64 w.x → SFits w64 w.y → SFits w64 w.z → IsImage v →
    IsWithin (pos (2 ^ 87)) (dot_of w v)
product_within w v a b c h = within (search machine depth 40) tt

-- what `max` gives
pub max_is : (a b : ℤ) → ord_max int_cmp a b ≡ int_max a b
max_is a b = by_tests (int_lt b a) (int_lt a b)
  where
    by_tests : (p q : Bool) → cond (is_lt (cond p Less (cond q Greater Equal))) a b ≡ cond p a b
    by_tests true q = refl
    by_tests false true = refl
    by_tests false false = refl

-- the greatest product so far, after one image more
pub next_greatest : (w : Vec3) (list : List Vec3) (i : ℕ) (d : Vec3) (g m : ℤ) → i < length list →
    (g ≡ greatest_of w (take i list)) × (pos 0 ≤ℤ g) × (g ≤ℤ pos (2 ^ 87)) →
    IsWithin (pos (2 ^ 87)) (dot_of w (get_or list i d)) →
    m ≡ int_max g (dot_of w (get_or list i d)) →
    (m ≡ greatest_of w (take (i + 1) list)) × (pos 0 ≤ℤ m) × (m ≤ℤ pos (2 ^ 87))
next_greatest w list i d g m h k b e =
    let low = k.1 in
    let high = k.2 in
    let below = b.high in (
      e ∙ ap (λ (z : ℤ). int_max z (dot_of w (get_or list i d))) k.0
          ∙ sym (greatest_more w list i d h),
      omega (arith, linear, int_max_is),
      omega
          (arith, linear, int_max_is),
    )

-- the support so far, after one list more
pub next_support : (w : Vec3) (lists : List (List Vec3)) (i : ℕ) (d : List Vec3) (t g m : ℤ) →
    i < length lists →
    (t ≡ support_of (take i lists) w) × (pos 0 ≤ℤ t) × (t ≤ℤ pos (i * 2 ^ 87)) →
    g ≡ greatest_of w (get_or lists i d) → pos 0 ≤ℤ g → g ≤ℤ pos (2 ^ 87) →
    m ≡ t +ℤ g → (m ≡ support_of (take (i + 1) lists) w) × (pos 0 ≤ℤ m) ×
    (m ≤ℤ pos ((i + 1) * 2 ^ 87))
next_support w lists i d t g m h k e low high is =
    let from = k.1 in
    let to = k.2 in (
      is ∙ ap₂ ◌+ℤ◌ k.0 e ∙ sym (support_more w lists i d h),
      omega (arith, linear),
      omega
          (arith, linear),
    )

max-right : (a b : ℤ) → a ≤ℤ b → int_max a b ≡ b
max-right a b h = omega (arith, linear, int_max_is)

max-left : (a b : ℤ) → b ≤ℤ a → int_max a b ≡ a
max-left a b h = omega (arith, linear, int_max_is)

-- the place of the greatest product so far, after one image more
module _ (w : Vec3) (list : List Vec3) (i place : ℕ) (g p : ℤ) (h : i < length list)
    (is : p ≡ dot_of w (image_at list i))
    (k : (g ≡ greatest_of w (take i list)) × (dot_of w (image_at list place) ≡ g) ×
    (place ≤ length list)) where
  more_is : greatest_of w (take (i + 1) list) ≡ int_max g p
  more_is = greatest_more w list i zero_vector h ∙ ap₂ int_max (sym k.0) (sym is)

  -- g' and the place are those after the test
  pub next_place_taken : (g' : ℤ) (place' : ℕ) → g' ≡ p → place' ≡ i → g ≤ℤ p →
      (g' ≡ greatest_of w (take (i + 1) list)) × (dot_of w (image_at list place') ≡ g') ×
      (place' ≤ length list)
  next_place_taken g' place' e f l = (
    e ∙ sym (more_is ∙ max-right g p l),
    ap (λ (n : ℕ). dot_of w (image_at list n)) f ∙ sym is
        ∙ sym e,
    omega arith,
  )

  pub next_place_left : (g' : ℤ) (place' : ℕ) → g' ≡ g → place' ≡ place → p ≤ℤ g →
      (g' ≡ greatest_of w (take (i + 1) list)) × (dot_of w (image_at list place') ≡ g') ×
      (place' ≤ length list)
  next_place_left g' place' e f l = (
    e ∙ sym (more_is ∙ max-left g p l),
    ap (λ (n : ℕ). dot_of w (image_at list n)) f ∙ k.1
        ∙ sym e,
    rw f k.2,
  )

-- ---- supports by their parts

sum_from : (xs : List ℤ) (a b : ℤ) → fold ◌+ℤ◌ (a +ℤ b) xs ≡ a +ℤ fold ◌+ℤ◌ b xs
sum_from [] a b = refl
sum_from (x ∷ xs) a b = ap (λ (z : ℤ). fold ◌+ℤ◌ z xs) (regroup a b x) ∙ sum_from xs a (b +ℤ x)
  where
    regroup : (a b x : ℤ) → a +ℤ b +ℤ x ≡ a +ℤ (b +ℤ x)
    regroup a b x = omega (arith, linear)

pub support_cons : (w : Vec3) (list : List Vec3) (lists : List (List Vec3)) →
    support_of (list ∷ lists) w ≡ greatest_of w list +ℤ support_of lists w
support_cons w list lists = ap (λ (z : ℤ). fold ◌+ℤ◌ z (map (greatest_of w) lists))
    (swap (greatest_of w list)) ∙ sum_from (map (greatest_of w) lists) (greatest_of w list) (pos 0)
  where
    swap : (a : ℤ) → pos 0 +ℤ a ≡ a +ℤ pos 0
    swap a = omega (arith, linear)

-- the greatest product is at least 0, and at least each image's
pub greatest_from_0 : (w : Vec3) (list : List Vec3) → pos 0 ≤ℤ greatest_of w list
greatest_from_0 w list =
    (fold-int_max_bounds (pos 0) (map (dot_of w) list) (greatest_of w list) refl).0

pub greatest_at_least : (w : Vec3) (list : List Vec3) →
    All (λ v. dot_of w v ≤ℤ greatest_of w list) list
greatest_at_least w list = All-from_map list (greatest_of w list)
    (fold-int_max_bounds (pos 0) (map (dot_of w) list) (greatest_of w list) refl).1
  where
    All-from_map : (list : List Vec3) (g : ℤ) → All (λ z. z ≤ℤ g) (map (dot_of w) list) →
        All (λ v. dot_of w v ≤ℤ g) list
    All-from_map [] g h k d p = absurd (omega arith)
    All-from_map (v ∷ list) g h zero d p = h 0 (pos 0) (omega arith)
    All-from_map (v ∷ list) g h (suc k) d p =
        All-from_map list g (λ i e q. h (suc i) e (omega arith)) k d (omega arith)

-- ---- the same for short vectors, in 64 bits

pub short_product_within : (w v : Vec3) → IsShort w → IsImage v →
    IsWithin (pos (2 ^ 57)) (dot_of w v)
short_product_within w v a h = within (search machine depth 40) tt

pub next_short_greatest : (w : Vec3) (list : List Vec3) (i : ℕ) (d : Vec3) (g m : ℤ) →
    i < length list →
    (g ≡ greatest_of w (take i list)) × (pos 0 ≤ℤ g) × (g ≤ℤ pos (2 ^ 57)) →
    IsWithin (pos (2 ^ 57)) (dot_of w (get_or list i d)) →
    m ≡ int_max g (dot_of w (get_or list i d)) →
    (m ≡ greatest_of w (take (i + 1) list)) × (pos 0 ≤ℤ m) × (m ≤ℤ pos (2 ^ 57))
next_short_greatest w list i d g m h k b e =
    let low = k.1 in
    let high = k.2 in
    let below = b.high in (
      e ∙ ap (λ (z : ℤ). int_max z (dot_of w (get_or list i d))) k.0
          ∙ sym (greatest_more w list i d h),
      omega (arith, linear, int_max_is),
      omega
          (arith, linear, int_max_is),
    )

pub next_short_support : (w : Vec3) (lists : List (List Vec3)) (i : ℕ) (d : List Vec3)
    (t g m : ℤ) → i < length lists →
    (t ≡ support_of (take i lists) w) × (pos 0 ≤ℤ t) × (t ≤ℤ pos (i * 2 ^ 57)) →
    g ≡ greatest_of w (get_or lists i d) → pos 0 ≤ℤ g → g ≤ℤ pos (2 ^ 57) →
    m ≡ t +ℤ g → (m ≡ support_of (take (i + 1) lists) w) × (pos 0 ≤ℤ m) ×
    (m ≤ℤ pos ((i + 1) * 2 ^ 57))
next_short_support w lists i d t g m h k e low high is =
    let from = k.1 in
    let to = k.2 in (
      is ∙ ap₂ ◌+ℤ◌ k.0 e ∙ sym (support_more w lists i d h),
      omega (arith, linear),
      omega
          (arith, linear),
    )
