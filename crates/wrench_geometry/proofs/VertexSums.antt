-- Sums of one image of each list, with one list more.
use Rattle.std.proofs.Common.{◌≡◌, ℕ, suc, zero, ◌+◌, ◌*◌, ◌<◌, ◌≤◌, ℤ, pos, ◌+ℤ◌, List, [], ◌∷◌}
use Rattle.std.proofs.Common.{◌++◌, length, take, get_or, ap, ap₂, sym, ◌∙◌, refl, arith}
use Rattle.std.proofs.lemmas.Int.{ints}
use Rattle.std.proofs.lemmas.List.{take_more}
use Rattle.int_ring.proofs.Laws.{linear}
use Rattle.int_ring.proofs.Ring.{ring, reads}
use Rattle.plant_model.specs.Numbers.{IsWithin}
use Rattle.wrench_geometry.specs.declared.vector.Vec3.{Vec3}
use Rattle.wrench_geometry.specs.declared.vector.TheConstants.{MOST_PLAIN}
use Rattle.wrench_geometry.specs.Vectors.{IsVectorWithin, dot_of, greatest_of, support_of, sum_of}
use Rattle.wrench_geometry.specs.Vectors.{zero_vector}
use Rattle.wrench_geometry.specs.Wrenches.{IsImage, AreImages, IsSum, image_at, sum_at}
use Rattle.wrench_geometry.specs.Vertices.{ArePlaces}
use Rattle.wrench_geometry.proofs.Bounds.{same_vector, wider}
use Rattle.wrench_geometry.proofs.Supports.{support_more}

pub dot-sum : (w a b : Vec3) → dot_of w (sum_of a b) ≡ dot_of w a +ℤ dot_of w b
dot-sum w a b = ring (w.x ∷ w.y ∷ w.z ∷ a.x ∷ a.y ∷ a.z ∷ b.x ∷ b.y ∷ b.z ∷ [])
    (search reads depth 40) refl

pub sum-zero : (a : Vec3) → sum_of a zero_vector ≡ sum_of zero_vector a
sum-zero a = same_vector (omega (arith, ints)) (omega (arith, ints)) (omega (arith, ints))

pub sum-assoc : (a b c : Vec3) → sum_of a (sum_of b c) ≡ sum_of (sum_of a b) c
sum-assoc a b c = same_vector (omega (arith, ints)) (omega (arith, ints)) (omega (arith, ints))

zero_is_image : IsImage zero_vector
zero_is_image = record {
  x = record { low = omega (arith, ints); high = omega (arith, ints) };
  y = record { low = omega (arith, ints); high = omega (arith, ints) };
  z = record { low = omega (arith, ints); high = omega (arith, ints) };
}

pub image_at_is : (list : List Vec3) (place : ℕ) → AreImages list → IsImage (image_at list place)
image_at_is [] place h = zero_is_image
image_at_is (v ∷ list) zero h = h 0 zero_vector (omega arith)
image_at_is (v ∷ list) (suc place) h = image_at_is list place (λ k d p. h (suc k) d (omega arith))

pub sum_at-append : (lists : List (List Vec3)) (places : List ℕ) (list : List Vec3) (place : ℕ) →
    ArePlaces lists places →
    sum_at (lists ++ list ∷ []) (places ++ place ∷ []) ≡ sum_of (sum_at lists places)
    (image_at list place)
sum_at-append [] [] list place h = sum-zero (image_at list place)
sum_at-append [] (p ∷ places) list place h = absurd h
sum_at-append (l ∷ lists) [] list place h = absurd h
sum_at-append (l ∷ lists) (p ∷ places) list place h =
    ap (sum_of (image_at l p)) (sum_at-append lists places list place h.1)
    ∙ sum-assoc (image_at l p) (sum_at lists places) (image_at list place)

pub ArePlaces-append : (lists : List (List Vec3)) (places : List ℕ) (list : List Vec3) (place : ℕ) →
    ArePlaces lists places → place ≤ length list →
    ArePlaces (lists ++ list ∷ []) (places ++ place ∷ [])
ArePlaces-append [] [] list place h k = (k, tt)
ArePlaces-append [] (p ∷ places) list place h k = absurd h
ArePlaces-append (l ∷ lists) [] list place h k = absurd h
ArePlaces-append (l ∷ lists) (p ∷ places) list place h k =
    (h.0, ArePlaces-append lists places list place h.1 k)

-- what is known of the sum over the first i lists
pub record SumSoFar (w : Vec3) (lists : List (List Vec3)) (i : ℕ) (chosen : List ℕ)
    (point : Vec3) : Type 0 where
  pub places : ArePlaces (take i lists) chosen
  pub sum : point ≡ sum_at (take i lists) chosen
  pub farthest : dot_of w point ≡ support_of (take i lists) w
  pub within : IsVectorWithin (pos (i * 2000)) (pos (i * 6400000)) point

next_within : (n i : ℕ) (y z : ℤ) → IsWithin (pos (i * n)) y → IsWithin (pos n) z →
    IsWithin (pos ((i + 1) * n)) (y +ℤ z)
next_within n i y z h k =
    let a = h.low in
    let b = h.high in
    let c = k.low in
    let d = k.high in
    record { low = omega (arith, linear); high = omega (arith, linear) }

pub next_sum : (w : Vec3) (lists : List (List Vec3)) (i : ℕ) (d : List Vec3) (chosen : List ℕ)
    (point : Vec3) (place : ℕ) → i < length lists → AreImages (get_or lists i d) →
    SumSoFar w lists i chosen point → place ≤ length (get_or lists i d) →
    dot_of w (image_at (get_or lists i d) place) ≡ greatest_of w (get_or lists i d) →
    SumSoFar w lists (i + 1) (chosen ++ place ∷ [])
    (sum_of point (image_at (get_or lists i d) place))
next_sum w lists i d chosen point place h images so p e =
    let list = get_or lists i d in
    let v = image_at list place in
    let more = take_more lists i d h in
    let within = image_at_is list place images in
    record {
      places = rw more (ArePlaces-append (take i lists) chosen list place so.places p);
      sum = ap (λ (a : Vec3). sum_of a v) so.sum
          ∙ sym (sum_at-append (take i lists) chosen list place so.places)
          ∙ ap (λ (l : List (List Vec3)). sum_at l (chosen ++ place ∷ [])) (sym more);
      farthest = dot-sum w point v ∙ ap₂ ◌+ℤ◌ so.farthest e ∙ sym (support_more w lists i d h);
      within = record {
        x = next_within 2000 i point.x v.x so.within.x within.x;
        y = next_within 2000 i point.y v.y so.within.y within.y;
        z = next_within 6400000 i point.z v.z so.within.z within.z;
      };
    }

pub ArePlaces-length : (lists : List (List Vec3)) (places : List ℕ) → ArePlaces lists places →
    length places ≡ length lists
ArePlaces-length [] [] h = refl
ArePlaces-length [] (p ∷ places) h = absurd h
ArePlaces-length (l ∷ lists) [] h = absurd h
ArePlaces-length (l ∷ lists) (p ∷ places) h = ap suc (ArePlaces-length lists places h.1)

-- a sum of at most 12 images is within the limits of a demand
pub within_12 : (i : ℕ) (v : Vec3) → i ≤ 12 →
    IsVectorWithin (pos (i * 2000)) (pos (i * 6400000)) v → IsSum v
within_12 i v h w = wider (pos 24000) (pos 76800000) (omega (arith, ints)) (omega (arith, ints)) w

pub plain_12 : (i : ℕ) (v : Vec3) → i ≤ 12 → IsVectorWithin (pos (i * 2000)) (pos (i * 6400000)) v →
    IsVectorWithin MOST_PLAIN MOST_PLAIN v
plain_12 i v h w = wider MOST_PLAIN MOST_PLAIN (omega (arith, ints)) (omega (arith, ints)) w

-- an image is within the limits of a demand
pub image_is_sum : {v : Vec3} → IsImage v → IsSum v
image_is_sum w = wider (pos 24000) (pos 76800000) (omega (arith, ints)) (omega (arith, ints)) w
