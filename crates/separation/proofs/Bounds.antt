-- How large the parts of a cut are, and the components of directions and normals.
use Rattle.std.proofs.Common.{◌≡◌, ℕ, suc, ◌*◌, ◌≤◌, ℤ, pos, neg_ℤ, ◌+ℤ◌, ◌≤ℤ◌, ◌<ℤ◌, List, [], ◌∷◌}
use Rattle.std.proofs.Common.{length, inl, inr, ◌∙◌, arith}
use Rattle.std.specs.Prelude.{All}
use Rattle.std.proofs.lemmas.List.Elements.{All-contains}
use Rattle.int_ring.proofs.Laws.{linear}
use Rattle.int_ring.proofs.Machine.{machine}
use Rattle.plant_model.specs.Numbers.{IsWithin}
use Rattle.wrench_geometry.specs.declared.vector.Vec3.{Vec3}
use Rattle.wrench_geometry.specs.Vectors.{opposite_of, cross_of, difference_of, dot_of, greatest_of}
use Rattle.wrench_geometry.specs.Vectors.{support_of}
use Rattle.wrench_geometry.specs.Wrenches.{IsDemandVector, AreImages, IsImage}
use Rattle.wrench_geometry.proofs.Bounds.{wider, within}
use Rattle.wrench_geometry.proofs.Supports.{support_cons}
use Rattle.separation.specs.Candidates.{IsNormal}
use Rattle.separation.specs.Directions.{IsDirection, IsPoint}
use Rattle.separation.proofs.Supports.{greatest_reached, point_at_origin}

pub demand_product : (w d : Vec3) → IsNormal w → IsDemandVector d →
    IsWithin (pos 7372800000000000) (dot_of w d)
demand_product w d normal demand = within (search machine depth 40) tt

pub image_product : (w v : Vec3) → IsNormal w → IsImage v →
    IsWithin (pos 614400000000000) (dot_of w v)
image_product w v normal image = within (search machine depth 40) tt

pub greatest_below : (w : Vec3) (list : List Vec3) → IsNormal w → AreImages list →
    greatest_of w list ≤ℤ pos 614400000000000
greatest_below w list normal images = below (greatest_reached w list)
  where
    along : {a b : ℤ} → a ≡ b → b ≤ℤ pos 614400000000000 → a ≤ℤ pos 614400000000000
    along {a} {b} e g = omega (arith, linear)

    origin : {a : ℤ} → a ≡ pos 0 → a ≤ℤ pos 614400000000000
    origin {a} e = omega (arith, linear)

    point : (v : Vec3) → IsPoint list v → greatest_of w list ≡ dot_of w v →
        greatest_of w list ≤ℤ pos 614400000000000
    point v (inl is_origin) e = origin (e ∙ point_at_origin w v is_origin)
    point v (inr among) e = along e
        (image_product w v normal (All-contains IsImage list v images among)).high

    below : (v : Vec3) × IsPoint list v × (greatest_of w list ≡ dot_of w v) →
        greatest_of w list ≤ℤ pos 614400000000000
    below found = point found.0 found.1 found.2

pub opposite_normal : (v : Vec3) → IsNormal v → IsNormal (opposite_of v)
opposite_normal v normal = record { x = turned normal.x; y = turned normal.y; z = turned normal.z }
  where
    turned : {most z : ℤ} → IsWithin most z → IsWithin most (neg_ℤ z)
    turned {most} {z} g =
        record { low = omega (arith, linear, g.high); high = omega (arith, linear, g.low) }

-- the cross product of two directions is a normal
pub cross_normal : (a b : Vec3) → IsDirection a → IsDirection b → IsNormal (cross_of a b)
cross_normal a b f g =
    record {
      x = within (search machine depth 40) tt;
      y = within (search machine depth 40) tt;
      z =
          within (search machine depth 40) tt;
    }

-- the difference of two images is a direction, and so is an image
pub difference_direction : (a b : Vec3) → IsImage a → IsImage b → IsDirection (difference_of a b)
difference_direction a b f g =
    record {
      x = within (search machine depth 40) tt;
      y = within (search machine depth 40) tt;
      z =
          within (search machine depth 40) tt;
    }

pub image_direction : (v : Vec3) → IsImage v → IsDirection v
image_direction v f = wider _ _ (omega (arith, linear)) (omega (arith, linear)) f

-- the support of a normal, at most so much for each list
support_at_most : (w : Vec3) (lists : List (List Vec3)) → IsNormal w → All AreImages lists →
    support_of lists w ≤ℤ pos (length lists * 614400000000000)
support_at_most w [] normal images = omega (arith, linear)
support_at_most w (list ∷ lists) normal images =
    sum (length lists) (support_cons w list lists) (greatest_below w list normal (images 0 [] (omega arith)))
    (support_at_most w lists normal (λ k d h. images (suc k) d (omega arith)))
  where
    sum : (n : ℕ) {a b c : ℤ} → a ≡ b +ℤ c → b ≤ℤ pos 614400000000000 →
        c ≤ℤ pos (n * 614400000000000) → a ≤ℤ pos (suc n * 614400000000000)
    sum n {a} {b} {c} e g h = omega (arith, linear)

pub support_below : (w : Vec3) (lists : List (List Vec3)) → IsNormal w → All AreImages lists →
    length lists ≤ 12 → support_of lists w <ℤ pos 7500000000000000
support_below w lists normal images few =
    below (support_at_most w lists normal images)
  where
    below : {a : ℤ} → a ≤ℤ pos (length lists * 614400000000000) → a <ℤ pos 7500000000000000
    below {a} h = omega (arith, linear)
