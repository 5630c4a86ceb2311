-- Vectors in space, their products, and supports.
use Rattle.std.specs.Prelude.{ℤ, pos, neg_ℤ, ◌+ℤ◌, ◌-ℤ◌, ◌*ℤ◌, List, map, fold}
use Rattle.std.specs.Int.{int_max}
use Rattle.plant_model.specs.Numbers.{IsWithin}
use Rattle.wrench_geometry.specs.declared.vector.Vec3.{Vec3}

abbrev pub dot_of : Vec3 → Vec3 → ℤ
dot_of a b = a.x *ℤ b.x +ℤ a.y *ℤ b.y +ℤ a.z *ℤ b.z

abbrev pub cross_of : Vec3 → Vec3 → Vec3
cross_of a b = record {
  x = a.y *ℤ b.z -ℤ a.z *ℤ b.y;
  y = a.z *ℤ b.x -ℤ a.x *ℤ b.z;
  z = a.x *ℤ b.y -ℤ a.y *ℤ b.x;
}

-- the determinant of three vectors
abbrev pub det_of : Vec3 → Vec3 → Vec3 → ℤ
det_of a b c = dot_of a (cross_of b c)

abbrev pub sum_of : Vec3 → Vec3 → Vec3
sum_of a b = record { x = a.x +ℤ b.x; y = a.y +ℤ b.y; z = a.z +ℤ b.z }

abbrev pub difference_of : Vec3 → Vec3 → Vec3
difference_of a b = record { x = a.x -ℤ b.x; y = a.y -ℤ b.y; z = a.z -ℤ b.z }

abbrev pub opposite_of : Vec3 → Vec3
opposite_of a = record { x = neg_ℤ a.x; y = neg_ℤ a.y; z = neg_ℤ a.z }

abbrev pub scaled_by : ℤ → Vec3 → Vec3
scaled_by k a = record { x = k *ℤ a.x; y = k *ℤ a.y; z = k *ℤ a.z }

abbrev pub zero_vector : Vec3
zero_vector = record { x = pos 0; y = pos 0; z = pos 0 }

-- the components are at most so far from 0, those of forces and that of the moment
pub record IsVectorWithin (force moment : ℤ) (v : Vec3) : Type 0 where
  pub x : IsWithin force v.x
  pub y : IsWithin force v.y
  pub z : IsWithin moment v.z

-- the greatest product of w with a point of the list or with the origin
abbrev pub greatest_of : Vec3 → List Vec3 → ℤ
greatest_of w list = fold int_max (pos 0) (map (dot_of w) list)

-- the support of the lists: the greatest products of w, summed
abbrev pub support_of : List (List Vec3) → Vec3 → ℤ
support_of lists w = fold ◌+ℤ◌ (pos 0) (map (greatest_of w) lists)
