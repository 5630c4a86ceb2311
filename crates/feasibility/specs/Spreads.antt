-- How far the sums of many choices reach along a direction.
use Rattle.std.specs.Prelude.{◌≡◌, ℕ, ◌<◌, ◌/◌, ◌%◌, ℤ, pos, ◌+ℤ◌, ◌≤ℤ◌, List, [], ◌∷◌, length}
use Rattle.std.specs.Prelude.{map, fold, slice_index_or, ⊤}
use Rattle.std.specs.Int.{int_max}
use Rattle.plant_model.specs.declared.thrust.Point.{Point}
use Rattle.thrust_region.specs.Choices.{choice_of, choices_of}
use Rattle.wrench_geometry.specs.declared.vector.Vec3.{Vec3}
use Rattle.wrench_geometry.specs.Chosen.{images_of}
use Rattle.wrench_geometry.specs.Vectors.{greatest_of, support_of}
use Rattle.wrench_geometry.specs.Wrenches.{image_of}

-- how far a piece of a thruster reaches along w
abbrev pub reach_of : Vec3 → Point → List Point → ℤ
reach_of w lever piece = greatest_of w (map (image_of lever) piece)

-- the farthest of its pieces
abbrev pub farthest_of : Vec3 → Point → List (List Point) → ℤ
farthest_of w lever region = fold int_max (pos 0) (map (reach_of w lever) region)

-- of each thruster the piece that is fixed, by its number, or else the one that reaches farthest
abbrev pub spread_of : Vec3 → List Point → List (List (List Point)) → List ℕ → ℤ
spread_of w (lever ∷ levers) (region ∷ regions) [] =
    farthest_of w lever region +ℤ spread_of w levers regions []
spread_of w (lever ∷ levers) (region ∷ regions) (n ∷ fixed) =
    reach_of w lever (slice_index_or region n []) +ℤ spread_of w levers regions fixed
spread_of w _ _ _ = pos 0

-- there are such pieces of the first thrusters
abbrev pub AreNumbers : List (List (List Point)) → List ℕ → Type 0
AreNumbers (region ∷ regions) (n ∷ fixed) = (n < length region) × AreNumbers regions fixed
AreNumbers [] (n ∷ fixed) = ⊥
AreNumbers _ [] = ⊤

-- the choice has these pieces of the first thrusters
abbrev pub BeginsWith : List (List (List Point)) → List ℕ → ℕ → Type 0
BeginsWith (region ∷ regions) (n ∷ fixed) k =
    (k / choices_of regions ≡ n) × BeginsWith regions fixed (k % choices_of regions)
BeginsWith _ _ k = ⊤

-- the greatest support of w among the choices that begin so
pub record IsSpread (w : Vec3) (levers : List Point) (regions : List (List (List Point)))
    (fixed : List ℕ) (z : ℤ) : Type 0 where
  pub at_most : (k : ℕ) → k < choices_of regions → BeginsWith regions fixed k →
      support_of (images_of levers (choice_of regions k)) w ≤ℤ z
  pub choice : ℕ
  pub there : choice < choices_of regions
  pub begins : BeginsWith regions fixed choice
  pub reached : support_of (images_of levers (choice_of regions choice)) w ≡ z
