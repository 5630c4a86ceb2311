-- Thrusters of a document without faults have numbers within their limits, rings and sectors.
use Rattle.std.proofs.Common.{◌≡◌, ℕ, ◌+◌, List, [], ◌∷◌, ◌++◌, length, map, Bool, true, false}
use Rattle.std.proofs.Common.{◌&&◌, Option, Some, None, Ok, ℤ, pos, nat_abs, ◌-ℤ◌, refl, ap, arith}
use Rattle.std.specs.Prelude.{option_map, unwrap_or, IsTrue}
use Rattle.std.specs.List.{enumerate_from, flat_map, list_all}
use Rattle.std.proofs.lemmas.Bool.{and_from, and_parts}
use Rattle.std.proofs.lemmas.Int.{ints}
use Rattle.toml.specs.Data.{Data, Members}
use Rattle.plant_model.specs.declared.limits.TheConstants.{FARTHEST_LEVER, MOST_POWER, MOST_THRUST}
use Rattle.plant_model.specs.declared.thrust.Point.{Point}
use Rattle.plant_model.specs.Plants.{is_frozen_thrust, is_thruster, is_within}
use Rattle.plant_model.specs.Plants.{same_pieces, same_points}
use Rattle.plant_model.specs.Rings.{are_sectors, is_ring, is_zero, same_point}
use Rattle.plant_file.specs.declared.fault.Key.{Key}
use Rattle.plant_file.specs.declared.fault.Key.TheVariants as key
use Rattle.plant_file.specs.declared.fault.Part.TheVariants as part
use Rattle.plant_file.specs.declared.fault.PlantFault.{PlantFault}
use Rattle.plant_file.specs.declared.fault.PlantFault.TheVariants.{PieceBad, RingNotConvex}
use Rattle.plant_file.specs.declared.fault.PlantFault.TheVariants.{SectorBad}
use Rattle.plant_file.specs.Described.{held, naturals_at, parts_in, piece_of, pieces_in}
use Rattle.plant_file.specs.Described.{points_at, sectors_at, thruster_in}
use Rattle.plant_file.specs.Documents.{number_at}
use Rattle.plant_file.specs.Faults.{elements_at, judged}
use Rattle.plant_file.specs.Keys.{needed, optional, point, power, thruster_rows_of_1}
use Rattle.plant_file.specs.Kinds.{has_kind, keeps_limit, point_in}
use Rattle.plant_file.specs.PlantText.{are_barred, placed, thruster_faults, unless}
use Rattle.plant_file.specs.RightKeys.{has_right_keys, is_right, HasRightKeys}
use Rattle.plant_file.proofs.Controls.{at_most, one_to}
use Rattle.plant_file.proofs.JudgedLemmas.{judged_both}
use Rattle.plant_file.proofs.KindLemmas.{point_within, right_at, thresholds_right, whole_right}
use Rattle.plant_file.proofs.RightLemmas.{thrusters_right_of_1}

less_itself : (z : ℤ) → is_zero (z -ℤ z) ≡ true
less_itself z =
    let none : z -ℤ z ≡ pos 0 = omega (arith, ints) in
    ap is_zero none

same_as_itself : (p : Point) → same_point p p ≡ true
same_as_itself p = and_from _ _ (less_itself p.x) (less_itself p.y)

same_list : (ps : List Point) → same_points ps ps ≡ true
same_list [] = refl
same_list (p ∷ ps) = and_from _ _ (same_as_itself p) (same_list ps)

-- pieces are the points that they are of
same_of_pieces : (pieces : List (List Point))
    → same_pieces (map (λ piece. piece.points.items) (map piece_of pieces)) pieces ≡ true
same_of_pieces [] = refl
same_of_pieces (p ∷ ps) = and_from _ _ (same_list p) (same_of_pieces ps)

-- what a fault that isn't there would say
pub unless_good : (good : Bool) (fault : PlantFault) → judged (unless good fault) ≡ Ok tt
    → good ≡ true
unless_good true fault none = refl
unless_good false fault none = absurd cc

coordinate_within : (most : ℕ) (d : Data) (place : ℕ)
    → (has_kind (point (pos most)) d && keeps_limit (point (pos most)) d) ≡ true
    → is_within (pos most) (number_at place d) ≡ true
coordinate_within most d place right = at_most _ most (point_within most d place right)

-- the lever of a thruster
lever_right : (key : Key) (origin : Point) (held : Option Data)
    → is_right (needed key (point FARTHEST_LEVER)) held ≡ true
    → (is_within FARTHEST_LEVER (unwrap_or (option_map point_in held) origin).x ≡ true)
    × (is_within FARTHEST_LEVER (unwrap_or (option_map point_in held) origin).y ≡ true)
lever_right key origin None right = absurd cc
lever_right key origin (Some d) right =
    let far = nat_abs FARTHEST_LEVER in
    (coordinate_within far d 0 right, coordinate_within far d 1 right)

-- the thrust at which one is frozen
frozen_right : (key : Key) (held : Option Data)
    → is_right (optional key (point MOST_THRUST)) held ≡ true
    → is_frozen_thrust (option_map point_in held) ≡ true
frozen_right key None right = refl
frozen_right key (Some d) right =
    let most = nat_abs MOST_THRUST in
    and_from _ _ (coordinate_within most d 0 right) (coordinate_within most d 1 right)

-- the faults of three tests
three_good : (a b c : Bool) (one two three : PlantFault)
    → judged (unless a one ++ unless b two ++ unless c three) ≡ Ok tt
    → (a ≡ true) × (b ≡ true) × (c ≡ true)
three_good a b c one two three none =
    let last = judged_both (unless a one ++ unless b two) (unless c three) none in
    let others = judged_both (unless a one) (unless b two) last.0 in
    (unless_good a one others.0, unless_good b two others.1, unless_good c three last.1)

-- a thruster without faults
pub thruster_good : (index : ℕ) (d : Data) → judged (thruster_faults (index, d)) ≡ Ok tt
    → (is_ring (points_at key.Ring d) ≡ true)
    × (are_sectors (length (points_at key.Ring d)) (sectors_at key.Forbid d) ≡ true)
    × (are_barred (length (pieces_in d)) (naturals_at key.Barred d) ≡ true)
thruster_good index d none =
    three_good (is_ring (points_at key.Ring d))
    (are_sectors (length (points_at key.Ring d)) (sectors_at key.Forbid d))
    (are_barred (length (pieces_in d)) (naturals_at key.Barred d))
    (RingNotConvex index) (SectorBad index) (PieceBad index) none

-- one thruster
thruster_right : (doc : Members) (index : ℕ) (d : Data) → has_right_keys thruster_rows_of_1 d ≡ true
    → judged (thruster_faults (index, d)) ≡ Ok tt → is_thruster (thruster_in doc d) ≡ true
thruster_right doc index d right none =
    let row = needed key.Rated power in
    let origin : Point = record { x = pos 0; y = pos 0 } in
    let at = right_at thruster_rows_of_1 2 row d (omega arith) right in
    let rated = right_at thruster_rows_of_1 3 row d (omega arith) right in
    let thresholds = right_at thruster_rows_of_1 4 row d (omega arith) right in
    let frozen = right_at thruster_rows_of_1 8 row d (omega arith) right in
    let lever = lever_right key.At origin (held key.At d) at in
    let good = thruster_good index d none in
    and_from _ _
    (and_from _ _
    (and_from _ _
    (and_from _ _
    (and_from _ _
    (and_from _ _
    (and_from _ _ lever.0 lever.1)
    (one_to _ MOST_POWER (whole_right key.Rated 1 MOST_POWER (held key.Rated d) rated)))
    (thresholds_right key.Thresholds (held key.Thresholds d) thresholds).1)
    good.0)
    good.1)
    (same_of_pieces (pieces_in d)))
    (frozen_right key.Frozen (held key.Frozen d) frozen)

thrusters_from : (doc : Members) (index : ℕ) (ds : List Data)
    → list_all (has_right_keys thruster_rows_of_1) ds ≡ true
    → judged (flat_map thruster_faults (enumerate_from index ds)) ≡ Ok tt
    → list_all is_thruster (map (thruster_in doc) ds) ≡ true
thrusters_from doc index [] right none = refl
thrusters_from doc index (d ∷ ds) right none =
    let are_right = has_right_keys thruster_rows_of_1 in
    let rights = and_parts (are_right d) (list_all are_right ds) right in
    let rest = flat_map thruster_faults (enumerate_from (index + 1) ds) in
    let faults = judged_both (thruster_faults (index, d)) rest none in
    and_from _ _ (thruster_right doc index d rights.0 faults.0)
    (thrusters_from doc (index + 1) ds rights.1 faults.1)

-- all thrusters
pub thrusters_right : (doc : Members) → HasRightKeys doc
    → judged (flat_map thruster_faults (placed part.Thruster doc)) ≡ Ok tt
    → IsTrue (list_all is_thruster (parts_in doc).thrusters.items)
thrusters_right doc right none =
    thrusters_from doc 0 (elements_at part.Thruster doc) (thrusters_right_of_1 doc right) none
