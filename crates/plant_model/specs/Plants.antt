-- Which parts fit together as a plant.
use Rattle.std.specs.Prelude.{ℕ, ◌-◌, ◌*◌, ◌^◌, ℤ, nat_abs, List, [], ◌∷◌, ◌++◌, length, map}
use Rattle.std.specs.Prelude.{Option, Some, None, Bool, true, false, not, ◌&&◌, ◌||◌, ◌==◌, nat_le}
use Rattle.std.specs.Prelude.{nat_lt}
use Rattle.std.specs.List.{list_all, list_any}
use Rattle.std.specs.Str.{bytes_eq}
use Rattle.plant_model.specs.declared.controller.Gains.{Gains}
use Rattle.plant_model.specs.declared.controller.WindRow.{WindRow}
use Rattle.plant_model.specs.declared.limits.TheConstants.{FARTHEST_LEVER, MOST_CHOICES, MOST_GAIN}
use Rattle.plant_model.specs.declared.limits.TheConstants.{MOST_MOMENT, MOST_POWER, MOST_SUM_LIMIT}
use Rattle.plant_model.specs.declared.limits.TheConstants.{MOST_THRESHOLD, MOST_WIND_FORCE}
use Rattle.plant_model.specs.declared.limits.TheConstants.{MOST_WIND_MOMENT}
use Rattle.plant_model.specs.declared.parts.Member.{Member}
use Rattle.plant_model.specs.declared.parts.Member.TheVariants.{Section, Tie, Generator, Thruster}
use Rattle.plant_model.specs.declared.parts.Group.{Group}
use Rattle.plant_model.specs.declared.parts.Thruster.{Thruster as ThrusterParts}
use Rattle.plant_model.specs.declared.parts.Tie.{Tie as TieParts}
use Rattle.plant_model.specs.declared.plant.Parts.{Parts}
use Rattle.plant_model.specs.declared.status.Status.{Status}
use Rattle.plant_model.specs.declared.thrust.Point.{Point}
use Rattle.plant_model.specs.Rings.{same_point, is_ring, are_sectors, is_thrust_coordinate, cut}

-- no two of the list are the same by the test
abbrev pub are_distinct : {A : Type 0} → (A → A → Bool) → List A → Bool
are_distinct same [] = true
are_distinct same (x ∷ xs) = not (list_any (same x) xs) && are_distinct same xs

-- the names of all sections, ties, generators and thrusters
abbrev pub part_names : Parts → List (List ℕ)
part_names p =
    p.sections.items ++ map (λ t. t.name) p.ties.items ++ map (λ g. g.name) p.generators.items
    ++ map (λ t. t.name) p.thrusters.items

-- two members are one part
abbrev pub member_eq : Member → Member → Bool
member_eq (Section a) (Section b) = a == b
member_eq (Tie a) (Tie b) = a == b
member_eq (Generator a) (Generator b) = a == b
member_eq (Thruster a) (Thruster b) = a == b
member_eq _ _ = false

-- the part is there
abbrev pub is_there : Parts → Member → Bool
is_there p (Section n) = nat_lt n (length p.sections.items)
is_there p (Tie n) = nat_lt n (length p.ties.items)
is_there p (Generator n) = nat_lt n (length p.generators.items)
is_there p (Thruster n) = nat_lt n (length p.thrusters.items)

-- there are members, no part twice, and each is there
abbrev pub is_group : Parts → Group → Bool
is_group p g =
    nat_le 1 (length g.members.items)
    && are_distinct member_eq g.members.items
    && list_all (is_there p) g.members.items

-- each place from the count on is false
abbrev pub is_false_from : ℕ → List Bool → Bool
is_false_from n [] = true
is_false_from n (b ∷ bs) = (nat_le 1 n || not b) && is_false_from (n - 1) bs

-- the number is at most so far from 0, either way
abbrev pub is_within : ℤ → ℤ → Bool
is_within most z = nat_le (nat_abs z) (nat_abs most)

abbrev pub is_from_one_to : ℕ → ℕ → Bool
is_from_one_to most n = nat_le 1 n && nat_le n most

abbrev pub are_gains : Gains → Bool
are_gains g =
    nat_le g.kp MOST_GAIN && nat_le g.ki MOST_GAIN && nat_le g.kd MOST_GAIN
    && nat_le g.limit MOST_SUM_LIMIT

abbrev pub is_wind_row : WindRow → Bool
is_wind_row row =
    is_within MOST_WIND_FORCE row.x && is_within MOST_WIND_FORCE row.y
    && is_within MOST_WIND_MOMENT row.n

-- thresholds of a share, none less than the one before, of which the first is at least `least`
abbrev pub are_thresholds_from : ℕ → List ℕ → Bool
are_thresholds_from least [] = true
are_thresholds_from least (t ∷ ts) =
    nat_le least t && nat_le t MOST_THRESHOLD && are_thresholds_from t ts

abbrev pub same_points : List Point → List Point → Bool
same_points [] [] = true
same_points (p ∷ ps) (r ∷ rs) = same_point p r && same_points ps rs
same_points _ _ = false

abbrev pub same_pieces : List (List Point) → List (List Point) → Bool
same_pieces [] [] = true
same_pieces (p ∷ ps) (r ∷ rs) = same_points p r && same_pieces ps rs
same_pieces _ _ = false

abbrev pub is_frozen_thrust : Option Point → Bool
is_frozen_thrust None = true
is_frozen_thrust (Some p) = is_thrust_coordinate p.x && is_thrust_coordinate p.y

-- the pieces of a thruster, each as its points
abbrev pub piece_points : ThrusterParts → List (List Point)
piece_points t = map (λ piece. piece.points.items) t.pieces.list.items

-- a thruster's numbers and ring, with the pieces into which its sectors cut the ring
abbrev pub is_thruster : ThrusterParts → Bool
is_thruster t =
    is_within FARTHEST_LEVER t.lever.x && is_within FARTHEST_LEVER t.lever.y
    && is_from_one_to MOST_POWER t.rated
    && are_thresholds_from 1 t.thresholds
    && is_ring t.ring.points.items
    && are_sectors (length t.ring.points.items) t.sectors.items
    && same_pieces (piece_points t) (cut t.ring.points.items t.sectors.items)
    && is_frozen_thrust t.frozen

-- how many choices of one piece for each thruster there are
abbrev pub choices_of : List ThrusterParts → ℕ
choices_of [] = 1
choices_of (t ∷ ts) = length t.pieces.list.items * choices_of ts

-- a mask for each thruster, and none of its bits past the thruster's pieces is set
abbrev pub are_masks : List ThrusterParts → List ℕ → Bool
are_masks [] masks = list_all (λ mask. mask == 0) masks
are_masks (t ∷ ts) [] = true
are_masks (t ∷ ts) (mask ∷ masks) =
    nat_lt mask (2 ^ length t.pieces.list.items) && are_masks ts masks

-- a status of these parts: places past the counts are false, and masks bar pieces that are there
abbrev pub is_status : Parts → Status → Bool
is_status p s =
    is_false_from (length p.thrusters.items) s.selected
    && is_false_from (length p.generators.items) s.running
    && is_false_from (length p.ties.items) s.closed
    && are_masks p.thrusters.items s.barred

-- band, gains and wind are within their limits
abbrev pub is_control : Parts → Bool
is_control p =
    list_all (λ b. nat_le b (nat_abs MOST_MOMENT)) p.band
    && list_all are_gains p.gains
    && list_all is_wind_row p.wind

-- there is a section, a thruster and a group, and no name stands twice
abbrev pub are_named_apart : Parts → Bool
are_named_apart p =
    nat_le 1 (length p.sections.items)
    && nat_le 1 (length p.thrusters.items)
    && nat_le 1 (length p.groups.items)
    && are_distinct bytes_eq (part_names p)
    && are_distinct bytes_eq (map (λ g. g.name) p.groups.items)

-- a tie's ends are there, and they differ
abbrev pub joins_two : Parts → TieParts → Bool
joins_two p t =
    is_there p (Section t.first) && is_there p (Section t.second) && not (t.first == t.second)

-- a tie has two different ends, and each part is fed by a section that is there
abbrev pub are_connected : Parts → Bool
are_connected p =
    list_all (joins_two p) p.ties.items
    && list_all (λ g. is_there p (Section g.section)) p.generators.items
    && list_all (λ t. is_there p (Section t.section)) p.thrusters.items

abbrev pub is_plant : Parts → Bool
is_plant p =
    is_control p
    && are_named_apart p
    && are_connected p
    && list_all (λ g. is_from_one_to MOST_POWER g.power) p.generators.items
    && list_all is_thruster p.thrusters.items
    && nat_le (choices_of p.thrusters.items) MOST_CHOICES
    && list_all (is_group p) p.groups.items
    && is_status p p.opening
