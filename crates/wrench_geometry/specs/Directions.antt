-- How many directions lists have at most.
use Rattle.std.specs.Prelude.{ℕ, zero, suc, ◌+◌, ◌*◌, ◌/◌, List, fold, length, map, if◌then◌else◌}
use Rattle.wrench_geometry.specs.declared.vector.Vec3.{Vec3}
use Rattle.wrench_geometry.specs.Fans.{is_fan, thrust_of}

-- the edges of a cycle of so many points and the origin
abbrev pub edges_of : ℕ → ℕ
edges_of zero = 0
edges_of (suc m) = m + 2

-- the differences of each two of so many points and the origin
abbrev pub differences_of : ℕ → ℕ
differences_of m = m * (m + 1) / 2

-- those of one list: a fan's edges, or all differences
abbrev pub directions_in : List Vec3 → ℕ
directions_in list =
    if is_fan (map thrust_of list) then edges_of (length list) else differences_of (length list)

-- the three axes, and those of each list
abbrev pub directions_of : List (List Vec3) → ℕ
directions_of lists = fold (λ count list. count + directions_in list) 3 lists
