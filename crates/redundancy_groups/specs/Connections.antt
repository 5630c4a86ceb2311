-- Whether ties lead from one section to another, as a test.
use Rattle.std.specs.Prelude.{ℕ, zero, suc, length, slice_index_or, Bool, false, nat_lt}
use Rattle.std.specs.Prelude.{◌&&◌, ◌||◌, ◌==◌}
use Rattle.std.specs.List.{list_any, zip}
use Rattle.plant_model.specs.declared.parts.Tie.{Tie}
use Rattle.plant_model.specs.declared.plant.Parts.{Parts}
use Rattle.plant_model.specs.declared.status.Standing.{Standing}

-- the section is there, and isn't lost
abbrev pub is_live : Parts → Standing → ℕ → Bool
is_live p s section = nat_lt section (length p.sections.items)
    && slice_index_or s.live section false

-- the tie is closed, and has these two ends
abbrev pub is_closed_between : ℕ → ℕ → Tie × Bool → Bool
is_closed_between a b (tie, closed) =
    closed && (tie.first == a && tie.second == b || tie.first == b && tie.second == a)

-- both sections are live, and some tie between them is closed
abbrev pub are_joined : Parts → Standing → ℕ → ℕ → Bool
are_joined p s a b =
    is_live p s a && is_live p s b
    && list_any (is_closed_between a b) (zip p.ties.items s.closed)

-- ties lead from the one section to the other, and all sections on the way are among the first so
-- many
abbrev pub leads : Parts → Standing → ℕ → ℕ → ℕ → Bool
leads p s zero a b = a == b && is_live p s a || are_joined p s a b
leads p s (suc n) a b = leads p s n a b || leads p s n a n && leads p s n n b

-- ties lead from the one section to the other
abbrev pub leads_to : Parts → Standing → ℕ → ℕ → Bool
leads_to p s a b = leads p s (length p.sections.items) a b
