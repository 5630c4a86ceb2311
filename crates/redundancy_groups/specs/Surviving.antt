-- What each thruster can give after a loss.
use Rattle.std.specs.Prelude.{ℕ, List, [], ◌∷◌, map, slice_index, slice_index_or, unwrap_or}
use Rattle.std.specs.Prelude.{Bool, false, ◌&&◌, if◌then◌else◌}
use Rattle.std.specs.List.{enumerate_from}
use Rattle.plant_model.specs.declared.parts.Member.TheVariants.{Thruster as ThrusterMember}
use Rattle.plant_model.specs.declared.parts.Thruster.{Thruster}
use Rattle.plant_model.specs.declared.plant.Parts.{Parts}
use Rattle.plant_model.specs.declared.status.Loss.{Loss}
use Rattle.plant_model.specs.declared.status.Standing.{Standing}
use Rattle.plant_model.specs.declared.status.Status.{Status}
use Rattle.plant_model.specs.declared.thrust.Point.{Point}
use Rattle.plant_model.specs.Plants.{piece_points}
use Rattle.plant_model.specs.Rings.{origin}
use Rattle.bus_topology.specs.Shares.{quarter_of, share_on}
use Rattle.thrust_region.specs.Left.{left_of}
use Rattle.redundancy_groups.specs.Connections.{leads_to}
use Rattle.redundancy_groups.specs.Standing.{is_live_after, is_lost, standing_of}

-- the share of the full power on the sections to which ties lead from this one, in percent
abbrev pub share_at : Parts → Standing → ℕ → ℕ
share_at p s section = share_on p s (leads_to p s section)

-- so many quarters of its thrust the thruster may give
abbrev pub quarter_at : Parts → Standing → Thruster → ℕ
quarter_at p s t = quarter_of (share_at p s t.section) t.thresholds

-- a selected thruster on a live section is lost by itself
abbrev pub fails_alone : Parts → Status → Loss → ℕ × Thruster → Bool
fails_alone p status loss (place, t) =
    is_lost p loss (ThrusterMember place)
    && slice_index_or status.selected place false
    && is_live_after p loss t.section

-- what the thruster gives whatever is asked of it: one that is lost by itself stays at its frozen
-- thrust, if it has one, and any other gives nothing so
abbrev pub fixed_at : Parts → Status → Loss → ℕ × Thruster → Point
fixed_at p status loss (place, t) =
    if fails_alone p status loss (place, t) then unwrap_or t.frozen origin else origin

-- a thruster at so many quarters: its pieces without the barred ones, where it gives anything
abbrev pub left_at : ℕ → ℕ → Thruster → List (List Point)
left_at quarter mask t = left_of quarter mask (piece_points t)

-- what a thruster can give, as the plant stands and with these masks: nothing where it isn't
-- selected
abbrev pub pieces_at : Parts → Standing → List ℕ → ℕ × Thruster → List (List Point)
pieces_at p s barred (place, t) =
    if slice_index_or s.selected place false
    then left_at (quarter_at p s t) (slice_index barred place) t
    else [] ∷ []

-- each thruster's fixed thrust
abbrev pub fixed_of : Parts → Status → Loss → List Point
fixed_of p status loss = map (fixed_at p status loss) (enumerate_from 0 p.thrusters.items)

-- each thruster's pieces, as the plant stands after the loss
abbrev pub lists_of : Parts → Status → Loss → List (List (List Point))
lists_of p status loss =
    map (pieces_at p (standing_of p status loss) status.barred) (enumerate_from 0 p.thrusters.items)
