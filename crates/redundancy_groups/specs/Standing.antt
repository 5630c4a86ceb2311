-- How a plant stands after a loss.
use Rattle.std.specs.Prelude.{ℕ, ◌<◌, List, [], length, map, slice_get, slice_index_or}
use Rattle.std.specs.Prelude.{Option, Some, None}
use Rattle.std.specs.Prelude.{Bool, true, false, not, ◌&&◌, nat_lt}
use Rattle.std.specs.List.{list_any, range_with_len}
use Rattle.plant_model.specs.declared.limits.TheConstants.{MOST_GENERATORS, MOST_SECTIONS}
use Rattle.plant_model.specs.declared.limits.TheConstants.{MOST_THRUSTERS, MOST_TIES}
use Rattle.plant_model.specs.declared.parts.Group.{Group}
use Rattle.plant_model.specs.declared.parts.Member.{Member}
use Rattle.plant_model.specs.declared.parts.Member.TheVariants.{Section, Tie, Generator, Thruster}
use Rattle.plant_model.specs.declared.plant.Parts.{Parts}
use Rattle.plant_model.specs.declared.status.Loss.{Loss}
use Rattle.plant_model.specs.declared.status.Loss.TheVariants.{Intact, Group as GroupLoss}
use Rattle.plant_model.specs.declared.status.Standing.{Standing}
use Rattle.plant_model.specs.declared.status.Status.{Status}
use Rattle.plant_model.specs.Plants.{member_eq}

-- the loss is of the plant: a group's number is below the count
abbrev pub IsLossOf : Parts → Loss → Type 0
IsLossOf p Intact = Unit {0}
IsLossOf p (GroupLoss n) = n < length p.groups.items

abbrev pub members_of : Option Group → List Member
members_of None = []
members_of (Some g) = g.members.items

-- the members of the group that is lost
abbrev pub lost_members : Parts → Loss → List Member
lost_members p Intact = []
lost_members p (GroupLoss n) = members_of (slice_get p.groups.items n)

abbrev pub is_lost : Parts → Loss → Member → Bool
is_lost p loss member = list_any (member_eq member) (lost_members p loss)

-- the section is there, and isn't lost
abbrev pub is_live_after : Parts → Loss → ℕ → Bool
is_live_after p loss section =
    nat_lt section (length p.sections.items) && not (is_lost p loss (Section section))

-- the section that feeds a part, if the part is there, is live
abbrev pub is_fed_after : Parts → Loss → Option ℕ → Bool
is_fed_after p loss None = true
is_fed_after p loss (Some section) = is_live_after p loss section

abbrev pub is_closed_after : Parts → Status → Loss → ℕ → Bool
is_closed_after p status loss place =
    slice_index_or status.closed place false && not (is_lost p loss (Tie place))

abbrev pub runs_after : Parts → Status → Loss → ℕ → Bool
runs_after p status loss place =
    slice_index_or status.running place false
    && not (is_lost p loss (Generator place))
    && is_fed_after p loss (slice_get (map (λ g. g.section) p.generators.items) place)

abbrev pub is_selected_after : Parts → Status → Loss → ℕ → Bool
is_selected_after p status loss place =
    slice_index_or status.selected place false
    && not (is_lost p loss (Thruster place))
    && is_fed_after p loss (slice_get (map (λ t. t.section) p.thrusters.items) place)

-- each place with what it is after the loss
abbrev pub at_places : ℕ → (ℕ → Bool) → List Bool
at_places count value = map value (range_with_len 0 count)

abbrev pub standing_of : Parts → Status → Loss → Standing
standing_of p status loss = record {
  selected = at_places MOST_THRUSTERS (is_selected_after p status loss);
  running = at_places MOST_GENERATORS (runs_after p status loss);
  closed = at_places MOST_TIES (is_closed_after p status loss);
  live = at_places MOST_SECTIONS (is_live_after p loss);
}
