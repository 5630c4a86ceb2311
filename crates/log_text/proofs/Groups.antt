-- The names of groups.
use Rattle.std.proofs.Common.{◌≡◌, ℕ, ◌<◌, [], length, get_or, Option, ap, refl}
use Rattle.std.proofs.lemmas.Option.{slice_get_read}
use Rattle.std.specs.Option.{option_map_or}
use Rattle.plant_model.specs.declared.parts.Group.{Group}
use Rattle.plant_model.specs.declared.plant.Parts.{Parts}
use Rattle.log_text.specs.Texts.{group_name}

-- a group of the plant has its name
pub group_name-read : (plant : Parts) (place : ℕ) (group : Group)
    → place < length plant.groups.items → group ≡ get_or plant.groups.items place group
    → group_name plant place ≡ group.name
group_name-read plant place group within is =
    let groups = plant.groups.items in
    ap (λ (found : Option Group). option_map_or (λ g. g.name) found [])
    (slice_get_read groups (length groups) place group refl within is)
