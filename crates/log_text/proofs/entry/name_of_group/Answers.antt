-- The group at its place.
use Rattle.std.proofs.Common.{◌≡◌, ◌∙◌, ap, get_or, rules, sym}
use Rattle.plant_model.specs.declared.parts.Group.{Group}
use Rattle.log_text.proofs.Groups.{group_name-read}
use Rattle.log_text.proofs.entry.name_of_group.Goals as goal

pub returns : goal.returns
returns c =
    let group = c.index-as_slice-group.result in
    let is : group ≡ get_or c.args.plant.now.groups.items c.args.group group = search rules in
    ap (λ (g : Group). g.name) (sym c.index-as_slice-group.is)
    ∙ sym (group_name-read c.args.plant.now c.args.group group c.requires is)
