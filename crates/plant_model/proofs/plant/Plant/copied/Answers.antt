use Rattle.std.proofs.Common.{IsTrue, ◌∙◌, subst, sym}
use Rattle.plant_model.specs.Plants.{is_plant}
use Rattle.plant_model.specs.declared.plant.Parts.{Parts}
use Rattle.plant_model.proofs.Copies.{parts-is}
use Rattle.plant_model.proofs.plant.Plant.copied.Goals as goal

pub invariant_of-result : goal.invariant_of-result
invariant_of-result c =
    let same = parts-is c.self.inside.parts c.in_ok-parts.parts c.in_ok-parts.ensures.cases in
    subst (λ (parts : Parts). IsTrue (is_plant parts)) (sym same) c.self.invariant

pub returns : goal.returns
returns c =
    parts-is c.self.inside.parts c.in_ok-parts.parts c.in_ok-parts.ensures.cases ∙ c.self.view_is
