use Rattle.std.proofs.Common.{◌≡◌, ◌∙◌, ◌<◌, ◌^◌, length, ap}
use Rattle.std.proofs.Common.{rules, arith}
use Rattle.std.proofs.lemmas.List.{length-map}
use Rattle.toml.specs.View.{table_view, view}
use Rattle.plant_file.specs.declared.fault.Part.TheVariants.{Section}
use Rattle.plant_file.specs.Faults.{elements_at}
use Rattle.plant_file.proofs.parts.place_of_section.Goals as goal

pub overflow_cast-result : goal.overflow_cast-result
overflow_cast-result c =
    let doc = table_view c.args.document.now in
    let long : length (elements_at Section doc) ≡ length c.elements.result.now =
    ap length c.elements.ensures ∙ length-map c.elements.result.now view in
    let small : c.number_of.result < 2 ^ 32 =
    omega (arith, c.requires.short Section, c.number_of.ensures.within) in
    search rules
