use Rattle.std.proofs.Common.{◌≡◌, ◌∙◌, length, ap, sym, arith, rules}
use Rattle.std.proofs.lemmas.List.{length-map}
use Rattle.std.specs.List.{list_all}
use Rattle.toml.specs.View.{table_view, view}
use Rattle.plant_model.specs.declared.limits.TheConstants.{MOST_PIECES}
use Rattle.plant_file.specs.declared.fault.Key.TheVariants.{Barred}
use Rattle.plant_file.specs.declared.fault.Part.TheVariants.{Generator, Thruster, Tie}
use Rattle.plant_file.specs.Described.{naturals_at}
use Rattle.plant_file.specs.Faults.{elements_at}
use Rattle.plant_file.specs.PlantText.{are_barred}
use Rattle.plant_file.proofs.RightLemmas.{few_generators, few_thrusters, few_ties}
use Rattle.plant_file.proofs.RightThrusters.{all_barred}
use Rattle.plant_file.proofs.building.opening.Goals as goal

pub flags-requires : goal.flags-requires
flags-requires c =
    let doc = table_view c.args.document.now in
    let xs = c.elements-thrusters.result.now in
    let long : length (elements_at Thruster doc) ≡ length xs =
    ap length c.elements-thrusters.ensures ∙ length-map xs view in
    (search rules, omega (arith, few_thrusters doc c.requires.keys))

pub flags-requires-2 : goal.flags-requires-2
flags-requires-2 c =
    let doc = table_view c.args.document.now in
    let xs = c.elements.result.now in
    let long : length (elements_at Generator doc) ≡ length xs =
    ap length c.elements.ensures ∙ length-map xs view in
    (search rules, omega (arith, few_generators doc c.requires.keys))

pub flags-requires-3 : goal.flags-requires-3
flags-requires-3 c =
    let doc = table_view c.args.document.now in
    let xs = c.elements-2.result.now in
    let long : length (elements_at Tie doc) ≡ length xs =
    ap length c.elements-2.ensures ∙ length-map xs view in
    (search rules, omega (arith, few_ties doc c.requires.keys))

pub masks-requires-clause-barred : goal.masks-requires-clause-barred
masks-requires-clause-barred c =
    ap (list_all (λ d. are_barred MOST_PIECES (naturals_at Barred d)))
    (sym c.elements-thrusters.ensures)
    ∙ all_barred (table_view c.args.document.now) c.requires.right
