use Rattle.std.proofs.Common.{◌≡◌, ◌∙◌, length, map, ap, sym}
use Rattle.std.proofs.Common.{rules, arith}
use Rattle.std.proofs.lemmas.List.{length-map}
use Rattle.std.specs.List.{list_all}
use Rattle.toml.specs.View.{table_view, view}
use Rattle.plant_file.specs.declared.fault.Part.TheVariants.{Generator}
use Rattle.plant_file.specs.Described.{generator_in}
use Rattle.plant_file.specs.Faults.{elements_at}
use Rattle.plant_file.specs.Keys.{generator_rows}
use Rattle.plant_file.specs.RightKeys.{has_right_keys}
use Rattle.plant_file.proofs.BuiltLemmas.{all_at, built_all, built_length, built_more}
use Rattle.plant_file.proofs.RightLemmas.{few_generators, generators_right, short_arrays}
use Rattle.plant_file.proofs.parts.generators.Goals as goal

pub generator-requires-clause-short : goal.generator-requires-clause-short
generator-requires-clause-short c = short_arrays (table_view c.args.document.now) c.requires

pub generator-requires-clause-keys : goal.generator-requires-clause-keys
generator-requires-clause-keys c =
    all_at view (has_right_keys generator_rows) c.elements-element-items.result.now
    c.loop-element.element-index c.element-item.result c.loop-element-test.true
    c.element-item.is
    (ap (list_all (has_right_keys generator_rows)) (sym c.elements-element-items.ensures)
    ∙ generators_right (table_view c.args.document.now) c.requires)

pub push-requires : goal.push-requires
push-requires c =
    let doc = table_view c.args.document.now in
    let xs = c.elements-element-items.result.now in
    let counted : length c.loop-element.generators.items ≡ c.loop-element.element-index =
    built_length (generator_in doc) view xs c.loop-element.element-index
    c.loop-element.generators.items (omega arith) c.loop-element.invariant in
    let long : length (elements_at Generator doc) ≡ length xs =
    ap length c.elements-element-items.ensures ∙ length-map xs view in
    (search rules, omega (arith, few_generators doc c.requires))

pub loop-element-preserved : goal.loop-element-preserved
loop-element-preserved c =
    c.push.ensures.items
    ∙ built_more (generator_in (table_view c.args.document.now)) view
    c.elements-element-items.result.now c.loop-element.element-index c.element-item.result
    c.loop-element.generators.items c.generator.result
    c.loop-element-test.true c.element-item.is c.loop-element.invariant c.generator.ensures

pub returns : goal.returns
returns c =
    built_all (generator_in (table_view c.args.document.now)) view
    c.elements-element-items.result.now c.loop-element.element-index
    c.loop-element.generators.items _ c.loop-element-test.false c.loop-element.invariant
    (ap (map (generator_in (table_view c.args.document.now))) c.elements-element-items.ensures)
