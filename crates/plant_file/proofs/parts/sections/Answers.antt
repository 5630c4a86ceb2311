use Rattle.std.proofs.Common.{◌≡◌, length, map, true, ap, sym, ◌∙◌, rules, arith}
use Rattle.std.proofs.lemmas.List.{length-map}
use Rattle.std.specs.List.{list_all}
use Rattle.toml.specs.View.{table_view, view}
use Rattle.plant_file.specs.declared.fault.Key.TheVariants.{Name}
use Rattle.plant_file.specs.declared.fault.Part.TheVariants.{Section}
use Rattle.plant_file.specs.Described.{held, text_at}
use Rattle.plant_file.specs.Faults.{elements_at}
use Rattle.plant_file.specs.Keys.{section_rows, needed}
use Rattle.plant_file.specs.RightKeys.{has_right_keys}
use Rattle.plant_file.specs.declared.kind.Kind.TheVariants as kind
use Rattle.plant_file.proofs.BuiltLemmas.{all_at, built_all, built_length, built_more}
use Rattle.plant_file.proofs.KindLemmas.{name_right, right_at}
use Rattle.plant_file.proofs.RightLemmas.{few_sections, sections_right}
use Rattle.plant_file.proofs.parts.sections.Goals as goal

pub name-requires : goal.name-requires
name-requires c =
    let xs = c.elements-element-items.result.now in
    let right = sections_right (table_view c.args.document.now) c.requires in
    let here : has_right_keys section_rows (view c.element-item.result) ≡ true =
    all_at view (has_right_keys section_rows) xs c.loop-element.element-index c.element-item.result
    c.loop-element-test.true c.element-item.is
    (ap (list_all (has_right_keys section_rows)) (sym c.elements-element-items.ensures) ∙ right) in
    rw c.text_at.ensures
    (name_right Name (held Name (view c.element-item.result))
    (right_at section_rows 0 (needed Name kind.Name) (view c.element-item.result)
    (omega arith) here))

pub push-requires : goal.push-requires
push-requires c =
    let xs = c.elements-element-items.result.now in
    let doc = table_view c.args.document.now in
    let counted : length c.loop-element.sections.items ≡ c.loop-element.element-index =
    built_length (text_at Name) view xs c.loop-element.element-index c.loop-element.sections.items
    (omega arith) c.loop-element.invariant in
    let long : length (elements_at Section doc) ≡ length xs =
    ap length c.elements-element-items.ensures ∙ length-map xs view in
    (search rules, omega (arith, few_sections doc c.requires))

pub loop-element-preserved : goal.loop-element-preserved
loop-element-preserved c =
    c.push.ensures.items
    ∙ built_more (text_at Name) view c.elements-element-items.result.now
    c.loop-element.element-index c.element-item.result c.loop-element.sections.items c.name.result
    c.loop-element-test.true c.element-item.is c.loop-element.invariant (c.name.ensures
    ∙ c.text_at.ensures)

pub returns : goal.returns
returns c =
    built_all (text_at Name) view c.elements-element-items.result.now c.loop-element.element-index
    c.loop-element.sections.items _ c.loop-element-test.false c.loop-element.invariant
    (ap (map (text_at Name)) c.elements-element-items.ensures)
