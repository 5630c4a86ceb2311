use Rattle.std.proofs.Common.{◌≡◌, ◌∙◌, length, true, ap, ap₂, sym, rules, arith}
use Rattle.std.proofs.lemmas.List.{length-map}
use Rattle.std.specs.List.{list_all}
use Rattle.toml.specs.View.{table_view, view}
use Rattle.plant_model.specs.Rings.{are_sectors, is_ring}
use Rattle.plant_file.specs.declared.fault.Key.TheVariants.{Forbid, Name, Ring}
use Rattle.plant_file.specs.declared.fault.Part.TheVariants.{Thruster}
use Rattle.plant_file.specs.declared.kind.Kind.TheVariants as kind
use Rattle.plant_file.specs.Described.{held, points_at, sectors_at, thruster_from, thruster_in}
use Rattle.plant_file.specs.Faults.{elements_at}
use Rattle.plant_file.specs.Keys.{needed, thruster_rows_of_1}
use Rattle.plant_file.specs.RightKeys.{has_right_keys}
use Rattle.plant_file.proofs.BuiltLemmas.{all_at, built_length, built_more}
use Rattle.plant_file.proofs.KindLemmas.{name_right, right_at}
use Rattle.plant_file.proofs.RightLemmas.{few_thrusters, short_arrays, thrusters_right_of_1}
use Rattle.plant_file.proofs.RightThrusters.{all_rings, all_sectors}
use Rattle.plant_file.proofs.building.thrusters.Goals as goal

pub name-name-requires : goal.name-name-requires
name-name-requires c =
    let xs = c.elements-element-items.result.now in
    let d = view c.element-item.result in
    let here : has_right_keys thruster_rows_of_1 d ≡ true =
    all_at view (has_right_keys thruster_rows_of_1) xs c.loop-element.element-index
    c.element-item.result c.loop-element-test.true c.element-item.is
    (ap (list_all (has_right_keys thruster_rows_of_1)) (sym c.elements-element-items.ensures)
    ∙ thrusters_right_of_1 (table_view c.args.document.now) c.requires.keys) in
    rw c.text_at.ensures
    (name_right Name (held Name d)
    (right_at thruster_rows_of_1 0 (needed Name kind.Name) d (omega arith) here))

pub section_of-requires : goal.section_of-requires
section_of-requires c = short_arrays (table_view c.args.document.now) c.requires.keys

pub thruster-requires-clause-keys : goal.thruster-requires-clause-keys
thruster-requires-clause-keys c =
    all_at view (has_right_keys thruster_rows_of_1) c.elements-element-items.result.now
    c.loop-element.element-index c.element-item.result c.loop-element-test.true c.element-item.is
    (ap (list_all (has_right_keys thruster_rows_of_1)) (sym c.elements-element-items.ensures)
    ∙ thrusters_right_of_1 (table_view c.args.document.now) c.requires.keys)

pub thruster-requires-clause-ring : goal.thruster-requires-clause-ring
thruster-requires-clause-ring c =
    all_at view (λ d. is_ring (points_at Ring d)) c.elements-element-items.result.now
    c.loop-element.element-index c.element-item.result c.loop-element-test.true c.element-item.is
    (ap (list_all (λ d. is_ring (points_at Ring d))) (sym c.elements-element-items.ensures)
    ∙ all_rings (table_view c.args.document.now) c.requires.right)

pub thruster-requires-clause-sectors : goal.thruster-requires-clause-sectors
thruster-requires-clause-sectors c =
    all_at view (λ d. are_sectors (length (points_at Ring d)) (sectors_at Forbid d))
    c.elements-element-items.result.now c.loop-element.element-index c.element-item.result
    c.loop-element-test.true c.element-item.is
    (ap (list_all (λ d. are_sectors (length (points_at Ring d)) (sectors_at Forbid d)))
    (sym c.elements-element-items.ensures)
    ∙ all_sectors (table_view c.args.document.now) c.requires.right)

pub push-requires : goal.push-requires
push-requires c =
    let doc = table_view c.args.document.now in
    let xs = c.elements-element-items.result.now in
    let counted : length c.loop-element.thrusters.items ≡ c.loop-element.element-index =
    built_length (thruster_in doc) view xs c.loop-element.element-index
    c.loop-element.thrusters.items (omega arith) c.loop-element.invariant in
    let long : length (elements_at Thruster doc) ≡ length xs =
    ap length c.elements-element-items.ensures ∙ length-map xs view in
    (search rules, omega (arith, few_thrusters doc c.requires.keys))

pub loop-element-preserved : goal.loop-element-preserved
loop-element-preserved c =
    let doc = table_view c.args.document.now in
    let d = view c.element-item.result in
    c.push.ensures.items
    ∙ built_more (thruster_in doc) view c.elements-element-items.result.now
    c.loop-element.element-index c.element-item.result c.loop-element.thrusters.items
    c.thruster.result c.loop-element-test.true c.element-item.is c.loop-element.invariant
    (c.thruster.ensures
    ∙ ap₂ (λ name section. thruster_from name section d)
    (c.name-name.ensures ∙ c.text_at.ensures) c.section_of.ensures)
