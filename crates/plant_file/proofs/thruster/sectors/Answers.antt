use Rattle.std.proofs.Common.{◌≡◌, ◌∙◌, length, map, ap, sym, rules}
use Rattle.std.proofs.Common.{arith}
use Rattle.std.proofs.lemmas.List.{length-map}
use Rattle.std.specs.List.{list_all}
use Rattle.toml.specs.View.{view}
use Rattle.plant_file.specs.declared.kind.Kind.TheVariants as kind
use Rattle.plant_file.specs.declared.fault.Key.TheVariants as key
use Rattle.plant_file.specs.Described.{held, list_at, sector_in}
use Rattle.plant_file.specs.Keys.{optional, thruster_rows_of_1}
use Rattle.plant_file.specs.Kinds.{are_places}
use Rattle.plant_file.proofs.BuiltLemmas.{all_at, built_all, built_length, built_more}
use Rattle.plant_file.proofs.KindLemmas.{right_at}
use Rattle.plant_file.proofs.KindLemmas.{sectors_right}
use Rattle.plant_file.proofs.thruster.sectors.Goals as goal

pub sector-requires : goal.sector-requires
sector-requires c =
    let d = view c.args.element.now in
    let xs = c.list_at-value-items.result.now in
    let right =
    sectors_right key.Forbid (held key.Forbid d)
    (right_at thruster_rows_of_1 6 (optional key.Forbid kind.Sectors) d
    (omega arith) c.requires) in
    all_at view are_places xs c.loop-value.value-index c.value-item.result c.loop-value-test.true
    c.value-item.is
    (ap (list_all are_places) c.list_at-value-items.ensures ∙ right.1)

pub push-requires : goal.push-requires
push-requires c =
    let d = view c.args.element.now in
    let xs = c.list_at-value-items.result.now in
    let right =
    sectors_right key.Forbid (held key.Forbid d)
    (right_at thruster_rows_of_1 6 (optional key.Forbid kind.Sectors) d
    (omega arith) c.requires) in
    let counted : length c.loop-value.sectors.items ≡ c.loop-value.value-index =
    built_length sector_in view xs c.loop-value.value-index c.loop-value.sectors.items
    (omega arith) c.loop-value.invariant in
    let long : length xs ≡ length (list_at key.Forbid d) =
    sym (length-map xs view) ∙ ap length c.list_at-value-items.ensures in
    (search rules, omega (arith, right.0))

pub loop-value-preserved : goal.loop-value-preserved
loop-value-preserved c =
    c.push.ensures.items
    ∙ built_more sector_in view c.list_at-value-items.result.now c.loop-value.value-index
    c.value-item.result c.loop-value.sectors.items c.sector.result
    c.loop-value-test.true c.value-item.is c.loop-value.invariant c.sector.ensures

pub returns : goal.returns
returns c =
    built_all sector_in view c.list_at-value-items.result.now c.loop-value.value-index
    c.loop-value.sectors.items _ c.loop-value-test.false c.loop-value.invariant
    (ap (map sector_in) (sym c.list_at-value-items.ensures))
