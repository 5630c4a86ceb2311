use Rattle.std.proofs.Common.{◌≡◌, ◌∙◌, length, map, true, ap, sym, rules}
use Rattle.std.proofs.Common.{arith}
use Rattle.std.proofs.lemmas.List.{length-map}
use Rattle.std.specs.List.{list_all}
use Rattle.toml.specs.View.{view}
use Rattle.plant_file.specs.declared.kind.Kind.TheVariants as kind
use Rattle.plant_file.specs.declared.fault.Key.TheVariants as key
use Rattle.plant_file.specs.Described.{held, list_at}
use Rattle.plant_file.specs.Keys.{needed, thruster_rows_of_1}
use Rattle.plant_file.specs.Kinds.{point_in}
use Rattle.plant_model.specs.Rings.{is_ring_point}
use Rattle.plant_file.proofs.BuiltLemmas.{all_at, built_all, built_length, built_more}
use Rattle.plant_file.proofs.KindLemmas.{right_at, ring_right, ring_point_x, ring_point_y}
use Rattle.plant_file.proofs.thruster.ring.Goals as goal

pub point-requires-clause-x : goal.point-requires-clause-x
point-requires-clause-x c =
    let d = view c.args.element.now in
    let xs = c.list_at-value-items.result.now in
    let right =
    ring_right key.Ring (held key.Ring d)
    (right_at thruster_rows_of_1 5 (needed key.Ring kind.Ring) d
    (omega arith) c.requires) in
    let here : is_ring_point (point_in (view c.value-item.result)) ≡ true =
    all_at view (λ e. is_ring_point (point_in e)) xs c.loop-value.value-index c.value-item.result
    c.loop-value-test.true c.value-item.is
    (ap (list_all (λ e. is_ring_point (point_in e))) c.list_at-value-items.ensures ∙ right.1) in
    ring_point_x (view c.value-item.result) here

pub point-requires-clause-y : goal.point-requires-clause-y
point-requires-clause-y c =
    let d = view c.args.element.now in
    let xs = c.list_at-value-items.result.now in
    let right =
    ring_right key.Ring (held key.Ring d)
    (right_at thruster_rows_of_1 5 (needed key.Ring kind.Ring) d
    (omega arith) c.requires) in
    let here : is_ring_point (point_in (view c.value-item.result)) ≡ true =
    all_at view (λ e. is_ring_point (point_in e)) xs c.loop-value.value-index c.value-item.result
    c.loop-value-test.true c.value-item.is
    (ap (list_all (λ e. is_ring_point (point_in e))) c.list_at-value-items.ensures ∙ right.1) in
    ring_point_y (view c.value-item.result) here

pub push-requires : goal.push-requires
push-requires c =
    let d = view c.args.element.now in
    let xs = c.list_at-value-items.result.now in
    let right =
    ring_right key.Ring (held key.Ring d)
    (right_at thruster_rows_of_1 5 (needed key.Ring kind.Ring) d
    (omega arith) c.requires) in
    let counted : length c.loop-value.ring.points.items ≡ c.loop-value.value-index =
    built_length point_in view xs c.loop-value.value-index c.loop-value.ring.points.items
    (omega arith) c.loop-value.invariant in
    let long : length xs ≡ length (list_at key.Ring d) =
    sym (length-map xs view) ∙ ap length c.list_at-value-items.ensures in
    (search rules, omega (arith, right.0))

pub loop-value-preserved : goal.loop-value-preserved
loop-value-preserved c =
    c.push.ensures.items
    ∙ built_more point_in view c.list_at-value-items.result.now c.loop-value.value-index
    c.value-item.result c.loop-value.ring.points.items c.point.result
    c.loop-value-test.true c.value-item.is c.loop-value.invariant c.point.ensures

pub returns : goal.returns
returns c =
    built_all point_in view c.list_at-value-items.result.now c.loop-value.value-index
    c.loop-value.ring.points.items _ c.loop-value-test.false c.loop-value.invariant
    (ap (map point_in) (sym c.list_at-value-items.ensures))
