use Rattle.std.proofs.Common.{◌≡◌, ◌∙◌, ap, arith, get_or, length, rules, to_z, of_z, w32}
use Rattle.std.specs.Int.{w128}
use Rattle.std.proofs.lemmas.Int.{to_z-of_z}
use Rattle.std.proofs.lemmas.List.{length-map, length-take}
use Rattle.plant_model.specs.Rings.{origin}
use Rattle.plant_model.specs.declared.thrust.Point.{Point}
use Rattle.plant_model.specs.declared.thrust.Thrust.{Thrust}
use Rattle.certificate.specs.Sides.{place_of}
use Rattle.feasibility.proofs.Beyond.{same_point, thrusts_more}
use Rattle.feasibility.proofs.analysis.thrusts_of.Goals as goal

pub push-requires : goal.push-requires
push-requires c =
    let points = c.args.points.now in
    let i = c.loop-point.point-index in
    let made = c.loop-point.thrusts.list.items in (
      search rules,
      omega (
        arith,
        length-map made place_of,
        ap length c.loop-point.invariant,
        length-take i points,
        c.loop-point-test.true,
        c.requires,
      ),
    )

pub loop-point-preserved : goal.loop-point-preserved
loop-point-preserved c =
    let points = c.args.points.now in
    let i = c.loop-point.point-index in
    let p : Point = get_or points i origin in
    let x : to_z w32 (of_z w32 p.x) ≡ p.x = to_z-of_z w32 _ (search rules) in
    let y : to_z w32 (of_z w32 p.y) ≡ p.y = to_z-of_z w32 _ (search rules) in
    let wide_x : to_z w128 (of_z w128 (to_z w32 (of_z w32 p.x))) ≡ to_z w32 (of_z w32 p.x) =
    to_z-of_z w128 _ (search rules) in
    let wide_y : to_z w128 (of_z w128 (to_z w32 (of_z w32 p.y))) ≡ to_z w32 (of_z w32 p.y) =
    to_z-of_z w128 _ (search rules) in
    let a : Thrust = record {
      x = to_z w128 (of_z w128 (to_z w32 (of_z w32 p.x)));
      y = to_z w128 (of_z w128 (to_z w32 (of_z w32 p.y)));
    } in
    thrusts_more points i c.loop-point.thrusts.list.items c.push.new.self.items a
    c.loop-point-test.true (same_point (wide_x ∙ x) (wide_y ∙ y)) c.push.ensures.items
    c.loop-point.invariant
