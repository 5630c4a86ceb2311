use Rattle.std.proofs.Common.{◌≡◌, ◌∙◌, length, get_or, sym, subst, ap, arith, refl, rules}
use Rattle.std.proofs.lemmas.Bool.Decides.{nat_tests}
use Rattle.wrench_geometry.specs.Vectors.{zero_vector}
use Rattle.wrench_geometry.specs.Fans.{corner_at}
use Rattle.separation.specs.Directions.{IsDirection, Settles}
use Rattle.separation.proofs.Bounds.{difference_direction, image_direction}
use Rattle.separation.proofs.DirectionLists.{Within, all_within, within_all}
use Rattle.separation.proofs.EdgeLists.{SettlesSome, all_edges, edges_more, next_corner, no_edges}
use Rattle.separation.proofs.directions.Directions.add_edges.Goals as goal

pub add-requires-clause-direction : goal.add-requires-clause-direction
add-requires-clause-direction c =
    subst IsDirection (sym c.difference.ensures)
    (difference_direction _ _
    (c.requires.points c.loop-point.point-index _ (omega arith)) c.loop-point.invariant.image)

pub loop-point-preserved : goal.loop-point-preserved
loop-point-preserved c =
    let i = c.loop-point.point-index in
    let points = c.args.points.now in
    let before = c.loop-point.self in
    let after = c.add.new.self in
    let within : Within before after = within_all before after c.add.ensures.kept in
    record {
      is = next_corner points i (get_or points i zero_vector) refl;
      image = c.requires.points i _ (omega arith);
      within = λ e among. within e (c.loop-point.invariant.within e among);
      settled =
          edges_more before after points i c.loop-point.from within c.loop-point.invariant.is
          c.loop-point.invariant.settled
          (subst (Settles after) c.difference.ensures c.add.ensures.settled);
      few = omega (arith, c.add.ensures.few, c.loop-point.invariant.few);
    }

pub add-requires-2-clause-direction : goal.add-requires-2-clause-direction
add-requires-2-clause-direction c = search (rules, image_direction)

pub returns-then-is_empty-clause-kept : goal.returns-then-is_empty-clause-kept
returns-then-is_empty-clause-kept c =
    all_within c.args.self.now c.args.self.now (λ e among. among)

pub returns-then-is_empty-clause-settled : goal.returns-then-is_empty-clause-settled
returns-then-is_empty-clause-settled c =
    no_edges c.args.self.now c.args.points.now (grind (arith, nat_tests))

pub returns-clause-kept : goal.returns-clause-kept
returns-clause-kept c =
    let before = c.loop-point.self in
    let after = c.add-2.new.self in
    let within : Within before after = within_all before after c.add-2.ensures.kept in
    all_within c.args.self.now after
    (λ e among. within e (c.loop-point.invariant.within e among))

pub returns-clause-settled : goal.returns-clause-settled
returns-clause-settled c =
    let before = c.loop-point.self in
    let after = c.add-2.new.self in
    let points = c.args.points.now in
    let all : c.loop-point.point-index ≡ length points = omega arith in
    all_edges before after points c.loop-point.from (within_all before after c.add-2.ensures.kept)
    (c.loop-point.invariant.is ∙ ap (corner_at points) all)
    (subst (SettlesSome before points) all c.loop-point.invariant.settled)
    c.add-2.ensures.settled
