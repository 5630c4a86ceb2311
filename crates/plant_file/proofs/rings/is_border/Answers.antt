use Rattle.std.proofs.Common.{◌≡◌, ◌∙◌, sym, ap, ap₂, pos, true, length, arith}
use Rattle.std.specs.Prelude.{int_lt}
use Rattle.std.proofs.lemmas.Int.{ints}
use Rattle.std.proofs.lemmas.Bool.Decides.{nat_tests}
use Rattle.plant_model.specs.Rings.{origin, place_after, point_at, side}
use Rattle.plant_file.proofs.RangeLemmas.{all_more, all_over, all_stop, and_true, is_in}
use Rattle.plant_file.proofs.rings.is_border.Goals as goal

pub returns-then-not-is_inside : goal.returns-then-not-is_inside
returns-then-not-is_inside c =
    let ring = c.args.ring.now in
    let edge = c.args.edge in
    let after = place_after (length ring) edge in
    let sided : c.side.result ≡ side (point_at ring edge) (point_at ring after) origin =
    c.side.ensures ∙ ap₂ (λ a b. side a b origin) c.point_at.ensures c.point_at-2.ensures in
    let ahead : int_lt (pos 0) (side (point_at ring edge) (point_at ring after) origin) ≡ true =
    ap (int_lt (pos 0)) (sym sided) ∙ grind (arith, ints, nat_tests) in
    sym (and_true ahead (sym c.loop-place.invariant
    ∙ all_stop (is_in ring edge after) (length ring) c.loop-place.place c.loop-place-test.true
    (sym c.is_inside.ensures ∙ c.if-not-is_inside.true)))

pub loop-place-preserved : goal.loop-place-preserved
loop-place-preserved c =
    let ring = c.args.ring.now in
    let after = place_after (length ring) c.args.edge in
    sym (all_more (is_in ring c.args.edge after)
    (length ring) c.loop-place.place c.loop-place-test.true (sym c.is_inside.ensures
    ∙ c.if-not-is_inside.false)) ∙ c.loop-place.invariant

pub returns : goal.returns
returns c =
    let ring = c.args.ring.now in
    let edge = c.args.edge in
    let after = place_after (length ring) edge in
    let sided : c.side.result ≡ side (point_at ring edge) (point_at ring after) origin =
    c.side.ensures ∙ ap₂ (λ a b. side a b origin) c.point_at.ensures c.point_at-2.ensures in
    let ahead : int_lt (pos 0) (side (point_at ring edge) (point_at ring after) origin) ≡ true =
    ap (int_lt (pos 0)) (sym sided) ∙ grind (arith, ints, nat_tests) in
    sym (and_true ahead (sym c.loop-place.invariant
    ∙ all_over (is_in ring edge after)
    (length ring) c.loop-place.place c.loop-place-test.false))
