-- A point goes over from what is left, scaled, to the points.
use Rattle.std.proofs.Common.{rules, ◌≡◌, ◌∙◌, ap, sym, true, ◌+◌, List, ◌∷◌, ◌++◌, map, drop}
use Rattle.std.proofs.Common.{get_or, SFits, to_z, of_z, w32, arith}
use Rattle.std.proofs.lemmas.Bool.{and_from}
use Rattle.std.proofs.lemmas.Int.{to_z-of_z}
use Rattle.plant_model.specs.declared.thrust.Point.{Point}
use Rattle.plant_model.specs.Rings.{origin, is_thrust_coordinate}
use Rattle.thrust_region.specs.Pieces.{is_thrust}
use Rattle.thrust_region.specs.Scaling.{quarter_of, scaled_point}
use Rattle.thrust_region.proofs.Lists.{all_more, goes_over, left_from}
use Rattle.thrust_region.proofs.scaling.scaled_piece.Goals as goal

pub loop-point-preserved : goal.loop-point-preserved
loop-point-preserved c =
    let points = c.as_slice-point-items.result.now in
    let i = c.loop-point.point-index in
    let quarter = c.args.quarter in
    let p : Point = get_or points i origin in
    let fits_x : SFits w32 p.x = search rules in
    let fits_y : SFits w32 p.y = search rules in
    let new_x = to_z-of_z w32 c.quarter_of.result (search rules) in
    let new_y = to_z-of_z w32 c.quarter_of-in-loop-point.result (search rules) in
    let point : Point = record {
      x = to_z w32 (of_z w32 c.quarter_of.result);
      y =
          to_z w32 (of_z w32 c.quarter_of-in-loop-point.result);
    } in
    let x : quarter_of quarter p.x
    ≡ point.x = ap (quarter_of quarter) (sym (to_z-of_z w32 p.x fits_x))
    ∙ sym c.quarter_of.ensures.value ∙ sym new_x in
    let y : quarter_of quarter p.y
    ≡ point.y = ap (quarter_of quarter) (sym (to_z-of_z w32 p.y fits_y))
    ∙ sym c.quarter_of-in-loop-point.ensures.value ∙ sym new_y in
    let within_x : is_thrust_coordinate point.x ≡ true = ap is_thrust_coordinate new_x
    ∙ c.quarter_of.ensures.within in
    let within_y : is_thrust_coordinate point.y ≡ true = ap is_thrust_coordinate new_y
    ∙ c.quarter_of-in-loop-point.ensures.within in
    let same : scaled_point quarter p ≡ point = λ j. record { x = x j; y = y j } in
    let step : map (scaled_point quarter) (drop i points)
    ≡ point ∷ map (scaled_point quarter) (drop (i + 1) points) =
    ap (map (scaled_point quarter)) (left_from points i origin (omega arith))
    ∙ ap (λ (r : Point). r ∷ map (scaled_point quarter) (drop (i + 1) points)) same in
    record {
      counted = omega arith;
      whole = ap (λ (l : List Point). l ++ map (scaled_point quarter) (drop (i + 1) points))
          c.push.ensures.items ∙ goes_over _ _ _ _ _ step c.loop-point.invariant.whole;
      within = rw c.push.ensures.items
          (all_more is_thrust c.loop-point.scaled.points.items point c.loop-point.invariant.within
          (and_from (is_thrust_coordinate point.x) (is_thrust_coordinate point.y) within_x
          within_y));
    }
