-- The piece of the next digit goes over from what is left to the pieces.
use Rattle.std.proofs.Common.{◌≡◌, ◌∙◌, ap, sym, ◌+◌, ◌*◌, ◌/◌, ◌%◌, List, [], ◌∷◌, ◌++◌, length, map}
use Rattle.std.proofs.Common.{drop, arith}
use Rattle.std.specs.List.{list_all}
use Rattle.plant_model.specs.declared.thrust.Pieces.{Pieces}
use Rattle.plant_model.specs.declared.thrust.Point.{Point}
use Rattle.thrust_region.specs.Choices.{choice_of, choices_of}
use Rattle.thrust_region.specs.Pieces.{all_points, are_thrusts, is_thrust, points_of}
use Rattle.thrust_region.proofs.Digits.{chosen, quotient, remainder}
use Rattle.thrust_region.proofs.Lists.{all_more, goes_over, left_from, map_more}
use Rattle.thrust_region.proofs.regions.choice.Goals as goal

pub loop-region-preserved : goal.loop-region-preserved
loop-region-preserved c =
    let items = c.as_slice-region-items.result.now in
    let i = c.loop-region.region-index in
    let region = c.region-item.result in
    let lists = map all_points (drop (i + 1) items) in
    let split : drop i items ≡ region ∷ drop (i + 1) items = left_from items i region (omega arith)
    ∙ ap (λ (r : Pieces). r ∷ drop (i + 1) items) (sym c.region-item.is) in
    let others : c.loop-region.others
    ≡ length (all_points region) * choices_of lists = c.loop-region.invariant.others
    ∙ ap (λ (l : List Pieces). choices_of (map all_points l)) split in
    let count : c.len.result ≡ length (all_points region) = c.len.ensures.count in
    let below = c.loop-region.invariant.below in
    let rest = c.loop-region.rest in
    let follow = rest % (c.loop-region.others / c.len.result) in
    let step : choice_of (map all_points (drop i items)) rest
    ≡ points_of c.piece.result ∷ choice_of lists follow =
    ap (λ (l : List Pieces). choice_of (map all_points l) rest) split
    ∙ chosen (all_points region) lists c.loop-region.others rest c.len.result others count below []
    ∙ ap (λ (p : List Point). p ∷ choice_of lists follow) (sym c.piece.ensures.points) in
    record {
      counted = omega arith;
      others = quotient (all_points region) lists c.loop-region.others rest c.len.result others
          count below;
      below = remainder (all_points region) lists c.loop-region.others rest c.len.result others
          count below;
      whole = ap (λ (l : List (List Point)). l ++ choice_of lists follow)
          (map_more points_of _ _ _ c.push.ensures.items)
          ∙ goes_over _ _ _ _ _ step c.loop-region.invariant.whole;
      within = ap are_thrusts (map_more points_of _ _ _ c.push.ensures.items)
          ∙ all_more (list_all is_thrust) (map points_of c.loop-region.pieces.items)
          (points_of c.piece.result) c.loop-region.invariant.within c.piece.ensures.within;
    }
