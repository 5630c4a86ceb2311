-- Each piece has whole points.
use Rattle.std.proofs.Common.{◌≡◌, ◌∙◌, ap, sym, true, List, map, arith}
use Rattle.std.proofs.lemmas.List.Folds.{list_all-map}
use Rattle.std.specs.List.{list_all}
use Rattle.plant_model.specs.declared.thrust.Piece.{Piece}
use Rattle.plant_model.specs.Rings.{is_ring_point}
use Rattle.thrust_region.specs.Pieces.{points_of}
use Rattle.thrust_region.proofs.Lists.{all_at}
use Rattle.thrust_region.proofs.scaling.scaled.Goals as goal

pub scaled_piece-requires-clause-points : goal.scaled_piece-requires-clause-points
scaled_piece-requires-clause-points c =
    let pieces = c.as_slice-piece-items.result.now in
    let piece = c.piece-item.result in
    let each : list_all (λ p. list_all is_ring_point (points_of p)) pieces ≡ true =
    sym (list_all-map (list_all is_ring_point) points_of pieces)
    ∙ ap (λ (l : List Piece). list_all (list_all is_ring_point) (map points_of l))
    c.as_slice-piece-items.ensures.value
    ∙ c.requires.points in
    ap (λ (p : Piece). list_all is_ring_point (points_of p)) c.piece-item.is
    ∙ all_at (λ p. list_all is_ring_point (points_of p)) pieces c.loop-piece.piece-index piece
    (omega arith) each
