use Rattle.std.proofs.Common.{◌≡◌, ◌∙◌, ℕ, ap, refl, subst, List, [], map, get_or, below_more, to_z}
use Rattle.std.proofs.Common.{of_z, w64, arith}
use Rattle.std.proofs.lemmas.List.{get_or_default}
use Rattle.plant_model.specs.Lies.{LiesIn}
use Rattle.plant_model.specs.Rings.{origin}
use Rattle.plant_model.specs.declared.thrust.Piece.{Piece}
use Rattle.plant_model.specs.declared.thrust.Point.{Point}
use Rattle.thrust_region.specs.Pieces.{points_of}
use Rattle.wrench_geometry.proofs.Limits.{points_within}
use Rattle.certificate.specs.Beside.{IsTaken}
use Rattle.certificate.specs.Outcomes.{no_thrust, without}
use Rattle.certificate.proofs.Astray.{points_at, tested_at}
use Rattle.log_audit.proofs.shares.lie.Goals as goal

pub lies_beside-requires-clause-points : goal.lies_beside-requires-clause-points
lies_beside-requires-clause-points c =
    let chosen = c.args.chosen.now in
    let p = c.index-deref-i.result in
    let i = c.loop-i.i in
    let is : p ≡ get_or chosen.pieces.items i p =
    c.index-deref-i.is ∙ ap (λ (l : List Piece). get_or l i p) c.deref.ensures.0 in
    points_within p.points.items
    (tested_at chosen.pieces.items i p (omega (arith, c.requires.piece_each)) is chosen.within)

pub loop-i-preserved : goal.loop-i-preserved
loop-i-preserved c =
    let chosen = c.args.chosen.now in
    let thrusts = c.args.thrusts.now in
    let p = c.index-deref-i.result in
    let i = c.loop-i.i in
    let q = to_z w64 (of_z w64 c.args.q) in
    let left = without q (get_or c.args.fixed.now i origin) (get_or thrusts i no_thrust) in
    let is : p ≡ get_or chosen.pieces.items i p =
    c.index-deref-i.is ∙ ap (λ (l : List Piece). get_or l i p) c.deref.ensures.0 in
    let points = points_at chosen.pieces.items i p (omega (arith, c.requires.piece_each)) is in
    let here : LiesIn (get_or (map points_of chosen.pieces.items) i []) left q =
    subst (λ (l : List Point). LiesIn l left q) points (c.if-not-lies_beside.ensures.lies.0 refl) in
    record {
      lie = below_more _ _ c.loop-i.invariant.lie here;
      taken = λ k d. below_more (λ (n : ℕ). IsTaken (get_or thrusts n d)) i
          (λ n below. c.loop-i.invariant.taken n d below)
          (subst IsTaken (get_or_default thrusts i no_thrust d c.loop-i-test.true)
          c.if-not-lies_beside.ensures.reached) k;
    }
