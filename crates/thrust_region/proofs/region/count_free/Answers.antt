use Rattle.std.proofs.Common.{◌∙◌, ap, sym, ◌<◌, [], length, map, arith}
use Rattle.std.proofs.lemmas.List.{length-map}
use Rattle.thrust_region.specs.Pieces.{points_of}
use Rattle.thrust_region.proofs.Free.{barred_next, free_next}
use Rattle.thrust_region.proofs.region.count_free.Goals as goal
use Rattle.thrust_region.proofs.region.count_free.Goals.{then-is_free, else-is_free}

pub loop-place-preserved : goal.loop-place-preserved
loop-place-preserved c =
    let pieces = map points_of c.args.pieces.now in
    let i = c.loop-place.place in
    let there : i < length pieces = omega (arith, length-map c.args.pieces.now points_of) in
    let before = c.loop-place.invariant.counted in
    let few = c.loop-place.invariant.few in
    elim c.if-is_free.branch [
      | then-is_free w ↦
          (let next = free_next c.args.barred pieces i [] there
          (sym c.is_free.ensures ∙ w.if-is_free.true) in
          record {
            few = omega (arith, w.count-is);
            counted = omega (arith, w.count-is, ap length next);
          })
      | else-is_free w ↦
          (let next = barred_next c.args.barred pieces i [] there
          (sym c.is_free.ensures ∙ w.if-is_free.false) in
          record {
            few = omega (arith, w.count-is);
            counted = omega (arith, w.count-is, ap length next);
          })
    ]
