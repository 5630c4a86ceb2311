use Rattle.std.proofs.Common.{◌∙◌, ◌+◌, ap, ap₂, arith, sym}
use Rattle.std.proofs.lemmas.List.Sums.{fold_more}
use Rattle.wrench_geometry.specs.Directions.{directions_in}
use Rattle.wrench_geometry.proofs.counting.directions.Goals as goal

pub loop-images-preserved : goal.loop-images-preserved
loop-images-preserved c =
    let lists = c.lists-images-items.result.now in
    let i = c.loop-images.images-index in
    let d = c.images-item.result in
    record {
      count =
          ap₂ ◌+◌ c.loop-images.invariant.count
          (c.directions_in-count.ensures.count ∙ ap directions_in c.images-item.is)
          ∙ sym (fold_more (λ count list. count + directions_in list) 3 lists i d (omega arith));
      few = omega (arith, c.directions_in-count.ensures.few, c.loop-images.invariant.few);
    }
