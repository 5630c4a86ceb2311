use Rattle.std.proofs.Common.{◌≡◌, ◌<◌, ◌∙◌, List, ap, arith, rules, get_or, length}
use Rattle.wrench_geometry.specs.declared.vector.Vec3.{Vec3}
use Rattle.wrench_geometry.proofs.VertexSums.{ArePlaces-length}
use Rattle.exit_point.proofs.ListRows.{all_rows, next_row, place_within, rows_fit}
use Rattle.exit_point.proofs.weights.weights.Goals as goal

pub bounds-deref-i : goal.bounds-deref-i
bounds-deref-i c =
    let lists = c.args.sums.now in
    let i = c.loop-i.i in
    let inside : i < length lists = omega (arith, ap length c.lists-images-items.ensures.value) in
    let same = ArePlaces-length lists c.args.first.now.places.items c.requires.first.chosen.places
    in
    rw c.deref.ensures.0 (omega arith)

pub bounds-deref-i-in-loop-i : goal.bounds-deref-i-in-loop-i
bounds-deref-i-in-loop-i c =
    let lists = c.args.sums.now in
    let i = c.loop-i.i in
    let inside : i < length lists = omega (arith, ap length c.lists-images-items.ensures.value) in
    let same = ArePlaces-length lists c.args.second.now.places.items c.requires.second.chosen.places
    in
    rw c.deref-in-loop-i.ensures.0 (omega arith)

pub bounds-deref-i-in-loop-i-2 : goal.bounds-deref-i-in-loop-i-2
bounds-deref-i-in-loop-i-2 c =
    let lists = c.args.sums.now in
    let i = c.loop-i.i in
    let inside : i < length lists = omega (arith, ap length c.lists-images-items.ensures.value) in
    let same = ArePlaces-length lists c.args.third.now.places.items c.requires.third.chosen.places
    in
    rw c.deref-in-loop-i-2.ensures.0 (omega arith)

pub list_weights-requires-clause-first : goal.list_weights-requires-clause-first
list_weights-requires-clause-first c =
    let lists = c.args.sums.now in
    let i = c.loop-i.i in
    let inside : i < length lists = omega (arith, ap length c.lists-images-items.ensures.value) in
    let d = c.images-item.result in
    let e : c.as_slice.result.now ≡ get_or lists i d = c.as_slice.ensures.value ∙ c.images-item.is
    ∙ ap (λ (l : List (List Vec3)). get_or l i d) c.lists-images-items.ensures.value in
    rw (c.deref.ensures.0, e)
    (place_within lists c.args.first.now.places.items i d c.requires.first.chosen.places inside)

pub list_weights-requires-clause-second : goal.list_weights-requires-clause-second
list_weights-requires-clause-second c =
    let lists = c.args.sums.now in
    let i = c.loop-i.i in
    let inside : i < length lists = omega (arith, ap length c.lists-images-items.ensures.value) in
    let d = c.images-item.result in
    let e : c.as_slice.result.now ≡ get_or lists i d = c.as_slice.ensures.value ∙ c.images-item.is
    ∙ ap (λ (l : List (List Vec3)). get_or l i d) c.lists-images-items.ensures.value in
    rw (c.deref-in-loop-i.ensures.0, e)
    (place_within lists c.args.second.now.places.items i d c.requires.second.chosen.places
    inside)

pub list_weights-requires-clause-third : goal.list_weights-requires-clause-third
list_weights-requires-clause-third c =
    let lists = c.args.sums.now in
    let i = c.loop-i.i in
    let inside : i < length lists = omega (arith, ap length c.lists-images-items.ensures.value) in
    let d = c.images-item.result in
    let e : c.as_slice.result.now ≡ get_or lists i d = c.as_slice.ensures.value ∙ c.images-item.is
    ∙ ap (λ (l : List (List Vec3)). get_or l i d) c.lists-images-items.ensures.value in
    rw (c.deref-in-loop-i-2.ensures.0, e)
    (place_within lists c.args.third.now.places.items i d c.requires.third.chosen.places inside)

pub push-requires : goal.push-requires
push-requires c =
    let lists = c.args.sums.now in
    let i = c.loop-i.i in
    let inside : i < length lists = omega (arith, ap length c.lists-images-items.ensures.value) in
    let fit = rows_fit c.args.shares lists i c.loop-i.rows.items _ _ _ c.loop-i.invariant in (
      search rules,
      omega (
        arith,
        fit,
        ap length c.lists-images-items.ensures.value,
        c.lists-images-items.ensures.fits,
      ),
    )

pub loop-i-preserved : goal.loop-i-preserved
loop-i-preserved c =
    let lists = c.args.sums.now in
    let i = c.loop-i.i in
    let inside : i < length lists = omega (arith, ap length c.lists-images-items.ensures.value) in
    let d = c.images-item.result in
    let e : c.as_slice.result.now ≡ get_or lists i d = c.as_slice.ensures.value ∙ c.images-item.is
    ∙ ap (λ (l : List (List Vec3)). get_or l i d) c.lists-images-items.ensures.value in
    let first = c.requires.first.chosen.places in
    let second = c.requires.second.chosen.places in
    let third = c.requires.third.chosen.places in
    let row = c.list_weights.ensures in
    next_row c.args.shares lists i d c.loop-i.rows.items _ _ _ _ c.list_weights.result inside first
    second third c.loop-i.invariant c.push.ensures.items
    (rw (← e) row.weights)
    (rw (
      ← e,
      ← c.deref.ensures.0,
      ← c.deref-in-loop-i.ensures.0,
      ←
          c.deref-in-loop-i-2.ensures.0,
    ) row.sum)

pub returns-clause-sum : goal.returns-clause-sum
returns-clause-sum c =
    (all_rows c.args.shares c.args.sums.now c.loop-i.i c.loop-i.rows.items c.args.first.now
    c.args.second.now c.args.third.now
    (omega (arith, ap length c.lists-images-items.ensures.value)) c.requires.first
    c.requires.second c.requires.third c.loop-i.invariant).1
