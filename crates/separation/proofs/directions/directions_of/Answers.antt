use Rattle.std.proofs.Common.{◌≡◌, ◌∙◌, ◌+◌, ◌≤◌, take, subst, ap, get_or, arith, length, List, ℕ}
use Rattle.std.specs.Prelude.{All}
use Rattle.std.proofs.lemmas.List.{take_all}
use Rattle.std.proofs.lemmas.List.Elements.{All-more, All-weaker}
use Rattle.std.proofs.lemmas.List.Sums.{fold_more}
use Rattle.wrench_geometry.specs.declared.vector.Vec3.{Vec3}
use Rattle.wrench_geometry.specs.Directions.{directions_in, directions_of}
use Rattle.separation.specs.Directions.{KeepsGreatest}
use Rattle.separation.proofs.DirectionLists.{Within, greatest_within, spans_within, within_all}
use Rattle.separation.proofs.directions.directions_of.Goals as goal

list_more : {now most after x y m : ℕ} → now ≤ most → after ≤ now + x → x ≡ y → m ≡ most + y →
    after ≤ m
list_more {now} {most} {after} {x} {y} {m} h k e f = omega arith

pub loop-images-preserved : goal.loop-images-preserved
loop-images-preserved c =
    let i = c.loop-images.images-index in
    let lists = c.lists-images-items.result.now in
    let before = c.loop-images.directions in
    let after = c.add_list.new.self in
    let d = c.images-item.result in
    let within : Within before after = within_all before after c.add_list.ensures.kept in
    let P : List Vec3 → Type 0 = KeepsGreatest after in
    let Q : List Vec3 → Type 0 = KeepsGreatest before in
    let more : directions_of (take (i + 1) lists)
    ≡ directions_of (take i lists) + directions_in (get_or lists i d) =
    fold_more (λ count list. count + directions_in list) 3 lists i d (omega arith) in
    record {
      span = spans_within before after within c.loop-images.invariant.span;
      greatest =
          All-more P lists i _ (omega arith)
          (All-weaker Q P (greatest_within before after within)
          (take i lists) c.loop-images.invariant.greatest)
          (subst P c.images-item.is c.add_list.ensures.greatest);
      few =
          list_more c.loop-images.invariant.few c.add_list.ensures.few
          (ap directions_in c.images-item.is) more;
      few_at_all =
          omega (arith, c.add_list.ensures.few_at_all, c.loop-images.invariant.few_at_all);
    }

pub returns-clause-greatest : goal.returns-clause-greatest
returns-clause-greatest c =
    let P : List (List Vec3) → Type 0 =
    λ lists. All (KeepsGreatest c.loop-images.directions) lists in
    subst P (take_all c.loop-images.images-index c.lists-images-items.result.now
    c.loop-images-test.false ∙ c.lists-images-items.ensures.value)
    c.loop-images.invariant.greatest

pub returns-clause-few : goal.returns-clause-few
returns-clause-few c =
    let P : List (List Vec3) → Type 0 =
    λ lists. length c.loop-images.directions ≤ directions_of lists in
    subst P (take_all c.loop-images.images-index c.lists-images-items.result.now
    c.loop-images-test.false ∙ c.lists-images-items.ensures.value)
    c.loop-images.invariant.few
