use Rattle.std.proofs.Common.{◌≡◌, ℕ, ◌+◌, ◌*◌, ◌≤◌, length, take, get_or, sym, subst, arith, List}
use Rattle.std.proofs.lemmas.List.{length-take-le, take_all, take_more}
use Rattle.wrench_geometry.specs.declared.vector.Vec3.{Vec3}
use Rattle.wrench_geometry.specs.Vectors.{zero_vector}
use Rattle.separation.specs.Directions.{SettlesDifferences}
use Rattle.separation.proofs.DirectionLists.{IsAdded, all_within, differences_more}
use Rattle.separation.proofs.DirectionLists.{differences_none, few_at_end, few_more, is_added}
use Rattle.separation.proofs.DirectionLists.{room_for_point, within_all}
use Rattle.separation.proofs.directions.Directions.add_differences.Goals as goal

pub loop-place-init : goal.loop-place-init
loop-place-init c =
    record {
      within = λ e among. among;
      settled = differences_none c.args.self.now;
      few =
          omega arith;
    }

pub add_differences_with-requires-clause-room : goal.add_differences_with-requires-clause-room
add_differences_with-requires-clause-room c =
    let p = c.loop-place.place in
    let front : length (take p c.args.points.now) ≡ p =
    length-take-le p c.args.points.now (omega arith) in
    rw front (room_for_point (length c.args.self.now) (length c.loop-place.self)
    (length c.add.new.self) p c.requires.room c.loop-place.invariant.few c.add.ensures.few
    (omega arith))

pub loop-place-preserved : goal.loop-place-preserved
loop-place-preserved c =
    let p = c.loop-place.place in
    let points = c.args.points.now in
    let before = c.loop-place.self in
    let middle = c.add.new.self in
    let after = c.add_differences_with.new.self in
    let point = get_or points p zero_vector in
    let added : IsAdded before after (take p points) point =
    is_added before middle after (take p points) point
    (within_all before middle c.add.ensures.kept) c.add.ensures.settled
    (within_all middle after c.add_differences_with.ensures.kept)
    c.add_differences_with.ensures.settled in
    let P : List Vec3 → Type 0 = SettlesDifferences after in
    let front : length (take p points) ≡ p = length-take-le p points (omega arith) in
    record {
      within = λ e among. added.within e (c.loop-place.invariant.within e among);
      settled = subst P (sym (take_more points p zero_vector (omega arith)))
          (differences_more before after
          (take p points) point added c.loop-place.invariant.settled);
      few = few_more (length c.args.self.now) (length before) (length middle)
          (length after) p c.loop-place.invariant.few c.add.ensures.few
          (omega (arith, c.add_differences_with.ensures.few));
    }

pub returns-clause-kept : goal.returns-clause-kept
returns-clause-kept c = all_within c.args.self.now c.loop-place.self c.loop-place.invariant.within

pub returns-clause-settled : goal.returns-clause-settled
returns-clause-settled c =
    let P : List Vec3 → Type 0 = SettlesDifferences c.loop-place.self in
    subst P (take_all c.loop-place.place c.args.points.now c.loop-place-test.false)
    c.loop-place.invariant.settled

pub returns-clause-few : goal.returns-clause-few
returns-clause-few c =
    let all : c.loop-place.place ≡ length c.args.points.now = omega arith in
    few_at_end (length c.args.self.now) (length c.loop-place.self) (length c.args.points.now)
    (subst (λ (p : ℕ). 2 * length c.loop-place.self ≤ 2 * length c.args.self.now + p * (p + 1)) all
    c.loop-place.invariant.few)
