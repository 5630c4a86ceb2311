use Rattle.std.proofs.Common.{take, sym, subst, arith, List}
use Rattle.std.specs.Prelude.{All}
use Rattle.std.proofs.lemmas.List.{take_all}
use Rattle.std.proofs.lemmas.List.Elements.{All-more, All-nil, All-weaker}
use Rattle.wrench_geometry.specs.declared.vector.Vec3.{Vec3}
use Rattle.wrench_geometry.specs.Vectors.{difference_of}
use Rattle.separation.specs.Directions.{IsDirection, Settles}
use Rattle.separation.proofs.Bounds.{difference_direction}
use Rattle.separation.proofs.DirectionLists.{Within, all_within, settles_within, within_all}
use Rattle.separation.proofs.directions.Directions.add_differences_with.Goals as goal

pub loop-other-init : goal.loop-other-init
loop-other-init c =
    let P : Vec3 → Type 0 = λ other. Settles c.args.self.now (difference_of c.args.point other) in
    record { within = λ e among. among; settled = All-nil P; few = omega arith }

pub add-requires-clause-direction : goal.add-requires-clause-direction
add-requires-clause-direction c =
    subst IsDirection (sym c.difference.ensures)
    (difference_direction _ _ c.requires.point
    (c.requires.others c.loop-other.other-index _ (omega arith)))

pub loop-other-preserved : goal.loop-other-preserved
loop-other-preserved c =
    let i = c.loop-other.other-index in
    let others = c.args.others.now in
    let before = c.loop-other.self in
    let after = c.add.new.self in
    let within : Within before after = within_all before after c.add.ensures.kept in
    let P : Vec3 → Type 0 = λ other. Settles before (difference_of c.args.point other) in
    let Q : Vec3 → Type 0 = λ other. Settles after (difference_of c.args.point other) in
    let R : Vec3 → Type 0 = Settles after in
    record {
      within = λ e among. within e (c.loop-other.invariant.within e among);
      settled =
          All-more Q others i _ (omega arith)
          (All-weaker P Q
          (λ other. settles_within before after within (difference_of c.args.point other))
          (take i others) c.loop-other.invariant.settled)
          (subst R c.difference.ensures c.add.ensures.settled);
      few = omega (arith, c.add.ensures.few, c.loop-other.invariant.few);
    }

pub returns-clause-kept : goal.returns-clause-kept
returns-clause-kept c = all_within c.args.self.now c.loop-other.self c.loop-other.invariant.within

pub returns-clause-settled : goal.returns-clause-settled
returns-clause-settled c =
    let P : List Vec3 → Type 0 = λ others. All
    (λ (other : Vec3). Settles c.loop-other.self (difference_of c.args.point other)) others in
    subst P (take_all c.loop-other.other-index c.args.others.now c.loop-other-test.false)
    c.loop-other.invariant.settled
