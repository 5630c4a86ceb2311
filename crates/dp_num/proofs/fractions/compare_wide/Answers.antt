use Rattle.std.proofs.Common.{rules}
use Rattle.dp_num.proofs.Computed.{divisible}
use Rattle.dp_num.proofs.Turns.{ends_by_whole, ends_by_rest, goes_on, bottoms-fall}
use Rattle.dp_num.proofs.fractions.compare_wide.Goals as goal

pub nonzero_div-a : goal.nonzero_div-a
nonzero_div-a c = divisible c.loop-whole.a-bits c.loop-whole.b-bits (search rules)
    c.loop-whole.invariant.first_bottom

pub nonzero_div-c : goal.nonzero_div-c
nonzero_div-c c = divisible c.loop-whole.c-bits c.loop-whole.d-bits (search rules)
    c.loop-whole.invariant.second_bottom

pub nonzero_rem-left : goal.nonzero_rem-left
nonzero_rem-left c = divisible c.loop-whole.a-bits c.loop-whole.b-bits (search rules)
    c.loop-whole.invariant.first_bottom

pub nonzero_rem-right : goal.nonzero_rem-right
nonzero_rem-right c = divisible c.loop-whole.c-bits c.loop-whole.d-bits (search rules)
    c.loop-whole.invariant.second_bottom

pub returns-then-ne : goal.returns-then-ne
returns-then-ne c = record {
  order = ends_by_whole c.ranges.a c.ranges.b c.ranges.c c.ranges.d c.loop-whole.invariant
      (search rules) (search rules) c.cmp-whole.result c.cmp-whole.ensures c.if-ne.ensures;
}

pub returns-then-left-eq0 : goal.returns-then-left-eq0
returns-then-left-eq0 c = record {
  order = ends_by_rest c.ranges.a c.ranges.b c.ranges.c c.ranges.d c.loop-whole.invariant
      (search rules) (search rules) c.cmp-whole.result c.cmp-whole.ensures c.if-ne.ensures
      c.then-left-eq0.either c.cmp.result c.cmp.ensures;
}

pub loop-whole-smaller : goal.loop-whole-smaller
loop-whole-smaller c = bottoms-fall c.loop-whole.invariant (search rules) (search rules)

pub loop-whole-preserved : goal.loop-whole-preserved
loop-whole-preserved c = goes_on c.loop-whole.invariant (search rules) (search rules)
    c.cmp-whole.result c.cmp-whole.ensures c.if-ne.ensures c.if-left-eq0.false c.if-right-eq0.false
