use Rattle.exit_point.proofs.Kept.{ends_turned}
use Rattle.exit_point.proofs.Spans.{span_of_sum}
use Rattle.exit_point.proofs.search.cone.Goals as goal
use Rattle.exit_point.proofs.search.cone.Goals.{then-not-is_left}
use Rattle.exit_point.proofs.search.cone.Goals.{else-not-is_left+then-not-is_left-2}

pub turned-first-requires-clause-first : goal.turned-first-requires-clause-first
turned-first-requires-clause-first c = c.loop.invariant.first.within

pub turned-first-requires-clause-second : goal.turned-first-requires-clause-second
turned-first-requires-clause-second c = c.loop.invariant.second.within

pub normal-normal-requires-clause-a : goal.normal-normal-requires-clause-a
normal-normal-requires-clause-a c =
    span_of_sum (ends_turned _ _ _ c.loop.invariant c.turned-first.ensures).first.within

pub normal-normal-requires-clause-b : goal.normal-normal-requires-clause-b
normal-normal-requires-clause-b c =
    span_of_sum (ends_turned _ _ _ c.loop.invariant c.turned-first.ensures).second.within

pub is_left-requires-clause-b : goal.is_left-requires-clause-b
is_left-requires-clause-b c =
    (ends_turned _ _ _ c.loop.invariant c.turned-first.ensures).first.within

pub is_left-requires-else-not-is_left-clause-a : goal.is_left-requires-else-not-is_left-clause-a
is_left-requires-else-not-is_left-clause-a c =
    (ends_turned _ _ _ c.loop.invariant c.turned-first.ensures).second.within

pub returns-else-not-is_left-2 : goal.returns-else-not-is_left-2
returns-else-not-is_left-2 c =
    let ends = ends_turned _ _ _ c.loop.invariant c.turned-first.ensures in
    let third = c.farthest-third.ensures in (
      c.normal-normal.ensures.short,
      record {
        first = ends.first;
        second = ends.second;
        third =
            record { chosen = third.vertex; within = third.within };
      },
    )

pub loop-preserved : goal.loop-preserved
loop-preserved c =
    let ends = ends_turned _ _ _ c.loop.invariant c.turned-first.ensures in
    let third = c.farthest-third.ensures in
    elim c.if-not-is_left.branch [
      | then-not-is_left w ↦ rw w.edge-is
          (record {
            first = ends.first;
            second =
                record { chosen = third.vertex; within = third.within };
          })
      | else-not-is_left+then-not-is_left-2 w ↦ rw w.edge-is
          (record {
            first = record { chosen = third.vertex; within = third.within };
            second =
                ends.second;
          })
    ]
