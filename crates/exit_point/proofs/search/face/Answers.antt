use Rattle.exit_point.proofs.Kept.{corners_replaced}
use Rattle.exit_point.proofs.search.face.Goals as goal

pub plane-normal-requires-clause-first : goal.plane-normal-requires-clause-first
plane-normal-requires-clause-first c = c.loop.invariant.first.within

pub plane-normal-requires-clause-second : goal.plane-normal-requires-clause-second
plane-normal-requires-clause-second c = c.loop.invariant.second.within

pub plane-normal-requires-clause-third : goal.plane-normal-requires-clause-third
plane-normal-requires-clause-third c = c.loop.invariant.third.within

pub product-requires-in-loop-clause-point : goal.product-requires-in-loop-clause-point
product-requires-in-loop-clause-point c = c.loop.invariant.first.within

pub returns-then-product : goal.returns-then-product
returns-then-product c = (c.plane-normal.ensures, c.loop.invariant)

pub replaced-corners-requires-clause-first : goal.replaced-corners-requires-clause-first
replaced-corners-requires-clause-first c = c.loop.invariant.first.within

pub replaced-corners-requires-clause-second : goal.replaced-corners-requires-clause-second
replaced-corners-requires-clause-second c = c.loop.invariant.second.within

pub replaced-corners-requires-clause-third : goal.replaced-corners-requires-clause-third
replaced-corners-requires-clause-third c = c.loop.invariant.third.within

pub loop-preserved : goal.loop-preserved
loop-preserved c =
    let fourth = c.farthest-fourth.ensures in
    corners_replaced _ _ _ _ c.loop.invariant
    (record { chosen = fourth.vertex; within = fourth.within }) c.replaced-corners.ensures
