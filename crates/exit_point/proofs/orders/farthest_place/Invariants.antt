use Rattle.std.proofs.Common.{◌≤◌, length, take}
use Rattle.wrench_geometry.specs.Wrenches.{image_at}
use Rattle.exit_point.specs.Orders.{IsFarthest}
use Rattle.exit_point.proofs.orders.farthest_place.Given as goal

abbrev pub invariant-loop-i : goal.invariant-loop-i
invariant-loop-i l = record {
  place : l.place ≤ length l.images;
  farthest : IsFarthest l.order (take l.i l.images) (image_at l.images l.place);
}
