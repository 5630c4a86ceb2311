use Rattle.std.proofs.Common.{◌≡◌, ◌+◌, Some, None, subst, sym, arith}
use Rattle.capability.specs.Limits.{Weather}
use Rattle.capability.specs.Paths.{IsPath}
use Rattle.capability.proofs.Limits.{greatest_held, next_is, none_held, shown}
use Rattle.capability.proofs.Paths.{demands}
use Rattle.capability.proofs.limit.wind_limit.Goals as goal
use Rattle.capability.proofs.limit.wind_limit.Goals.{After-as_slice-path}

path_is_so : (c : After-as_slice-path) →
    IsPath c.args.plant.now c.args.base c.args.angle c.as_slice-path.result.now
path_is_so c =
    subst (IsPath c.args.plant.now c.args.base c.args.angle) (sym c.as_slice-path.ensures.value)
    c.path-demands.ensures

pub first_stop-stop-requires : goal.first_stop-stop-requires
first_stop-stop-requires c =
    let at = goal.at.first_stop-stop-requires c in
    record {
      demands = demands c.args.plant.now c.args.base c.args.angle c.as_slice-path.result.now
          (path_is_so at.After-as_slice-path);
    }

pub next_at-next-requires-clause-demands : goal.next_at-next-requires-clause-demands
next_at-next-requires-clause-demands c =
    let at = goal.at.next_at-next-requires-clause-demands c in
    demands c.args.plant.now c.args.base c.args.angle c.as_slice-path.result.now
    (path_is_so at.After-as_slice-path)

pub returns-in-Some : goal.returns-in-Some
returns-in-Some c =
    let at = goal.at.returns-in-Some c in
    let w : Weather = record {
      plant = c.args.plant.now;
      status = c.args.status.now;
      base = c.args.base;
      angle = c.args.angle;
    } in
    let path = c.as_slice-path.result.now in
    let is = path_is_so at.After-as_slice-path in
    let stop = c.first_stop-stop.result in
    let stops = c.first_stop-stop.ensures in
    let speed = c.in-Some.speed in
    let one_more : stop.speed ≡ speed + 1 =
    omega (arith, c.in-Some.ensures.0, c.in-Some.ensures.1) in
    record {
      speed = greatest_held w path is stop stops speed one_more;
      at = shown w path is stop stops speed c.outcomes.result.items one_more c.outcomes.ensures;
      next = next_is w path is stop stops (Some speed) c.next_at-next.result (sym one_more)
          c.next_at-next.ensures;
    }

pub returns-in-None : goal.returns-in-None
returns-in-None c =
    let at = goal.at.returns-in-None c in
    let w : Weather = record {
      plant = c.args.plant.now;
      status = c.args.status.now;
      base = c.args.base;
      angle = c.args.angle;
    } in
    let path = c.as_slice-path.result.now in
    let is = path_is_so at.After-as_slice-path in
    let stop = c.first_stop-stop.result in
    let stops = c.first_stop-stop.ensures in
    let none : stop.speed ≡ 0 = omega (arith, c.in-None.ensures) in
    record {
      speed = none_held w path is stop stops none;
      at = c.new.ensures;
      next = next_is w path is stop stops None c.next_at-next.result (sym none)
          c.next_at-next.ensures;
    }
