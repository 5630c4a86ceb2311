-- One angle more, an angle in part, and all angles.
use Rattle.std.proofs.Common.{◌∙◌, ℕ, Result, Err, Bool, false, sym, subst, refl, arith}
use Rattle.std.proofs.lemmas.Result.{err_from_is_err_and}
use Rattle.dp_io.specs.Shown.{writing}
use Rattle.dp_words.specs.declared.status.RunStatus.{RunStatus}
use Rattle.capability_report.specs.Found.{WritesLimit, WritesLimits}
use Rattle.capability_report.proofs.Written.{SoFar, limits-stopped, limits-written, none-so-far, one-more}
use Rattle.capability_report.proofs.writing.write_limits.Goals as goal

pub loop-tens-init : goal.loop-tens-init
loop-tens-init g c = record {
  so_far = none-so-far c.args.plant.now c.args.demand false (g.O.Sink.taken c.args.out.now);
  same = refl;
}

pub loop-tens-preserved : goal.loop-tens-preserved
loop-tens-preserved g c =
    let taken = g.O.Sink.taken in
    let faults = g.O.Sink.faults in
    record {
      so_far = one-more c.args.plant.now c.args.demand c.loop-tens.tens c.loop-tens.lost
          c.in_ok-lost.lost (taken c.args.out.now) (taken c.loop-tens.out)
          (taken c.write_limit.new.out) (faults c.loop-tens.out) (faults c.write_limit.new.out)
          c.loop-tens.invariant.so_far c.in_ok-lost.ensures;
      same = c.in_ok-lost.ensures.ends.writing.no_fault ∙ c.loop-tens.invariant.same;
    }

pub returns-in_err-lost : goal.returns-in_err-lost
returns-in_err-lost g c =
    let taken = g.O.Sink.taken in
    let faults = g.O.Sink.faults in
    let plant = c.args.plant.now in
    let demand = c.args.demand in
    let last = writing g.O.Sink c.loop-tens.out c.write_limit.new.out in
    let out = writing g.O.Sink c.args.out.now c.write_limit.new.out in
    let failed = err_from_is_err_and c.from_residual.result c.from_residual.ensures.1 in
    let stopped : WritesLimit plant demand c.loop-tens.tens (Err failed.0) last =
    subst (λ (e : RunStatus). WritesLimit plant demand c.loop-tens.tens (Err e) last)
    (sym failed.2) c.in_err-lost.ensures in
    subst (λ (r : Result Bool RunStatus). WritesLimits plant demand r out) (sym failed.1)
    (limits-stopped plant demand c.loop-tens.tens c.loop-tens.lost failed.0
    (taken c.args.out.now) (taken c.loop-tens.out) (taken c.write_limit.new.out)
    (faults c.args.out.now) (faults c.loop-tens.out) (faults c.write_limit.new.out)
    (omega arith) c.loop-tens.invariant.same c.loop-tens.invariant.so_far stopped)

pub returns : goal.returns
returns g c =
    let taken = g.O.Sink.taken in
    let faults = g.O.Sink.faults in
    limits-written c.args.plant.now c.args.demand c.loop-tens.lost (taken c.args.out.now)
    (taken c.loop-tens.out) (faults c.args.out.now) (faults c.loop-tens.out)
    c.loop-tens.invariant.same
    (subst (λ (tens : ℕ). SoFar c.args.plant.now c.args.demand tens c.loop-tens.lost
    (taken c.args.out.now) (taken c.loop-tens.out)) (omega arith) c.loop-tens.invariant.so_far)
