-- The margins in part, the limits in part, the last line in part, and all of it.
use Rattle.std.proofs.Common.{◌∙◌, Result, Err, Bool, ap, sym, subst}
use Rattle.std.proofs.lemmas.Result.{err_from_is_err_and}
use Rattle.dp_io.specs.Shown.{writing}
use Rattle.dp_words.specs.declared.status.RunStatus.{RunStatus}
use Rattle.capability_report.specs.Found.{WritesFound, WritesLimits, WritesMargins}
use Rattle.capability_report.proofs.Written.{all-written, angles-stopped, end-stopped}
use Rattle.capability_report.proofs.Written.{margins-stopped}
use Rattle.capability_report.proofs.writing.write_capability.Goals as goal

pub returns-in_err-write_margins : goal.returns-in_err-write_margins
returns-in_err-write_margins g c =
    let plant = c.args.plant.now in
    let demand = c.args.demand in
    let out = writing g.O.Sink c.args.out.now c.write_margins.new.out in
    let failed = err_from_is_err_and c.from_residual.result
    c.from_residual.ensures.1 in
    let stopped : WritesMargins plant demand (Err failed.0) out =
    subst (λ (e : RunStatus). WritesMargins plant demand (Err e) out) (sym failed.2)
    c.in_err-write_margins.ensures in
    subst (λ (r : Result Bool RunStatus). WritesFound plant demand r out) (sym failed.1)
    (margins-stopped plant demand failed.0 out stopped)

pub returns-in_err-lost : goal.returns-in_err-lost
returns-in_err-lost g c =
    let plant = c.args.plant.now in
    let demand = c.args.demand in
    let taken = g.O.Sink.taken in
    let faults = g.O.Sink.faults in
    let before = c.args.out.now in
    let middle = c.write_margins.new.out in
    let after = c.write_limits.new.out in
    let failed = err_from_is_err_and c.from_residual-in_err-lost.result
    c.from_residual-in_err-lost.ensures.1 in
    let stopped : WritesLimits plant demand (Err failed.0) (writing g.O.Sink middle after) =
    subst (λ (e : RunStatus). WritesLimits plant demand (Err e) (writing g.O.Sink middle after))
    (sym failed.2) c.in_err-lost.ensures in
    subst (λ (r : Result Bool RunStatus). WritesFound plant demand r
    (writing g.O.Sink before after)) (sym failed.1)
    (angles-stopped plant demand failed.0 (taken before) (taken middle) (taken after)
    (faults before) (faults middle) (faults after)
    c.in_ok-write_margins.ensures.ends.writing.no_fault c.in_ok-write_margins.ensures stopped)

pub returns-in_err-send_lines : goal.returns-in_err-send_lines
returns-in_err-send_lines g c =
    let plant = c.args.plant.now in
    let demand = c.args.demand in
    let taken = g.O.Sink.taken in
    let faults = g.O.Sink.faults in
    let before = c.args.out.now in
    let first = c.write_margins.new.out in
    let second = c.write_limits.new.out in
    let after = c.send_lines.new.sink in
    let margins = c.in_ok-write_margins.ensures in
    let limits = c.in_ok-lost.ensures in
    let part = c.in_err-send_lines.ensures.part in
    let failed = err_from_is_err_and c.from_residual-in_err-send_lines.result
    c.from_residual-in_err-send_lines.ensures.1 in
    subst (λ (r : Result Bool RunStatus). WritesFound plant demand r
    (writing g.O.Sink before after))
    (sym (failed.1 ∙ ap (λ (s : RunStatus). Err s) failed.2))
    (end-stopped plant demand c.in_ok-lost.lost (taken before) (taken first) (taken second)
    (taken after) (faults before) (faults first) (faults second) (faults after)
    (limits.ends.writing.no_fault ∙ margins.ends.writing.no_fault) margins limits
    (part.0, part.2) c.in_err-send_lines.ensures.failed c.send_lines.ensures.counted)

pub returns : goal.returns
returns g c =
    let taken = g.O.Sink.taken in
    let faults = g.O.Sink.faults in
    let before = c.args.out.now in
    let first = c.write_margins.new.out in
    let second = c.write_limits.new.out in
    let after = c.send_lines.new.sink in
    let margins = c.in_ok-write_margins.ensures in
    let limits = c.in_ok-lost.ensures in
    all-written c.args.plant.now c.args.demand c.in_ok-lost.lost (taken before) (taken first)
    (taken second) (taken after) (faults before) (faults first) (faults second) (faults after)
    (c.in_ok-send_lines.ensures.same ∙ limits.ends.writing.no_fault
    ∙ margins.ends.writing.no_fault) margins limits c.in_ok-send_lines.ensures.whole
