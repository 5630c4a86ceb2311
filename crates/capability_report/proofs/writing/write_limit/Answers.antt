-- The text is that of a right limit, written in part or whole.
use Rattle.std.proofs.Common.{◌*◌, Result, Err, sym, subst, Bool}
use Rattle.std.proofs.lemmas.Result.{err_from_is_err_and}
use Rattle.dp_io.specs.Shown.{writing}
use Rattle.dp_words.specs.Writing.{EndsText}
use Rattle.dp_words.specs.declared.status.RunStatus.{RunStatus}
use Rattle.capability.specs.Limits.{IsWindLimit}
use Rattle.capability_report.specs.Found.{WritesLimit, weather}
use Rattle.capability_report.specs.Texts.{limit_lines}
use Rattle.capability_report.proofs.Limits.{limit-at, so}
use Rattle.capability_report.proofs.Written.{text-stopped, text-whole}
use Rattle.capability_report.proofs.writing.write_limit.Goals as goal

pub returns-in_err-send_text : goal.returns-in_err-send_text
returns-in_err-send_text g c =
    let plant = c.args.plant.now in
    let limit = c.wind_limit-limit.result in
    let out = writing g.O.Sink c.args.out.now c.send_text.new.out in
    let text = limit_lines plant (c.args.tens * 1000) limit in
    let is : IsWindLimit (weather plant c.args.demand c.args.tens) limit =
    limit-at plant c.opening.result.now c.args.demand c.args.tens limit c.opening.ensures
    c.wind_limit-limit.ensures in
    let failed = err_from_is_err_and c.from_residual.result c.from_residual.ensures.1 in
    let stopped : EndsText (Err failed.0) out text =
    subst (λ (e : RunStatus). EndsText (Err e) out text) (sym failed.2)
    (c.in_err-send_text.ensures text c.limit_lines.ensures) in
    subst (λ (r : Result Bool RunStatus). WritesLimit plant c.args.demand c.args.tens r out)
    (sym failed.1)
    (record { limit = limit; is = is; so = tt; ends = text-stopped failed.0 out text stopped })

pub returns : goal.returns
returns g c =
    let plant = c.args.plant.now in
    let limit = c.wind_limit-limit.result in
    let out = writing g.O.Sink c.args.out.now c.send_text.new.out in
    let text = limit_lines plant (c.args.tens * 1000) limit in
    let is : IsWindLimit (weather plant c.args.demand c.args.tens) limit =
    limit-at plant c.opening.result.now c.args.demand c.args.tens limit c.opening.ensures
    c.wind_limit-limit.ensures in
    record {
      limit = limit;
      is = is;
      so = so plant c.args.demand c.args.tens limit c.is_none.result c.requires.demand is
          c.is_none.ensures;
      ends = text-whole c.is_none.result out text
          (c.in_ok-send_text.ensures text c.limit_lines.ensures);
    }
