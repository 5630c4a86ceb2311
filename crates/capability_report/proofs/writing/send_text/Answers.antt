-- No text, a text in part, and a text whole.
use Rattle.std.proofs.Common.{◌≡◌, ◌∙◌, ℕ, List, Err, Ok, ap, arith, string_bytes, subst, refl}
use Rattle.std.specs.Result.{IfOk}
use Rattle.std.proofs.lemmas.Result.{err_from_is_err_and}
use Rattle.dp_io.specs.Shown.{TookPart, writing}
use Rattle.dp_words.specs.Writing.{EndsText}
use Rattle.dp_words.specs.declared.status.RunStatus.{RunStatus}
use Rattle.dp_words.proofs.Texted.{text-failed, text-starved}
use Rattle.capability_report.proofs.Written.{part-none}
use Rattle.capability_report.proofs.writing.send_text.Goals as goal

pub returns-in_err-text : goal.returns-in_err-text
returns-in_err-text g c = λ whole is.
    let out = writing g.O.Sink c.args.out.now c.args.out.now in
    let failed = err_from_is_err_and c.from_residual.result
    c.from_residual.ensures.1 in
    text-starved c.from_residual.result out whole
    (failed.1 ∙ ap (λ (s : RunStatus). Err s) failed.2)
    (part-none out.before out.after whole refl) (omega arith)

pub returns-in_err-send_lines : goal.returns-in_err-send_lines
returns-in_err-send_lines g c = λ whole is.
    let out = writing g.O.Sink c.args.out.now c.send_lines.new.sink in
    let same : c.as_bytes.result.now ≡ whole = c.as_bytes.ensures.value
    ∙ subst (λ r. IfOk r (λ made. string_bytes made ≡ whole)) c.in_ok-text.was is in
    let part = c.in_err-send_lines.ensures.part in
    let failed = err_from_is_err_and c.from_residual-in_err-send_lines.result
    c.from_residual-in_err-send_lines.ensures.1 in
    text-failed c.from_residual-in_err-send_lines.result out whole
    (failed.1 ∙ ap (λ (s : RunStatus). Err s) failed.2)
    (subst (λ (t : List ℕ). TookPart out t) same (part.0, part.2))
    c.in_err-send_lines.ensures.failed c.send_lines.ensures.counted

pub returns : goal.returns
returns g c = λ whole is.
    let out = writing g.O.Sink c.args.out.now c.send_lines.new.sink in
    let same : c.as_bytes.result.now ≡ whole = c.as_bytes.ensures.value
    ∙ subst (λ r. IfOk r (λ made. string_bytes made ≡ whole)) c.in_ok-text.was is in
    subst (λ (t : List ℕ). EndsText (Ok tt) out t) same (record {
      whole = c.in_ok-send_lines.ensures.whole;
      part = tt;
      writing = record {
        failed = λ e. cc;
        errors = tt;
        no_fault = c.in_ok-send_lines.ensures.same;
        counted = c.send_lines.ensures.counted;
      };
    })
