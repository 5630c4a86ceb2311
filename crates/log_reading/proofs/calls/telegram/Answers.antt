-- What is no body is no telegram.
use Rattle.std.proofs.Common.{◌≡◌, ◌∙◌, ℕ, List, Option, None, true, ap, sym}
use Rattle.std.specs.Option.{IsSome, is_some}
use Rattle.frame.specs.Bodies.{is_body}
use Rattle.log_reading.proofs.TelegramBodies.{no_telegram}
use Rattle.log_reading.proofs.calls.telegram.Goals as goal

none_there : (read : Option (List ℕ)) → read ≡ None → IsSome read → ⊥
none_there read none some =
    let both : is_some {T = List ℕ} None ≡ true = ap is_some (sym none) ∙ some in absurd (cc)

pub returns-in_err-body : goal.returns-in_err-body
returns-in_err-body c =
    c.from_residual.ensures
    ∙ sym (no_telegram c.args.text.now (λ body.
    none_there c.of.result c.in_err-body.was
    (c.of.ensures.found.1 (ap is_body c.as_bytes.ensures.value ∙ body))))
