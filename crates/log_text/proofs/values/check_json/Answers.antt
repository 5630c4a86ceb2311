-- The value has no float, so its text is the compact one.
use Rattle.std.proofs.Common.{List, ℕ, ◌∷◌, [], ◌++◌, ◌∙◌, ap}
use Rattle.frame.specs.Frames.{line_feed}
use Rattle.serde_json.specs.Written.{compact_text, has_float}
use Rattle.log_text.proofs.Integers.{no_float-check}
use Rattle.log_text.proofs.values.check_json.Goals as goal

pub returns : goal.returns
returns c =
    let value = c.in_ok-value.ensures in
    let whole = ap has_float value
    ∙ no_float-check c.args.plant.now c.args.demand c.args.findings.now in
    c.in_ok-push_str.ensures.bytes
    ∙ ap (λ (t : List ℕ). t ++ line_feed ∷ [])
    (c.in_ok-text.ensures.text whole ∙ ap compact_text value)
