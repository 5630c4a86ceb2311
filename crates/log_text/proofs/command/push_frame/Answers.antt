-- The frame of a body is text.
use Rattle.std.proofs.Common.{◌≡◌, ◌∙◌, ap, sym, subst, List, ℕ, rules}
use Rattle.std.specs.Str.{IsUtf8}
use Rattle.frame.specs.Frames.{frame_text}
use Rattle.log_text.proofs.FrameTexts.{IsUtf8-frame_text, ok_from_text}
use Rattle.log_text.proofs.command.push_frame.Goals as goal

pub unwrap-requires : goal.unwrap-requires
unwrap-requires c =
    let body : c.unwrap-body.result ≡ c.args.body.now = search rules in
    let same : c.as_slice.result.now ≡ frame_text c.args.body.now =
    c.as_slice.ensures.value ∙ c.write_frame-frame.ensures ∙ ap frame_text body in
    let text : IsUtf8 c.as_slice.result.now =
    subst (λ (bytes : List ℕ). IsUtf8 bytes) (sym same)
    (IsUtf8-frame_text c.args.body.now c.requires) in
    ok_from_text _ _ c.from_utf8.result c.from_utf8.ensures.cases (λ e bad. bad.0 text)
