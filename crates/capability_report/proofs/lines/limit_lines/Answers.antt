-- The three parts, one after another.
use Rattle.std.proofs.Common.{◌≡◌, List, ℕ, ◌++◌, string_bytes, rules, refl}
use Rattle.capability_report.specs.Texts.{at_lines, next_line, wind_line}
use Rattle.capability_report.proofs.lines.limit_lines.Goals as goal

three_parts : (one two three a b c : List ℕ) → one ≡ a → two ≡ one ++ b → three ≡ two ++ c
    → three ≡ a ++ b ++ c
three_parts one two three a b c h₁ h₂ h₃ = rw (h₃, h₂, h₁) refl

pub returns : goal.returns
returns c =
    let plant = c.args.plant.now in
    let limit = c.args.limit.now in
    three_parts (string_bytes c.push_wind.new.text) (string_bytes c.push_at.new.text)
    (string_bytes c.push_next.new.text) (wind_line plant c.args.angle limit)
    (at_lines plant limit.at.items) (next_line plant limit.next) (search rules) (search rules)
    c.in_ok-push_next.ensures
