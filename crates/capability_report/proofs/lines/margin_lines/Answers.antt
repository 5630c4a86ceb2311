-- The four parts, one after another.
use Rattle.std.proofs.Common.{◌≡◌, List, ℕ, ◌++◌, string_bytes, rules, refl}
use Rattle.std.specs.List.{flat_map, zip}
use Rattle.capability_report.specs.Texts.{head_line, intact_line, reserve_line, worst_line}
use Rattle.capability_report.proofs.lines.margin_lines.Goals as goal

four_parts : (one two three four a b c d : List ℕ) → one ≡ a → two ≡ one ++ b → three ≡ two ++ c
    → four ≡ three ++ d → four ≡ a ++ b ++ c ++ d
four_parts one two three four a b c d h₁ h₂ h₃ h₄ = rw (h₄, h₃, h₂, h₁) refl

pub returns : goal.returns
returns c =
    let margins = c.args.margins.now in
    let plant = c.args.plant.now in
    four_parts (string_bytes c.push_head.new.text) (string_bytes c.push_intact.new.text)
    (string_bytes c.push_reserves.new.text) (string_bytes c.push_worst.new.text)
    (head_line c.args.demand) (intact_line margins.intact)
    (flat_map reserve_line (zip plant.groups.items margins.groups.items))
    (worst_line plant margins.groups.items) (search rules) c.in_ok-push_intact.ensures
    (search rules) (search rules)
