-- The five parts, one after another.
use Rattle.std.proofs.Common.{◌≡◌, List, ℕ, ◌++◌, string_bytes, codes, rules, refl}
use Rattle.std.specs.List.{flat_map, zip}
use Rattle.log_text.specs.Lines.{line}
use Rattle.log_text.specs.Outcomes.{allocation_text, check_head, intact_text, loss_text}
use Rattle.log_text.proofs.check.check_text.Goals as goal

five_parts : (one two three four five a b c d e : List ℕ) → one ≡ a → two ≡ one ++ b
    → three ≡ two ++ c → four ≡ three ++ d → five ≡ four ++ e
    → five ≡ a ++ b ++ c ++ d ++ e
five_parts one two three four five a b c d e h₁ h₂ h₃ h₄ h₅ = rw (h₅, h₄, h₃, h₂, h₁) refl

pub returns : goal.returns
returns c =
    let findings = c.args.findings.now in
    five_parts (string_bytes c.push_head.new.text) (string_bytes c.push_intact.new.text)
    (string_bytes c.push_losses.new.text) (string_bytes c.push_allocation.new.text)
    (string_bytes c.push_str.new.self)
    (check_head c.args.demand) (intact_text findings.intact)
    (flat_map loss_text (zip c.args.plant.now.groups.items findings.groups.items))
    (allocation_text findings.allocation) (line (codes "END"))
    (search rules) c.in_ok-push_intact.ensures (search rules) c.in_ok-push_allocation.ensures
    c.in_ok-push_str.ensures.bytes
