-- Fields that were written one after another, with a comma between each two.
use Rattle.std.proofs.Common.{◌≡◌, ℕ, List, [], ◌∷◌, ◌++◌, ap, ◌∙◌, append_assoc}
use Rattle.std.specs.List.{join_with_byte}
use Rattle.frame.specs.Frames.{line_feed}
use Rattle.telegram.specs.Telegrams.{comma}
use Rattle.sensor_vote.specs.Texts.{fields_line}

three : (a b c : List ℕ)
    → (a ++ comma ∷ b) ++ comma ∷ c ≡ join_with_byte comma (a ∷ b ∷ c ∷ [])
three a b c = append_assoc a (comma ∷ b) (comma ∷ c)

four : (a b c d : List ℕ) → ((a ++ comma ∷ b) ++ comma ∷ c) ++ comma ∷ d
    ≡ join_with_byte comma (a ∷ b ∷ c ∷ d ∷ [])
four a b c d =
    append_assoc (a ++ comma ∷ b) (comma ∷ c) (comma ∷ d)
    ∙ append_assoc a (comma ∷ b) (comma ∷ c ++ comma ∷ d)

-- one field more
after : (text so_far field : List ℕ) → text ≡ so_far → text ++ comma ∷ field
    ≡ so_far ++ comma ∷ field
after text so_far field is = ap (λ (t : List ℕ). t ++ comma ∷ field) is

ended : (text so_far : List ℕ) → text ≡ so_far → text ++ line_feed ∷ [] ≡ so_far ++ line_feed ∷ []
ended text so_far is = ap (λ (t : List ℕ). t ++ line_feed ∷ []) is

-- three fields, and the line's end
pub line-three : (kind x y a b c d : List ℕ) → a ≡ kind → b ≡ a ++ comma ∷ x
    → c ≡ b ++ comma ∷ y → d ≡ c ++ line_feed ∷ [] → d ≡ fields_line (kind ∷ x ∷ y ∷ [])
line-three kind x y a b c d first second third end =
    let so_far : b ≡ kind ++ comma ∷ x = second ∙ after a kind x first in
    let text : c ≡ (kind ++ comma ∷ x) ++ comma ∷ y =
    third ∙ after b (kind ++ comma ∷ x) y so_far in
    end ∙ ended c (join_with_byte comma (kind ∷ x ∷ y ∷ [])) (text ∙ three kind x y)

-- four fields
pub line-four : (kind x y z a b c d e : List ℕ) → a ≡ kind → b ≡ a ++ comma ∷ x
    → c ≡ b ++ comma ∷ y → d ≡ c ++ comma ∷ z → e ≡ d ++ line_feed ∷ []
    → e ≡ fields_line (kind ∷ x ∷ y ∷ z ∷ [])
line-four kind x y z a b c d e first second third fourth end =
    let so_far : b ≡ kind ++ comma ∷ x = second ∙ after a kind x first in
    let more : c ≡ (kind ++ comma ∷ x) ++ comma ∷ y =
    third ∙ after b (kind ++ comma ∷ x) y so_far in
    let text : d ≡ ((kind ++ comma ∷ x) ++ comma ∷ y) ++ comma ∷ z =
    fourth ∙ after c ((kind ++ comma ∷ x) ++ comma ∷ y) z more in
    end ∙ ended d (join_with_byte comma (kind ∷ x ∷ y ∷ z ∷ [])) (text ∙ four kind x y z)
