-- The place behind a line in a text.
use Rattle.std.proofs.Common.{◌≡◌, ◌∙◌, ℕ, ◌-◌, ◌≤◌, List, [], ◌∷◌, ◌++◌, length, take, drop, min, true, false}
use Rattle.std.proofs.Common.{ap, sym, arith, append_assoc, length-append}
use Rattle.std.proofs.lemmas.List.{take-append-drop, take-append-le, take_all}
use Rattle.std.proofs.lemmas.Slice.Eq.{bytes_eq-Decides}
use Rattle.std.proofs.Math.Seq.{drop-append_seam}
use Rattle.std.specs.Str.{bytes_eq}
use Rattle.frame.specs.Frames.{line_feed}
use Rattle.log_text.specs.Lines.{line}

from_place : (text rest : List ℕ) (at low : ℕ) → low ≡ min at (length text) → rest ≡ drop low text
    → at ≤ length text → rest ≡ drop at text
from_place text rest at low is back within =
    let same : low ≡ at = is ∙ omega (arith, within) in
    back ∙ ap (λ (n : ℕ). drop n text) same

spelled : (own more : List ℕ) → line own ++ more ≡ own ++ line_feed ∷ more
spelled own more = append_assoc own (line_feed ∷ []) more

front-of : (own more : List ℕ) → take (length own) (own ++ line_feed ∷ more) ≡ own
front-of own more =
    take-append-le (length own) own (line_feed ∷ more) (omega arith)
    ∙ take_all (length own) own (omega arith)

-- another text than the line stands there
pub other_there : (text rest own : List ℕ) (at low : ℕ) → low ≡ min at (length text)
    → rest ≡ drop low text → bytes_eq (take (length own) rest) own ≡ false → at ≤ length text
    → (more : List ℕ) → drop at text ≡ line own ++ more → ⊥
other_there text rest own at low is back differs within more there =
    let all : rest ≡ own ++ line_feed ∷ more =
    from_place text rest at low is back within ∙ there ∙ spelled own more in
    let same : take (length own) rest ≡ own = ap (take (length own)) all ∙ front-of own more in
    let yes = (bytes_eq-Decides (take (length own) rest) own).1 same in
    absurd (cc (yes, differs))

-- no line feed stands behind it
pub unended : (text rest own left : List ℕ) (at low : ℕ) → low ≡ min at (length text)
    → rest ≡ drop low text → left ≡ drop (length own) rest
    → bytes_eq (take 1 left) (line_feed ∷ []) ≡ false → at ≤ length text
    → (more : List ℕ) → drop at text ≡ line own ++ more → ⊥
unended text rest own left at low is back behind differs within more there =
    let all : rest ≡ own ++ line_feed ∷ more =
    from_place text rest at low is back within ∙ there ∙ spelled own more in
    let is_left : left ≡ line_feed ∷ more =
    behind ∙ ap (drop (length own)) all ∙ drop-append_seam own (line_feed ∷ more) in
    let yes = (bytes_eq-Decides (take 1 left) (line_feed ∷ [])).1 (ap (take 1) is_left) in
    absurd (cc (yes, differs))

-- a text that ends with another, from its place on
pub ends_with : (text more front : List ℕ) (at : ℕ) → at ≤ length text
    → drop at text ≡ front ++ more → drop (length text - length more) text ≡ more
ends_with text more front at within there =
    let head = take at text ++ front in
    let all : text ≡ head ++ more =
    sym (take-append-drop at text) ∙ ap (λ (t : List ℕ). take at text ++ t) there
    ∙ sym (append_assoc (take at text) front more) in
    let size : length text - length more ≡ length head =
    omega (arith, ap length all, length-append head more) in
    ap (λ (n : ℕ). drop n text) size ∙ ap (drop (length head)) all ∙ drop-append_seam head more

pub ended : (text rest own left more : List ℕ) (at low : ℕ) → low ≡ min at (length text)
    → rest ≡ drop low text → left ≡ drop (length own) rest
    → bytes_eq (take (length own) rest) own ≡ true
    → bytes_eq (take 1 left) (line_feed ∷ []) ≡ true → more ≡ drop 1 left → at ≤ length text
    → drop at text ≡ line own ++ drop (length text - length more) text
ended text rest own left more at low is back behind begins feed last within =
    let first : take (length own) rest ≡ own =
    (bytes_eq-Decides (take (length own) rest) own).0 begins in
    let byte : take 1 left ≡ line_feed ∷ [] =
    (bytes_eq-Decides (take 1 left) (line_feed ∷ [])).0 feed in
    let left_is : left ≡ line_feed ∷ more =
    sym (take-append-drop 1 left) ∙ ap (λ (t : List ℕ). t ++ drop 1 left) byte
    ∙ ap (λ (t : List ℕ). line_feed ∷ t) (sym last) in
    let rest_is : rest ≡ own ++ line_feed ∷ more =
    sym (take-append-drop (length own) rest) ∙ ap (λ (t : List ℕ). t ++ drop (length own) rest) first
    ∙ ap (λ (t : List ℕ). own ++ t) (sym behind ∙ left_is) in
    let there : drop at text ≡ line own ++ more =
    sym (from_place text rest at low is back within) ∙ rest_is ∙ sym (spelled own more) in
    there ∙ ap (λ (t : List ℕ). line own ++ t) (sym (ends_with text more (line own) at within there))
