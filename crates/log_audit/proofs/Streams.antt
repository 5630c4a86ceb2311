-- Lines one after another, and the whole lines of what they make.
use Rattle.std.proofs.Common.{◌≡◌, ◌∙◌, ℕ, zero, suc, ◌≤◌, ◌<◌, List, [], ◌∷◌, ◌++◌, length, take}
use Rattle.std.proofs.Common.{Bool, true, false, cond, ◌==◌, refl, ap, sym, arith, append_assoc}
use Rattle.std.proofs.Common.{append-nil}
use Rattle.std.proofs.lemmas.List.{take-append-le}
use Rattle.std.proofs.lemmas.List.Elements.{All-append, All-cons, All-nil}
use Rattle.std.proofs.lemmas.List.Splits.{join_with_byte-slice_split, length-slice_split}
use Rattle.std.proofs.lemmas.List.Splits.{slice_split_at, slice_split_none}
use Rattle.std.specs.List.{join_with_byte, onto_first}
use Rattle.frame.specs.Frames.{all_but_last, between_feeds, last_of, line_feed, open_line}
use Rattle.frame.specs.Frames.{whole_lines}
use Rattle.log_text.specs.Lines.{line}
use Rattle.log_audit.specs.FirstBad.{first_lines, text_of}
use Rattle.log_audit.specs.Lines.{AreLines, HasNoFeed}

-- ---- the lines of what lines make

some_between : (text : List ℕ) → 0 < length (between_feeds text)
some_between text = omega (arith, length-slice_split (λ b. b == line_feed) text)

but_last-cons : (first : List ℕ) (parts : List (List ℕ)) → 0 < length parts
    → all_but_last (first ∷ parts) ≡ first ∷ all_but_last parts
but_last-cons first [] some = absurd (omega (arith, some))
but_last-cons first (next ∷ more) some = refl

last-cons : (first : List ℕ) (parts : List (List ℕ)) → 0 < length parts
    → last_of (first ∷ parts) ≡ last_of parts
last-cons first [] some = absurd (omega (arith, some))
last-cons first (next ∷ more) some = refl

between-line : (own more : List ℕ) → HasNoFeed own
    → between_feeds (line own ++ more) ≡ own ∷ between_feeds more
between-line own more good =
    ap between_feeds (append_assoc own (line_feed ∷ []) more)
    ∙ slice_split_at (λ b. b == line_feed) own line_feed more good refl

pub whole-line : (own more : List ℕ) → HasNoFeed own
    → whole_lines (line own ++ more) ≡ own ∷ whole_lines more
whole-line own more good =
    ap all_but_last (between-line own more good)
    ∙ but_last-cons own (between_feeds more) (some_between more)

pub open-line : (own more : List ℕ) → HasNoFeed own
    → open_line (line own ++ more) ≡ open_line more
open-line own more good =
    ap last_of (between-line own more good)
    ∙ last-cons own (between_feeds more) (some_between more)

text-cons : (own : List ℕ) (lines : List (List ℕ)) (more : List ℕ)
    → text_of (own ∷ lines) ++ more ≡ line own ++ (text_of lines ++ more)
text-cons own lines more = append_assoc (line own) (text_of lines) more

-- lines with something behind them are its first whole lines
pub whole-lines : (lines : List (List ℕ)) (more : List ℕ) → AreLines lines
    → whole_lines (text_of lines ++ more) ≡ lines ++ whole_lines more
whole-lines [] more good = refl
whole-lines (own ∷ lines) more good =
    ap whole_lines (text-cons own lines more)
    ∙ whole-line own (text_of lines ++ more) good.0
    ∙ ap (λ (rest : List (List ℕ)). own ∷ rest) (whole-lines lines more good.1)

pub open-lines : (lines : List (List ℕ)) (more : List ℕ) → AreLines lines
    → open_line (text_of lines ++ more) ≡ open_line more
open-lines [] more good = refl
open-lines (own ∷ lines) more good =
    ap open_line (text-cons own lines more)
    ∙ open-line own (text_of lines ++ more) good.0
    ∙ open-lines lines more good.1

-- a piece without a line feed has no whole line
pub whole-piece : (piece : List ℕ) → HasNoFeed piece → whole_lines piece ≡ []
whole-piece piece good = ap all_but_last (slice_split_none (λ b. b == line_feed) piece good)

pub open-piece : (piece : List ℕ) → HasNoFeed piece → open_line piece ≡ piece
open-piece piece good = ap last_of (slice_split_none (λ b. b == line_feed) piece good)

-- lines alone
pub whole-all : (lines : List (List ℕ)) → AreLines lines → whole_lines (text_of lines) ≡ lines
whole-all lines good =
    ap whole_lines (sym (append-nil (text_of lines))) ∙ whole-lines lines [] good
    ∙ append-nil lines

pub open-all : (lines : List (List ℕ)) → AreLines lines → open_line (text_of lines) ≡ []
open-all lines good =
    ap open_line (sym (append-nil (text_of lines))) ∙ open-lines lines [] good

-- ---- a text is its whole lines and what stands behind them

joined : (parts : List (List ℕ))
    → join_with_byte line_feed parts ≡ text_of (all_but_last parts) ++ last_of parts
joined [] = refl
joined (own ∷ []) = refl
joined (own ∷ next ∷ more) =
    ap (λ (rest : List ℕ). own ++ line_feed ∷ rest) (joined (next ∷ more))
    ∙ sym (append_assoc own (line_feed ∷ []) (text_of (all_but_last (next ∷ more))
    ++ last_of (next ∷ more)))
    ∙ sym (append_assoc (line own) (text_of (all_but_last (next ∷ more))) (last_of (next ∷ more)))

pub lines-and_rest : (text : List ℕ) → text ≡ text_of (whole_lines text) ++ open_line text
lines-and_rest text =
    sym (join_with_byte-slice_split line_feed text) ∙ joined (between_feeds text)

-- ---- the lines of a text have no line feeds

onto-first : (b : ℕ) (parts : List (List ℕ)) → (b == line_feed) ≡ false → AreLines parts
    → AreLines (onto_first b parts)
onto-first b [] other good = (
  All-cons (λ c. (c == line_feed) ≡ false) b [] other
      (All-nil (λ c. (c == line_feed) ≡ false)),
  tt,
)
onto-first b (part ∷ parts) other good =
    (All-cons (λ c. (c == line_feed) ≡ false) b part other good.0, good.1)

by_byte : (b : ℕ) (parts : List (List ℕ)) (feed : Bool) → (b == line_feed) ≡ feed → AreLines parts
    → AreLines (cond feed ([] ∷ parts) (onto_first b parts))
by_byte b parts true is good = (All-nil (λ c. (c == line_feed) ≡ false), good)
by_byte b parts false is good = onto-first b parts is good

parts-have_none : (text : List ℕ) → AreLines (between_feeds text)
parts-have_none [] = (All-nil (λ c. (c == line_feed) ≡ false), tt)
parts-have_none (b ∷ bs) =
    by_byte b (between_feeds bs) (b == line_feed) refl (parts-have_none bs)

but_last-good : (parts : List (List ℕ)) → AreLines parts → AreLines (all_but_last parts)
but_last-good [] good = tt
but_last-good (own ∷ []) good = tt
but_last-good (own ∷ next ∷ more) good = (good.0, but_last-good (next ∷ more) good.1)

pub lines-have_none : (text : List ℕ) → AreLines (whole_lines text)
lines-have_none text = but_last-good (between_feeds text) (parts-have_none text)

last-good : (parts : List (List ℕ)) → AreLines parts → HasNoFeed (last_of parts)
last-good [] good = All-nil (λ b. (b == line_feed) ≡ false)
last-good (own ∷ []) good = good.0
last-good (own ∷ next ∷ more) good = last-good (next ∷ more) good.1

pub open-has_none : (text : List ℕ) → HasNoFeed (open_line text)
open-has_none text = last-good (between_feeds text) (parts-have_none text)

-- nothing stands behind a line at a text's end
pub open-behind : (text own : List ℕ) → HasNoFeed own → open_line (text ++ line own) ≡ []
open-behind text own good =
    let lines = whole_lines text in
    let rest = open_line text in
    ap (λ (t : List ℕ). open_line (t ++ line own)) (lines-and_rest text)
    ∙ ap open_line (append_assoc (text_of lines) rest (line own))
    ∙ open-lines lines (rest ++ line own) (lines-have_none text)
    ∙ ap open_line (sym (append_assoc rest own (line_feed ∷ [])) ∙ sym (append-nil (line (rest ++ own))))
    ∙ open-line (rest ++ own) []
    (All-append (λ b. (b == line_feed) ≡ false) rest own (open-has_none text) good)

-- ---- first lines

pub first-lines : (count : ℕ) (lines : List (List ℕ)) (more : List ℕ) → AreLines lines
    → count ≤ length lines → first_lines count (text_of lines ++ more) ≡ text_of (take count lines)
first-lines count lines more good few =
    ap (λ (all : List (List ℕ)). text_of (take count all)) (whole-lines lines more good)
    ∙ ap text_of (take-append-le count lines (whole_lines more) few)

pub lines-append : (xs ys : List (List ℕ)) → AreLines xs → AreLines ys → AreLines (xs ++ ys)
lines-append [] ys first second = second
lines-append (x ∷ xs) ys first second = (first.0, lines-append xs ys first.1 second)

pub lines-taken : (count : ℕ) (lines : List (List ℕ)) → AreLines lines
    → AreLines (take count lines)
lines-taken zero lines good = tt
lines-taken (suc count) [] good = tt
lines-taken (suc count) (own ∷ lines) good = (good.0, lines-taken count lines good.1)

-- the text of lines tells them
pub text-same : (xs ys : List (List ℕ)) → AreLines xs → AreLines ys → text_of xs ≡ text_of ys
    → xs ≡ ys
text-same xs ys first second same = sym (whole-all xs first) ∙ ap whole_lines same ∙ whole-all ys second

pub text-append : (xs ys : List (List ℕ)) → text_of (xs ++ ys) ≡ text_of xs ++ text_of ys
text-append [] ys = refl
text-append (x ∷ xs) ys =
    ap (λ (rest : List ℕ). line x ++ rest) (text-append xs ys)
    ∙ sym (append_assoc (line x) (text_of xs) (text_of ys))
