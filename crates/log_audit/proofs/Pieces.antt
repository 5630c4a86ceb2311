-- The first line of a text, by the place of its line feed; and a text from its lines and what stands behind them.
use Rattle.std.proofs.Common.{◌≡◌, ◌∙◌, ℕ, suc, ◌+◌, ◌<◌, ◌≤◌, List, [], ◌∷◌, ◌++◌, length, take, drop, get_or}
use Rattle.std.proofs.Common.{true, false, ◌==◌, ap, sym, subst, arith, append_assoc, drop-cons}
use Rattle.std.proofs.Common.{add-one, append-nil, length-append}
use Rattle.std.proofs.lemmas.Bool.{false_from_ne_true}
use Rattle.std.proofs.lemmas.Bool.Decides.{Decides-eqb}
use Rattle.std.proofs.lemmas.List.{get_or-take, get_or_default, take-append-drop}
use Rattle.memchr.specs.Find.{NoneBefore, Nowhere, Passes, is_byte}
use Rattle.frame.specs.Frames.{line_feed}
use Rattle.log_text.specs.Lines.{line}
use Rattle.log_audit.specs.FirstBad.{text_of}
use Rattle.log_audit.specs.Lines.{HasNoFeed, IsFirstLine}
use Rattle.log_audit.proofs.Streams.{text-append}

-- a byte at which the test doesn't pass, read with any default
no_feed-at : (text : List ℕ) (k d : ℕ) → k < length text
    → (Passes (is_byte line_feed) text k → ⊥) → (get_or text k d == line_feed) ≡ false
no_feed-at text k d below none =
    ap (λ (b : ℕ). b == line_feed) (get_or_default text k d 0 below)
    ∙ false_from_ne_true (get_or text k 0 == line_feed) none

pub no_feed-nowhere : (text : List ℕ) → Nowhere (Passes (is_byte line_feed) text) 0 (length text)
    → HasNoFeed text
no_feed-nowhere text nowhere k d below =
    no_feed-at text k d below (nowhere k (omega arith) below)

-- the text before the place has none
no_feed-before : (text : List ℕ) (end : ℕ) → end < length text
    → Nowhere (Passes (is_byte line_feed) text) 0 end → length (take end text) ≡ end
    → HasNoFeed (take end text)
no_feed-before text end there nowhere size k d below =
    let less : k < end = omega (arith, below, size) in
    ap (λ (b : ℕ). b == line_feed) (get_or-take end text k d less)
    ∙ no_feed-at text k d (omega (arith, less, there)) (nowhere k (omega arith) less)

cut_at : (text : List ℕ) (end : ℕ) → end < length text → (get_or text end 0 == line_feed) ≡ true
    → line (take end text) ++ drop (end + 1) text ≡ text
cut_at text end there feed =
    let byte : get_or text end 0 ≡ line_feed = (Decides-eqb (get_or text end 0) line_feed).0 feed in
    let behind : drop end text ≡ line_feed ∷ drop (end + 1) text =
    drop-cons text end 0 there
    ∙ ap (λ (b : ℕ). b ∷ drop (suc end) text) byte
    ∙ ap (λ (n : ℕ). line_feed ∷ drop n text) (sym (add-one end)) in
    append_assoc (take end text) (line_feed ∷ []) (drop (end + 1) text)
    ∙ ap (λ (rest : List ℕ). take end text ++ rest) (sym behind) ∙ take-append-drop end text

pub first-line : (text own rest : List ℕ) (end : ℕ) → NoneBefore (Passes (is_byte line_feed) text) 0
    (length text) end → Passes (is_byte line_feed) text end → own ≡ take end text
    → rest ≡ drop (end + 1) text → length own ≡ end → IsFirstLine text own rest
first-line text own rest end none passes front back size =
    subst (λ (o : List ℕ). IsFirstLine text o rest) (sym front)
    (subst (IsFirstLine text (take end text)) (sym back) (record {
      good = no_feed-before text end none.high none.before (ap length (sym front) ∙ size);
      is = cut_at text end none.high passes;
    }))

-- one line more of a text
pub next-line : (text own rest more : List ℕ) (lines : List (List ℕ)) → IsFirstLine rest own more
    → text_of lines ++ rest ≡ text → text_of (lines ++ own ∷ []) ++ more ≡ text
next-line text own rest more lines first is =
    ap (λ (front : List ℕ). front ++ more) (text-append lines (own ∷ []))
    ∙ append_assoc (text_of lines) (text_of (own ∷ [])) more
    ∙ ap (λ (own_line : List ℕ). text_of lines ++ (own_line ++ more)) (append-nil (line own))
    ∙ ap (λ (behind : List ℕ). text_of lines ++ behind) first.is ∙ is

pub shorter : (text own rest : List ℕ) → IsFirstLine text own rest
    → length rest + 1 ≤ length text
shorter text own rest first =
    omega (
      arith,
      ap length first.is,
      length-append (line own) rest,
      length-append own (line_feed ∷ []),
    )

-- where nothing is left the lines are the text
pub nothing_left : (front rest text : List ℕ) → (length rest == 0) ≡ true → front ++ rest ≡ text
    → front ≡ text
nothing_left front [] text empty is = sym (append-nil front) ∙ is
nothing_left front (b ∷ bs) text empty is =
    let size : length (b ∷ bs) ≡ 0 = (Decides-eqb (length (b ∷ bs)) 0).0 empty in
    absurd (omega (arith, size))

pub some_left : (rest : List ℕ) → (length rest == 0) ≡ false → 0 < length rest
some_left [] some = absurd (cc (some))
some_left (b ∷ bs) some = omega arith
