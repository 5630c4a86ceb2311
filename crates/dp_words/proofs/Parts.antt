-- Texts that a sink took whole or in part, one after another.
use Rattle.std.proofs.Common.{◌≡◌, ℕ, ◌+◌, ◌<◌, List, ◌++◌, length, take, drop, Option}
use Rattle.std.proofs.Common.{sym, ◌∙◌, ap, subst, inl, inr, append_assoc, arith}
use Rattle.std.proofs.Math.Seq.{take-append_seam, take-append-add}
use Rattle.std.proofs.lemmas.Bool.{cases_lt}
use Rattle.std.proofs.lemmas.List.{take-append-drop, take-append-le}
use Rattle.std.proofs.lemmas.List.{length-append, take_all}
use Rattle.dp_io.specs.Streams.{Grew}
use Rattle.dp_io.proofs.Grown.{Grew-append}
use Rattle.dp_io.specs.Shown.{GrewInPart}

-- ---- a text that was taken in part

pub part-whole : (before after : Option (List ℕ)) (text : List ℕ) → Grew before after text
    → GrewInPart before after text
part-whole before after text grew = (
  length text,
  subst (λ (t : List ℕ). Grew before after t) (sym (take_all (length text) text (omega arith)))
      grew,
)

-- the first of two texts in part
pub part-front : (before after : Option (List ℕ)) (x y : List ℕ) → GrewInPart before after x
    → GrewInPart before after (x ++ y)
part-front before after x y part =
    elim (cases_lt (length x) part.0) [
      | inl past ↦
          let whole : take part.0 x ≡ x = take_all part.0 x (omega (arith, past)) in (
            length x,
            subst (λ (t : List ℕ). Grew before after t)
                (whole ∙ sym (take-append_seam x y)) part.1,
          )
      | inr within ↦ (
        part.0,
        subst (λ (t : List ℕ). Grew before after t)
            (sym (take-append-le part.0 x y within)) part.1,
      )
    ]

-- the first of two texts whole, and the second in part
pub part-back : (before middle after : Option (List ℕ)) (x y : List ℕ) → Grew before middle x
    → GrewInPart middle after y → GrewInPart before after (x ++ y)
part-back before middle after x y whole part = (
  length x + part.0,
  subst (λ (t : List ℕ). Grew before after t)
      (sym (take-append-add x y part.0))
      (Grew-append before middle after x (take part.0 y) whole part.1),
)

-- ---- a text of which some was taken, but not the whole

-- of the first of two texts
pub short-front : (before after : Option (List ℕ)) (x y : List ℕ)
    → ((n : ℕ) × (n < length x) × Grew before after (take n x))
    → (n : ℕ) × (n < length (x ++ y)) × Grew before after (take n (x ++ y))
short-front before after x y short = (
  short.0,
  omega (arith, short.1, length-append x y),
  subst (λ (t : List ℕ). Grew before after t)
      (sym (take-append-le short.0 x y (omega (arith, short.1)))) short.2,
)

-- the first whole, and of the second some
pub short-back : (before middle after : Option (List ℕ)) (x y : List ℕ) → Grew before middle x
    → ((n : ℕ) × (n < length y) × Grew middle after (take n y))
    → (n : ℕ) × (n < length (x ++ y)) × Grew before after (take n (x ++ y))
short-back before middle after x y whole short = (
  length x + short.0,
  omega (arith, short.1, length-append x y),
  subst (λ (t : List ℕ). Grew before after t)
      (sym (take-append-add x y short.0))
      (Grew-append before middle after x (take short.0 y) whole short.2),
)

-- ---- lines

-- what stands before the rest, and a line more
pub lines-more : (text lines rest line after : List ℕ) (n : ℕ) → text ≡ lines ++ rest
    → line ≡ take n rest → after ≡ drop n rest
    → text ≡ (lines ++ line) ++ after
lines-more text lines rest line after n so_far front back =
    let whole : take n rest ++ drop n rest ≡ rest = take-append-drop n rest in
    let split : rest ≡ line ++ after = cc in
    so_far ∙ ap (λ (t : List ℕ). lines ++ t) split ∙ sym (append_assoc lines line after)
