-- A text has one first bad line, and one verdict.
use Rattle.std.proofs.Common.{◌≡◌, ◌∙◌, ◌⊎◌, inl, inr, ℕ, zero, suc, ◌+◌, ◌-◌, ◌≤◌, ◌<◌, List, [], ◌∷◌, ◌++◌}
use Rattle.std.proofs.Common.{length, take, refl, ap, ap₂, sym, subst, arith, true, false, Option, Some, None}
use Rattle.std.proofs.lemmas.Bool.Decides.{nat_tests}
use Rattle.frame.specs.Frames.{whole_lines}
use Rattle.plant_model.specs.declared.limits.TheConstants.{MOST_ENTRIES}
use Rattle.plant_model.specs.declared.plant.Parts.{Parts}
use Rattle.plant_core.specs.declared.call.Entry.{Entry}
use Rattle.log_text.specs.Commands.{commands_text}
use Rattle.log_text.specs.Laws.{LogsTellHistories, TextsTellHistories}
use Rattle.log_audit.specs.Accepted.{IsLog, Tells, log_part, session_text}
use Rattle.log_audit.specs.FirstBad.{IsFirstBad, SomeBegins, first_lines, text_of}
use Rattle.log_audit.specs.Lines.{HasNames}
use Rattle.log_audit.specs.Sessions.{IsFirstBadBehind, IsFirstBadFrom, IsFirstOther, behind}
use Rattle.log_audit.specs.Sessions.{lines_before_log}
use Rattle.log_audit.specs.Verdicts.{IsLogVerdict, IsSessionVerdict, VerdictsAreOne}
use Rattle.log_audit.specs.declared.verdict.Verdict.{Verdict}
use Rattle.log_audit.specs.declared.verdict.Verdict.TheVariants.{Legal, NotALog}
use Rattle.log_audit.proofs.Parts.{one_part}
use Rattle.log_audit.proofs.Readings.{head-good, named}
use Rattle.log_audit.proofs.Streams.{lines-have_none, lines-taken, text-same}

same_number : (m n : ℕ) → (m < n → ⊥) → (n < m → ⊥) → m ≡ n
same_number m n below above =
    first_of (omega (arith, below, above), grind (arith, nat_tests, below, above))

-- a first bad line is a whole line of the text, or the one behind them
few_lines : (Is : List ℕ → Type 0) (text : List ℕ) (number : ℕ) → IsFirstBad Is text number
    → number ≤ length (whole_lines text) + 1
few_lines Is text number first = by_end first.bad
  where
    by_end : ((number ≤ length (whole_lines text)) × (¬ SomeBegins Is number text))
        ⊎ (number ≡ length (whole_lines text) + 1) → number ≤ length (whole_lines text) + 1
    by_end (inl within) = omega (arith, within.0)
    by_end (inr last) = omega (arith, last)

-- none is before another
none_before : (Is : List ℕ → Type 0) (text : List ℕ) (number other : ℕ)
    → IsFirstBad Is text number → IsFirstBad Is text other → number < other → ⊥
none_before Is text number other first second less = by_end first.bad
  where
    by_end : ((number ≤ length (whole_lines text)) × (¬ SomeBegins Is number text))
        ⊎ (number ≡ length (whole_lines text) + 1) → ⊥
    by_end (inl within) = within.1 (second.before number first.from_1 less)
    by_end (inr last) = absurd (omega (arith, last, less, few_lines Is text other second))

pub one_first_bad : (Is : List ℕ → Type 0) (text : List ℕ) (number other : ℕ)
    → IsFirstBad Is text number → IsFirstBad Is text other → number ≡ other
one_first_bad Is text number other first second =
    same_number number other (none_before Is text number other first second)
    (none_before Is text other number second first)

-- texts that begin with the same lines do so with fewer of them
taken-fewer : (n m : ℕ) (xs ys : List (List ℕ)) → n ≤ m → take m xs ≡ take m ys
    → take n xs ≡ take n ys
taken-fewer zero m xs ys few same = refl
taken-fewer (suc n) zero xs ys few same = absurd (omega (arith, few))
taken-fewer (suc n) (suc m) [] [] few same = refl
taken-fewer (suc n) (suc m) [] (y ∷ ys) few same = absurd (cc)
taken-fewer (suc n) (suc m) (x ∷ xs) [] few same = absurd (cc)
taken-fewer (suc n) (suc m) (x ∷ xs) (y ∷ ys) few same =
    let one : x ≡ y = cc (same) in
    let rest : take m xs ≡ take m ys = cc (same) in
    ap₂ (λ (l : List ℕ) (ls : List (List ℕ)). l ∷ ls) one
    (taken-fewer n m xs ys (omega (arith, few)) rest)

fewer : (n m : ℕ) (text other : List ℕ) → n ≤ m → first_lines m text ≡ first_lines m other
    → first_lines n text ≡ first_lines n other
fewer n m text other few same =
    ap text_of (taken-fewer n m (whole_lines text) (whole_lines other) few
    (text-same (take m (whole_lines text)) (take m (whole_lines other))
    (lines-taken m (whole_lines text) (lines-have_none text))
    (lines-taken m (whole_lines other) (lines-have_none other)) same))

-- a text differs from another at one line first
none_other : (text other : List ℕ) (number after : ℕ) → IsFirstOther text other number
    → IsFirstOther text other after → number < after → ⊥
none_other text other number after first second less =
    first.differs (fewer number (after - 1) text other (omega (arith, less)) second.same)

pub one_first_other : (text other : List ℕ) (number after : ℕ) → IsFirstOther text other number
    → IsFirstOther text other after → number ≡ after
one_first_other text other number after first second =
    same_number number after (none_other text other number after first second)
    (none_other text other after number second first)

-- one text is the log of one history
one_history : (plant : Parts) → LogsTellHistories plant → (text : List ℕ) (log other : IsLog plant text)
    → log.history ≡ other.history
one_history plant tell text log other =
    tell MOST_ENTRIES MOST_ENTRIES log.history other.history log.logged.legal other.logged.legal
    log.logged.held other.logged.held (sym log.is ∙ other.is)

one_log_verdict : (plant : Parts) → LogsTellHistories plant → (text : List ℕ)
    (verdict other : Verdict) → IsLogVerdict plant text verdict → IsLogVerdict plant text other
    → verdict ≡ other
one_log_verdict plant tell text (Legal entries) (Legal others) first second =
    ap (λ (n : ℕ). Legal n)
    (first.1 ∙ ap (λ (history : List Entry). length history)
    (one_history plant tell text first.0 second.0) ∙ sym second.1)
one_log_verdict plant tell text (Legal entries) (NotALog line) first second =
    absurd (second.refused first.0)
one_log_verdict plant tell text (NotALog line) (Legal entries) first second =
    absurd (first.refused second.0)
one_log_verdict plant tell text (NotALog line) (NotALog other) first second =
    ap (λ (n : ℕ). NotALog n) (one_first_bad (IsLog plant) text line other first.first second.first)

-- ---- sessions

module _ (plant : Parts) (names : HasNames plant) where
  -- the part from the log on tells one history
  same_history : (part : List ℕ) (log other : Tells log_part plant part)
      → log.history ≡ other.history
  same_history part log other =
      one_part plant (named plant names) names.distinct (head-good plant names) log.history
      other.history log.logged other.logged (sym log.is ∙ other.is)

  abbrev BadBehind : ℕ → List ℕ → ℕ → Type 0
  BadBehind lines text number =
      (own : ℕ) × (number ≡ lines + own)
      × IsFirstBad (Tells log_part plant) (behind lines text) own

  one_behind : (lines : ℕ) (text : List ℕ) (number other : ℕ)
      → IsFirstBadBehind lines plant text number → IsFirstBadBehind lines plant text other
      → number ≡ other
  one_behind lines text number other (inl first) (inl second) =
      first.2
      ∙ ap (λ (n : ℕ). lines + n)
      (one_first_bad (Tells log_part plant) (behind lines text) first.1 second.1 first.3
      second.3)
      ∙ sym second.2
  one_behind lines text number other (inl first) (inr second) = absurd (first.0 second.0)
  one_behind lines text number other (inr first) (inl second) = absurd (second.0 first.0)
  one_behind lines text number other (inr first) (inr second) =
      let part = behind lines text in
      one_first_other text (commands_text plant second.0.history ++ part) number other
      (subst (λ (history : List Entry). IsFirstOther text (commands_text plant history ++ part) number)
      (same_history part first.0 second.0) first.1) second.1

  one_from : (before : Option ℕ) (text : List ℕ) (number other : ℕ)
      → IsFirstBadFrom before plant text number → IsFirstBadFrom before plant text other
      → number ≡ other
  one_from None text number other first second = first ∙ sym second
  one_from (Some lines) text number other first second =
      one_behind lines text number other first second

  module _ (tell : TextsTellHistories plant) where
    one_session : (text : List ℕ) (told other : Tells session_text plant text)
        → told.history ≡ other.history
    one_session text told other =
        tell MOST_ENTRIES MOST_ENTRIES told.history other.history told.logged.legal
        other.logged.legal told.logged.held other.logged.held (sym told.is ∙ other.is)

    one_session_verdict : (text : List ℕ) (verdict other : Verdict)
        → IsSessionVerdict plant text verdict → IsSessionVerdict plant text other
        → verdict ≡ other
    one_session_verdict text (Legal entries) (Legal others) first second =
        ap (λ (n : ℕ). Legal n)
        (first.1 ∙ ap (λ (history : List Entry). length history)
        (one_session text first.0 second.0) ∙ sym second.1)
    one_session_verdict text (Legal entries) (NotALog line) first second =
        absurd (second.refused first.0)
    one_session_verdict text (NotALog line) (Legal entries) first second =
        absurd (first.refused second.0)
    one_session_verdict text (NotALog line) (NotALog other) first second =
        ap (λ (n : ℕ). NotALog n)
        (one_from (lines_before_log text) text line other first.first second.first)

    pub one_verdict : LogsTellHistories plant → VerdictsAreOne plant
    one_verdict logs false text verdict other first second =
        one_log_verdict plant logs text verdict other first second
    one_verdict logs true text verdict other first second =
        one_session_verdict text verdict other first second
