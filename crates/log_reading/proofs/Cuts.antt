-- A text that is cut at a mark.
use Rattle.std.proofs.Common.{◌≡◌, ◌∙◌, ℕ, suc, ◌<◌, ◌≢◌, get_or, List, [], ◌∷◌, ◌++◌, length, Bool, true, false, ◌==◌}
use Rattle.std.proofs.Common.{if◌then◌else◌, Option, Some, None, refl, ap, sym, subst, arith}
use Rattle.std.proofs.lemmas.Bool.Decides.{nat_tests}
use Rattle.std.proofs.lemmas.Option.{same_Some}
use Rattle.std.proofs.lemmas.Str.Pattern.{IsSplitOnceResult, split_parts}
use Rattle.std.specs.Borrow.{Bor}
use Rattle.std.specs.List.{list_all}
use Rattle.std.specs.Option.{MatchOption}
use Rattle.log_text.proofs.ToldFields.{all_good-head, all_good-tail}
use Rattle.log_reading.specs.Fields.{◌>>=◌, both_texts, cut}
use Rattle.log_reading.proofs.Inverses.{bind_some}

-- ---- what is cut is the text

cut_by : (mark b : ℕ) (bs : List ℕ) (parts : List ℕ × List ℕ) (here : Bool) → (b == mark) ≡ here
    → ((rest : List ℕ × List ℕ) → cut mark bs ≡ Some rest → bs ≡ rest.0 ++ mark ∷ rest.1)
    → ◌≡◌ {A = Option (List ℕ × List ℕ)} (if here then Some ([], bs)
    else (cut mark bs >>= λ rest. Some (b ∷ rest.0, rest.1))) (Some parts)
    → b ∷ bs ≡ parts.0 ++ mark ∷ parts.1
cut_by mark b bs parts true at later is =
    let first : b ≡ mark = grind (arith, nat_tests) in
    subst (λ (p : List ℕ × List ℕ). b ∷ bs ≡ p.0 ++ mark ∷ p.1)
    (same_Some {A = List ℕ × List ℕ} ([], bs) parts is) (ap (λ (c : ℕ). c ∷ bs) first)
cut_by mark b bs parts false at later is =
    let step = bind_some (cut mark bs) _ parts is in
    subst (λ (p : List ℕ × List ℕ). b ∷ bs ≡ p.0 ++ mark ∷ p.1)
    (same_Some {A = List ℕ × List ℕ} (b ∷ step.0.0, step.0.1) parts step.2)
    (ap (λ (more : List ℕ). b ∷ more) (later step.0 step.1))

pub cut_takes : (mark : ℕ) (text : List ℕ) (parts : List ℕ × List ℕ) → cut mark text ≡ Some parts
    → text ≡ parts.0 ++ mark ∷ parts.1
cut_takes mark [] parts is = absurd (cc)
cut_takes mark (b ∷ bs) parts is =
    cut_by mark b bs parts (b == mark) refl (cut_takes mark bs) is

-- ---- a text is cut at its first mark

module _ (good : ℕ → Bool) (mark : ℕ) (apart : good mark ≡ false) where
  other_than : (b : ℕ) → good b ≡ true → (b == mark) ≡ false
  other_than b is = by_test (b == mark) refl
    where
      by_test : (same : Bool) → (b == mark) ≡ same → same ≡ false
      by_test true at =
          let first : b ≡ mark = grind (arith, nat_tests) in
          absurd (cc)
      by_test false at = refl

  marked : (mark == mark) ≡ true
  marked = grind (arith, nat_tests)

  pub cut_again : (a rest : List ℕ) → list_all good a ≡ true
      → cut mark (a ++ mark ∷ rest) ≡ Some (a, rest)
  cut_again [] rest each = rw marked refl
  cut_again (b ∷ bs) rest each =
      rw (
        other_than b (all_good-head good b bs each),
        cut_again bs rest (all_good-tail good b bs each),
      ) refl

-- ---- what `split_once` gives

abbrev HasNo : ℕ → List ℕ → Type 0
HasNo mark text = (i : ℕ) → i < length text → get_or text i 0 ≢ mark

other_byte : (b mark : ℕ) → b ≢ mark → (b == mark) ≡ false
other_byte b mark apart = grind (arith, nat_tests)

own_byte : (mark : ℕ) → (mark == mark) ≡ true
own_byte mark = grind (arith, nat_tests)

tail_has_no : (mark b : ℕ) (bs : List ℕ) → HasNo mark (b ∷ bs) → HasNo mark bs
tail_has_no mark b bs none = λ i there. none (suc i) (omega arith)

cut_none : (mark : ℕ) (text : List ℕ) → HasNo mark text → cut mark text ≡ None
cut_none mark [] none = refl
cut_none mark (b ∷ bs) none =
    rw (
      other_byte b mark (none 0 (omega arith)),
      cut_none mark bs (tail_has_no mark b bs none),
    ) refl

cut_first : (mark : ℕ) (before after : List ℕ) → HasNo mark before
    → cut mark (before ++ mark ∷ after) ≡ Some (before, after)
cut_first mark [] after none = rw (own_byte mark) refl
cut_first mark (b ∷ bs) after none =
    rw (
      other_byte b mark (none 0 (omega arith)),
      cut_first mark bs after (tail_has_no mark b bs none),
    ) refl

-- the two parts that `split_once` gives are those of the cut
cut_by_parts : (mark : ℕ) (text : List ℕ) (parts : Option (Bor (List ℕ) × Bor (List ℕ)))
    → MatchOption parts (HasNo mark text)
    (λ x. (text ≡ x.0.now ++ (mark ∷ x.1.now)) × HasNo mark x.0.now)
    → both_texts parts ≡ cut mark text
cut_by_parts mark text None none = sym (cut_none mark text none)
cut_by_parts mark text (Some x) found =
    sym (ap (cut mark) found.0 ∙ cut_first mark x.0.now x.1.now found.1)

pub cut-split : (mark : ℕ) (text : List ℕ) (parts : Option (Bor (List ℕ) × Bor (List ℕ)))
    → IsSplitOnceResult mark text parts → mark < 128 → both_texts parts ≡ cut mark text
cut-split mark text parts split ascii =
    cut_by_parts mark text parts (split_parts mark text parts split ascii)
