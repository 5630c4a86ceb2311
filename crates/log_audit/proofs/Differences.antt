-- The first line at which texts differ, found line by line.
use Rattle.std.proofs.Common.{◌≡◌, ◌∙◌, ℕ, suc, not, ◌+◌, ◌≤◌, List, [], ◌∷◌, length, Bool, true, false, cond}
use Rattle.std.proofs.Common.{refl, ap, ap₂, sym, subst, arith}
use Rattle.std.proofs.lemmas.Slice.Eq.{bytes_eq-Decides}
use Rattle.std.specs.List.{common_prefix_len}
use Rattle.std.specs.Str.{bytes_eq}
use Rattle.frame.specs.Frames.{whole_lines}
use Rattle.log_audit.specs.Differences.{DifferAt}
use Rattle.log_audit.specs.Lines.{HasNoFeed, IsFirstLine}
use Rattle.log_audit.proofs.Streams.{whole-line, whole-piece}

-- the lines differ as those that are left do, of which the first has this number
pub record DifferBehind (lines others left rest : List (List ℕ)) (number : ℕ) : Type 0 where
  pub from_1 : 1 ≤ number
  pub room : number + length left ≤ length lines + 1
  pub at : common_prefix_len bytes_eq lines others + 1 ≡ number + common_prefix_len bytes_eq left rest
  pub there : lines ≡ others → left ≡ rest
  pub back : left ≡ rest → lines ≡ others

pub differ-first : (lines others : List (List ℕ)) → DifferBehind lines others lines others 1
differ-first lines others = record {
  from_1 = omega arith;
  room = omega arith;
  at = omega arith;
  there = λ same. same;
  back = λ same. same;
}

pub first-whole : (text own rest : List ℕ) → IsFirstLine text own rest
    → whole_lines text ≡ own ∷ whole_lines rest
first-whole text own rest first = ap whole_lines (sym first.is) ∙ whole-line own rest first.good

equal-test : (own other : List ℕ) → own ≡ other → bytes_eq own other ≡ true
equal-test own other same = (bytes_eq-Decides own other).1 same

apart-test : (own other : List ℕ) (test : Bool) → bytes_eq own other ≡ test → (own ≡ other → ⊥)
    → bytes_eq own other ≡ false
apart-test own other true is apart = absurd (apart ((bytes_eq-Decides own other).0 is))
apart-test own other false is apart = is

tail-same : (own other : List ℕ) (left rest : List (List ℕ)) → own ∷ left ≡ other ∷ rest → left ≡ rest
tail-same own other left rest same = cc (same)

head-same : (own other : List ℕ) (left rest : List (List ℕ)) → own ∷ left ≡ other ∷ rest → own ≡ other
head-same own other left rest same = cc (same)

module _ (lines others : List (List ℕ)) (number : ℕ) where
  pub differ-next : (own other : List ℕ) (left rest : List (List ℕ))
      → DifferBehind lines others (own ∷ left) (other ∷ rest) number → own ≡ other
      → DifferBehind lines others left rest (number + 1)
  differ-next own other left rest before same =
      let one : common_prefix_len bytes_eq (own ∷ left) (other ∷ rest)
      ≡ 1 + common_prefix_len bytes_eq left rest =
      ap (λ (test : Bool). cond test (1 + common_prefix_len bytes_eq left rest) 0)
      (equal-test own other same) in
      record {
        from_1 = omega arith;
        room = omega (arith, before.room);
        at = omega (arith, before.at, one);
        there = λ all. tail-same own other left rest (before.there all);
        back = λ all. before.back (ap₂ (λ (l : List ℕ) (ls : List (List ℕ)). l ∷ ls) same all);
      }

  -- the first of the lines that are left differ
  pub differ-here : (own other : List ℕ) (left rest : List (List ℕ))
      → DifferBehind lines others (own ∷ left) (other ∷ rest) number → (own ≡ other → ⊥)
      → DifferAt lines others number
  differ-here own other left rest before apart =
      let none : common_prefix_len bytes_eq (own ∷ left) (other ∷ rest) ≡ 0 =
      ap (λ (test : Bool). cond test (1 + common_prefix_len bytes_eq left rest) 0)
      (apart-test own other (bytes_eq own other) refl apart) in
      record {
        other = λ all. apart (head-same own other left rest (before.there all));
        at = omega (arith, before.at, none);
      }

  -- there are more lines
  pub differ-longer : (own : List ℕ) (left : List (List ℕ))
      → DifferBehind lines others (own ∷ left) [] number → DifferAt lines others number
  differ-longer own left before = record {
    other = λ all. let none : own ∷ left ≡ [] = before.there all in absurd (cc (none));
    at = omega (arith, before.at);
  }

  -- there are fewer
  pub differ-shorter : (other : List ℕ) (rest : List (List ℕ))
      → DifferBehind lines others [] (other ∷ rest) number → DifferAt lines others number
  differ-shorter other rest before = record {
    other = λ all. let none : [] ≡ other ∷ rest = before.there all in absurd (cc (none));
    at = omega (arith, before.at);
  }

  abbrev pub Behind : List ℕ → List ℕ → Type 0
  Behind left rest = DifferBehind lines others (whole_lines left) (whole_lines rest) number

  -- the same of texts
  by_lines : (left rest : List ℕ) {front back : List (List ℕ)} → Behind left rest
      → whole_lines left ≡ front → whole_lines rest ≡ back → DifferBehind lines others front back number
  by_lines left rest {front} {back} before one two =
      subst (λ (ls : List (List ℕ)). DifferBehind lines others ls back number) one
      (subst (λ (ls : List (List ℕ)). DifferBehind lines others (whole_lines left) ls number) two before)

  pub text-next : (left rest own more other behind : List ℕ) → Behind left rest
      → IsFirstLine left own more → IsFirstLine rest other behind → own ≡ other
      → DifferBehind lines others (whole_lines more) (whole_lines behind) (number + 1)
  text-next left rest own more other behind before first second same =
      differ-next own other (whole_lines more) (whole_lines behind)
      (by_lines left rest before (first-whole left own more first) (first-whole rest other behind second)) same

  pub text-here : (left rest own more other behind : List ℕ) → Behind left rest
      → IsFirstLine left own more → IsFirstLine rest other behind → (own ≡ other → ⊥)
      → DifferAt lines others number
  text-here left rest own more other behind before first second apart =
      differ-here own other (whole_lines more) (whole_lines behind)
      (by_lines left rest before (first-whole left own more first) (first-whole rest other behind second)) apart

  pub text-longer : (left rest own more : List ℕ) → Behind left rest → IsFirstLine left own more
      → HasNoFeed rest → DifferAt lines others number
  text-longer left rest own more before first none =
      differ-longer own (whole_lines more)
      (by_lines left rest before (first-whole left own more first) (whole-piece rest none))

  pub text-shorter : (left rest other behind : List ℕ) → Behind left rest → HasNoFeed left
      → IsFirstLine rest other behind → DifferAt lines others number
  text-shorter left rest other behind before none second =
      differ-shorter other (whole_lines behind)
      (by_lines left rest before (whole-piece left none) (first-whole rest other behind second))

  pub text-same : (left rest : List ℕ) → Behind left rest → HasNoFeed left → HasNoFeed rest
      → lines ≡ others
  text-same left rest before first second =
      before.back (whole-piece left first ∙ sym (whole-piece rest second))

  -- there is room to count a line more
  pub text-room : (left rest own more : List ℕ) (most : ℕ) → Behind left rest
      → IsFirstLine left own more → length lines + 1 ≤ most → number + 1 ≤ most
  text-room left rest own more most before first few =
      let count : length (whole_lines left) ≡ suc (length (whole_lines more)) =
      ap length (first-whole left own more first) in
      omega (arith, before.room, count, few)

-- texts that a test of the program finds apart
pub apart-by_test : (own other : List ℕ) (test : Bool) → test ≡ not (bytes_eq own other)
    → test ≡ true → own ≡ other → ⊥
apart-by_test own other test tells is same =
    let equal = equal-test own other same in
    let no : test ≡ false = tells ∙ ap not equal in
    absurd (cc (is, no))

pub same-by_test : (own other : List ℕ) (test : Bool) → test ≡ not (bytes_eq own other)
    → test ≡ false → own ≡ other
same-by_test own other test tells is = by (bytes_eq own other) refl
  where
    by : (equal : Bool) → bytes_eq own other ≡ equal → own ≡ other
    by true equal = (bytes_eq-Decides own other).0 equal
    by false equal =
        let yes : test ≡ true = tells ∙ ap not equal in
        absurd (cc (is, yes))
