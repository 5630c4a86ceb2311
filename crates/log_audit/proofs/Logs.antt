-- Logs line by line: what a longer log begins with, and where a text stops being the front of any.
use Rattle.std.proofs.Common.{◌≡◌, ◌∙◌, ℕ, zero, suc, ◌+◌, ◌≤◌, ◌<◌, List, [], ◌∷◌, ◌++◌, length}
use Rattle.std.proofs.Common.{take, true, false, ◌==◌, refl, ap, ap₂, sym, subst}
use Rattle.std.proofs.Common.{◌⊎◌, arith, append_assoc, append-nil, inl, inr, length-append}
use Rattle.std.proofs.lemmas.Bool.Decides.{nat_tests}
use Rattle.std.proofs.lemmas.List.{take-append-le, take_all}
use Rattle.std.proofs.lemmas.List.Elements.{All-cons, All-nil, All-from_recursion, recursion_from_All}
use Rattle.std.specs.List.{AllByRecursion, flat_map, list_all}
use Rattle.std.specs.Str.{bytes_eq}
use Rattle.frame.specs.Bodies.{is_body_byte}
use Rattle.frame.specs.Frames.{line_feed, open_line, whole_lines}
use Rattle.plant_model.specs.Plants.{are_distinct}
use Rattle.plant_model.specs.declared.limits.TheConstants.{MOST_ENTRIES}
use Rattle.plant_model.specs.declared.plant.Parts.{Parts}
use Rattle.plant_core.specs.Machine.{IsEntry, IsLegalFrom, Stand, next, opening_stand}
use Rattle.plant_core.specs.Machine.{stand_after}
use Rattle.plant_core.specs.declared.call.Entry.{Entry}
use Rattle.plant_core.proofs.Verdicts.{legal-middle}
use Rattle.log_text.specs.Fits.{FitsEntry}
use Rattle.log_text.specs.Lines.{line}
use Rattle.log_text.specs.Texts.{entry_text, log_text}
use Rattle.log_text.proofs.ToldFields.{all_good-head, all_good-tail}
use Rattle.log_text.proofs.ToldGroups.{AreNamed, names_of}
use Rattle.log_reading.specs.Lines.{HasLine, IsLineOf}
use Rattle.log_reading.proofs.EntryLines.{one_entry}
use Rattle.log_reading.proofs.PlainLines.{part-entry}
use Rattle.log_audit.specs.Accepted.{IsLog, IsLogged}
use Rattle.log_audit.specs.FirstBad.{SomeBegins, first_lines, text_of}
use Rattle.log_audit.specs.Lines.{AreLines, HasNoFeed, entry_line, entry_lines, head_line}
use Rattle.log_audit.specs.Lines.{log_lines}
use Rattle.log_audit.specs.Verdicts.{IsBadAt}
use Rattle.log_audit.proofs.Streams.{first-lines, lines-append, open-all}
use Rattle.log_audit.proofs.Streams.{open-lines, open-piece, whole-all, whole-lines, whole-piece}

-- ---- the lines of a log

entries-of_lines : (plant : Parts) (history : List Entry)
    → flat_map (entry_text plant) history ≡ text_of (entry_lines plant history)
entries-of_lines plant [] = refl
entries-of_lines plant (entry ∷ more) =
    ap (λ (rest : List ℕ). entry_text plant entry ++ rest) (entries-of_lines plant more)

pub log-of_lines : (plant : Parts) (history : List Entry)
    → log_text plant history ≡ text_of (log_lines plant history)
log-of_lines plant history =
    ap (λ (rest : List ℕ). line (head_line plant) ++ rest) (entries-of_lines plant history)

no_feed-byte : (b : ℕ) → is_body_byte b ≡ true → (b == line_feed) ≡ false
no_feed-byte b good = grind (arith, nat_tests)

pub no_feed-body : (text : List ℕ) → list_all is_body_byte text ≡ true → HasNoFeed text
no_feed-body [] good = All-nil (λ b. (b == line_feed) ≡ false)
no_feed-body (b ∷ bs) good =
    All-cons (λ c. (c == line_feed) ≡ false) b bs
    (no_feed-byte b (all_good-head is_body_byte b bs good))
    (no_feed-body bs (all_good-tail is_body_byte b bs good))

-- ---- fronts of histories

all-front : {X : Type 0} (P : X → Type 0) (xs ys : List X) → AllByRecursion P (xs ++ ys)
    → AllByRecursion P xs
all-front P [] ys all = tt
all-front P (x ∷ xs) ys all = (all.0, all-front P xs ys all.1)

all-middle : {X : Type 0} (P : X → Type 0) (xs : List X) (y : X) (ys : List X)
    → AllByRecursion P (xs ++ y ∷ ys) → P y
all-middle P [] y ys all = all.0
all-middle P (x ∷ xs) y ys all = all-middle P xs y ys all.1

legal_from-before : (plant : Parts) (limit : ℕ) (stand : Stand) (front back : List Entry)
    → IsLegalFrom plant limit stand (front ++ back) → IsLegalFrom plant limit stand front
legal_from-before plant limit stand [] back legal = tt
legal_from-before plant limit stand (entry ∷ more) back legal =
    (legal.0, legal_from-before plant limit (next plant stand entry) more back legal.1)

-- each front of a history that a log may tell is one
pub logged-front : (plant : Parts) (front back : List Entry) → IsLogged plant (front ++ back)
    → IsLogged plant front
logged-front plant front back logged = record {
  legal = legal_from-before plant MOST_ENTRIES (opening_stand plant) front back logged.legal;
  held = All-from_recursion FitsEntry front
      (all-front FitsEntry front back
      (recursion_from_All FitsEntry (front ++ back) logged.held));
}

taken-front : (count : ℕ) (history : List Entry)
    → (back : List Entry) × (history ≡ take count history ++ back)
taken-front zero history = (history, refl)
taken-front (suc count) [] = ([], refl)
taken-front (suc count) (entry ∷ more) =
    let rest = taken-front count more in
    (rest.0, ap (λ (entries : List Entry). entry ∷ entries) rest.1)

pub logged-taken : (plant : Parts) (count : ℕ) (history : List Entry) → IsLogged plant history
    → IsLogged plant (take count history)
logged-taken plant count history logged =
    let rest = taken-front count history in
    logged-front plant (take count history) rest.0 (subst (IsLogged plant) rest.1 logged)

taken-lines : (plant : Parts) (count : ℕ) (history : List Entry)
    → take count (entry_lines plant history) ≡ entry_lines plant (take count history)
taken-lines plant zero history = refl
taken-lines plant (suc count) [] = refl
taken-lines plant (suc count) (entry ∷ more) =
    ap (λ (lines : List (List ℕ)). entry_line plant entry ∷ lines) (taken-lines plant count more)

-- each entry of such a history has a line
lined_from : (plant : Parts) (stand : Stand) (history : List Entry)
    → IsLegalFrom plant MOST_ENTRIES stand history → AllByRecursion FitsEntry history
    → AllByRecursion (HasLine plant) history
lined_from plant stand [] legal held = tt
lined_from plant stand (entry ∷ more) legal held = (
  record { call = legal.0.call; answered = legal.0.answered; held = held.0 },
  lined_from plant (next plant stand entry) more legal.1 held.1,
)

pub lined : (plant : Parts) (history : List Entry) → IsLogged plant history
    → AllByRecursion (HasLine plant) history
lined plant history logged =
    lined_from plant (opening_stand plant) history logged.legal
    (recursion_from_All FitsEntry history logged.held)

module _ (plant : Parts) (named : AreNamed plant.groups.items)
    (distinct : are_distinct bytes_eq (names_of plant.groups.items) ≡ true)
    (head : HasNoFeed (head_line plant)) where
  entry-good : (entry : Entry) → HasLine plant entry → HasNoFeed (entry_line plant entry)
  entry-good entry has =
      no_feed-body (entry_line plant entry) (part-entry plant entry named has).each

  entries-good : (history : List Entry) → AllByRecursion (HasLine plant) history
      → AreLines (entry_lines plant history)
  entries-good [] all = tt
  entries-good (entry ∷ more) all = (entry-good entry all.0, entries-good more all.1)

  pub log-good : (history : List Entry) → IsLogged plant history
      → AreLines (log_lines plant history)
  log-good history logged = (head, entries-good history (lined plant history logged))

  pub same_entry : (entry other : Entry) → HasLine plant entry → HasLine plant other
      → entry_line plant entry ≡ entry_line plant other → entry ≡ other
  same_entry entry other first second same =
      one_entry plant named distinct (entry_line plant other) entry other
      (record { has = first; is = ap line same }) (record { has = second; is = refl })

  -- a history goes on with an entry of this line
  pub record GoesOn (front : List Entry) (own : List ℕ) (history : List Entry) : Type 0 where
    pub entry : Entry
    pub back : List Entry
    pub is : history ≡ front ++ entry ∷ back
    pub spelled : entry_line plant entry ≡ own

  goes_on : (front history : List Entry) (own : List ℕ) (others : List (List ℕ))
      → AllByRecursion (HasLine plant) front → AllByRecursion (HasLine plant) history
      → entry_lines plant front ++ own ∷ others ≡ entry_lines plant history
      → GoesOn front own history
  goes_on [] [] own others first second same = absurd (cc)
  goes_on [] (entry ∷ more) own others first second same =
      let spelled : own ≡ entry_line plant entry = cc (same) in
      record { entry = entry; back = more; is = refl; spelled = sym spelled }
  goes_on (entry ∷ front) [] own others first second same = absurd (cc)
  goes_on (entry ∷ front) (other ∷ more) own others first second same =
      let one : entry_line plant entry ≡ entry_line plant other = cc (same) in
      let rest : entry_lines plant front ++ own ∷ others ≡ entry_lines plant more = cc (same) in
      let on = goes_on front more own others first.1 second.1 rest in
      record {
        entry = on.entry;
        back = on.back;
        is = ap₂ (λ (e : Entry) (es : List Entry). e ∷ es)
            (sym (same_entry entry other first.0 second.0 one)) on.is;
        spelled = on.spelled;
      }

  -- no entry of this line may stand after the history
  abbrev pub NoneFollows : List Entry → List ℕ → Type 0
  NoneFollows history own = (entry : Entry) → IsLineOf plant own entry
      → ¬ IsEntry plant MOST_ENTRIES (stand_after plant history) entry

  pub no-longer_by : (front history : List Entry) (own : List ℕ) → NoneFollows front own
      → IsLogged plant history → GoesOn front own history → ⊥
  no-longer_by front history own none logged on =
      let split = subst (IsLogged plant) on.is logged in
      let held = all-middle FitsEntry front on.entry on.back
      (recursion_from_All FitsEntry (front ++ on.entry ∷ on.back) split.held) in
      let stands = legal-middle plant MOST_ENTRIES front on.back on.entry split.legal in
      none on.entry (record {
        has = record { call = stands.call; answered = stands.answered; held = held };
        is = ap line on.spelled;
      }) stands

  whole-log : (history : List Entry) → IsLogged plant history
      → whole_lines (log_text plant history) ≡ log_lines plant history
  whole-log history logged =
      ap whole_lines (log-of_lines plant history)
      ∙ whole-all (log_lines plant history) (log-good history logged)

  -- then no log begins with the lines of its log and this one
  no-longer : (front : List Entry) (own : List ℕ) → IsLogged plant front → HasNoFeed own
      → NoneFollows front own → (rest : List ℕ)
      → IsLog plant (text_of (log_lines plant front ++ own ∷ []) ++ rest) → ⊥
  no-longer front own logged good none rest told =
      let lines = log_lines plant front ++ own ∷ [] in
      let seen : lines ++ whole_lines rest ≡ log_lines plant told.history =
      sym (whole-lines lines rest (lines-append (log_lines plant front) (own ∷ [])
      (log-good front logged) (good, tt))) ∙ ap whole_lines told.is
      ∙ whole-log told.history told.logged in
      let all : log_lines plant front ++ own ∷ whole_lines rest ≡ log_lines plant told.history =
      sym (append_assoc (log_lines plant front) (own ∷ []) (whole_lines rest)) ∙ seen in
      let behind : entry_lines plant front ++ own ∷ whole_lines rest
      ≡ entry_lines plant told.history = cc (all) in
      no-longer_by front told.history own none told.logged
      (goes_on front told.history own (whole_lines rest) (lined plant front logged)
      (lined plant told.history told.logged) behind)

  -- ---- the first bad line

  -- the first lines of a log are a log
  log-begins : (count : ℕ) (history : List Entry) → IsLogged plant history
      → IsLog plant (text_of (take (suc count) (log_lines plant history)))
  log-begins count history logged = record {
    history = take count history;
    logged = logged-taken plant count history logged;
    is = ap (λ (lines : List (List ℕ)). text_of (head_line plant ∷ lines))
        (taken-lines plant count history) ∙ sym (log-of_lines plant (take count history));
  }

  taken-some : (count : ℕ) (history : List Entry) → IsLogged plant history → 1 ≤ count
      → IsLog plant (text_of (take count (log_lines plant history)))
  taken-some zero history logged some = absurd (omega (arith, some))
  taken-some (suc count) history logged some = log-begins count history logged

  -- up to its last line, a text that goes on from a log begins as some log does
  begins_so : (history : List Entry) (text : List ℕ) (count : ℕ) → IsLogged plant history
      → 1 ≤ count → first_lines count text ≡ text_of (take count (log_lines plant history))
      → SomeBegins (IsLog plant) count text
  begins_so history text count logged some front = (
    [],
    subst (IsLog plant) (sym (append-nil (first_lines count text) ∙ front))
        (taken-some count history logged some),
  )

  taken-all : (count : ℕ) (lines : List (List ℕ)) → count ≡ length lines → take count lines ≡ lines
  taken-all count lines is = take_all count lines (omega (arith, is))

  pub bad_after : (history : List Entry) (own : List ℕ) (more : List ℕ) → IsLogged plant history
      → HasNoFeed own → NoneFollows history own
      → IsBadAt plant (text_of (log_lines plant history ++ own ∷ []) ++ more)
      (length (log_lines plant history) + 1)
  bad_after history own more logged good none =
      let lines = log_lines plant history in
      let text = text_of (lines ++ own ∷ []) ++ more in
      let all_good = lines-append lines (own ∷ []) (log-good history logged) (good, tt) in
      let size : length (lines ++ own ∷ []) ≡ length lines + 1 = length-append lines (own ∷ []) in
      let whole : whole_lines text ≡ (lines ++ own ∷ []) ++ whole_lines more =
      whole-lines (lines ++ own ∷ []) more all_good in
      let count : length (whole_lines text) ≡ length (lines ++ own ∷ []) + length (whole_lines more) =
      ap length whole ∙ length-append (lines ++ own ∷ []) (whole_lines more) in
      let front : first_lines (length lines + 1) text ≡ text_of (lines ++ own ∷ []) =
      first-lines (length lines + 1) (lines ++ own ∷ []) more all_good (omega (arith, size))
      ∙ ap text_of (taken-all (length lines + 1) (lines ++ own ∷ []) (sym size)) in
      record {
        refused = λ told. no-longer history own logged good none more told;
        first = record {
          from_1 = omega arith;
          before = λ earlier some less.
              begins_so history text earlier logged some
              (first-lines earlier (lines ++ own ∷ []) more all_good (omega (arith, size, less))
              ∙ ap text_of (take-append-le earlier lines (own ∷ []) (omega (arith, less))));
          bad = inl (
            omega (arith, count, size),
            λ begins.
                no-longer history own logged good none begins.0
                (subst (λ (t : List ℕ). IsLog plant (t ++ begins.0)) front begins.1),
          );
        };
      }

  -- ---- the ends of texts

  -- an accepted text ends with a line feed
  no_piece : (text : List ℕ) → 0 < length (open_line text) → IsLog plant text → ⊥
  no_piece text some told =
      let none : open_line text ≡ [] =
      ap open_line (told.is ∙ log-of_lines plant told.history)
      ∙ open-all (log_lines plant told.history) (log-good told.history told.logged) in
      let size : length (open_line text) ≡ 0 = ap length none in
      absurd (omega (arith, some, size))

  -- a log that a piece without a line feed follows is bad there
  pub bad_cut : (history : List Entry) (piece : List ℕ) → IsLogged plant history
      → HasNoFeed piece → 0 < length piece
      → IsBadAt plant (text_of (log_lines plant history) ++ piece)
      (length (log_lines plant history) + 1)
  bad_cut history piece logged good some =
      let lines = log_lines plant history in
      let text = text_of lines ++ piece in
      let lines_good = log-good history logged in
      let left_open : open_line text ≡ piece = open-lines lines piece lines_good ∙ open-piece piece good in
      let left : 0 < length (open_line text) = subst (λ (t : List ℕ). 0 < length t) (sym left_open) some in
      let whole : whole_lines text ≡ lines =
      whole-lines lines piece lines_good
      ∙ ap (λ (rest : List (List ℕ)). lines ++ rest) (whole-piece piece good) ∙ append-nil lines in
      record {
        refused = no_piece text left;
        first = record {
          from_1 = omega arith;
          before = λ earlier some less.
              begins_so history text earlier logged some
              (first-lines earlier lines piece lines_good (omega (arith, less)));
          bad = inr (ap (λ (all : List (List ℕ)). length all + 1) (sym whole));
        };
      }

  -- what is told of a text that isn't so at its first line
  bad_first : (text : List ℕ) → (IsLog plant text → ⊥)
      → ((1 ≤ length (whole_lines text)) × (¬ SomeBegins (IsLog plant) 1 text))
      ⊎ (1 ≡ length (whole_lines text) + 1)
      → IsBadAt plant text 1
  bad_first text refused bad = record {
    refused = refused;
    first = record {
      from_1 = omega arith;
      before = λ earlier some less. absurd (omega (arith, some, less));
      bad = bad;
    };
  }

  not_empty : (history : List Entry) → [] ≡ log_text plant history → ⊥
  not_empty history is = absurd (cc)

  -- an empty text is bad at its end
  pub bad_empty : IsBadAt plant [] 1
  bad_empty = bad_first [] (λ told. not_empty told.history told.is) (inr refl)

  -- so is a piece without a line feed
  pub bad_piece : (piece : List ℕ) → HasNoFeed piece → 0 < length piece → IsBadAt plant piece 1
  bad_piece piece good some =
      bad_first piece
      (no_piece piece (subst (λ (t : List ℕ). 0 < length t) (sym (open-piece piece good)) some))
      (inr (ap (λ (all : List (List ℕ)). length all + 1) (sym (whole-piece piece good))))

  no_head : (own : List ℕ) (more : List ℕ) → HasNoFeed own → (own ≡ head_line plant → ⊥)
      → IsLog plant (text_of (own ∷ []) ++ more) → ⊥
  no_head own more good other told =
      let seen : (own ∷ []) ++ whole_lines more ≡ log_lines plant told.history =
      sym (whole-lines (own ∷ []) more (good, tt)) ∙ ap whole_lines told.is
      ∙ whole-log told.history told.logged in
      let first : own ≡ head_line plant = cc (seen) in
      other first

  -- a text of another first line is bad there
  pub bad_head : (own : List ℕ) (more : List ℕ) → HasNoFeed own → (own ≡ head_line plant → ⊥)
      → IsBadAt plant (text_of (own ∷ []) ++ more) 1
  bad_head own more good other =
      let text = text_of (own ∷ []) ++ more in
      let whole : whole_lines text ≡ (own ∷ []) ++ whole_lines more =
      whole-lines (own ∷ []) more (good, tt) in
      let count : length (whole_lines text) ≡ 1 + length (whole_lines more) =
      ap length whole ∙ length-append (own ∷ []) (whole_lines more) in
      let front : first_lines 1 text ≡ text_of (own ∷ []) =
      first-lines 1 (own ∷ []) more (good, tt) (omega arith) in
      bad_first text (no_head own more good other)
      (inl (
        omega (arith, count),
        λ begins.
            no_head own begins.0 good other
            (subst (λ (t : List ℕ). IsLog plant (t ++ begins.0)) front begins.1),
      ))

  -- ---- whole logs

  pub is_log : (history : List Entry) → IsLogged plant history
      → IsLog plant (text_of (log_lines plant history))
  is_log history logged =
      record { history = history; logged = logged; is = sym (log-of_lines plant history) }

  entry_lines-push : (history : List Entry) (entry : Entry)
      → entry_lines plant (history ++ entry ∷ [])
      ≡ entry_lines plant history ++ entry_line plant entry ∷ []
  entry_lines-push [] entry = refl
  entry_lines-push (first ∷ more) entry =
      ap (λ (lines : List (List ℕ)). entry_line plant first ∷ lines) (entry_lines-push more entry)

  pub log_lines-push : (history : List Entry) (entry : Entry)
      → log_lines plant (history ++ entry ∷ [])
      ≡ log_lines plant history ++ entry_line plant entry ∷ []
  log_lines-push history entry =
      ap (λ (lines : List (List ℕ)). head_line plant ∷ lines) (entry_lines-push history entry)
