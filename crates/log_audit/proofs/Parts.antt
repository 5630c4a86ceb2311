-- What a log with its report begins with, and the one history that it tells.
use Rattle.std.proofs.Common.{◌≡◌, ◌∙◌, ◌⊎◌, inl, inr, ℕ, List, [], ◌∷◌, ◌++◌, true, false, ◌==◌}
use Rattle.std.proofs.Common.{◌<◌, append-nil, codes, length, refl, ap, ap₂, sym, subst, arith, append_assoc}
use Rattle.std.proofs.lemmas.Bool.Decides.{nat_tests}
use Rattle.std.proofs.lemmas.List.{append_cancel_left}
use Rattle.std.proofs.lemmas.List.Elements.{All-cons, All-nil}
use Rattle.std.proofs.lemmas.List.Folds.{list_all-append}
use Rattle.std.specs.Fmt.{decimal}
use Rattle.std.specs.List.{AllByRecursion, flat_map, list_all, zip}
use Rattle.std.specs.Str.{bytes_eq}
use Rattle.frame.specs.Frames.{line_feed, open_line, whole_lines}
use Rattle.plant_model.specs.Plants.{are_distinct}
use Rattle.plant_model.specs.declared.plant.Parts.{Parts}
use Rattle.plant_core.specs.Board.{cells_of}
use Rattle.plant_core.specs.Machine.{stand_after}
use Rattle.plant_core.specs.declared.call.Entry.{Entry}
use Rattle.log_text.specs.Lines.{line}
use Rattle.log_text.specs.Texts.{alarms_text, call_text, caller_text, group_text, reply_text}
use Rattle.log_text.specs.Texts.{log_text, report_head, report_text}
use Rattle.log_text.proofs.ToldFields.{all_good-append, all_good-head, all_good-tail, both_true}
use Rattle.log_text.proofs.ToldFields.{is_told_byte, told-field}
use Rattle.log_text.proofs.ToldGroups.{AreNamed, names_of}
use Rattle.log_text.proofs.ToldNumbers.{field-decimal}
use Rattle.log_reading.specs.Lines.{HasLine}
use Rattle.log_audit.specs.Accepted.{IsLogged, Tells, log_part}
use Rattle.log_audit.specs.FirstBad.{text_of}
use Rattle.log_audit.specs.Lines.{AreLines, HasNoFeed, entry_line, entry_lines, head_line}
use Rattle.log_audit.specs.Lines.{log_lines}
use Rattle.log_audit.specs.Sessions.{report_lines}
use Rattle.log_audit.proofs.Logs.{NoneFollows, lined, log-good, log-of_lines, no-longer_by, same_entry}
use Rattle.log_audit.proofs.Streams.{lines-append, open-behind, whole-line, whole-lines}

-- ---- texts with neither a space nor a line feed

abbrev pub AreTold : List ℕ → Type 0
AreTold text = list_all is_told_byte text ≡ true

told-parts : (a b : List ℕ) → AreTold (a ++ b) → AreTold a × AreTold b
told-parts a b told =
    both_true (list_all is_told_byte a) (list_all is_told_byte b)
    (sym (list_all-append is_told_byte a b) ∙ told)

pub told-decimal : (n : ℕ) → AreTold (decimal n)
told-decimal n = told-field (decimal n) (field-decimal n)

no_feed-byte : (b : ℕ) → is_told_byte b ≡ true → (b == line_feed) ≡ false
no_feed-byte b good = grind (arith, nat_tests)

pub no_feed-told : (text : List ℕ) → AreTold text → HasNoFeed text
no_feed-told [] told = All-nil (λ b. (b == line_feed) ≡ false)
no_feed-told (b ∷ bs) told =
    All-cons (λ c. (c == line_feed) ≡ false) b bs
    (no_feed-byte b (all_good-head is_told_byte b bs told))
    (no_feed-told bs (all_good-tail is_told_byte b bs told))

-- the line of an entry has a space
spaced : (plant : Parts) (entry : Entry) → AreTold (entry_line plant entry) → ⊥
spaced plant entry told =
    let caller = caller_text entry.caller in
    let call = call_text plant entry.call in
    let sign = codes " = " in
    let all = told-parts (caller ++ codes " " ++ call ++ sign) (reply_text entry.reply) told in
    let asked = told-parts (caller ++ codes " " ++ call) sign all.0 in
    let front = told-parts (caller ++ codes " ") call asked.0 in
    let space : AreTold (codes " ") = (told-parts caller (codes " ") front.0).1 in
    absurd (cc (space))

-- ---- the report

-- the first of these lines has no space
pub record BeginsTold (lines : List (List ℕ)) : Type 0 where
  pub own : List ℕ
  pub more : List (List ℕ)
  pub is : lines ≡ own ∷ more
  pub told : list_all is_told_byte own ≡ true

report-split : (head groups alarms last : List ℕ) → head ++ groups ++ alarms ++ last
    ≡ head ++ (groups ++ alarms ++ last)
report-split head groups alarms last = simp append_assoc

pub report-begins : (plant : Parts) (history : List Entry) → BeginsTold (report_lines plant history)
report-begins plant history =
    let stand = stand_after plant history in
    let number = decimal stand.state.latest.number in
    let events = decimal stand.state.events in
    let own : List ℕ = codes "REPORT," ++ number ++ codes "," ++ events in
    let groups : List ℕ =
    flat_map group_text (zip plant.groups.items (cells_of plant stand.state).list.items) in
    let alarms : List ℕ = alarms_text plant stand.alarms.ring in
    let told : AreTold own =
    all_good-append is_told_byte (codes "REPORT," ++ number ++ codes ",") events
    (all_good-append is_told_byte (codes "REPORT," ++ number) (codes ",")
    (all_good-append is_told_byte (codes "REPORT,") number refl
    (told-decimal stand.state.latest.number)) refl) (told-decimal stand.state.events) in
    record {
      own = own;
      more = whole_lines (groups ++ alarms ++ line (codes "END"));
      is = ap whole_lines (report-split (line own) groups alarms (line (codes "END")))
          ∙ whole-line own (groups ++ alarms ++ line (codes "END")) (no_feed-told own told);
      told = told;
    }

-- such lines don't begin with an entry's
pub no_entry : (plant : Parts) (entry : Entry) (lines more : List (List ℕ)) → BeginsTold lines
    → lines ≡ entry_line plant entry ∷ more → ⊥
no_entry plant entry lines more begins same =
    let both : begins.own ∷ begins.more ≡ entry_line plant entry ∷ more = sym begins.is ∙ same in
    let one : begins.own ≡ entry_line plant entry = cc (both) in
    spaced plant entry (ap (list_all is_told_byte) (sym one) ∙ begins.told)

module _ (plant : Parts) (named : AreNamed plant.groups.items)
    (distinct : are_distinct bytes_eq (names_of plant.groups.items) ≡ true)
    (head : HasNoFeed (head_line plant)) where
  -- a history goes on with an entry, of which these lines begin with the line
  pub record LeadsOn (front history : List Entry) (others : List (List ℕ)) : Type 0 where
    pub entry : Entry
    pub back : List Entry
    pub more : List (List ℕ)
    pub is : history ≡ front ++ entry ∷ back
    pub spelled : others ≡ entry_line plant entry ∷ more

  leads-more : (entry other : Entry) (front history : List Entry) (others lines : List (List ℕ))
      → entry ≡ other
      → ((front ≡ history) × (others ≡ lines)) ⊎ LeadsOn front history others
      → ((entry ∷ front ≡ other ∷ history) × (others ≡ lines))
      ⊎ LeadsOn (entry ∷ front) (other ∷ history) others
  leads-more entry other front history others lines one (inl same) =
      inl (ap₂ (λ (e : Entry) (es : List Entry). e ∷ es) one same.0, same.1)
  leads-more entry other front history others lines one (inr on) = inr (record {
    entry = on.entry;
    back = on.back;
    more = on.more;
    is = ap₂ (λ (e : Entry) (es : List Entry). e ∷ es) (sym one) on.is;
    spelled = on.spelled;
  })

  -- where lines behind those of one history are a report's behind those of another, the histories are
  -- the same, or the second goes on
  pub meets : (front history : List Entry) (others lines : List (List ℕ))
      → AllByRecursion (HasLine plant) front → AllByRecursion (HasLine plant) history
      → BeginsTold lines → entry_lines plant front ++ others ≡ entry_lines plant history ++ lines
      → ((front ≡ history) × (others ≡ lines)) ⊎ LeadsOn front history others
  meets [] [] others lines first second begins same = inl (refl, same)
  meets [] (entry ∷ more) others lines first second begins same = inr (record {
    entry = entry;
    back = more;
    more = entry_lines plant more ++ lines;
    is = refl;
    spelled = same;
  })
  meets (entry ∷ front) [] others lines first second begins same =
      absurd (no_entry plant entry lines (entry_lines plant front ++ others) begins (sym same))
  meets (entry ∷ front) (other ∷ more) others lines first second begins same =
      let one : entry_line plant entry ≡ entry_line plant other = cc (same) in
      let rest : entry_lines plant front ++ others ≡ entry_lines plant more ++ lines = cc (same) in
      leads-more entry other front more others lines
      (same_entry plant named distinct head entry other first.0 second.0 one)
      (meets front more others lines first.1 second.1 begins rest)

  pub part-lines : (history : List Entry) → IsLogged plant history
      → whole_lines (log_part plant history)
      ≡ log_lines plant history ++ report_lines plant history
  part-lines history logged =
      ap (λ (log : List ℕ). whole_lines (log ++ report_text plant history)) (log-of_lines plant history)
      ∙ whole-lines (log_lines plant history) (report_text plant history)
      (log-good plant named distinct head history logged)

  one_part-by : (history other : List Entry)
      → ((history ≡ other) × (report_lines plant history ≡ report_lines plant other))
      ⊎ LeadsOn history other (report_lines plant history)
      → history ≡ other
  one_part-by history other (inl same) = same.0
  one_part-by history other (inr on) =
      absurd (no_entry plant on.entry (report_lines plant history) on.more
      (report-begins plant history) on.spelled)

  -- a log with its report tells one history
  pub one_part : (history other : List Entry) → IsLogged plant history → IsLogged plant other
      → log_part plant history ≡ log_part plant other → history ≡ other
  one_part history other first second same =
      let lines : log_lines plant history ++ report_lines plant history
      ≡ log_lines plant other ++ report_lines plant other =
      sym (part-lines history first) ∙ ap whole_lines same ∙ part-lines other second in
      let behind : entry_lines plant history ++ report_lines plant history
      ≡ entry_lines plant other ++ report_lines plant other = cc (lines) in
      one_part-by history other
      (meets history other (report_lines plant history) (report_lines plant other)
      (lined plant history first) (lined plant other second) (report-begins plant other) behind)

  -- ---- what begins with the lines of a history

  part-begins : (history : List Entry) (others : List (List ℕ)) (rest : List ℕ)
      → IsLogged plant history → AreLines others
      → (told : Tells log_part plant (text_of (log_lines plant history ++ others) ++ rest))
      → ((history ≡ told.history) × (others ++ whole_lines rest ≡ report_lines plant told.history))
      ⊎ LeadsOn history told.history (others ++ whole_lines rest)
  part-begins history others rest logged good told =
      let lines = log_lines plant history in
      let seen : (lines ++ others) ++ whole_lines rest
      ≡ log_lines plant told.history ++ report_lines plant told.history =
      sym (whole-lines (lines ++ others) rest (lines-append lines others
      (log-good plant named distinct head history logged) good))
      ∙ ap whole_lines told.is ∙ part-lines told.history told.logged in
      let all : lines ++ (others ++ whole_lines rest)
      ≡ log_lines plant told.history ++ report_lines plant told.history =
      sym (append_assoc lines others (whole_lines rest)) ∙ seen in
      let behind : entry_lines plant history ++ (others ++ whole_lines rest)
      ≡ entry_lines plant told.history ++ report_lines plant told.history = cc (all) in
      meets history told.history (others ++ whole_lines rest) (report_lines plant told.history)
      (lined plant history logged) (lined plant told.history told.logged)
      (report-begins plant told.history) behind

  -- a line that is neither an entry's that may stand next nor the report's first
  not_next-by : (history other : List Entry) (own : List ℕ) (more : List (List ℕ))
      → NoneFollows plant named distinct head history own → IsLogged plant other
      → ((rest : List (List ℕ)) → report_lines plant history ≡ own ∷ rest → ⊥)
      → ((history ≡ other) × (own ∷ more ≡ report_lines plant other))
      ⊎ LeadsOn history other (own ∷ more) → ⊥
  not_next-by history other own more none logged apart (inl same) =
      apart more (ap (report_lines plant) same.0 ∙ sym same.1)
  not_next-by history other own more none logged apart (inr on) =
      let spelled : own ∷ more ≡ entry_line plant on.entry ∷ on.more = on.spelled in
      let one : own ≡ entry_line plant on.entry = cc (spelled) in
      no-longer_by plant named distinct head history other own none logged
      (record { entry = on.entry; back = on.back; is = on.is; spelled = sym one })

  pub not_next : (history : List Entry) (own rest : List ℕ) → IsLogged plant history
      → HasNoFeed own → NoneFollows plant named distinct head history own
      → ((more : List (List ℕ)) → report_lines plant history ≡ own ∷ more → ⊥)
      → Tells log_part plant (text_of (log_lines plant history ++ own ∷ []) ++ rest) → ⊥
  not_next history own rest logged good none apart told =
      not_next-by history told.history own (whole_lines rest) none told.logged apart
      (part-begins history (own ∷ []) rest logged (good, tt) told)

  -- lines behind the first of the report are the report's
  not_told-by : (history other : List Entry) (first : List ℕ) (told left others : List (List ℕ))
      → report_lines plant history ≡ (first ∷ told) ++ left → (others ≡ left → ⊥)
      → ((history ≡ other) × ((first ∷ told) ++ others ≡ report_lines plant other))
      ⊎ LeadsOn history other ((first ∷ told) ++ others) → ⊥
  not_told-by history other first told left others is apart (inl same) =
      apart (append_cancel_left (first ∷ told) others left
      (same.1 ∙ ap (report_lines plant) (sym same.0) ∙ is))
  not_told-by history other first told left others is apart (inr on) =
      let spelled : first ∷ (told ++ others) ≡ entry_line plant on.entry ∷ on.more = on.spelled in
      let one : first ≡ entry_line plant on.entry = cc (spelled) in
      no_entry plant on.entry (report_lines plant history) (told ++ left) (report-begins plant history)
      (is ∙ ap (λ (l : List ℕ). l ∷ (told ++ left)) one)

  pub not_told : (history : List Entry) (first : List ℕ) (told left : List (List ℕ))
      (own rest : List ℕ) → IsLogged plant history → AreLines (first ∷ told) → HasNoFeed own
      → report_lines plant history ≡ (first ∷ told) ++ left
      → ((more : List (List ℕ)) → left ≡ own ∷ more → ⊥)
      → Tells log_part plant
      (text_of ((log_lines plant history ++ (first ∷ told)) ++ own ∷ []) ++ rest) → ⊥
  not_told history first told left own rest logged lines good is apart tells =
      let others = (first ∷ told) ++ own ∷ [] in
      let joined : (log_lines plant history ++ (first ∷ told)) ++ own ∷ []
      ≡ log_lines plant history ++ others =
      append_assoc (log_lines plant history) (first ∷ told) (own ∷ []) in
      let moved = subst (λ (all : List (List ℕ)). Tells log_part plant (text_of all ++ rest)) joined
      tells in
      let met = part-begins history others rest logged
      (lines-append (first ∷ told) (own ∷ []) lines (good, tt)) moved in
      not_told-by history moved.history first told left (own ∷ whole_lines rest) is
      (λ same. apart (whole_lines rest) (sym same))
      (subst (λ (all : List (List ℕ)).
      ((history ≡ moved.history) × (all ≡ report_lines plant moved.history))
      ⊎ LeadsOn history moved.history all)
      (append_assoc (first ∷ told) (own ∷ []) (whole_lines rest)) met)

  -- a text that ends before the report does
  not_whole-by : (history other : List Entry) (told left : List (List ℕ))
      → report_lines plant history ≡ told ++ left → (left ≡ [] → ⊥)
      → ((history ≡ other) × (told ++ [] ≡ report_lines plant other))
      ⊎ LeadsOn history other (told ++ []) → ⊥
  not_whole-by history other [] left is some (inl same) =
      some (sym (same.1 ∙ ap (report_lines plant) (sym same.0) ∙ is))
  not_whole-by history other [] left is some (inr on) =
      let spelled : [] ≡ entry_line plant on.entry ∷ on.more = on.spelled in
      absurd (cc (spelled))
  not_whole-by history other (first ∷ told) left is some met =
      not_told-by history other first told left [] is (λ none. some (sym none)) met

  pub not_whole : (history : List Entry) (told left : List (List ℕ)) → IsLogged plant history
      → AreLines told → report_lines plant history ≡ told ++ left → (left ≡ [] → ⊥)
      → Tells log_part plant (text_of (log_lines plant history ++ told)) → ⊥
  not_whole history told left logged lines is some tells =
      let moved = subst (Tells log_part plant)
      (sym (append-nil (text_of (log_lines plant history ++ told)))) tells in
      not_whole-by history moved.history told left is some
      (part-begins history told [] logged lines moved)

  -- ---- ends

  pub open_part : (history : List Entry) → open_line (log_part plant history) ≡ []
  open_part history =
      let stand = stand_after plant history in
      let front : List ℕ = log_text plant history ++ (report_head stand.state
      ++ flat_map group_text (zip plant.groups.items (cells_of plant stand.state).list.items)
      ++ alarms_text plant stand.alarms.ring) in
      ap open_line (sym (append_assoc (log_text plant history) (report_head stand.state
      ++ flat_map group_text (zip plant.groups.items (cells_of plant stand.state).list.items)
      ++ alarms_text plant stand.alarms.ring) (line (codes "END"))))
      ∙ open-behind front (codes "END") (no_feed-told (codes "END") refl)

  -- nothing stands behind the last line feed of such a part
  pub no_piece-part : (text : List ℕ) → 0 < length (open_line text) → Tells log_part plant text → ⊥
  no_piece-part text some told =
      let none : open_line text ≡ [] = ap open_line told.is ∙ open_part told.history in
      let size : length (open_line text) ≡ 0 = ap length none in
      absurd (omega (arith, some, size))
