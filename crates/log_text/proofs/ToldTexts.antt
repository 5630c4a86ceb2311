-- What is written of a history, and what it tells of the history.
use Rattle.std.proofs.Common.{◌≡◌, ◌∙◌, ℕ, ℤ, List, [], ◌∷◌, ◌++◌, true, IsTrue, codes, refl, ap}
use Rattle.std.proofs.Common.{ap₂, sym, append_assoc, ◌/◌, ◌%◌, arith}
use Rattle.std.proofs.lemmas.Bool.Decides.{nat_tests}
use Rattle.std.proofs.lemmas.List.{append_cancel_left}
use Rattle.std.proofs.lemmas.List.Elements.{recursion_from_All}
use Rattle.std.specs.Fmt.{decimal, signed_decimal}
use Rattle.std.specs.List.{AllByRecursion, flat_map, list_all, zip}
use Rattle.std.specs.Str.{bytes_eq}
use Rattle.dp_num.specs.declared.fractions.Fraction.{Fraction}
use Rattle.frame.specs.Bodies.{dollar, star}
use Rattle.frame.specs.Frames.{checksum, frame_text, line_feed, upper_digit}
use Rattle.plant_model.specs.Names.{is_name}
use Rattle.plant_model.specs.Plants.{are_distinct}
use Rattle.plant_model.specs.declared.parts.Thruster.{Thruster}
use Rattle.plant_model.specs.declared.plant.Parts.{Parts}
use Rattle.plant_model.specs.declared.thrust.Thrust.{Thrust}
use Rattle.plant_model.specs.declared.wrench.Wrench.{Wrench}
use Rattle.telegram.specs.declared.telegram.Telegram.{Telegram as TelegramKind}
use Rattle.telegram.specs.declared.telegram.Telegram.TheVariants.{Position}
use Rattle.plant_core.specs.Machine.{opening_stand, stand_after}
use Rattle.thrust_allocation.specs.declared.allocation.Allocation.{Allocation}
use Rattle.plant_core.specs.declared.call.Call.{Call}
use Rattle.plant_core.specs.declared.call.Call.TheVariants.{Telegram}
use Rattle.plant_core.specs.declared.call.Entry.{Entry}
use Rattle.plant_core.specs.declared.call.Reply.{Reply}
use Rattle.plant_core.specs.declared.call.Reply.TheVariants.{Commanded}
use Rattle.log_text.specs.Commands.{call_frames, command_body, command_head, command_text}
use Rattle.log_text.specs.Commands.{commands_text, frames_at, frames_of, part_text, thrust_body}
use Rattle.log_text.specs.Fits.{FitsEntry}
use Rattle.log_text.specs.Laws.{TextsTellHistories}
use Rattle.log_text.specs.Outcomes.{thrust_text, wrench_text}
use Rattle.log_text.specs.Texts.{caller_text, entry_text, log_head, log_text, report_text}
use Rattle.log_text.proofs.ToldEntries.{AreTellable, behind_caller, entry_same, line_spelled, space}
use Rattle.log_text.proofs.ToldEntries.{tellable, told-caller}
use Rattle.log_text.proofs.ToldFields.{all_good-append, all_good-cons, all_good-head, is_told_byte}
use Rattle.log_text.proofs.ToldFields.{all_good-tail, split_same, told-field}
use Rattle.log_text.proofs.ToldGroups.{AreNamed, field-name, names_of}
use Rattle.log_text.proofs.ToldNumbers.{field-decimal, field-signed}

-- ---- texts with neither a space nor a line feed

abbrev AreTold : List ℕ → Type 0
AreTold text = list_all is_told_byte text ≡ true

both : (a b : List ℕ) → AreTold a → AreTold b → AreTold (a ++ b)
both a b first second = all_good-append is_told_byte a b first second

-- one more, after a comma
more : (a b : List ℕ) → AreTold a → AreTold b → AreTold (a ++ codes "," ++ b)
more a b first second = both (a ++ codes ",") b (both a (codes ",") first refl) second

told-decimal : (n : ℕ) → AreTold (decimal n)
told-decimal n = told-field (decimal n) (field-decimal n)

told-signed : (z : ℤ) → AreTold (signed_decimal z)
told-signed z = told-field (signed_decimal z) (field-signed z)

told-wrench : (demand : Wrench) → AreTold (wrench_text demand)
told-wrench demand =
    let x = signed_decimal demand.x in
    let y = signed_decimal demand.y in
    more (x ++ codes "," ++ y) (signed_decimal demand.n)
    (more x y (told-signed demand.x) (told-signed demand.y)) (told-signed demand.n)

told-thrust : (thrust : Thrust) → AreTold (thrust_text thrust)
told-thrust thrust =
    let x = signed_decimal thrust.x in
    more (codes "," ++ x) (signed_decimal thrust.y) (both (codes ",") x refl (told-signed thrust.x))
    (told-signed thrust.y)

told-part : (part : Fraction) → AreTold (part_text part)
told-part part = more (signed_decimal part.top) (signed_decimal part.bottom)
    (told-signed part.top) (told-signed part.bottom)

told-command_head : (moment version : ℕ) → AreTold (command_head moment version)
told-command_head moment version =
    let first = codes "CMD," ++ decimal moment in
    more first (decimal version) (both (codes "CMD,") (decimal moment) refl (told-decimal moment))
    (told-decimal version)

told-command : (moment version : ℕ) (demand : Wrench) (part : Fraction)
    → AreTold (command_body moment version demand part)
told-command moment version demand part =
    let head = command_head moment version in
    let asked = wrench_text demand in
    more (head ++ codes "," ++ asked) (part_text part)
    (more head asked (told-command_head moment version) (told-wrench demand)) (told-part part)

told-body : (q : ℤ) (thruster : Thruster) (thrust : Thrust) → is_name thruster.name ≡ true
    → AreTold (thrust_body q (thruster, thrust))
told-body q thruster thrust named =
    let name = thruster.name in
    let given = thrust_text thrust in
    let head = both (codes "THC,") name refl (told-field name (field-name name named)) in
    more (codes "THC," ++ name ++ given) (signed_decimal q)
    (both (codes "THC," ++ name) given head (told-thrust thrust)) (told-signed q)

-- ---- frames

-- lines, each after a dollar sign
abbrev framed : List (List ℕ) → List ℕ
framed lines = flat_map (λ l. dollar ∷ (l ++ line_feed ∷ [])) lines

-- the text is such lines
record IsFramed (text : List ℕ) : Type 0 where
  lines : List (List ℕ)
  is : text ≡ framed lines
  good : AllByRecursion AreTold lines

framed-none : IsFramed []
framed-none = record { lines = []; is = refl; good = tt }

lines-append : (xs ys : List (List ℕ)) → AllByRecursion AreTold xs → AllByRecursion AreTold ys
    → AllByRecursion AreTold (xs ++ ys)
lines-append [] ys first second = second
lines-append (x ∷ xs) ys first second = (first.0, lines-append xs ys first.1 second)

framed-both : (xs ys : List (List ℕ)) → framed (xs ++ ys) ≡ framed xs ++ framed ys
framed-both [] ys = refl
framed-both (x ∷ xs) ys =
    let here : List ℕ = dollar ∷ (x ++ line_feed ∷ []) in
    ap (λ (t : List ℕ). here ++ t) (framed-both xs ys)
    ∙ sym (append_assoc here (framed xs) (framed ys))

framed-append : {a b : List ℕ} → IsFramed a → IsFramed b → IsFramed (a ++ b)
framed-append {a} {b} first second = record {
  lines = first.lines ++ second.lines;
  is = ap₂ (λ (x y : List ℕ). x ++ y) first.is second.is
      ∙ sym (framed-both first.lines second.lines);
  good = lines-append first.lines second.lines first.good second.good;
}

told-digit : (n : ℕ) → is_told_byte (upper_digit n) ≡ true
told-digit n = grind (arith, nat_tests)

frame-spelled : (body digits : List ℕ) → dollar ∷ (body ++ (digits ++ line_feed ∷ []))
    ≡ framed ((body ++ digits) ∷ [])
frame-spelled body digits = simp append_assoc

framed-frame : (body : List ℕ) → AreTold body → IsFramed (frame_text body)
framed-frame body told =
    let sum = checksum body in
    let digits : List ℕ = star ∷ upper_digit (sum / 16) ∷ upper_digit (sum % 16) ∷ [] in
    let last = all_good-cons is_told_byte (upper_digit (sum % 16)) [] (told-digit (sum % 16)) refl in
    let back = all_good-cons is_told_byte star (upper_digit (sum / 16) ∷ upper_digit (sum % 16) ∷ [])
    refl (all_good-cons is_told_byte (upper_digit (sum / 16)) (upper_digit (sum % 16) ∷ [])
    (told-digit (sum / 16)) last) in
    record {
      lines = (body ++ digits) ∷ [];
      is = frame-spelled body digits;
      good = (both body digits told back, tt);
    }

abbrev AreNamedThrusters : List Thruster → Type 0
AreNamedThrusters thrusters =
    AllByRecursion (λ (t : Thruster). IsTrue (is_name t.name)) thrusters

framed-thrusts : (q : ℤ) (thrusters : List Thruster) (thrusts : List Thrust)
    → AreNamedThrusters thrusters
    → IsFramed (flat_map (λ (given : Thruster × Thrust). frame_text (thrust_body q given))
    (zip thrusters thrusts))
framed-thrusts q [] [] named = framed-none
framed-thrusts q [] (y ∷ ys) named = framed-none
framed-thrusts q (x ∷ xs) [] named = framed-none
framed-thrusts q (x ∷ xs) (y ∷ ys) named =
    framed-append (framed-frame (thrust_body q (x, y)) (told-body q x y named.0))
    (framed-thrusts q xs ys named.1)

framed-of : (plant : Parts) (moment version : ℕ) (demand : Wrench) (a : Allocation)
    → AreNamedThrusters plant.thrusters.items
    → IsFramed (frames_of plant moment version demand a)
framed-of plant moment version demand a named =
    framed-append (framed-frame (command_body moment version demand a.fraction)
    (told-command moment version demand a.fraction))
    (framed-thrusts a.q plant.thrusters.items a.thrusts.list.items named)

framed-at : (plant : Parts) (moment : ℕ) (reply : Reply)
    → AreNamedThrusters plant.thrusters.items → IsFramed (frames_at plant moment reply)
framed-at plant moment (Commanded version demand allocation) named =
    framed-of plant moment version demand allocation named
framed-at plant moment _ named = framed-none

framed-telegram : (plant : Parts) (telegram : TelegramKind) (reply : Reply)
    → AreNamedThrusters plant.thrusters.items
    → IsFramed (call_frames plant (Telegram telegram) reply)
framed-telegram plant (Position moment x y heading) reply named = framed-at plant moment reply named
framed-telegram plant _ reply named = framed-none

framed-call : (plant : Parts) (call : Call) (reply : Reply)
    → AreNamedThrusters plant.thrusters.items → IsFramed (call_frames plant call reply)
framed-call plant (Telegram telegram) reply named = framed-telegram plant telegram reply named
framed-call plant _ reply named = framed-none

framed-commands : (plant : Parts) (history : List Entry)
    → AreNamedThrusters plant.thrusters.items → IsFramed (commands_text plant history)
framed-commands plant [] named = framed-none
framed-commands plant (entry ∷ history) named =
    framed-append {a = command_text plant entry} {b = commands_text plant history}
    (framed-call plant entry.call entry.reply named) (framed-commands plant history named)

-- ---- where the log begins

abbrev letter_l : ℕ
letter_l = 76

line-spelled : (l others rest : List ℕ) → ((dollar ∷ (l ++ line_feed ∷ [])) ++ others) ++ rest
    ≡ dollar ∷ (l ++ line_feed ∷ (others ++ rest))
line-spelled l others rest = simp append_assoc

no-line : (rest others : List ℕ) → letter_l ∷ rest ≡ dollar ∷ others → ⊥
no-line rest others same = let first : letter_l ≡ dollar = cc (same) in omega (arith, first)

-- what stands after frames of commands, where it begins with that letter
after_frames : (xs ys : List (List ℕ)) (rest other : List ℕ) → AllByRecursion AreTold xs
    → AllByRecursion AreTold ys → framed xs ++ letter_l ∷ rest ≡ framed ys ++ letter_l ∷ other
    → rest ≡ other
after_frames [] [] rest other first second same = cc
after_frames [] (y ∷ ys) rest other first second same =
    absurd (no-line rest _ (same ∙ line-spelled y (framed ys) (letter_l ∷ other)))
after_frames (x ∷ xs) [] rest other first second same =
    absurd (no-line other _ (sym same ∙ line-spelled x (framed xs) (letter_l ∷ rest)))
after_frames (x ∷ xs) (y ∷ ys) rest other first second same =
    let spelled : dollar ∷ (x ++ line_feed ∷ (framed xs ++ letter_l ∷ rest))
    ≡ dollar ∷ (y ++ line_feed ∷ (framed ys ++ letter_l ∷ other)) =
    sym (line-spelled x (framed xs) (letter_l ∷ rest)) ∙ same
    ∙ line-spelled y (framed ys) (letter_l ∷ other) in
    let behind : x ++ line_feed ∷ (framed xs ++ letter_l ∷ rest)
    ≡ y ++ line_feed ∷ (framed ys ++ letter_l ∷ other) = cc (spelled) in
    after_frames xs ys rest other first.1 second.1
    (split_same is_told_byte line_feed refl x y (framed xs ++ letter_l ∷ rest)
    (framed ys ++ letter_l ∷ other) first.0 second.0 behind).1

-- ---- where the report begins

-- a text with no space before its first line feed isn't one with a space before it
no-space : (a b rest other : List ℕ) → AreTold a → AreTold b
    → a ++ line_feed ∷ rest ≡ b ++ space ∷ other → ⊥
no-space [] [] rest other a_good b_good same =
    let first : line_feed ≡ space = cc (same) in omega (arith, first)
no-space [] (y ∷ b) rest other a_good b_good same =
    let first : line_feed ≡ y = cc (same) in
    let good : is_told_byte y ≡ true = all_good-head is_told_byte y b b_good in
    grind (arith, nat_tests)
no-space (x ∷ a) [] rest other a_good b_good same =
    let first : x ≡ space = cc (same) in
    let good : is_told_byte x ≡ true = all_good-head is_told_byte x a a_good in
    grind (arith, nat_tests)
no-space (x ∷ a) (y ∷ b) rest other a_good b_good same =
    let behind : a ++ line_feed ∷ rest ≡ b ++ space ∷ other = cc (same) in
    no-space a b rest other (all_good-tail is_told_byte x a a_good)
    (all_good-tail is_told_byte y b b_good) behind

-- a text whose first line has no space
record BeginsTold (text : List ℕ) : Type 0 where
  head : List ℕ
  rest : List ℕ
  is : text ≡ head ++ line_feed ∷ rest
  good : AreTold head

report-spelled : (head rest : List ℕ) → (head ++ line_feed ∷ []) ++ rest ≡ head ++ line_feed ∷ rest
report-spelled head rest = simp append_assoc

three-parts : (head groups alarms last : List ℕ) → head ++ groups ++ alarms ++ last
    ≡ head ++ (groups ++ alarms ++ last)
three-parts head groups alarms last = simp append_assoc

module _ (plant : Parts) (named : AreNamed plant.groups.items)
    (distinct : are_distinct bytes_eq (names_of plant.groups.items) ≡ true)
    (thrusters : AreNamedThrusters plant.thrusters.items) where
  report-begins : (history : List Entry) → BeginsTold (report_text plant history)
  report-begins history =
      let state = (stand_after plant history).state in
      let head : List ℕ =
      codes "REPORT," ++ decimal state.latest.number ++ codes "," ++ decimal state.events in
      record {
        head = head;
        rest = _;
        is = three-parts (head ++ line_feed ∷ []) _ _ _ ∙ report-spelled head _;
        good = more (codes "REPORT," ++ decimal state.latest.number) (decimal state.events)
            (both (codes "REPORT,") (decimal state.latest.number) refl
            (told-decimal state.latest.number)) (told-decimal state.events);
      }

  no-entry : (report : List ℕ) (entry : Entry) (rest : List ℕ) → BeginsTold report
      → report ≡ entry_text plant entry ++ rest → ⊥
  no-entry report entry rest begins same =
      no-space begins.head (caller_text entry.caller) begins.rest
      (behind_caller plant named distinct entry rest) begins.good
      (told-caller plant named distinct entry)
      (sym begins.is ∙ same ∙ line_spelled plant named distinct entry rest)

  -- lines of entries that a report follows tell them
  entries_same : (history other : List Entry) (report other_report : List ℕ)
      → AreTellable plant named distinct history → AreTellable plant named distinct other
      → BeginsTold report → BeginsTold other_report
      → flat_map (entry_text plant) history ++ report
      ≡ flat_map (entry_text plant) other ++ other_report
      → history ≡ other
  entries_same [] [] report other_report good other_good begins other_begins same = refl
  entries_same [] (f ∷ fs) report other_report good other_good begins other_begins same =
      let lines = flat_map (entry_text plant) fs in
      absurd (no-entry report f (lines ++ other_report) begins
      (same ∙ append_assoc (entry_text plant f) lines other_report))
  entries_same (e ∷ es) [] report other_report good other_good begins other_begins same =
      let lines = flat_map (entry_text plant) es in
      absurd (no-entry other_report e (lines ++ report) other_begins
      (sym same ∙ append_assoc (entry_text plant e) lines report))
  entries_same (e ∷ es) (f ∷ fs) report other_report good other_good begins other_begins same =
      let lines = flat_map (entry_text plant) es in
      let others = flat_map (entry_text plant) fs in
      let spelled : entry_text plant e ++ (lines ++ report)
      ≡ entry_text plant f ++ (others ++ other_report) =
      sym (append_assoc (entry_text plant e) lines report) ∙ same
      ∙ append_assoc (entry_text plant f) others other_report in
      let first = entry_same plant named distinct e f (lines ++ report) (others ++ other_report)
      good.0 other_good.0 spelled in
      ap₂ (λ (entry : Entry) (entries : List Entry). entry ∷ entries) first.0
      (entries_same es fs report other_report good.1 other_good.1 begins other_begins first.1)

  -- the log's first line, after its first letter
  abbrev head_rest : List ℕ
  head_rest = codes "OG,1," ++ plant.name ++ line_feed ∷ []

  log-begins : (history : List Entry) (report : List ℕ) → log_text plant history ++ report
      ≡ letter_l ∷ (head_rest ++ (flat_map (entry_text plant) history ++ report))
  log-begins history report =
      append_assoc (log_head plant) (flat_map (entry_text plant) history) report

  -- two legal histories of which the same is written are the same
  pub texts_tell : TextsTellHistories plant
  texts_tell limit other_limit history other legal other_legal held other_held same =
      let first = framed-commands plant history thrusters in
      let second = framed-commands plant other thrusters in
      let report = report_text plant history in
      let other_report = report_text plant other in
      let rest = head_rest ++ (flat_map (entry_text plant) history ++ report) in
      let other_rest = head_rest ++ (flat_map (entry_text plant) other ++ other_report) in
      let spelled : framed first.lines ++ letter_l ∷ rest
      ≡ framed second.lines ++ letter_l ∷ other_rest =
      sym (ap₂ (λ (x y : List ℕ). x ++ y) first.is (log-begins history report)) ∙ same
      ∙ ap₂ (λ (x y : List ℕ). x ++ y) second.is (log-begins other other_report) in
      let behind = after_frames first.lines second.lines rest other_rest first.good second.good
      spelled in
      entries_same history other report other_report
      (tellable plant named distinct limit (opening_stand plant) history legal
      (recursion_from_All FitsEntry history held))
      (tellable plant named distinct other_limit (opening_stand plant) other other_legal
      (recursion_from_All FitsEntry other other_held))
      (report-begins history) (report-begins other)
      (append_cancel_left head_rest (flat_map (entry_text plant) history ++ report)
      (flat_map (entry_text plant) other ++ other_report) behind)
