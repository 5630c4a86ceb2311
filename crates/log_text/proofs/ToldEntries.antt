-- Entries and histories, and what their texts tell of them.
use Rattle.std.proofs.Common.{◌≡◌, ◌∙◌, ℕ, List, [], ◌∷◌, ◌++◌, true, IsTrue, codes, refl, ap, ap₂}
use Rattle.std.proofs.Common.{sym, append_assoc}
use Rattle.std.proofs.lemmas.List.{append_cancel_left}
use Rattle.std.proofs.lemmas.List.Elements.{recursion_from_All}
use Rattle.std.specs.List.{AllByRecursion, flat_map, list_all}
use Rattle.std.specs.Str.{bytes_eq}
use Rattle.frame.specs.Frames.{line_feed}
use Rattle.plant_model.specs.Plants.{are_distinct}
use Rattle.plant_model.specs.declared.plant.Parts.{Parts}
use Rattle.plant_core.specs.Machine.{IsCall, IsLegalFrom, Stand, is_answer, next}
use Rattle.plant_core.specs.Machine.{opening_stand}
use Rattle.plant_core.specs.declared.call.Call.{Call}
use Rattle.plant_core.specs.declared.call.Entry.{Entry}
use Rattle.plant_core.specs.declared.call.Reply.{Reply}
use Rattle.log_text.specs.Fits.{FitsEntry}
use Rattle.log_text.specs.Laws.{LogsTellHistories}
use Rattle.log_text.specs.Lines.{line}
use Rattle.log_text.specs.Texts.{call_text, caller_text, entry_text, log_head, reply_text}
use Rattle.log_text.proofs.ToldCalls.{call-is_told, call-told, call_fields, call_in, caller-field}
use Rattle.log_text.proofs.ToldCalls.{caller-told, caller_in}
use Rattle.log_text.proofs.ToldFields.{fields_same, is_told_byte, split_same, told-field, told-text}
use Rattle.log_text.proofs.ToldFields.{unmarked}
use Rattle.log_text.proofs.ToldGroups.{AreNamed, names_of}
use Rattle.log_text.proofs.ToldReplies.{reply-is_told, reply-told, reply_fields, reply_in}

-- ---- entries

abbrev pub space : ℕ
space = 32

abbrev equals_sign : ℕ
equals_sign = 61

entry_spelled : (caller call reply rest : List ℕ)
    → line (caller ++ codes " " ++ call ++ codes " = " ++ reply) ++ rest
    ≡ caller ++ space ∷ (call ++ space ∷ equals_sign ∷ space ∷ (reply ++ line_feed ∷ rest))
entry_spelled caller call reply rest = simp append_assoc

parts_same : (entry other : Entry) → entry.caller ≡ other.caller → entry.call ≡ other.call
    → entry.reply ≡ other.reply → entry ≡ other
parts_same entry other callers calls replies =
    ap₂ (λ (caller : ℕ) (call : Call).
    record { caller = caller; call = call; reply = entry.reply }) callers calls
    ∙ ap (λ (reply : Reply).
    record { caller = other.caller; call = other.call; reply = reply }) replies

-- what is known of an entry of a legal history that a program can hold
pub record IsTellable (plant : Parts) (entry : Entry) : Type 0 where
  pub call : IsCall plant entry.call
  pub answered : IsTrue (is_answer entry.reply)
  pub fits : FitsEntry entry

module _ (plant : Parts) (named : AreNamed plant.groups.items)
    (distinct : are_distinct bytes_eq (names_of plant.groups.items) ≡ true) where
  caller_same : (entry other : Entry) → IsTellable plant entry → IsTellable plant other
      → caller_text entry.caller ≡ caller_text other.caller → entry.caller ≡ other.caller
  caller_same entry other good other_good same =
      sym (caller-told entry.caller good.fits.caller) ∙ ap caller_in same
      ∙ caller-told other.caller other_good.fits.caller

  call_same : (entry other : Entry) → IsTellable plant entry → IsTellable plant other
      → call_text plant entry.call ≡ call_text plant other.call → entry.call ≡ other.call
  call_same entry other good other_good same =
      sym (call-told plant entry.call distinct good.call good.fits.call)
      ∙ ap (call_in plant) (fields_same (call_text plant entry.call) (call_text plant other.call)
      (call_fields plant entry.call) (call_fields plant other.call)
      (call-is_told plant entry.call named good.call)
      (call-is_told plant other.call named other_good.call) same)
      ∙ call-told plant other.call distinct other_good.call other_good.fits.call

  reply_same : (entry other : Entry) → IsTellable plant entry → IsTellable plant other
      → reply_text entry.reply ≡ reply_text other.reply → entry.reply ≡ other.reply
  reply_same entry other good other_good same =
      sym (reply-told entry.reply good.answered good.fits.reply)
      ∙ ap reply_in (fields_same (reply_text entry.reply) (reply_text other.reply)
      (reply_fields entry.reply) (reply_fields other.reply)
      (reply-is_told entry.reply good.answered)
      (reply-is_told other.reply other_good.answered) same)
      ∙ reply-told other.reply other_good.answered other_good.fits.reply

  pub told-caller : (entry : Entry) → list_all is_told_byte (caller_text entry.caller) ≡ true
  told-caller entry = told-field (caller_text entry.caller) (caller-field entry.caller)

  told-call : (entry : Entry) → IsTellable plant entry
      → list_all is_told_byte (call_text plant entry.call) ≡ true
  told-call entry good = told-text (call_text plant entry.call) (call_fields plant entry.call)
      (call-is_told plant entry.call named good.call)

  told-reply : (entry : Entry) → IsTellable plant entry
      → list_all is_told_byte (reply_text entry.reply) ≡ true
  told-reply entry good = told-text (reply_text entry.reply) (reply_fields entry.reply)
      (reply-is_told entry.reply good.answered)

  abbrev pub behind_call : Entry → List ℕ → List ℕ
  behind_call entry rest = equals_sign ∷ space ∷ (reply_text entry.reply ++ line_feed ∷ rest)

  abbrev pub behind_caller : Entry → List ℕ → List ℕ
  behind_caller entry rest = call_text plant entry.call ++ space ∷ behind_call entry rest

  pub line_spelled : (entry : Entry) (rest : List ℕ) → entry_text plant entry ++ rest
      ≡ caller_text entry.caller ++ space ∷ behind_caller entry rest
  line_spelled entry rest = entry_spelled (caller_text entry.caller) (call_text plant entry.call)
      (reply_text entry.reply) rest

  -- the line of an entry tells it
  pub entry_same : (entry other : Entry) (rest others : List ℕ) → IsTellable plant entry
      → IsTellable plant other → entry_text plant entry ++ rest ≡ entry_text plant other ++ others
      → (entry ≡ other) × (rest ≡ others)
  entry_same entry other rest others good other_good same =
      let first = split_same is_told_byte space refl (caller_text entry.caller)
      (caller_text other.caller) (behind_caller entry rest) (behind_caller other others)
      (told-caller entry) (told-caller other)
      (sym (line_spelled entry rest) ∙ same ∙ line_spelled other others) in
      let second = split_same is_told_byte space refl (call_text plant entry.call)
      (call_text plant other.call) (behind_call entry rest) (behind_call other others)
      (told-call entry good) (told-call other other_good) first.1 in
      let behind = second.1 in
      let third = split_same is_told_byte line_feed refl (reply_text entry.reply)
      (reply_text other.reply) rest others (told-reply entry good)
      (told-reply other other_good) (cc) in (
        parts_same entry other (caller_same entry other good other_good first.0)
            (call_same entry other good other_good second.0)
            (reply_same entry other good other_good third.0),
        third.1,
      )

  -- ---- histories

  abbrev pub AreTellable : List Entry → Type 0
  AreTellable history = AllByRecursion (IsTellable plant) history

  no_lines : (entry : Entry) (rest : List ℕ) → [] ≡ entry_text plant entry ++ rest → ⊥
  no_lines entry rest same =
      unmarked is_told_byte space refl [] (caller_text entry.caller) (behind_caller entry rest) refl
      (same ∙ line_spelled entry rest)

  -- the lines of a history tell it
  lines_same : (history other : List Entry) → AreTellable history → AreTellable other
      → flat_map (entry_text plant) history ≡ flat_map (entry_text plant) other
      → history ≡ other
  lines_same [] [] good other_good same = refl
  lines_same [] (f ∷ fs) good other_good same =
      absurd (no_lines f (flat_map (entry_text plant) fs) same)
  lines_same (e ∷ es) [] good other_good same =
      absurd (no_lines e (flat_map (entry_text plant) es) (sym same))
  lines_same (e ∷ es) (f ∷ fs) good other_good same =
      let first = entry_same e f (flat_map (entry_text plant) es) (flat_map (entry_text plant) fs)
      good.0 other_good.0 same in
      ap₂ (λ (entry : Entry) (entries : List Entry). entry ∷ entries) first.0
      (lines_same es fs good.1 other_good.1 first.1)

  pub tellable : (limit : ℕ) (stand : Stand) (history : List Entry)
      → IsLegalFrom plant limit stand history → AllByRecursion FitsEntry history
      → AreTellable history
  tellable limit stand [] legal held = tt
  tellable limit stand (e ∷ es) legal held = (
    record { call = legal.0.call; answered = legal.0.answered; fits = held.0 },
    tellable limit (next plant stand e) es legal.1 held.1,
  )

  -- two legal histories that have the same log are the same
  pub logs_tell : LogsTellHistories plant
  logs_tell limit other_limit history other legal other_legal held other_held same =
      lines_same history other
      (tellable limit (opening_stand plant) history legal (recursion_from_All FitsEntry history held))
      (tellable other_limit (opening_stand plant) other other_legal (recursion_from_All FitsEntry other other_held))
      (append_cancel_left (log_head plant) (flat_map (entry_text plant) history)
      (flat_map (entry_text plant) other) same)
