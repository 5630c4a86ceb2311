-- An entry is read of its own line alone.
use Rattle.std.proofs.Common.{◌≡◌, ◌∙◌, ℕ, List, [], ◌∷◌, ◌++◌, true}
use Rattle.std.proofs.Common.{Option, Some, None, codes, refl, ap, sym, subst}
use Rattle.std.proofs.Common.{append_assoc}
use Rattle.std.proofs.lemmas.List.{append_cancel_right}
use Rattle.std.proofs.lemmas.Option.{same_Some}
use Rattle.std.proofs.lemmas.Slice.Eq.{bytes_eq-Decides}
use Rattle.std.specs.List.{list_all}
use Rattle.std.specs.Prelude.{IfNone, IfSome}
use Rattle.std.specs.Str.{IsUtf8, bytes_eq}
use Rattle.frame.specs.Frames.{line_feed}
use Rattle.plant_model.specs.Plants.{are_distinct}
use Rattle.plant_model.specs.declared.plant.Parts.{Parts}
use Rattle.telegram.specs.Telegrams.{fields}
use Rattle.plant_core.specs.declared.call.Entry.{Entry}
use Rattle.plant_core.specs.declared.call.Reply.{Reply}
use Rattle.plant_core.specs.Machine.{is_answer}
use Rattle.log_text.specs.Fits.{FitsReply}
use Rattle.log_text.specs.Lines.{line}
use Rattle.log_text.specs.Texts.{call_text, caller_text, reply_text}
use Rattle.log_text.proofs.ToldCalls.{call-is_told, call_fields, caller-field}
use Rattle.log_text.proofs.ToldFields.{is_told_byte, told-field, told-text}
use Rattle.log_text.proofs.ToldGroups.{AreNamed, names_of}
use Rattle.log_text.proofs.ToldReplies.{reply-is_told, reply_fields}
use Rattle.log_reading.specs.Calls.{call_of, caller_of}
use Rattle.log_reading.specs.Fields.{by_kind, cut}
use Rattle.log_reading.specs.Lines.{HasLine, IsLineOf, LinesTellEntries, entry_of, entry_with}
use Rattle.log_reading.specs.Lines.{space}
use Rattle.log_reading.specs.Replies.{reply_forms, reply_of}
use Rattle.log_reading.proofs.CallTexts.{call_again, call_takes, caller-inverts}
use Rattle.log_reading.proofs.Cuts.{cut_again, cut_takes}
use Rattle.log_reading.proofs.FieldTexts.{fields_from_told, text_from_fields}
use Rattle.log_reading.proofs.Inverses.{bind_some, if_some}
use Rattle.log_reading.proofs.PlainLines.{IsUtf8-part, part-entry}
use Rattle.log_reading.proofs.ReplyFields.{by_fields_again, by_fields_takes}

-- ---- replies as texts

reply_again : (reply : Reply) → is_answer reply ≡ true → FitsReply reply
    → reply_of (reply_text reply) ≡ Some reply
reply_again reply answered fits =
    ap (by_kind reply_forms) (fields_from_told (reply_text reply) (reply_fields reply)
    (reply-is_told reply answered))
    ∙ by_fields_again reply answered fits

record IsReplyText (text : List ℕ) (reply : Reply) : Type 0 where
  spelled : text ≡ reply_text reply
  answered : is_answer reply ≡ true
  fits : FitsReply reply

reply_takes : (text : List ℕ) (reply : Reply) → reply_of text ≡ Some reply → IsReplyText text reply
reply_takes text reply is =
    let taken = by_fields_takes (fields text) reply is in
    record {
      spelled = text_from_fields text (reply_text reply) (reply_fields reply) taken.spelled
          (reply-is_told reply taken.answered);
      answered = taken.answered;
      fits = taken.fits;
    }

-- ---- lines

abbrev spaced : List ℕ → List ℕ → List ℕ → List ℕ
spaced caller call reply = caller ++ space ∷ (call ++ space ∷ (codes "=" ++ space ∷ reply))

line-spaced : (caller call reply : List ℕ)
    → line (caller ++ codes " " ++ call ++ codes " = " ++ reply) ≡ line (spaced caller call reply)
line-spaced caller call reply = simp append_assoc

module _ (plant : Parts) (named : AreNamed plant.groups.items)
    (distinct : are_distinct bytes_eq (names_of plant.groups.items) ≡ true) where
  -- ---- what is read

  texts_same : (caller own call asked reply answer : List ℕ) → caller ≡ own → call ≡ asked
      → reply ≡ answer → spaced caller call reply ≡ spaced own asked answer
  texts_same caller own call asked reply answer first second third =
      ap (λ (t : List ℕ). spaced t call reply) first
      ∙ ap (λ (t : List ℕ). spaced own t reply) second
      ∙ ap (λ (t : List ℕ). spaced own asked t) third

  with_takes : (caller call reply : List ℕ) (entry : Entry)
      → entry_with plant caller call reply ≡ Some entry
      → IsLineOf plant (spaced caller call reply) entry
  with_takes caller call reply entry is =
      let a = bind_some (caller_of caller) _ entry is in
      let b = bind_some (call_of plant call) _ entry a.2 in
      let c = bind_some (reply_of reply) _ entry b.2 in
      let first = caller-inverts.takes caller a.0 a.1 in
      let second = call_takes plant named distinct call b.0 b.1 in
      let third = reply_takes reply c.0 c.1 in
      subst (IsLineOf plant (spaced caller call reply))
      (same_Some (record { caller = a.0; call = b.0; reply = c.0 }) entry c.2)
      (record {
        has = record {
          call = second.1;
          answered = third.answered;
          held = record { caller = first.1; call = second.2; reply = third.fits };
        };
        is = line-spaced (caller_text a.0) (call_text plant b.0) (reply_text c.0)
            ∙ ap line (sym (texts_same caller (caller_text a.0) call (call_text plant b.0) reply
            (reply_text c.0) first.0 second.0 third.spelled));
      })

  pub entry_takes : (text : List ℕ) (entry : Entry) → entry_of plant text ≡ Some entry
      → IsLineOf plant text entry
  entry_takes text entry is =
      let a = bind_some (cut space text) _ entry is in
      let b = bind_some (cut space a.0.1) _ entry a.2 in
      let c = bind_some (cut space b.0.1) _ entry b.2 in
      let tested = if_some (bytes_eq c.0.0 (codes "="))
      (entry_with plant a.0.0 b.0.0 c.0.1) entry c.2 in
      let sign : c.0.0 ≡ codes "=" = (bytes_eq-Decides c.0.0 (codes "=")).0 tested.0 in
      let spelled = cut_takes space text a.0 a.1
      ∙ ap (λ (t : List ℕ). a.0.0 ++ space ∷ t) (cut_takes space a.0.1 b.0 b.1
      ∙ ap (λ (t : List ℕ). b.0.0 ++ space ∷ t) (cut_takes space b.0.1 c.0 c.1
      ∙ ap (λ (t : List ℕ). t ++ space ∷ c.0.1) sign)) in
      subst (λ (t : List ℕ). IsLineOf plant t entry) (sym spelled)
      (with_takes a.0.0 b.0.0 c.0.1 entry tested.1)

  -- ---- what is spelled

  told_caller : (caller : ℕ) → list_all is_told_byte (caller_text caller) ≡ true
  told_caller caller = told-field (caller_text caller) (caller-field caller)

  spaced_again : (entry : Entry) → HasLine plant entry
      → entry_of plant (spaced (caller_text entry.caller) (call_text plant entry.call)
      (reply_text entry.reply)) ≡ Some entry
  spaced_again entry good =
      let caller = caller_text entry.caller in
      let call = call_text plant entry.call in
      let reply = reply_text entry.reply in
      let told_call = told-text call (call_fields plant entry.call)
      (call-is_told plant entry.call named good.call) in
      rw (
        cut_again is_told_byte space refl caller (call ++ space ∷ (codes "=" ++ space ∷ reply))
            (told_caller entry.caller),
        cut_again is_told_byte space refl call (codes "=" ++ space ∷ reply) told_call,
        caller-inverts.again entry.caller good.held.caller,
        call_again plant named distinct entry.call good.call good.held.call,
        reply_again entry.reply good.answered good.held.reply,
      ) refl

  pub entry_again : (text : List ℕ) (entry : Entry) → IsLineOf plant text entry
      → entry_of plant text ≡ Some entry
  entry_again text entry told =
      let own = spaced (caller_text entry.caller) (call_text plant entry.call)
      (reply_text entry.reply) in
      let same : own ≡ text = append_cancel_right own text (line_feed ∷ [])
      (sym (line-spaced (caller_text entry.caller) (call_text plant entry.call)
      (reply_text entry.reply)) ∙ told.is) in
      ap (entry_of plant) (sym same) ∙ spaced_again entry told.has

  -- a line is that of one entry
  pub one_entry : LinesTellEntries plant
  one_entry text entry other first second =
      same_Some entry other (sym (entry_again text entry first) ∙ entry_again text other second)

  -- nothing is read of what is no entry's line
  pub none_read : (text : List ℕ) → entry_of plant text ≡ None → (entry : Entry)
      → IsLineOf plant text entry → ⊥
  none_read text is entry told =
      let both = sym is ∙ entry_again text entry told in absurd (cc)

  -- the line of an entry is UTF-8
  pub line_utf8 : (text : List ℕ) (entry : Entry) → IsLineOf plant text entry → IsUtf8 text
  line_utf8 text entry told =
      let own = caller_text entry.caller ++ codes " " ++ call_text plant entry.call ++ codes " = "
      ++ reply_text entry.reply in
      subst IsUtf8 (append_cancel_right own text (line_feed ∷ []) told.is)
      (IsUtf8-part 5209 own (part-entry plant entry named told.has))

  -- what a call read of the text
  pub found_read : (read : Option Entry) (text : List ℕ) → read ≡ entry_of plant text
      → IfSome read (λ entry. IsLineOf plant text entry)
  found_read None text is = tt
  found_read (Some entry) text is = entry_takes text entry (sym is)

  pub nothing_read : (read : Option Entry) (text : List ℕ) → read ≡ entry_of plant text
      → IfNone read ((entry : Entry) → ¬ IsLineOf plant text entry)
  nothing_read None text is = none_read text (sym is)
  nothing_read (Some entry) text is = tt
