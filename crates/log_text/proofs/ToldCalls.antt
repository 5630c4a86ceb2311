-- Callers and calls as fields, and what the fields tell of them.
use Rattle.std.proofs.Common.{◌≡◌, ◌∙◌, ℕ, ◌+◌, ◌-◌, ◌<◌, List, [], ◌∷◌, ◌++◌}
use Rattle.std.proofs.Common.{Bool, true, false, ◌==◌, if◌then◌else◌, Result, Ok, Err, codes}
use Rattle.std.proofs.Common.{refl, ap, ap₂, sym, arith, append_assoc, append-nil}
use Rattle.std.proofs.lemmas.Bool.Decides.{nat_tests}
use Rattle.std.specs.Fmt.{decimal}
use Rattle.std.specs.List.{list_all, join_with_byte}
use Rattle.std.specs.Str.{bytes_eq}
use Rattle.frame.specs.Frames.{damage_number}
use Rattle.frame.specs.declared.item.Damage.{Damage}
use Rattle.frame.specs.declared.item.Damage.TheVariants.{Shape, TooLong, Checksum, Cut}
use Rattle.plant_model.specs.Plants.{are_distinct}
use Rattle.plant_model.specs.declared.plant.Parts.{Parts}
use Rattle.telegram.specs.Telegrams.{IsTelegram, comma, parts_of, reject_number, telegram}
use Rattle.telegram.specs.declared.telegram.Reject.{Reject}
use Rattle.telegram.specs.declared.telegram.Reject.TheVariants as rejects
use Rattle.telegram.specs.declared.telegram.Telegram.{Telegram}
use Rattle.telegram.specs.declared.telegram.Telegram.TheVariants as telegrams
use Rattle.telegram.proofs.Exact.{read_again}
use Rattle.certificate.specs.declared.outcome.Outcome.{Outcome}
use Rattle.plant_core.specs.Machine.{IsCall}
use Rattle.plant_core.specs.declared.call.Call.{Call}
use Rattle.plant_core.specs.declared.call.Call.TheVariants as calls
use Rattle.plant_core.specs.declared.call.Note.{Note}
use Rattle.plant_core.specs.declared.call.Note.TheVariants.{Damaged, Rejected, Stray}
use Rattle.log_text.specs.Fits.{FitsCall, FitsWord}
use Rattle.log_text.specs.Texts.{call_text, caller_text, note_text}
use Rattle.log_text.proofs.ToldFields.{IsTold, is_field, join-told, led}
use Rattle.log_text.proofs.ToldGroups.{AreNamed, field-name, field-name_at, name_at, names_of}
use Rattle.log_text.proofs.ToldGroups.{place-told, place_in}
use Rattle.log_text.proofs.ToldNumbers.{field-decimal, field-signed, number_in}
use Rattle.log_text.proofs.ToldOutcomes.{outcome-fields, outcome-led, outcome-told, outcome_fields}
use Rattle.log_text.proofs.ToldOutcomes.{outcome_in, word-told}

-- ---- callers

abbrev caller_by : Bool → Bool → Bool → ℕ → List ℕ
caller_by session control operators caller =
    if session then codes "S" else (if control then codes "C"
    else (if operators then codes "O"
    else codes "W" ++ decimal (caller - 2)))

abbrev pub caller_in : List ℕ → ℕ
caller_in [] = 0
caller_in (b ∷ bs) = if b == 67 then 1 else (if b == 79 then 2
    else (if b == 87 then 2 + number_in bs
    else 0))

caller-by_tests : (session control operators : Bool) (caller : ℕ) → (caller == 0) ≡ session
    → (caller == 1) ≡ control → (caller == 2) ≡ operators → FitsWord caller
    → caller_in (caller_by session control operators caller) ≡ caller
caller-by_tests true control operators caller is_0 is_1 is_2 fits = grind (arith, nat_tests)
caller-by_tests false true operators caller is_0 is_1 is_2 fits = grind (arith, nat_tests)
caller-by_tests false false true caller is_0 is_1 is_2 fits = grind (arith, nat_tests)
caller-by_tests false false false caller is_0 is_1 is_2 fits =
    let past : 2 < caller = grind (arith, nat_tests) in
    omega (arith, word-told (caller - 2) (omega arith))

pub caller-told : (caller : ℕ) → FitsWord caller → caller_in (caller_text caller) ≡ caller
caller-told caller fits =
    caller-by_tests (caller == 0) (caller == 1) (caller == 2) caller refl refl refl fits

caller-field_by : (session control operators : Bool) (caller : ℕ)
    → is_field (caller_by session control operators caller) ≡ true
caller-field_by true control operators caller = refl
caller-field_by false true operators caller = refl
caller-field_by false false true caller = refl
caller-field_by false false false caller = field-decimal (caller - 2)

pub caller-field : (caller : ℕ) → is_field (caller_text caller) ≡ true
caller-field caller = caller-field_by (caller == 0) (caller == 1) (caller == 2) caller

-- ---- notes

abbrev pub note_fields : Note → List (List ℕ)
note_fields (Damaged damage) = codes "DAMAGED" ∷ decimal (damage_number damage) ∷ []
note_fields (Rejected reject) = codes "REJECTED" ∷ decimal (reject_number reject) ∷ []
note_fields Stray = codes "STRAY" ∷ []

abbrev damage_of : ℕ → Damage
damage_of n = if n == 1 then Shape else (if n == 2 then TooLong
    else (if n == 3 then Checksum else Cut))

abbrev reject_of : ℕ → Reject
reject_of n = if n == 1 then rejects.Kind else (if n == 2 then rejects.Count
    else (if n == 3 then rejects.Number else (if n == 4 then rejects.Range else rejects.Word)))

damage-of_number : (damage : Damage) → damage_of (damage_number damage) ≡ damage
damage-of_number Shape = refl
damage-of_number TooLong = refl
damage-of_number Checksum = refl
damage-of_number Cut = refl

damage-fits : (damage : Damage) → FitsWord (damage_number damage)
damage-fits Shape = omega arith
damage-fits TooLong = omega arith
damage-fits Checksum = omega arith
damage-fits Cut = omega arith

reject-of_number : (reject : Reject) → reject_of (reject_number reject) ≡ reject
reject-of_number rejects.Kind = refl
reject-of_number rejects.Count = refl
reject-of_number rejects.Number = refl
reject-of_number rejects.Range = refl
reject-of_number rejects.Word = refl

reject-fits : (reject : Reject) → FitsWord (reject_number reject)
reject-fits rejects.Kind = omega arith
reject-fits rejects.Count = omega arith
reject-fits rejects.Number = omega arith
reject-fits rejects.Range = omega arith
reject-fits rejects.Word = omega arith

-- ---- calls

module _ (plant : Parts) where
  abbrev pub call_fields : Call → List (List ℕ)
  call_fields (calls.Telegram t) = parts_of t
  call_fields (calls.Note note) = note_fields note
  call_fields (calls.Publish version group outcome) =
      codes "PUBLISH" ∷ decimal version ∷ name_at plant.groups.items group ∷ outcome_fields outcome
  call_fields calls.Close = codes "CLOSE" ∷ []

  abbrev verdict_in : List (List ℕ) → Call
  verdict_in (version ∷ name ∷ more) =
      calls.Publish (number_in version) (place_in plant.groups.items name) (outcome_in more)
  verdict_in more = calls.Close

-- the number in the first of the fields
abbrev pub first_number : List (List ℕ) → ℕ
first_number [] = 0
first_number (field ∷ more) = number_in field

abbrev telegram_in : Result Telegram Reject → Call
telegram_in (Ok t) = calls.Telegram t
telegram_in (Err reject) = calls.Close

abbrev pub call_in : Parts → List (List ℕ) → Call
call_in plant [] = calls.Close
call_in plant (kind ∷ more) =
    if bytes_eq kind (codes "PUBLISH") then verdict_in plant more
    else (if bytes_eq kind (codes "DAMAGED") then calls.Note (Damaged (damage_of (first_number more)))
    else (if bytes_eq kind (codes "REJECTED")
    then calls.Note (Rejected (reject_of (first_number more)))
    else (if bytes_eq kind (codes "STRAY") then calls.Note Stray
    else (if bytes_eq kind (codes "CLOSE") then calls.Close
    else telegram_in (telegram (join_with_byte comma (kind ∷ more)))))))

telegram-told : (plant : Parts) (t : Telegram) → IsTelegram t
    → call_in plant (parts_of t) ≡ calls.Telegram t
telegram-told plant (telegrams.Position moment x y heading) good =
    ap telegram_in (read_again (telegrams.Position moment x y heading) good)
telegram-told plant (telegrams.Wind moment speed angle) good =
    ap telegram_in (read_again (telegrams.Wind moment speed angle) good)
telegram-told plant (telegrams.Setpoint x y heading) good =
    ap telegram_in (read_again (telegrams.Setpoint x y heading) good)
telegram-told plant (telegrams.Thruster name selected) good =
    ap telegram_in (read_again (telegrams.Thruster name selected) good)
telegram-told plant (telegrams.Generator name running) good =
    ap telegram_in (read_again (telegrams.Generator name running) good)
telegram-told plant (telegrams.Tie name closed) good =
    ap telegram_in (read_again (telegrams.Tie name closed) good)
telegram-told plant (telegrams.Mode manual) good =
    ap telegram_in (read_again (telegrams.Mode manual) good)
telegram-told plant (telegrams.Manual demand) good =
    ap telegram_in (read_again (telegrams.Manual demand) good)
telegram-told plant (telegrams.Ack number) good =
    ap telegram_in (read_again (telegrams.Ack number) good)
telegram-told plant telegrams.Board good = ap telegram_in (read_again telegrams.Board good)
telegram-told plant (telegrams.Bar name piece barred) good =
    ap telegram_in (read_again (telegrams.Bar name piece barred) good)

-- ---- telegrams

word-field : (value : Bool) (on off : List ℕ) → is_field on ≡ true → is_field off ≡ true
    → is_field (if value then on else off) ≡ true
word-field true on off first second = first
word-field false on off first second = second

telegram-fields : (t : Telegram) → IsTelegram t → list_all is_field (parts_of t) ≡ true
telegram-fields (telegrams.Position moment x y heading) good =
    rw (field-decimal moment, field-signed x, field-signed y, field-decimal heading) refl
telegram-fields (telegrams.Wind moment speed angle) good =
    rw (field-decimal moment, field-decimal speed, field-decimal angle) refl
telegram-fields (telegrams.Setpoint x y heading) good =
    rw (field-signed x, field-signed y, field-decimal heading) refl
telegram-fields (telegrams.Thruster name selected) good =
    rw (field-name name good, word-field selected (codes "IN") (codes "OUT") refl refl) refl
telegram-fields (telegrams.Generator name running) good =
    rw (field-name name good, word-field running (codes "RUN") (codes "STOP") refl refl) refl
telegram-fields (telegrams.Tie name closed) good =
    rw (field-name name good, word-field closed (codes "CLOSE") (codes "OPEN") refl refl) refl
telegram-fields (telegrams.Mode manual) good =
    rw (word-field manual (codes "MANUAL") (codes "AUTO") refl refl) refl
telegram-fields (telegrams.Manual demand) good =
    rw (field-signed demand.x, field-signed demand.y, field-signed demand.n) refl
telegram-fields (telegrams.Ack number) good = rw (field-decimal number) refl
telegram-fields telegrams.Board good = refl
telegram-fields (telegrams.Bar name piece barred) good =
    rw (
      field-name name good.0,
      field-decimal piece,
      word-field barred (codes "BAR") (codes "FREE") refl refl,
    ) refl

telegram-spelled_as : (plant : Parts) (fields : List (List ℕ)) (t : Telegram)
    → call_in plant fields ≡ calls.Telegram t
    → comma ∷ join_with_byte comma fields ≡ led fields
telegram-spelled_as plant [] t is = absurd (cc)
telegram-spelled_as plant (kind ∷ more) t is =
    ap (λ (rest : List ℕ). comma ∷ rest) (join-told kind more)

-- ---- calls as fields

note-spelled : (note : Note) → comma ∷ note_text note ≡ led (note_fields note)
note-spelled (Damaged damage) = simp append-nil
note-spelled (Rejected reject) = simp append-nil
note-spelled Stray = refl

note-fields : (note : Note) → list_all is_field (note_fields note) ≡ true
note-fields (Damaged damage) = rw (field-decimal (damage_number damage)) refl
note-fields (Rejected reject) = rw (field-decimal (reject_number reject)) refl
note-fields Stray = refl

note-told : (plant : Parts) (note : Note) → call_in plant (note_fields note) ≡ calls.Note note
note-told plant (Damaged damage) =
    ap (λ (n : ℕ). calls.Note (Damaged (damage_of n)))
    (word-told (damage_number damage) (damage-fits damage))
    ∙ ap (λ (d : Damage). calls.Note (Damaged d)) (damage-of_number damage)
note-told plant (Rejected reject) =
    ap (λ (n : ℕ). calls.Note (Rejected (reject_of n)))
    (word-told (reject_number reject) (reject-fits reject))
    ∙ ap (λ (r : Reject). calls.Note (Rejected r)) (reject-of_number reject)
note-told plant Stray = refl

-- the text of a call is its fields
pub call-is_told : (plant : Parts) (call : Call) → AreNamed plant.groups.items → IsCall plant call
    → IsTold (call_text plant call) (call_fields plant call)
call-is_told plant (calls.Telegram t) named good = record {
  spelled = telegram-spelled_as plant (parts_of t) t (telegram-told plant t good);
  good = telegram-fields t good;
}
call-is_told plant (calls.Note note) named good =
    record { spelled = note-spelled note; good = note-fields note }
call-is_told plant (calls.Publish version group outcome) named good = record {
  spelled = rw (sym (outcome-led outcome)) (simp append_assoc);
  good = rw (
    field-decimal version,
    field-name_at plant.groups.items group named,
    outcome-fields outcome,
  ) refl;
}
call-is_told plant calls.Close named good = record { spelled = refl; good = refl }

-- the fields of a call tell it
pub call-told : (plant : Parts) (call : Call)
    → are_distinct bytes_eq (names_of plant.groups.items) ≡ true → IsCall plant call → FitsCall call
    → call_in plant (call_fields plant call) ≡ call
call-told plant (calls.Telegram t) distinct good fits = telegram-told plant t good
call-told plant (calls.Note note) distinct good fits = note-told plant note
call-told plant (calls.Publish version group outcome) distinct good fits =
    ap₂ (λ (v g : ℕ). calls.Publish v g (outcome_in (outcome_fields outcome)))
    (word-told version fits.0) (place-told plant.groups.items group distinct good)
    ∙ ap (λ (o : Outcome). calls.Publish version group o) (outcome-told outcome fits.1)
call-told plant calls.Close distinct good fits = refl
