-- Callers and calls are read of their own texts alone.
use Rattle.std.proofs.Common.{◌≡◌, ◌∙◌, ℕ, ◌+◌, ◌-◌, ◌^◌, ◌<◌, ◌≤◌, List, [], ◌∷◌, length, Bool}
use Rattle.std.proofs.Common.{true, false, ◌==◌, if◌then◌else◌, cond, Option, Some, None, Result, Ok}
use Rattle.std.proofs.Common.{Err, ℤ, pos, negsuc, nat_abs, nat_lt, codes, refl, ap, sym, subst, arith}
use Rattle.std.proofs.lemmas.Bool.Decides.{nat_tests}
use Rattle.std.proofs.lemmas.Int.{ints}
use Rattle.std.proofs.lemmas.List.Quantifiers.{position-Some}
use Rattle.std.proofs.lemmas.List.Recursion.{is_position_or_len}
use Rattle.std.proofs.lemmas.Option.{same_Some, slice_get-get_or}
use Rattle.std.proofs.lemmas.Slice.Eq.{bytes_eq-Decides}
use Rattle.std.specs.Fmt.{decimal, signed_decimal}
use Rattle.std.specs.List.{position, position_or_len}
use Rattle.std.specs.Option.{option_map_or}
use Rattle.std.specs.Str.{bytes_eq}
use Rattle.frame.specs.Frames.{damage_number}
use Rattle.frame.specs.declared.item.Damage.{Damage}
use Rattle.frame.specs.declared.item.Damage.TheVariants.{Shape, TooLong, Checksum, Cut}
use Rattle.plant_model.specs.Plants.{are_distinct}
use Rattle.plant_model.specs.declared.parts.Group.{Group}
use Rattle.plant_model.specs.declared.plant.Parts.{Parts}
use Rattle.telegram.specs.Numbers.{IsFromTo}
use Rattle.telegram.specs.Telegrams.{fields, parts_of, reject_number, telegram}
use Rattle.telegram.specs.Telegrams.{telegram_text}
use Rattle.telegram.specs.declared.telegram.Reject.{Reject}
use Rattle.telegram.specs.declared.telegram.Reject.TheVariants as rejects
use Rattle.telegram.specs.declared.telegram.Telegram.{Telegram}
use Rattle.telegram.specs.declared.telegram.Telegram.TheVariants as telegrams
use Rattle.telegram.proofs.Exact.{read_again, text-of_telegram}
use Rattle.plant_core.specs.Machine.{IsCall}
use Rattle.plant_core.specs.declared.call.Call.{Call}
use Rattle.plant_core.specs.declared.call.Call.TheVariants as calls
use Rattle.plant_core.specs.declared.call.Note.TheVariants.{Damaged, Rejected, Stray}
use Rattle.log_text.specs.Fits.{FitsCall, FitsWord}
use Rattle.log_text.specs.Texts.{call_text, caller_text}
use Rattle.log_text.proofs.ToldCalls.{call-is_told, call_fields}
use Rattle.log_text.proofs.ToldGroups.{AreNamed, name_at, names_of, place-told, place_in}
use Rattle.log_reading.specs.Calls.{call_forms, call_of, caller_of, damage_of, damaged_of, group_of}
use Rattle.log_reading.specs.Calls.{or_telegram, reject_of, rejected_of, telegram_of, verdict_of}
use Rattle.log_reading.specs.Calls.{worker_letter, worker_of}
use Rattle.log_reading.specs.Fields.{◌>>=◌, at_first, at_only, by_kind, ended, number_in, u32_of}
use Rattle.log_reading.specs.Outcomes.{outcome_of}
use Rattle.log_reading.proofs.FieldTexts.{fields_from_told, text_from_fields}
use Rattle.log_reading.proofs.Inverses.{AllSpell, Fields, Inverts, Reads, Spells, bind_some, closed}
use Rattle.log_reading.proofs.Inverses.{ended_takes, first_reads, kind_takes, only_takes}
use Rattle.log_reading.proofs.NumberFields.{number-again, number-takes, u32-inverts}
use Rattle.log_reading.proofs.OutcomeFields.{outcome_again, outcome_takes, u32-reads}

-- ---- callers

abbrev IsCallerTaken : List ℕ → ℕ → Type 0
IsCallerTaken text caller = (text ≡ caller_text caller) × FitsWord caller

worker_text : (m : ℕ) → 1 ≤ m → caller_text (m + 2) ≡ worker_letter ∷ decimal m
worker_text m some =
    let session : (m + 2 == 0) ≡ false = grind (arith, nat_tests) in
    let control : (m + 2 == 1) ≡ false = grind (arith, nat_tests) in
    let operators : (m + 2 == 2) ≡ false = grind (arith, nat_tests) in
    let number : m + 2 - 2 ≡ m = omega arith in
    rw (session, control, operators, number) refl

worker_by_sign : (bs : List ℕ) (z : ℤ) (caller : ℕ) → nat_abs z + 2 ≡ caller
    → (bs ≡ signed_decimal z) × IsFromTo (pos 1) (pos (2 ^ 32 - 3)) z
    → IsCallerTaken (worker_letter ∷ bs) caller
worker_by_sign bs (pos m) caller is taken =
    let some : 1 ≤ m = omega (arith, ints, taken.1.low_end) in
    subst (IsCallerTaken (worker_letter ∷ bs)) is (
      ap (λ (ds : List ℕ). worker_letter ∷ ds) taken.0 ∙ sym (worker_text m some),
      omega (arith, ints, taken.1.high_end),
    )
worker_by_sign bs (negsuc m) caller is taken = absurd (omega (arith, ints, taken.1.low_end))

worker_by_letter : (b : ℕ) (bs : List ℕ) (caller : ℕ) (letter : Bool) → (b == worker_letter) ≡ letter
    → (if letter then (number_in (pos 1) (pos (2 ^ 32 - 3)) bs >>= λ z. Some (nat_abs z + 2))
    else None) ≡ Some caller → IsCallerTaken (b ∷ bs) caller
worker_by_letter b bs caller true test is =
    let step = bind_some (number_in (pos 1) (pos (2 ^ 32 - 3)) bs) (λ z. Some (nat_abs z + 2)) caller
    is in
    let first : worker_letter ≡ b = grind (arith, nat_tests) in
    subst (λ (c : ℕ). IsCallerTaken (c ∷ bs) caller) first
    (worker_by_sign bs step.0 caller (same_Some (nat_abs step.0 + 2) caller step.2)
    (number-takes (pos 1) (pos (2 ^ 32 - 3)) bs step.0 step.1))
worker_by_letter b bs caller false test is = absurd (cc)

worker_takes : (text : List ℕ) (caller : ℕ) → worker_of text ≡ Some caller
    → IsCallerTaken text caller
worker_takes [] caller is = absurd (cc)
worker_takes (b ∷ bs) caller is = worker_by_letter b bs caller (b == worker_letter) refl is

known_caller : (text : List ℕ) (number caller : ℕ) → FitsWord number → text ≡ caller_text number
    → Some number ≡ Some caller → IsCallerTaken text caller
known_caller text number caller fits spelled is =
    subst (IsCallerTaken text) (same_Some number caller is) (spelled, fits)

caller_by_tests : (text : List ℕ) (caller : ℕ) (session control operators : Bool)
    → bytes_eq text (codes "S") ≡ session → bytes_eq text (codes "C") ≡ control
    → bytes_eq text (codes "O") ≡ operators
    → (if session then Some 0 else (if control then Some 1
    else (if operators then Some 2 else worker_of text))) ≡ Some caller → IsCallerTaken text caller
caller_by_tests text caller true control operators s c o is =
    known_caller text 0 caller (omega arith) ((bytes_eq-Decides text (codes "S")).0 s) is
caller_by_tests text caller false true operators s c o is =
    known_caller text 1 caller (omega arith) ((bytes_eq-Decides text (codes "C")).0 c) is
caller_by_tests text caller false false true s c o is =
    known_caller text 2 caller (omega arith) ((bytes_eq-Decides text (codes "O")).0 o) is
caller_by_tests text caller false false false s c o is = worker_takes text caller is

caller_takes : (text : List ℕ) (caller : ℕ) → caller_of text ≡ Some caller
    → IsCallerTaken text caller
caller_takes text caller is =
    caller_by_tests text caller (bytes_eq text (codes "S")) (bytes_eq text (codes "C"))
    (bytes_eq text (codes "O")) refl refl refl is

worker_again : (m : ℕ) → 1 ≤ m → m + 2 < 2 ^ 32 → caller_of (caller_text (m + 2)) ≡ Some (m + 2)
worker_again m some fits =
    let within : IsFromTo (pos 1) (pos (2 ^ 32 - 3)) (pos m) =
    record { low_end = omega (arith, ints); high_end = omega (arith, ints) } in
    ap caller_of (worker_text m some)
    ∙ rw (number-again (pos 1) (pos (2 ^ 32 - 3)) (pos m) (omega arith) within) refl

caller_by_number : (caller : ℕ) (session control operators : Bool) → (caller == 0) ≡ session
    → (caller == 1) ≡ control → (caller == 2) ≡ operators → FitsWord caller
    → caller_of (caller_text caller) ≡ Some caller
caller_by_number caller true control operators s c o fits =
    let is : 0 ≡ caller = grind (arith, nat_tests) in
    subst (λ (n : ℕ). caller_of (caller_text n) ≡ Some n) is refl
caller_by_number caller false true operators s c o fits =
    let is : 1 ≡ caller = grind (arith, nat_tests) in
    subst (λ (n : ℕ). caller_of (caller_text n) ≡ Some n) is refl
caller_by_number caller false false true s c o fits =
    let is : 2 ≡ caller = grind (arith, nat_tests) in
    subst (λ (n : ℕ). caller_of (caller_text n) ≡ Some n) is refl
caller_by_number caller false false false s c o fits =
    let past : 3 ≤ caller = grind (arith, nat_tests) in
    let is : caller - 2 + 2 ≡ caller = omega arith in
    subst (λ (n : ℕ). caller_of (caller_text n) ≡ Some n) is
    (worker_again (caller - 2) (omega arith) (omega arith))

pub caller-inverts : Inverts (List ℕ) ℕ caller_of caller_text FitsWord
caller-inverts = record {
  again = λ caller fits.
      caller_by_number caller (caller == 0) (caller == 1) (caller == 2) refl refl refl fits;
  takes = caller_takes;
}

-- ---- notes

damage_by_tests : (n : ℕ) (damage : Damage) (one two three four : Bool) → (n == 1) ≡ one
    → (n == 2) ≡ two → (n == 3) ≡ three → (n == 4) ≡ four
    → (if one then Some Shape else (if two then Some TooLong else (if three then Some Checksum
    else (if four then Some Cut else None)))) ≡ Some damage → n ≡ damage_number damage
damage_by_tests n damage true two three four a b c d is =
    subst (λ (x : Damage). n ≡ damage_number x) (same_Some Shape damage is)
    (grind (arith, nat_tests))
damage_by_tests n damage false true three four a b c d is =
    subst (λ (x : Damage). n ≡ damage_number x) (same_Some TooLong damage is)
    (grind (arith, nat_tests))
damage_by_tests n damage false false true four a b c d is =
    subst (λ (x : Damage). n ≡ damage_number x) (same_Some Checksum damage is)
    (grind (arith, nat_tests))
damage_by_tests n damage false false false true a b c d is =
    subst (λ (x : Damage). n ≡ damage_number x) (same_Some Cut damage is)
    (grind (arith, nat_tests))
damage_by_tests n damage false false false false a b c d is = absurd (cc)

damage_takes : (n : ℕ) (damage : Damage) → damage_of n ≡ Some damage → n ≡ damage_number damage
damage_takes n damage is =
    damage_by_tests n damage (n == 1) (n == 2) (n == 3) (n == 4) refl refl refl refl is

damage_again : (damage : Damage) → damage_of (damage_number damage) ≡ Some damage
damage_again Shape = refl
damage_again TooLong = refl
damage_again Checksum = refl
damage_again Cut = refl

pub damage_fits : (damage : Damage) → FitsWord (damage_number damage)
damage_fits Shape = omega arith
damage_fits TooLong = omega arith
damage_fits Checksum = omega arith
damage_fits Cut = omega arith

reject_by_tests : (n : ℕ) (reject : Reject) (one two three four five : Bool) → (n == 1) ≡ one
    → (n == 2) ≡ two → (n == 3) ≡ three → (n == 4) ≡ four → (n == 5) ≡ five
    → (if one then Some rejects.Kind else (if two then Some rejects.Count
    else (if three then Some rejects.Number else (if four then Some rejects.Range
    else (if five then Some rejects.Word else None))))) ≡ Some reject → n ≡ reject_number reject
reject_by_tests n reject true two three four five a b c d e is =
    subst (λ (x : Reject). n ≡ reject_number x) (same_Some rejects.Kind reject is)
    (grind (arith, nat_tests))
reject_by_tests n reject false true three four five a b c d e is =
    subst (λ (x : Reject). n ≡ reject_number x) (same_Some rejects.Count reject is)
    (grind (arith, nat_tests))
reject_by_tests n reject false false true four five a b c d e is =
    subst (λ (x : Reject). n ≡ reject_number x) (same_Some rejects.Number reject is)
    (grind (arith, nat_tests))
reject_by_tests n reject false false false true five a b c d e is =
    subst (λ (x : Reject). n ≡ reject_number x) (same_Some rejects.Range reject is)
    (grind (arith, nat_tests))
reject_by_tests n reject false false false false true a b c d e is =
    subst (λ (x : Reject). n ≡ reject_number x) (same_Some rejects.Word reject is)
    (grind (arith, nat_tests))
reject_by_tests n reject false false false false false a b c d e is = absurd (cc)

reject_takes : (n : ℕ) (reject : Reject) → reject_of n ≡ Some reject → n ≡ reject_number reject
reject_takes n reject is =
    reject_by_tests n reject (n == 1) (n == 2) (n == 3) (n == 4) (n == 5) refl refl refl refl refl
    is

reject_again : (reject : Reject) → reject_of (reject_number reject) ≡ Some reject
reject_again rejects.Kind = refl
reject_again rejects.Count = refl
reject_again rejects.Number = refl
reject_again rejects.Range = refl
reject_again rejects.Word = refl

pub reject_fits : (reject : Reject) → FitsWord (reject_number reject)
reject_fits rejects.Kind = omega arith
reject_fits rejects.Count = omega arith
reject_fits rejects.Number = omega arith
reject_fits rejects.Range = omega arith
reject_fits rejects.Word = omega arith

-- ---- groups

group_takes : (groups : List Group) (name : List ℕ) (place : ℕ)
    → position (λ group. bytes_eq group.name name) groups ≡ Some place
    → (name ≡ name_at groups place) × (place < length groups)
group_takes [] name place is = absurd (cc)
group_takes (g ∷ gs) name place is =
    let found = position-Some (λ group. bytes_eq group.name name) (g ∷ gs) place g is in
    let at = slice_get-get_or (g ∷ gs) place g found.0 in
    let spelled = ap (λ (it : Option Group). option_map_or (λ g. g.name) it []) at in
    (sym (spelled ∙ (bytes_eq-Decides _ name).0 found.1), found.0)

place_step : (name : List ℕ) (g : Group) (gs : List Group)
    → place_in (g ∷ gs) name ≡ cond (bytes_eq g.name name) 0 (1 + place_in gs name)
place_step name g gs = ap (λ (n : ℕ). cond (bytes_eq g.name name) 0 n) (omega arith)

by_place : (groups : List Group) (place found : ℕ) → found ≡ place → place < length groups
    → cond (nat_lt found (length groups)) (Some found) None ≡ Some place
by_place groups place found is there =
    let test : nat_lt found (length groups) ≡ true = grind (arith, nat_tests) in
    rw test (ap (λ (n : ℕ). Some n) is)

group_again : (groups : List Group) (place : ℕ)
    → are_distinct bytes_eq (names_of groups) ≡ true → place < length groups
    → position (λ group. bytes_eq group.name (name_at groups place)) groups ≡ Some place
group_again groups place distinct there =
    let name = name_at groups place in
    by_place groups place (position_or_len (λ group. bytes_eq group.name name) groups)
    (sym (is_position_or_len (λ gs. place_in gs name) (λ group. bytes_eq group.name name) refl
    (place_step name) groups) ∙ place-told groups place distinct there) there

-- ---- calls

module _ (plant : Parts) (named : AreNamed plant.groups.items)
    (distinct : are_distinct bytes_eq (names_of plant.groups.items) ≡ true) where
  abbrev FitsHere : Call → Type 0
  FitsHere call = IsCall plant call × FitsCall call

  abbrev IsThere : ℕ → Type 0
  IsThere place = place < length plant.groups.items

  group-inverts : Inverts (List ℕ) ℕ (group_of plant) (name_at plant.groups.items) IsThere
  group-inverts = record {
    again = λ place there. group_again plant.groups.items place distinct there;
    takes = group_takes plant.groups.items;
  }

  group-reads : Reads ℕ (at_first (group_of plant)) (λ place. name_at plant.groups.items place ∷ [])
      IsThere
  group-reads =
      first_reads ℕ (group_of plant) (name_at plant.groups.items) IsThere group-inverts

  verdict_spells : Spells Call (call_fields plant) FitsHere
      (record { kind = codes "PUBLISH"; read = verdict_of plant })
  verdict_spells rest call is =
      let a = bind_some (at_first u32_of rest) _ call is in
      let b = bind_some (at_first (group_of plant) a.0.1) _ call a.2 in
      let c = bind_some (outcome_of b.0.1) _ call b.2 in
      let version = u32-reads.takes rest a.0.0 a.0.1 a.1 in
      let group = group-reads.takes a.0.1 b.0.0 b.0.1 b.1 in
      let outcome = outcome_takes b.0.1 c.0 c.1 in
      closed Fields Call (call_fields plant) FitsHere (codes "PUBLISH" ∷ rest)
      (calls.Publish a.0.0 b.0.0 c.0) call c.2
      (ap (λ (more : Fields). codes "PUBLISH" ∷ more) (version.0
      ∙ ap (λ (more : Fields). decimal a.0.0 ∷ more) (group.0
      ∙ ap (λ (more : Fields). name_at plant.groups.items b.0.0 ∷ more) outcome.0)))
      (group.1, (version.1, outcome.1))

  damaged_spells : Spells Call (call_fields plant) FitsHere
      (record { kind = codes "DAMAGED"; read = damaged_of })
  damaged_spells rest call is =
      let a = bind_some (at_only u32_of rest) _ call is in
      let b = bind_some (damage_of a.0) _ call a.2 in
      let number = only_takes ℕ u32_of decimal FitsWord u32-inverts rest a.0 a.1 in
      closed Fields Call (call_fields plant) FitsHere (codes "DAMAGED" ∷ rest)
      (calls.Note (Damaged b.0)) call b.2
      (ap (λ (more : Fields). codes "DAMAGED" ∷ more) (number.0
      ∙ ap (λ (n : ℕ). decimal n ∷ []) (damage_takes a.0 b.0 b.1))) (tt, tt)

  rejected_spells : Spells Call (call_fields plant) FitsHere
      (record { kind = codes "REJECTED"; read = rejected_of })
  rejected_spells rest call is =
      let a = bind_some (at_only u32_of rest) _ call is in
      let b = bind_some (reject_of a.0) _ call a.2 in
      let number = only_takes ℕ u32_of decimal FitsWord u32-inverts rest a.0 a.1 in
      closed Fields Call (call_fields plant) FitsHere (codes "REJECTED" ∷ rest)
      (calls.Note (Rejected b.0)) call b.2
      (ap (λ (more : Fields). codes "REJECTED" ∷ more) (number.0
      ∙ ap (λ (n : ℕ). decimal n ∷ []) (reject_takes a.0 b.0 b.1))) (tt, tt)

  plain_spells : (kind : List ℕ) (call : Call) → call_fields plant call ≡ kind ∷ []
      → FitsHere call
      → Spells Call (call_fields plant) FitsHere (record { kind = kind; read = ended call })
  plain_spells kind call spelled fits rest other is =
      let taken = ended_takes call rest other is in
      subst (λ (c : Call). (kind ∷ rest ≡ call_fields plant c) × FitsHere c) taken.1
      (ap (λ (more : Fields). kind ∷ more) taken.0 ∙ sym spelled, fits)

  calls_spell : AllSpell Call (call_fields plant) FitsHere (call_forms plant)
  calls_spell = (
    verdict_spells,
    (
      damaged_spells,
      (
        rejected_spells,
        (
          plain_spells (codes "STRAY") (calls.Note Stray) refl (tt, tt),
          (plain_spells (codes "CLOSE") calls.Close refl (tt, tt), tt),
        ),
      ),
    ),
  )

  abbrev IsCallTaken : List ℕ → Call → Type 0
  IsCallTaken text call = (text ≡ call_text plant call) × FitsHere call

  telegram_takes : (text : List ℕ) (read : Result Telegram Reject) (call : Call)
      → telegram text ≡ read → telegram_of read ≡ Some call → IsCallTaken text call
  telegram_takes text (Ok t) call read is =
      let taken = text-of_telegram text t read in
      closed (List ℕ) Call (call_text plant) FitsHere text (calls.Telegram t) call is (sym taken.0)
      (taken.1, tt)
  telegram_takes text (Err reject) call read is = absurd (cc)

  call_by_form : (text : List ℕ) (found : Option Call) (call : Call)
      → by_kind (call_forms plant) (fields text) ≡ found → or_telegram text found ≡ Some call
      → IsCallTaken text call
  call_by_form text (Some own) call found is =
      let taken = kind_takes Call (call_fields plant) FitsHere (call_forms plant) calls_spell
      (fields text) own found in
      let told = call-is_told plant own named taken.1.0 in
      closed (List ℕ) Call (call_text plant) FitsHere text own call is
      (text_from_fields text (call_text plant own) (call_fields plant own) taken.0 told) taken.1
  call_by_form text None call found is = telegram_takes text (telegram text) call refl is

  pub call_takes : (text : List ℕ) (call : Call) → call_of plant text ≡ Some call
      → (text ≡ call_text plant call) × IsCall plant call × FitsCall call
  call_takes text call is =
      let taken = call_by_form text (by_kind (call_forms plant) (fields text)) call refl is in
      (taken.0, taken.1.0, taken.1.1)

  -- no telegram has the form of another call
  no_form : (t : Telegram) → by_kind (call_forms plant) (parts_of t) ≡ None
  no_form (telegrams.Position moment x y heading) = refl
  no_form (telegrams.Wind moment speed angle) = refl
  no_form (telegrams.Setpoint x y heading) = refl
  no_form (telegrams.Thruster name selected) = refl
  no_form (telegrams.Generator name running) = refl
  no_form (telegrams.Tie name closed) = refl
  no_form (telegrams.Mode manual) = refl
  no_form (telegrams.Manual demand) = refl
  no_form (telegrams.Ack number) = refl
  no_form telegrams.Board = refl
  no_form (telegrams.Bar name piece barred) = refl

  by_form : (call : Call) → IsCall plant call
      → by_kind (call_forms plant) (call_fields plant call) ≡ Some call
      → call_of plant (call_text plant call) ≡ Some call
  by_form call good is =
      let parts = fields_from_told (call_text plant call) (call_fields plant call)
      (call-is_told plant call named good) in
      ap (or_telegram (call_text plant call)) (ap (by_kind (call_forms plant)) parts ∙ is)

  pub call_again : (call : Call) → IsCall plant call → FitsCall call
      → call_of plant (call_text plant call) ≡ Some call
  call_again (calls.Telegram t) good fits =
      let parts = fields_from_told (telegram_text t) (parts_of t)
      (call-is_told plant (calls.Telegram t) named good) in
      ap (or_telegram (telegram_text t)) (ap (by_kind (call_forms plant)) parts ∙ no_form t)
      ∙ ap telegram_of (read_again t good)
  call_again (calls.Note (Damaged damage)) good fits =
      by_form (calls.Note (Damaged damage)) good
      (rw (u32-inverts.again (damage_number damage) (damage_fits damage), damage_again damage) refl)
  call_again (calls.Note (Rejected reject)) good fits =
      by_form (calls.Note (Rejected reject)) good
      (rw (u32-inverts.again (reject_number reject) (reject_fits reject), reject_again reject) refl)
  call_again (calls.Note Stray) good fits = by_form (calls.Note Stray) good refl
  call_again (calls.Publish version group outcome) good fits =
      by_form (calls.Publish version group outcome) good
      (rw (
        u32-inverts.again version fits.0,
        group-inverts.again group good,
        outcome_again outcome fits.1,
      ) refl)
  call_again calls.Close good fits = by_form calls.Close good refl
