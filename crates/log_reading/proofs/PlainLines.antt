-- The line of an entry has few bytes, all of them those of bodies.
use Rattle.std.proofs.Common.{◌≡◌, ℕ, zero, suc, ℤ, w64, ◌*◌, ◌-◌, ◌≤◌, List, [], ◌∷◌, ◌++◌, length, Bool, true}
use Rattle.std.proofs.Common.{false, ◌==◌, if◌then◌else◌, FitsSigned, codes, refl, arith}
use Rattle.std.proofs.lemmas.Bool.Decides.{nat_tests}
use Rattle.std.proofs.lemmas.List.Elements.{recursion_from_All}
use Rattle.std.proofs.lemmas.Str.{IsUtf8-from_ascii}
use Rattle.std.proofs.lemmas.Str.Ascii.{IsAscii-from_all}
use Rattle.std.specs.Fmt.{decimal}
use Rattle.std.specs.List.{AllByRecursion, flat_map, list_all}
use Rattle.std.specs.Str.{IsUtf8}
use Rattle.frame.specs.Bodies.{is_body, is_body_byte}
use Rattle.frame.specs.Frames.{damage_number}
use Rattle.plant_model.specs.declared.board.Cell.{Cell}
use Rattle.plant_model.specs.declared.board.Cell.TheVariants.{Pending, Seen}
use Rattle.plant_model.specs.declared.parts.Group.{Group}
use Rattle.plant_model.specs.declared.plant.Parts.{Parts}
use Rattle.plant_model.specs.declared.thrust.Thrust.{Thrust}
use Rattle.plant_model.specs.declared.thrust.Thrusts.{Thrusts}
use Rattle.telegram.specs.Telegrams.{reject_number, telegram_text}
use Rattle.wrench_geometry.specs.declared.vector.Vec3.{Vec3}
use Rattle.certificate.specs.declared.outcome.Outcome.{Outcome}
use Rattle.certificate.specs.declared.outcome.Outcome.TheVariants.{Holds, Lost}
use Rattle.certificate.specs.declared.outcome.Place.{Place}
use Rattle.certificate.specs.declared.outcome.Place.TheVariants as places
use Rattle.thrust_allocation.specs.declared.allocation.Allocation.{Allocation}
use Rattle.plant_core.specs.Machine.{IsCall}
use Rattle.plant_core.specs.declared.call.Call.{Call}
use Rattle.plant_core.specs.declared.call.Call.TheVariants as calls
use Rattle.plant_core.specs.declared.call.Entry.{Entry}
use Rattle.plant_core.specs.declared.call.Note.{Note}
use Rattle.plant_core.specs.declared.call.Note.TheVariants.{Damaged, Rejected, Stray}
use Rattle.plant_core.specs.declared.call.Reply.{Reply}
use Rattle.plant_core.specs.declared.call.Reply.TheVariants as replies
use Rattle.log_text.specs.Commands.{IsPart}
use Rattle.log_text.specs.Fits.{FitsAllocation, FitsCall, FitsCell, FitsOutcome}
use Rattle.log_text.specs.Fits.{FitsPlace, FitsReply, FitsThrust, FitsThrusts, FitsVector, FitsWord}
use Rattle.log_text.specs.Outcomes.{cut_text, given_part_text, given_text, outcome_text}
use Rattle.log_text.specs.Outcomes.{thrust_text, thrusts_text}
use Rattle.log_text.specs.Texts.{call_text, caller_text, cell_text, note_text}
use Rattle.log_text.specs.Texts.{place_text, reply_text}
use Rattle.log_text.proofs.CommandBodies.{part-append, part-field, part-i64, part-known, part-name}
use Rattle.log_text.proofs.CommandBodies.{part-thrust, part-u32, part-wrench}
use Rattle.log_text.proofs.FrameTexts.{ascii-body}
use Rattle.log_text.proofs.ToldGroups.{AreNamed, name_at}
use Rattle.log_reading.specs.Lines.{HasLine}
use Rattle.log_reading.proofs.CallTexts.{damage_fits, reject_fits}
use Rattle.log_reading.proofs.TelegramBodies.{is_body-telegram}

wider : {m n : ℕ} {xs : List ℕ} → IsPart m xs → m ≤ n → IsPart n xs
wider part few = record { few = omega (arith, part.few, few); each = part.each }

-- a text that is known
known : (most : ℕ) (bytes : List ℕ) → list_all is_body_byte bytes ≡ true → length bytes ≤ most
    → IsPart most bytes
known most bytes each few = record { few = few; each = each }

-- ---- outcomes

part-thrusts : (ts : List Thrust) → AllByRecursion FitsThrust ts
    → IsPart (82 * length ts) (flat_map thrust_text ts)
part-thrusts [] fits = record { few = omega arith; each = refl }
part-thrusts (t ∷ ts) fits =
    wider (part-append (part-thrust t fits.0.x fits.0.y) (part-thrusts ts fits.1)) (omega arith)

part-all_thrusts : (thrusts : Thrusts) → FitsThrusts thrusts → IsPart 984 (thrusts_text thrusts)
part-all_thrusts thrusts fits =
    wider (part-thrusts thrusts.list.items
    (recursion_from_All FitsThrust thrusts.list.items fits.each)) (omega (arith, fits.few))

part-cut : (v : Vec3) → FitsVector v → IsPart 63 (cut_text v)
part-cut v fits =
    part-field (part-field (part-append (part-known (codes ",") refl) (part-i64 v.x fits.x))
    (part-i64 v.y fits.y)) (part-i64 v.z fits.z)

part-cuts : (vs : List Vec3) → AllByRecursion FitsVector vs
    → IsPart (63 * length vs) (flat_map cut_text vs)
part-cuts [] fits = record { few = omega arith; each = refl }
part-cuts (v ∷ vs) fits =
    wider (part-append (part-cut v fits.0) (part-cuts vs fits.1)) (omega arith)

part-given : (choice : ℕ) (q : ℤ) (thrusts : Thrusts) → FitsWord choice → FitsSigned w64 q
    → FitsThrusts thrusts → IsPart 1015 (given_text choice q thrusts)
part-given choice q thrusts word over fits =
    part-append (part-field (part-u32 choice word) (part-i64 q over))
    (part-all_thrusts thrusts fits)

part-outcome : (outcome : Outcome) → FitsOutcome outcome → IsPart 4047 (outcome_text outcome)
part-outcome (Holds choice q thrusts) fits =
    wider (part-append (part-known (codes "HOLDS,") refl)
    (part-given choice q thrusts fits.0 fits.1 fits.2)) (omega arith)
part-outcome (Lost cuts) fits =
    wider (part-append (part-known (codes "LOST,") refl)
    (part-append (part-u32 (length cuts.list.items) (omega (arith, fits.few)))
    (part-cuts cuts.list.items (recursion_from_All FitsVector cuts.list.items fits.each))))
    (omega (arith, fits.few))

-- ---- callers and calls

part-caller_by : (session control operators : Bool) (caller : ℕ) → FitsWord caller
    → IsPart 11 (if session then codes "S" else (if control then codes "C"
    else (if operators then codes "O" else codes "W" ++ decimal (caller - 2))))
part-caller_by true control operators caller fits = known 11 (codes "S") refl (omega arith)
part-caller_by false true operators caller fits = known 11 (codes "C") refl (omega arith)
part-caller_by false false true caller fits = known 11 (codes "O") refl (omega arith)
part-caller_by false false false caller fits =
    part-append (part-known (codes "W") refl) (part-u32 (caller - 2) (omega (arith, fits)))

part-caller : (caller : ℕ) → FitsWord caller → IsPart 11 (caller_text caller)
part-caller caller fits =
    part-caller_by (caller == 0) (caller == 1) (caller == 2) caller fits

part-note : (note : Note) → IsPart 19 (note_text note)
part-note (Damaged damage) =
    wider (part-append (part-known (codes "DAMAGED,") refl)
    (part-u32 (damage_number damage) (damage_fits damage))) (omega arith)
part-note (Rejected reject) =
    part-append (part-known (codes "REJECTED,") refl)
    (part-u32 (reject_number reject) (reject_fits reject))
part-note Stray = known 19 (codes "STRAY") refl (omega arith)

part-name_at : (groups : List Group) (place : ℕ) → AreNamed groups
    → IsPart 12 (name_at groups place)
part-name_at [] place named = known 12 [] refl (omega arith)
part-name_at (g ∷ gs) zero named = part-name g.name named.0
part-name_at (g ∷ gs) (suc place) named = part-name_at gs place named.1

part-body : (bytes : List ℕ) → is_body bytes ≡ true → IsPart 120 bytes
part-body bytes good = record { few = grind (arith, nat_tests); each = grind (arith, nat_tests) }

part-call : (plant : Parts) (call : Call) → AreNamed plant.groups.items → IsCall plant call
    → FitsCall call → IsPart 4079 (call_text plant call)
part-call plant (calls.Telegram t) named good fits =
    wider (part-body (telegram_text t) (is_body-telegram t good)) (omega arith)
part-call plant (calls.Note note) named good fits = wider (part-note note) (omega arith)
part-call plant (calls.Publish version group outcome) named good fits =
    part-field (part-field (part-append (part-known (codes "PUBLISH,") refl)
    (part-u32 version fits.0)) (part-name_at plant.groups.items group named))
    (part-outcome outcome fits.1)
part-call plant calls.Close named good fits = known 4079 (codes "CLOSE") refl (omega arith)

-- ---- replies

part-allocation : (a : Allocation) → FitsAllocation a → IsPart 1057 (given_part_text a)
part-allocation a fits =
    part-field (part-field (part-i64 a.fraction.top fits.top)
    (part-i64 a.fraction.bottom fits.bottom))
    (part-given a.choice a.q a.thrusts fits.choice fits.q fits.thrusts)

part-cell : (cell : Cell) → FitsCell cell → IsPart 28 (cell_text cell)
part-cell Pending fits = known 28 (codes ",PENDING") refl (omega arith)
part-cell (Seen version holds current) fits =
    let number = part-append (part-known (codes ",") refl) (part-u32 version fits) in
    part-append (part-append (part-append (part-append number (part-known (codes ":") refl))
    (part-verdict holds)) (part-known (codes ":") refl)) (part-state current)
  where
    part-verdict : (holds : Bool) → IsPart 5 (if holds then codes "HOLDS" else codes "LOST")
    part-verdict true = known 5 (codes "HOLDS") refl (omega arith)
    part-verdict false = known 5 (codes "LOST") refl (omega arith)

    part-state : (current : Bool)
        → IsPart 10 (if current then codes "CURRENT" else codes "SUPERSEDED")
    part-state true = known 10 (codes "CURRENT") refl (omega arith)
    part-state false = known 10 (codes "SUPERSEDED") refl (omega arith)

part-cells : (cells : List Cell) → AllByRecursion FitsCell cells
    → IsPart (28 * length cells) (flat_map cell_text cells)
part-cells [] fits = record { few = omega arith; each = refl }
part-cells (cell ∷ cells) fits =
    wider (part-append (part-cell cell fits.0) (part-cells cells fits.1)) (omega arith)

part-place : (place : Place) → FitsPlace place → IsPart 19 (place_text place)
part-place places.Denominator fits = known 19 (codes "DENOMINATOR") refl (omega arith)
part-place places.Choice fits = known 19 (codes "CHOICE") refl (omega arith)
part-place places.ThrustCount fits = known 19 (codes "THRUST-COUNT") refl (omega arith)
part-place (places.Thruster i) fits =
    part-append (part-known (codes "THRUSTER,") refl) (part-u32 i fits)
part-place places.Sum fits = known 19 (codes "SUM") refl (omega arith)
part-place places.CutCount fits = known 19 (codes "CUT-COUNT") refl (omega arith)
part-place (places.Cut k) fits =
    wider (part-append (part-known (codes "CUT,") refl) (part-u32 k fits)) (omega arith)

numbered : (word : List ℕ) (n : ℕ) → list_all is_body_byte word ≡ true → length word ≤ 11
    → FitsWord n → IsPart 1115 (word ++ decimal n)
numbered word n each few fits =
    wider (part-append (known 11 word each few) (part-u32 n fits)) (omega arith)

part-reply : (reply : Reply) → FitsReply reply → IsPart 1115 (reply_text reply)
part-reply (replies.Version number) fits = numbered (codes "VERSION,") number refl (omega arith) fits
part-reply replies.Same fits = known 1115 (codes "SAME") refl (omega arith)
part-reply replies.Taken fits = known 1115 (codes "TAKEN") refl (omega arith)
part-reply replies.UnknownName fits = known 1115 (codes "UNKNOWN-NAME") refl (omega arith)
part-reply replies.NoPiece fits = known 1115 (codes "NO-PIECE") refl (omega arith)
part-reply (replies.Commanded version demand a) fits =
    wider (part-field (part-field (part-append (part-known (codes "COMMANDED,") refl)
    (part-u32 version fits.0)) (part-wrench demand fits.1.x fits.1.y fits.1.n))
    (part-allocation a fits.2)) (omega arith)
part-reply (replies.Late last) fits = numbered (codes "LATE,") last refl (omega arith) fits
part-reply replies.WrongMode fits = known 1115 (codes "WRONG-MODE") refl (omega arith)
part-reply replies.Noted fits = known 1115 (codes "NOTED") refl (omega arith)
part-reply replies.NoSuchAlarm fits = known 1115 (codes "NO-SUCH-ALARM") refl (omega arith)
part-reply (replies.Cells cells) fits =
    wider (part-append (part-append (part-known (codes "CELLS,") refl)
    (part-u32 cells.latest fits.latest)) (part-cells cells.list.items
    (recursion_from_All FitsCell cells.list.items fits.each))) (omega (arith, fits.few))
part-reply replies.Shown fits = known 1115 (codes "SHOWN") refl (omega arith)
part-reply (replies.Superseded latest) fits =
    numbered (codes "SUPERSEDED,") latest refl (omega arith) fits
part-reply (replies.Unknown latest) fits = numbered (codes "UNKNOWN,") latest refl (omega arith) fits
part-reply replies.Already fits = known 1115 (codes "ALREADY") refl (omega arith)
part-reply (replies.Refused place) fits =
    wider (part-append (part-known (codes "REFUSED,") refl) (part-place place fits)) (omega arith)
part-reply replies.JournalFull fits = known 1115 [] refl (omega arith)
part-reply replies.Closed fits = known 1115 [] refl (omega arith)

-- ---- lines

-- an entry's line, but for its line feed
pub part-entry : (plant : Parts) (entry : Entry) → AreNamed plant.groups.items
    → HasLine plant entry
    → IsPart 5209 (caller_text entry.caller ++ codes " " ++ call_text plant entry.call ++ codes " = "
    ++ reply_text entry.reply)
part-entry plant entry named good =
    wider (part-append (part-append (part-append (part-append
    (part-caller entry.caller good.held.caller) (part-known (codes " ") refl))
    (part-call plant entry.call named good.call good.held.call)) (part-known (codes " = ") refl))
    (part-reply entry.reply good.held.reply)) (omega arith)

-- such a text is UTF-8
pub IsUtf8-part : (most : ℕ) (text : List ℕ) → IsPart most text → IsUtf8 text
IsUtf8-part most text part =
    IsUtf8-from_ascii text (IsAscii-from_all text (ascii-body text part.each))
