-- The lines of the frames of commands.
use Rattle.std.proofs.Common.{◌≡◌, ◌∙◌, ℕ, ℤ, List, [], ◌∷◌, ◌++◌, true, false, IsTrue, codes, refl}
use Rattle.std.proofs.Common.{ap₂, sym, append_assoc, append-nil, ◌/◌, ◌%◌, arith}
use Rattle.std.proofs.lemmas.Bool.Decides.{nat_tests}
use Rattle.std.specs.Fmt.{decimal, signed_decimal}
use Rattle.std.specs.List.{AllByRecursion, flat_map, zip}
use Rattle.dp_num.specs.declared.fractions.Fraction.{Fraction}
use Rattle.frame.specs.Bodies.{dollar, star}
use Rattle.frame.specs.Frames.{checksum, frame_text, line_feed, upper_digit}
use Rattle.plant_model.specs.Names.{is_name}
use Rattle.plant_model.specs.declared.parts.Thruster.{Thruster}
use Rattle.plant_model.specs.declared.plant.Parts.{Parts}
use Rattle.plant_model.specs.declared.thrust.Thrust.{Thrust}
use Rattle.plant_model.specs.declared.wrench.Wrench.{Wrench}
use Rattle.telegram.specs.declared.telegram.Telegram.{Telegram as TelegramKind}
use Rattle.telegram.specs.declared.telegram.Telegram.TheVariants.{Position}
use Rattle.thrust_allocation.specs.declared.allocation.Allocation.{Allocation}
use Rattle.plant_core.specs.declared.call.Call.{Call}
use Rattle.plant_core.specs.declared.call.Call.TheVariants.{Telegram}
use Rattle.plant_core.specs.declared.call.Entry.{Entry}
use Rattle.plant_core.specs.declared.call.Reply.{Reply}
use Rattle.plant_core.specs.declared.call.Reply.TheVariants.{Commanded}
use Rattle.log_text.specs.Commands.{call_frames, command_body, command_head, command_text}
use Rattle.log_text.specs.Commands.{commands_text, frames_at, frames_of, part_text, thrust_body}
use Rattle.log_text.specs.Lines.{line}
use Rattle.log_text.specs.Outcomes.{thrust_text, wrench_text}
use Rattle.log_text.proofs.ToldFields.{all_good-append, all_good-cons, is_told_byte, told-field}
use Rattle.log_text.proofs.ToldGroups.{field-name}
use Rattle.log_text.proofs.ToldNumbers.{field-signed}
use Rattle.log_audit.specs.FirstBad.{text_of}
use Rattle.log_audit.specs.Lines.{AreLines}
use Rattle.log_audit.specs.Sessions.{begins_log, is_framed}
use Rattle.log_audit.proofs.Parts.{AreTold, no_feed-told, told-decimal}
use Rattle.log_audit.proofs.Streams.{lines-append, text-append}

-- ---- bodies

both : (a b : List ℕ) → AreTold a → AreTold b → AreTold (a ++ b)
both a b first second = all_good-append is_told_byte a b first second

-- one more, after a comma
more : (a b : List ℕ) → AreTold a → AreTold b → AreTold (a ++ codes "," ++ b)
more a b first second = both (a ++ codes ",") b (both a (codes ",") first refl) second

told-signed : (z : ℤ) → AreTold (signed_decimal z)
told-signed z = told-field (signed_decimal z) (field-signed z)

told-wrench : (demand : Wrench) → AreTold (wrench_text demand)
told-wrench demand =
    let x = signed_decimal demand.x in
    let y = signed_decimal demand.y in
    more (x ++ codes "," ++ y) (signed_decimal demand.n)
    (more x y (told-signed demand.x) (told-signed demand.y)) (told-signed demand.n)

told-thrust : (thrust : Thrust) → AreTold (thrust_text thrust)
told-thrust thrust =
    let x = signed_decimal thrust.x in
    more (codes "," ++ x) (signed_decimal thrust.y) (both (codes ",") x refl (told-signed thrust.x))
    (told-signed thrust.y)

told-part : (part : Fraction) → AreTold (part_text part)
told-part part = more (signed_decimal part.top) (signed_decimal part.bottom)
    (told-signed part.top) (told-signed part.bottom)

told-command_head : (moment version : ℕ) → AreTold (command_head moment version)
told-command_head moment version =
    let first = codes "CMD," ++ decimal moment in
    more first (decimal version) (both (codes "CMD,") (decimal moment) refl (told-decimal moment))
    (told-decimal version)

told-command : (moment version : ℕ) (demand : Wrench) (part : Fraction)
    → AreTold (command_body moment version demand part)
told-command moment version demand part =
    let head = command_head moment version in
    let asked = wrench_text demand in
    more (head ++ codes "," ++ asked) (part_text part)
    (more head asked (told-command_head moment version) (told-wrench demand)) (told-part part)

told-body : (q : ℤ) (thruster : Thruster) (thrust : Thrust) → is_name thruster.name ≡ true
    → AreTold (thrust_body q (thruster, thrust))
told-body q thruster thrust named =
    let name = thruster.name in
    let given = thrust_text thrust in
    let head = both (codes "THC,") name refl (told-field name (field-name name named)) in
    more (codes "THC," ++ name ++ given) (signed_decimal q)
    (both (codes "THC," ++ name) given head (told-thrust thrust)) (told-signed q)

-- ---- frames

abbrev AreFrames : List (List ℕ) → Type 0
AreFrames lines = AllByRecursion (λ own. (is_framed own ≡ true) × (begins_log own ≡ false)) lines

-- the text is lines after dollar signs
pub record IsFramed (text : List ℕ) : Type 0 where
  pub lines : List (List ℕ)
  pub is : text ≡ text_of lines
  pub good : AreLines lines
  pub each : AllByRecursion (λ own. (is_framed own ≡ true) × (begins_log own ≡ false)) lines

framed-none : IsFramed []
framed-none = record { lines = []; is = refl; good = tt; each = tt }

each-append : (xs ys : List (List ℕ)) → AreFrames xs → AreFrames ys → AreFrames (xs ++ ys)
each-append [] ys first second = second
each-append (x ∷ xs) ys first second = (first.0, each-append xs ys first.1 second)

framed-append : {a b : List ℕ} → IsFramed a → IsFramed b → IsFramed (a ++ b)
framed-append {a} {b} first second = record {
  lines = first.lines ++ second.lines;
  is = ap₂ (λ (x y : List ℕ). x ++ y) first.is second.is
      ∙ sym (text-append first.lines second.lines);
  good = lines-append first.lines second.lines first.good second.good;
  each = each-append first.lines second.lines first.each second.each;
}

told-digit : (n : ℕ) → is_told_byte (upper_digit n) ≡ true
told-digit n = grind (arith, nat_tests)

frame-spelled : (body digits : List ℕ) → dollar ∷ (body ++ (digits ++ line_feed ∷ []))
    ≡ line (dollar ∷ (body ++ digits))
frame-spelled body digits = simp append_assoc

framed-frame : (body : List ℕ) → AreTold body → IsFramed (frame_text body)
framed-frame body told =
    let sum = checksum body in
    let digits : List ℕ = star ∷ upper_digit (sum / 16) ∷ upper_digit (sum % 16) ∷ [] in
    let last = all_good-cons is_told_byte (upper_digit (sum % 16)) [] (told-digit (sum % 16)) refl in
    let back = all_good-cons is_told_byte star (upper_digit (sum / 16) ∷ upper_digit (sum % 16) ∷ [])
    refl (all_good-cons is_told_byte (upper_digit (sum / 16)) (upper_digit (sum % 16) ∷ [])
    (told-digit (sum / 16)) last) in
    let own : List ℕ = dollar ∷ (body ++ digits) in
    record {
      lines = own ∷ [];
      is = frame-spelled body digits ∙ sym (append-nil (line own));
      good = (
        no_feed-told own (all_good-cons is_told_byte dollar (body ++ digits) refl
            (both body digits told back)),
        tt,
      );
      each = ((refl, refl), tt);
    }

abbrev AreNamedThrusters : List Thruster → Type 0
AreNamedThrusters thrusters =
    AllByRecursion (λ (t : Thruster). IsTrue (is_name t.name)) thrusters

framed-thrusts : (q : ℤ) (thrusters : List Thruster) (thrusts : List Thrust)
    → AreNamedThrusters thrusters
    → IsFramed (flat_map (λ (given : Thruster × Thrust). frame_text (thrust_body q given))
    (zip thrusters thrusts))
framed-thrusts q [] [] named = framed-none
framed-thrusts q [] (y ∷ ys) named = framed-none
framed-thrusts q (x ∷ xs) [] named = framed-none
framed-thrusts q (x ∷ xs) (y ∷ ys) named =
    framed-append (framed-frame (thrust_body q (x, y)) (told-body q x y named.0))
    (framed-thrusts q xs ys named.1)

framed-of : (plant : Parts) (moment version : ℕ) (demand : Wrench) (a : Allocation)
    → AreNamedThrusters plant.thrusters.items
    → IsFramed (frames_of plant moment version demand a)
framed-of plant moment version demand a named =
    framed-append (framed-frame (command_body moment version demand a.fraction)
    (told-command moment version demand a.fraction))
    (framed-thrusts a.q plant.thrusters.items a.thrusts.list.items named)

framed-at : (plant : Parts) (moment : ℕ) (reply : Reply)
    → AreNamedThrusters plant.thrusters.items → IsFramed (frames_at plant moment reply)
framed-at plant moment (Commanded version demand allocation) named =
    framed-of plant moment version demand allocation named
framed-at plant moment _ named = framed-none

framed-telegram : (plant : Parts) (telegram : TelegramKind) (reply : Reply)
    → AreNamedThrusters plant.thrusters.items
    → IsFramed (call_frames plant (Telegram telegram) reply)
framed-telegram plant (Position moment x y heading) reply named = framed-at plant moment reply named
framed-telegram plant _ reply named = framed-none

framed-call : (plant : Parts) (call : Call) (reply : Reply)
    → AreNamedThrusters plant.thrusters.items → IsFramed (call_frames plant call reply)
framed-call plant (Telegram telegram) reply named = framed-telegram plant telegram reply named
framed-call plant _ reply named = framed-none

pub framed-commands : (plant : Parts) (history : List Entry)
    → AreNamedThrusters plant.thrusters.items → IsFramed (commands_text plant history)
framed-commands plant [] named = framed-none
framed-commands plant (entry ∷ history) named =
    framed-append {a = command_text plant entry} {b = commands_text plant history}
    (framed-call plant entry.call entry.reply named) (framed-commands plant history named)
