-- What the callers of a session ask where its streams are those of telegrams.
use Rattle.std.proofs.Common.{◌≡◌, ◌≢◌, ℕ, zero, suc, ◌≤◌, List, [], ◌∷◌, ◌++◌, map, Bool}
use Rattle.std.proofs.Common.{true, false, if◌then◌else◌, ◌==◌, Option, Some, Ok, refl, sym, ◌∙◌}
use Rattle.std.proofs.Common.{ap, ap₂, subst, arith}
use Rattle.std.specs.List.{All}
use Rattle.std.specs.Option.{IfSome}
use Rattle.std.proofs.lemmas.List.{append-nil}
use Rattle.std.proofs.lemmas.List.Elements.{All-cons, All-head, All-nil, All-tail}
use Rattle.dp_io.specs.Streams.{Gave}
use Rattle.dp_io.specs.Shown.{IsEmptied, Shown}
use Rattle.frame.specs.Frames.{items_end}
use Rattle.frame.specs.declared.item.Item.{Item}
use Rattle.frame.specs.declared.item.Item.TheVariants.{Body}
use Rattle.telegram.specs.Telegrams.{telegram, telegram_text}
use Rattle.telegram.specs.declared.telegram.Telegram.{Telegram}
use Rattle.telegram.specs.declared.telegram.Telegram.TheVariants.{Position, Wind, Thruster}
use Rattle.telegram.specs.declared.telegram.Telegram.TheVariants.{Generator, Tie}
use Rattle.plant_core.specs.Machine.{is_event}
use Rattle.plant_core.specs.declared.call.Call.{Call}
use Rattle.plant_core.specs.declared.call.Call.TheVariants as calls
use Rattle.plant_core.specs.declared.call.Note.TheVariants as notes
use Rattle.plant_core.specs.declared.call.Entry.{Entry}
use Rattle.analysis_workers.specs.Verdicts.{IsPublish}
use Rattle.dp_sessions.specs.Sessions.{Asked, asked, caller_of}
use Rattle.dp_sessions.specs.declared.session.Ending.TheVariants.{End}
use Rattle.drill_streams.specs.Laws.{AreRead, IsSensed, IsSwitch}
use Rattle.drill_streams.specs.Streams.{frames_of}
use Rattle.watch_session.specs.Asked.{call_for, call_of_body}
use Rattle.watch_session.specs.Threads.{StandsForPart, calls_by}

-- ---- what was read

-- what was moved out of the front of these bytes
pub record HasGiven (all bytes : List ℕ) (after : Option (List ℕ)) : Type 0 where
  pub rest : List ℕ
  pub is_left : after ≡ Some rest
  pub is : all ≡ bytes ++ rest

pub given-of : (all bytes : List ℕ) (source : Shown) → source.before ≡ Some all
    → Gave source.before source.after bytes → HasGiven all bytes source.after
given-of all bytes source told gave =
    let given : Gave (Some all) source.after bytes =
    subst (λ (b : Option (List ℕ)). Gave b source.after bytes) told gave in record {
      rest = given.0;
      is_left = given.1;
      is = given.2;
    }

-- all was, where nothing is left
pub all-given : (all bytes : List ℕ) (source : Shown) → HasGiven all bytes source.after
    → IsEmptied source → bytes ≡ all
all-given all bytes source given emptied =
    let none : given.rest ≡ [] =
    subst (λ (a : Option (List ℕ)). IfSome a (λ left. left ≡ [])) given.is_left emptied in
    sym (append-nil bytes) ∙ ap (λ (r : List ℕ). bytes ++ r) (sym none) ∙ sym given.is

-- ---- what is asked for telegrams

abbrev item_of : Telegram → Item
item_of t = Body (telegram_text t)

-- the telegrams are those of this caller's stream
abbrev pub AreOf : ℕ → List Telegram → Type 0
AreOf caller telegrams = All (λ t. (caller_of t == caller) ≡ true) telegrams

asked-one : (caller : ℕ) (t : Telegram) → telegram (telegram_text t) ≡ Ok t
    → (caller_of t == caller) ≡ true → call_for caller (item_of t) ≡ calls.Telegram t
asked-one caller t read own =
    ap (call_of_body caller) read
    ∙ ap (λ (b : Bool). if b then calls.Telegram t else calls.Note notes.Stray) own

asked-all : (caller : ℕ) (telegrams : List Telegram)
    → All (λ t. telegram (telegram_text t) ≡ Ok t) telegrams → AreOf caller telegrams
    → map (call_for caller) (map item_of telegrams) ≡ map calls.Telegram telegrams
asked-all caller [] read own = refl
asked-all caller (t ∷ more) read own =
    let Reads : Telegram → Type 0 = λ t. telegram (telegram_text t) ≡ Ok t in
    let Own : Telegram → Type 0 = λ t. (caller_of t == caller) ≡ true in
    let first : call_for caller (item_of t) ≡ calls.Telegram t =
    asked-one caller t (All-head Reads t more read) (All-head Own t more own) in
    let rest : map (call_for caller) (map item_of more) ≡ map calls.Telegram more =
    asked-all caller more (All-tail Reads t more read) (All-tail Own t more own) in
    ap₂ (λ (c : Call) (cs : List Call). c ∷ cs) first rest

-- where the stream was read to its end, its caller asks these telegrams
pub asked-telegrams : (caller : ℕ) (telegrams : List Telegram) (source out : Shown)
    (history : List Entry) → AreRead telegrams → AreOf caller telegrams
    → source.before ≡ Some (frames_of telegrams) → StandsForPart caller source out End history
    → calls_by caller history ≡ map calls.Telegram telegrams
asked-telegrams caller telegrams source out history read own told part =
    let given = given-of (frames_of telegrams) part.bytes source told part.given in
    let whole = all-given (frames_of telegrams) part.bytes source given part.ends in
    part.answers
    ∙ ap (λ (xs : List Item). map (call_for caller) xs)
    (part.of_bytes ∙ ap items_end whole ∙ read.items)
    ∙ asked-all caller telegrams read.each own

-- the sensors' telegrams are those of caller 1, and switches those of caller 2
pub sensed-own : (t : Telegram) → IsSensed t → (caller_of t == 1) ≡ true
sensed-own (Position moment x y heading) is = refl
sensed-own (Wind moment speed angle) is = refl
sensed-own _ is = absurd is

pub switch-own : (t : Telegram) → IsSwitch t → (caller_of t == 2) ≡ true
switch-own (Thruster name selected) is = refl
switch-own (Generator name running) is = refl
switch-own (Tie name closed) is = refl
switch-own _ is = absurd is

-- ---- what the others ask

uncounted : (call : Call) → IsPublish call → is_event call ≡ false
uncounted (calls.Publish version group outcome) is = refl
uncounted _ is = absurd is

abbrev pub IsQuiet : Entry → Type 0
IsQuiet entry = entry.caller ≢ 1 → entry.caller ≢ 2 → is_event entry.call ≡ false

quiet-where : (n : ℕ) (call : Call) → (n ≡ 0 → IsPublish call) → (3 ≤ n → IsPublish call)
    → n ≢ 1 → n ≢ 2 → is_event call ≡ false
quiet-where zero call session work one two = uncounted call (session refl)
quiet-where (suc zero) call session work one two = absurd (one refl)
quiet-where (suc (suc zero)) call session work one two = absurd (two refl)
quiet-where (suc (suc (suc n))) call session work one two = uncounted call (work (omega arith))

quiet-close : (close : Entry) → asked close ≡ (0, calls.Close) → IsQuiet close
quiet-close close is = λ one two.
    subst (λ (call : Call). is_event call ≡ false) (sym (ap (λ (a : Asked). a.1) is)) refl

quiet-all : (front : List Entry) (close : Entry) → asked close ≡ (0, calls.Close)
    → All (λ entry. entry.caller ≡ 0 → IsPublish entry.call) front
    → All (λ entry. 3 ≤ entry.caller → IsPublish entry.call) (front ++ close ∷ [])
    → All IsQuiet (front ++ close ∷ [])
quiet-all [] close is session work =
    All-cons IsQuiet close [] (quiet-close close is) (All-nil IsQuiet)
quiet-all (entry ∷ more) close is session work =
    let Session : Entry → Type 0 = λ e. e.caller ≡ 0 → IsPublish e.call in
    let Work : Entry → Type 0 = λ e. 3 ≤ e.caller → IsPublish e.call in
    let rest : List Entry = more ++ close ∷ [] in
    All-cons IsQuiet entry rest
    (quiet-where entry.caller entry.call (All-head Session entry more session)
    (All-head Work entry rest work))
    (quiet-all more close is (All-tail Session entry more session) (All-tail Work entry rest work))

-- they publish verdicts, or end the session
pub quiet-others : (history front : List Entry) (close : Entry) → history ≡ front ++ close ∷ []
    → asked close ≡ (0, calls.Close)
    → All (λ entry. entry.caller ≡ 0 → IsPublish entry.call) front
    → All (λ entry. 3 ≤ entry.caller → IsPublish entry.call) history → All IsQuiet history
quiet-others history front close is closes session work =
    let Work : Entry → Type 0 = λ e. 3 ≤ e.caller → IsPublish e.call in
    subst (All IsQuiet) (sym is)
    (quiet-all front close closes session (subst (All Work) is work))
