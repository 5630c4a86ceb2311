-- One event after another, and all alarms that the events raise.
use Rattle.std.proofs.Common.{◌≡◌, ℕ, ◌+◌, ◌-◌, ◌==◌, List, [], ◌∷◌, ◌++◌, map, drop, length}
use Rattle.std.proofs.Common.{Bool, true, false, ◌||◌, not, if◌then◌else◌, refl, ap, sym, ◌∙◌}
use Rattle.std.proofs.Common.{arith, append_assoc}
use Rattle.std.specs.List.{list_any, fold}
use Rattle.std.proofs.Math.Bool.{or-false}
use Rattle.std.proofs.lemmas.List.{append-nil, drop-append-le, drop-drop, drop-map, length-append}
use Rattle.std.proofs.lemmas.List.{length-drop, length-map, map-id}
use Rattle.std.proofs.lemmas.List.Folds.{list_any-append}
use Rattle.circular_buffer.specs.Buffer.{keep_last}
use Rattle.alarm_log.specs.declared.alarm.Alarm.{Alarm}
use Rattle.alarm_log.specs.declared.alarm.Cause.{Cause}
use Rattle.plant_model.specs.declared.limits.TheConstants.{MOST_ALARMS}
use Rattle.alarm_log.specs.Alarms.{Acknowledged, AlarmBook, AlarmEvent, Cleared}
use Rattle.alarm_log.specs.Alarms.{ConsequencesCleared, Raised, acknowledged_of, acknowledges}
use Rattle.alarm_log.specs.Alarms.{after_event, after_raise, alarm_after, all_alarms, book_of}
use Rattle.alarm_log.specs.Alarms.{cleared_of, clears, consequence_cleared_of, fresh_alarm}
use Rattle.alarm_log.specs.Alarms.{is_consequence, is_same}

-- ---- one more event

-- what an event makes of an alarm that was raised before it
abbrev changed : AlarmEvent → Alarm → Alarm
changed (Raised cause) alarm = alarm
changed (Cleared cause) alarm = cleared_of cause alarm
changed ConsequencesCleared alarm = consequence_cleared_of alarm
changed (Acknowledged number) alarm = acknowledged_of number alarm

-- the alarms that an event raises
abbrev appended : ℕ → AlarmEvent → List Alarm
appended before (Raised cause) = fresh_alarm (before + 1) cause ∷ []
appended before (Cleared cause) = []
appended before ConsequencesCleared = []
appended before (Acknowledged number) = []

any_more : (p : AlarmEvent → Bool) (later : List AlarmEvent) (event : AlarmEvent)
    → list_any p (later ++ event ∷ []) ≡ (list_any p later || p event)
any_more p later event =
    list_any-append p later (event ∷ []) ∙ ap (λ b. list_any p later || b) (or-false (p event))

-- an alarm of which these two are known
abbrev alarm_with : ℕ → Cause → Bool → Bool → Alarm
alarm_with number cause cleared acknowledged =
    record { number = number; cause = cause; active = not cleared; acknowledged = acknowledged }

-- an alarm that is cleared where a test passes
cleared_where : (number : ℕ) (cause : Cause) (cleared acknowledged test : Bool)
    → alarm_with number cause (cleared || test) acknowledged
    ≡ (if test then record (alarm_with number cause cleared acknowledged) { active = false }
    else alarm_with number cause cleared acknowledged)
cleared_where number cause true acknowledged true = refl
cleared_where number cause true acknowledged false = refl
cleared_where number cause false acknowledged true = refl
cleared_where number cause false acknowledged false = refl

-- an alarm that is acknowledged where a test passes
acknowledged_where : (number : ℕ) (cause : Cause) (cleared acknowledged test : Bool)
    → alarm_with number cause cleared (acknowledged || test)
    ≡ (if test then record (alarm_with number cause cleared acknowledged) { acknowledged = true }
    else alarm_with number cause cleared acknowledged)
acknowledged_where number cause cleared true true = refl
acknowledged_where number cause cleared true false = refl
acknowledged_where number cause cleared false true = refl
acknowledged_where number cause cleared false false = refl

-- one more event counts for both tests
alarm_where : (number : ℕ) (cause : Cause) (later : List AlarmEvent) (event : AlarmEvent)
    → alarm_after number cause (later ++ event ∷ [])
    ≡ alarm_with number cause (list_any (clears cause) later || clears cause event)
    (list_any (acknowledges number) later || acknowledges number event)
alarm_where number cause later event =
    let cleared = any_more (clears cause) later event in
    let acknowledged = any_more (acknowledges number) later event in
    rw (cleared, acknowledged) refl

alarm_more : (number : ℕ) (cause : Cause) (later : List AlarmEvent) (event : AlarmEvent)
    → alarm_after number cause (later ++ event ∷ [])
    ≡ changed event (alarm_after number cause later)
alarm_more number cause later (Raised other) =
    alarm_where number cause later (Raised other) ∙ simp or-false
alarm_more number cause later (Cleared other) =
    alarm_where number cause later (Cleared other)
    ∙ ap (alarm_with number cause _) (or-false _)
    ∙ cleared_where number cause _ _ (is_same cause other)
alarm_more number cause later ConsequencesCleared =
    alarm_where number cause later ConsequencesCleared
    ∙ ap (alarm_with number cause _) (or-false _)
    ∙ cleared_where number cause _ _ (is_consequence cause)
alarm_more number cause later (Acknowledged other) =
    let acknowledged = list_any (acknowledges number) later || number == other in
    alarm_where number cause later (Acknowledged other)
    ∙ ap (λ cleared. alarm_with number cause cleared acknowledged) (or-false _)
    ∙ acknowledged_where number cause _ _ (number == other)

all_more : (before : ℕ) (events : List AlarmEvent) (event : AlarmEvent)
    → all_alarms before (events ++ event ∷ [])
    ≡ map (changed event) (all_alarms before events)
    ++ appended (before + length (all_alarms before events)) event
all_more before [] (Raised cause) =
    let count : before + 1 ≡ before + 0 + 1 = omega arith in
    ap (λ (number : ℕ). fresh_alarm number cause ∷ []) count
all_more before [] (Cleared cause) = refl
all_more before [] ConsequencesCleared = refl
all_more before [] (Acknowledged number) = refl
all_more before (Raised cause ∷ later) event =
    let alarm = alarm_after (before + 1) cause later in
    let rest = all_alarms (before + 1) later in
    let head = alarm_more (before + 1) cause later event in
    let count : (before + 1) + length rest ≡ before + length (alarm ∷ rest) = omega arith in
    let tail = all_more (before + 1) later event
    ∙ ap (λ n. map (changed event) rest ++ appended n event) count in
    ap (λ first. first ∷ all_alarms (before + 1) (later ++ event ∷ [])) head
    ∙ ap (λ others. changed event alarm ∷ others) tail
all_more before (Cleared cause ∷ later) event = all_more before later event
all_more before (ConsequencesCleared ∷ later) event = all_more before later event
all_more before (Acknowledged number ∷ later) event = all_more before later event

-- ---- the last of a list

-- what is lost before one more element comes isn't kept after it either
keep_more : {X : Type 0} (most : ℕ) (xs : List X) (x : X)
    → keep_last most (keep_last most xs ++ x ∷ []) ≡ keep_last most (xs ++ x ∷ [])
keep_more most xs x =
    let lost = length xs - most in
    let longer = xs ++ x ∷ [] in
    let kept = drop lost xs ++ x ∷ [] in
    let same : kept ≡ drop lost longer = sym (drop-append-le lost xs (x ∷ []) (omega arith)) in
    let kept_length = length-append (drop lost xs) (x ∷ []) in
    let longer_length = length-append xs (x ∷ []) in
    let count : lost + (length kept - most) ≡ length longer - most =
    omega (arith, kept_length, longer_length, length-drop lost xs) in
    ap (λ ys. drop (length kept - most) ys) same ∙ drop-drop (length kept - most) lost longer
    ∙ ap (λ n. drop n longer) count

-- ---- one event after another

-- the book of all these alarms
abbrev book_with : List Alarm → AlarmBook
book_with alarms = record { raised = length alarms; ring = keep_last MOST_ALARMS alarms }

-- a change of each kept alarm is one of all alarms
book_map : (f : Alarm → Alarm) (alarms : List Alarm)
    → record { raised = length alarms; ring = map f (keep_last MOST_ALARMS alarms) }
    ≡ book_with (map f alarms ++ [])
book_map f alarms = rw (append-nil, length-map, drop-map) refl

-- a new alarm comes after all
book_push : (cause : Cause) (alarms : List Alarm)
    → after_raise cause (book_with alarms)
    ≡ book_with (map (λ alarm. alarm) alarms ++ fresh_alarm (0 + length alarms + 1) cause ∷ [])
book_push cause alarms =
    let number : 0 + length alarms + 1 ≡ length alarms + 1 = omega arith in
    let alarm = fresh_alarm (length alarms + 1) cause in
    let raised : length (alarms ++ alarm ∷ []) ≡ length alarms + 1 =
    omega (arith, length-append alarms (alarm ∷ [])) in
    let ring = keep_more MOST_ALARMS alarms alarm in
    rw (map-id, number) (cc)

book_more : (events : List AlarmEvent) (event : AlarmEvent)
    → after_event (book_of events) event ≡ book_of (events ++ event ∷ [])
book_more events (Raised cause) =
    book_push cause (all_alarms 0 events)
    ∙ ap book_with (sym (all_more 0 events (Raised cause)))
book_more events (Cleared cause) =
    book_map (cleared_of cause) (all_alarms 0 events)
    ∙ ap book_with (sym (all_more 0 events (Cleared cause)))
book_more events ConsequencesCleared =
    book_map consequence_cleared_of (all_alarms 0 events)
    ∙ ap book_with (sym (all_more 0 events ConsequencesCleared))
book_more events (Acknowledged number) =
    book_map (acknowledged_of number) (all_alarms 0 events)
    ∙ ap book_with (sym (all_more 0 events (Acknowledged number)))

-- events after those of a book leave the book of all
pub folds : (front events : List AlarmEvent)
    → fold after_event (book_of front) events ≡ book_of (front ++ events)
folds front [] = ap book_of (sym (append-nil front))
folds front (event ∷ events) =
    rw book_more (folds (front ++ event ∷ []) events)
    ∙ ap book_of (append_assoc front (event ∷ []) events)
