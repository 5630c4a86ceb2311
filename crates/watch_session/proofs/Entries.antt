-- A history by the entries of each caller.
use Rattle.std.proofs.Common.{◌≡◌, ◌≢◌, ℕ, ◌+◌, ◌<◌, ◌≤◌, ◌==◌, List, [], ◌∷◌, ◌++◌, length}
use Rattle.std.proofs.Common.{Bool, true, false, cond, refl, sym, ◌∙◌, ap, ap₂, subst, arith}
use Rattle.std.specs.List.{All}
use Rattle.std.proofs.lemmas.Bool.Decides.{nat_tests}
use Rattle.std.proofs.lemmas.List.Elements.{All-cons, All-head, All-nil}
use Rattle.std.proofs.lemmas.List.Elements.{All-tail, filter-append}
use Rattle.plant_model.specs.declared.plant.Parts.{Parts}
use Rattle.plant_core.specs.Machine.{is_event}
use Rattle.plant_core.specs.declared.call.Entry.{Entry}
use Rattle.turn_lock.specs.Lists.{entries_by}
use Rattle.turn_lock.specs.declared.view.Ended.{Ended}
use Rattle.plant_book.specs.Values.{caller_of}
use Rattle.analysis_workers.specs.Verdicts.{ArePublished}
use Rattle.log_text.specs.Commands.{command_text, commands_text}
use Rattle.dp_sessions.specs.Sessions.{events_in}
use Rattle.dp_sessions.proofs.Counts.{events-first}
use Rattle.watch_session.specs.Callers.{AreNumberedFrom}

-- the entries of a caller, by its number
abbrev pub by : ℕ → List Entry → List Entry
by n history = entries_by caller_of n history

-- ---- one entry more

pub by-append : (n : ℕ) (front back : List Entry) → by n (front ++ back) ≡ by n front ++ by n back
by-append n front back = filter-append (λ (e : Entry). caller_of e == n) front back

same-number : (a b : ℕ) (is : Bool) → (a == b) ≡ is → a ≡ b → is ≡ true
same-number a b is told same = grind (arith, nat_tests)

pub other-number : (a b : ℕ) → (a == b) ≡ false → a ≢ b
other-number a b told = grind (arith, nat_tests)

is-number : (a b : ℕ) → (a == b) ≡ true → a ≡ b
is-number a b told = grind (arith, nat_tests)

-- of a caller's own entries each is by it
pub each-own : (n : ℕ) (history : List Entry) → All (λ e. e.caller ≡ n) (by n history)
each-own n [] = All-nil (λ (e : Entry). e.caller ≡ n)
each-own n (entry ∷ history) = where-own (entry.caller == n) refl (each-own n history)
  where
    where-own : (is : Bool) → (entry.caller == n) ≡ is → All (λ e. e.caller ≡ n) (by n history)
        → All (λ e. e.caller ≡ n) (cond is (entry ∷ by n history) (by n history))
    where-own true told rest = All-cons (λ (e : Entry). e.caller ≡ n) entry (by n history)
        (is-number entry.caller n told) rest
    where-own false told rest = rest

-- entries by caller 0 are by no other
pub by-others : (n : ℕ) (history : List Entry) → All (λ e. e.caller ≡ 0) history → 0 ≢ n
    → by n history ≡ []
by-others n [] own other = refl
by-others n (entry ∷ history) own other = where-own (entry.caller == n) refl
    (by-others n history (All-tail (λ (e : Entry). e.caller ≡ 0) entry history own) other)
  where
    where-own : (is : Bool) → (entry.caller == n) ≡ is → by n history ≡ []
        → cond is (entry ∷ by n history) (by n history) ≡ []
    where-own true told rest = absurd (other (sym (All-head (λ (e : Entry). e.caller ≡ 0) entry
        history own) ∙ is-number entry.caller n told))
    where-own false told rest = rest

-- ---- what holds of each caller's entries

tail-own : (P : Entry → Type 0) (is : Bool) (entry : Entry) (own : List Entry)
    → All P (cond is (entry ∷ own) own) → All P own
tail-own P true entry own all = All-tail P entry own all
tail-own P false entry own all = all

head-own : (P : Entry → Type 0) (is : Bool) (entry : Entry) (own : List Entry) → is ≡ true
    → All P (cond is (entry ∷ own) own) → P entry
head-own P true entry own told all = All-head P entry own all
head-own P false entry own told all = absurd (cc)

-- holds of all, where each is by one of these callers
pub each-caller : (P : Entry → Type 0) (bound : ℕ) (history : List Entry)
    → All (λ e. e.caller < bound) history
    → ((n : ℕ) → n < bound → All P (by n history)) → All P history
each-caller P bound [] within holds = All-nil P
each-caller P bound (entry ∷ history) within holds =
    let number = entry.caller in
    All-cons P entry history
    (head-own P (number == number) entry (by number history)
    (same-number number number (number == number) refl refl)
    (holds number (All-head (λ (e : Entry). e.caller < bound) entry history within)))
    (each-caller P bound history
    (All-tail (λ (e : Entry). e.caller < bound) entry history within)
    (λ n below. tail-own P (number == n) entry (by n history) (holds n below)))

-- ---- commands

text-own : (plant : Parts) (n : ℕ) (is : Bool) (entry : Entry) (own : List Entry)
    → (is ≡ false → command_text plant entry ≡ [])
    → commands_text plant (cond is (entry ∷ own) own)
    ≡ command_text plant entry ++ commands_text plant own
text-own plant n true entry own none = refl
text-own plant n false entry own none =
    sym (ap (λ (text : List ℕ). text ++ commands_text plant own) (none refl))

-- the frames of a history are those of one caller, where the others have none
pub commands-by : (plant : Parts) (n : ℕ) (history : List Entry)
    → All (λ e. e.caller ≢ n → command_text plant e ≡ []) history
    → commands_text plant (by n history) ≡ commands_text plant history
commands-by plant n [] others = refl
commands-by plant n (entry ∷ history) others =
    let P : Entry → Type 0 = λ e. e.caller ≢ n → command_text plant e ≡ [] in
    text-own plant n (entry.caller == n) entry (by n history)
    (λ other. All-head P entry history others (other-number entry.caller n other))
    ∙ ap (λ (text : List ℕ). command_text plant entry ++ text)
    (commands-by plant n history (All-tail P entry history others))

-- ---- telegrams and notes

-- how many of its entries are telegrams or notes
count-own : (is event : Bool) (entry : Entry) (own : List Entry) → is_event entry.call ≡ event
    → events_in (cond is (entry ∷ own) own) ≡ cond is (cond event 1 0) 0 + events_in own
count-own true event entry own told =
    events-first entry own ∙ ap (λ (b : Bool). cond b 1 0 + events_in own) told
count-own false event entry own told = omega arith

counts-two : (one two event : Bool) → (one ≡ false → two ≡ false → event ≡ false)
    → (one ≡ true → two ≡ false) → (count first second : ℕ) → count ≡ first + second
    → cond event 1 0 + count
    ≡ (cond one (cond event 1 0) 0 + first) + (cond two (cond event 1 0) 0 + second)
counts-two true true event neither both count first second is = absurd (cc (both refl))
counts-two true false true neither both count first second is = omega (arith, is)
counts-two true false false neither both count first second is = omega (arith, is)
counts-two false true true neither both count first second is = omega (arith, is)
counts-two false true false neither both count first second is = omega (arith, is)
counts-two false false true neither both count first second is = cc (neither refl refl)
counts-two false false false neither both count first second is = omega (arith, is)

-- the telegrams and notes of a history are those of two callers, where the others have none
pub events-both : (history : List Entry)
    → All (λ e. e.caller ≢ 1 → e.caller ≢ 2 → is_event e.call ≡ false) history
    → events_in history ≡ events_in (by 1 history) + events_in (by 2 history)
events-both [] others = refl
events-both (entry ∷ history) others =
    let P : Entry → Type 0 = λ e. e.caller ≢ 1 → e.caller ≢ 2 → is_event e.call ≡ false in
    let one : Bool = entry.caller == 1 in
    let two : Bool = entry.caller == 2 in
    let event = is_event entry.call in
    let rest = events-both history (All-tail P entry history others) in
    let own = All-head P entry history others in
    let counts = counts-two one two event
    (λ no nor. own (other-number entry.caller 1 no) (other-number entry.caller 2 nor))
    (λ yes. first-alone two refl (is-number entry.caller 1 yes))
    (events_in history) (events_in (by 1 history)) (events_in (by 2 history)) rest in
    events-first entry history ∙ counts
    ∙ sym (ap₂ (λ (a b : ℕ). a + b) (count-own one event entry (by 1 history) refl)
    (count-own two event entry (by 2 history) refl))
  where
    first-alone : (two : Bool) → (entry.caller == 2) ≡ two → entry.caller ≡ 1 → two ≡ false
    first-alone two told is = grind (arith, nat_tests)

-- entries that are all telegrams or notes
pub events-all : (entries : List Entry) → All (λ e. is_event e.call ≡ true) entries
    → events_in entries ≡ length entries
events-all [] all = refl
events-all (entry ∷ entries) all =
    let P : Entry → Type 0 = λ e. is_event e.call ≡ true in
    let rest = events-all entries (All-tail P entry entries all) in
    events-first entry entries
    ∙ ap (λ (b : Bool). cond b 1 0 + events_in entries) (All-head P entry entries all)
    ∙ omega (arith, rest)

-- ---- the workers

-- the entries of a pass that was joined are the ones that are kept of it
abbrev pub HasKept : List Entry → Ended Entry → Type 0
HasKept history pass = by pass.caller history ≡ pass.mine

pub published-by : (first n : ℕ) (passes : List (Ended Entry)) (history : List Entry)
    → AreNumberedFrom first passes → All (HasKept history) passes → first ≤ n
    → n < first + length passes → ArePublished (by n history)
published-by first n [] history numbered kept least below = absurd (omega (arith, least, below))
published-by first n (pass ∷ passes) history numbered kept least below =
    where-first (n == first) refl (λ more. published-by (first + 1) n passes history numbered.2
    (All-tail (HasKept history) pass passes kept) more (omega (arith, below)))
  where
    where-first : (is : Bool) → (n == first) ≡ is
        → (first + 1 ≤ n → ArePublished (by n history)) → ArePublished (by n history)
    where-first true told rest =
        let number : pass.caller ≡ n = numbered.0 ∙ sym (is-number n first told) in
        subst ArePublished (sym (subst (λ (m : ℕ). by m history ≡ pass.mine) number
        (All-head (HasKept history) pass passes kept))) numbered.1
    where-first false told rest =
        let other = other-number n first told in rest (omega (arith, least, other))
