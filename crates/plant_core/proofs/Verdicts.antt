-- Verdicts that a legal history shows, and those that the board shows after it.
use Rattle.std.proofs.Common.{◌≡◌, ℕ, ◌+◌, ◌<◌, ◌≤◌, List, [], ◌∷◌, ◌++◌, length, get_or, set}
use Rattle.std.proofs.Common.{replicate, Bool, true, false, cond, ◌==◌, nat_lt, Option, None, Some}
use Rattle.std.proofs.Common.{ap, sym, ◌∙◌, subst, ⊎_elim, arith}
use Rattle.std.proofs.Math.Path.{refl}
use Rattle.std.proofs.lemmas.Bool.{cases_eq, cases_lt, eqb-false, eqb-true, ltb-false}
use Rattle.std.proofs.lemmas.List.{get_or_past, get_or-replicate, get_or-set_other}
use Rattle.std.proofs.lemmas.List.{get_or-set_same, length-replicate, length-set}
use Rattle.std.specs.List.{fold}
use Rattle.certificate.specs.Outcomes.{IsValid}
use Rattle.certificate.specs.declared.outcome.Outcome.{Outcome}
use Rattle.pid.specs.declared.position.Fix.{Fix}
use Rattle.plant_model.specs.Versions.{Version, are_separate}
use Rattle.plant_model.specs.declared.limits.TheConstants.{MOST_GROUPS}
use Rattle.plant_model.specs.declared.plant.Parts.{Parts}
use Rattle.telegram.specs.declared.telegram.Telegram.{Telegram}
use Rattle.telegram.specs.declared.telegram.Telegram.TheVariants.{Position, Wind, Setpoint}
use Rattle.telegram.specs.declared.telegram.Telegram.TheVariants.{Thruster}
use Rattle.telegram.specs.declared.telegram.Telegram.TheVariants.{Generator, Tie, Mode, Manual}
use Rattle.telegram.specs.declared.telegram.Telegram.TheVariants.{Ack, Board, Bar}
use Rattle.wind_axes.specs.Wind.{wind_load}
use Rattle.plant_core.specs.Board.{IsPublishWhere, asked_of, holds, is_shown, verdict_of}
use Rattle.plant_core.specs.Laws.{IsShownVerdict, instead, last_shown, published, shown_by}
use Rattle.plant_core.specs.Machine.{IsAllowedWhere, IsCall, IsEntry, IsLegal, IsLegalFrom, IsReply}
use Rattle.plant_core.specs.Machine.{Stand, after_call, after_telegram, is_full, next, opening_stand}
use Rattle.plant_core.specs.Machine.{stand_after, state_after}
use Rattle.plant_core.specs.Orders.{no_demand, restarted}
use Rattle.plant_core.specs.Sensing.{late, sensed, state_unless_late, with_version_for}
use Rattle.plant_core.specs.Switching.{after_switching, bar_switching, generator_switching, is_same}
use Rattle.plant_core.specs.Switching.{thruster_switching, tie_switching}
use Rattle.plant_core.specs.declared.call.Call.{Call}
use Rattle.plant_core.specs.declared.call.Call.TheVariants as calls
use Rattle.plant_core.specs.declared.call.Entry.{Entry}
use Rattle.plant_core.specs.declared.call.Reply.{Reply}
use Rattle.plant_core.specs.declared.call.Reply.TheVariants as replies
use Rattle.plant_core.specs.declared.state.State.{State}
use Rattle.plant_core.specs.declared.state.Verdict.{Verdict}
use Rattle.plant_core.specs.declared.switch.Switching.{Switching}
use Rattle.plant_core.specs.declared.switch.Switching.TheVariants.{Unknown, NoPiece, Same, To}

-- ---- the entry in the middle of a history

legal_from-back : (plant : Parts) (limit : ℕ) (stand : Stand) (before back : List Entry)
    → IsLegalFrom plant limit stand (before ++ back)
    → IsLegalFrom plant limit (fold (next plant) stand before) back
legal_from-back plant limit stand [] back legal = legal
legal_from-back plant limit stand (first ∷ more) back legal =
    legal_from-back plant limit (next plant stand first) more back legal.1

-- it may stand after the entries before it
pub legal-middle : (plant : Parts) (limit : ℕ) (before after : List Entry) (entry : Entry)
    → IsLegal plant limit (before ++ entry ∷ after)
    → IsEntry plant limit (stand_after plant before) entry
legal-middle plant limit before after entry legal =
    (legal_from-back plant limit (opening_stand plant) before (entry ∷ after) legal).0

-- ---- what is shown is about the latest version, and valid

-- what is judged before a verdict is shown
record IsFresh (past before : Bool) (plant : Parts) (state : State) (group : ℕ) (outcome : Outcome)
    : Type 0 where
  not_past : past ≡ false
  not_before : before ≡ false
  is_valid : IsValid (asked_of plant state group) outcome

fresh-shown : (past before there : Bool) (plant : Parts) (state : State) (group : ℕ)
    (outcome : Outcome)
    → IsPublishWhere past before there plant state group outcome replies.Shown
    → IsFresh past before plant state group outcome
fresh-shown true before there plant state group outcome is = absurd (cc)
fresh-shown false true there plant state group outcome is = absurd (cc)
fresh-shown false false true plant state group outcome is = absurd (cc)
fresh-shown false false false plant state group outcome is =
    record { not_past = refl; not_before = refl; is_valid = is }

reply-shown : (closed full : Bool) (plant : Parts) (stand : Stand) (call : Call)
    → IsAllowedWhere closed full plant stand call replies.Shown
    → IsReply plant stand call replies.Shown
reply-shown true full plant stand call is = absurd (cc)
reply-shown false true plant stand call is = absurd (cc)
reply-shown false false plant stand call is = is

-- a verdict that is shown as a machine stands
record IsShownIn (plant : Parts) (state : State) (version group : ℕ) (outcome : Outcome)
    : Type 0 where
  latest : version ≡ state.latest.number
  is_valid : IsValid (asked_of plant state group) outcome

shown-entry : (plant : Parts) (limit : ℕ) (stand : Stand) (caller version group : ℕ)
    (outcome : Outcome) → IsEntry plant limit stand (record {
      caller = caller;
      call = calls.Publish version group outcome;
      reply = replies.Shown;
    }) → IsShownIn plant stand.state version group outcome
shown-entry plant limit stand caller version group outcome entry =
    let state = stand.state in
    let latest = state.latest.number in
    let call = calls.Publish version group outcome in
    let fresh = fresh-shown (nat_lt latest version) (nat_lt version latest) (is_shown state group)
    plant state group outcome
    (reply-shown state.is_closed (is_full limit state call) plant stand call entry.allowed) in
    record {
      latest = omega (
        arith,
        ltb-false latest version fresh.not_past,
        ltb-false version latest fresh.not_before,
      );
      is_valid = fresh.is_valid;
    }

-- a verdict that a legal history shows
pub shown-legal : (plant : Parts) (limit : ℕ) (before after : List Entry)
    (caller version group : ℕ) (outcome : Outcome)
    → IsLegal plant limit (before ++ record {
      caller = caller;
      call = calls.Publish version group outcome;
      reply = replies.Shown;
    } ∷ after) → IsShownVerdict plant before version group outcome
shown-legal plant limit before after caller version group outcome legal =
    let entry : Entry = record {
      caller = caller;
      call = calls.Publish version group outcome;
      reply = replies.Shown;
    } in
    let is = legal-middle plant limit before after entry legal in
    let shown = shown-entry plant limit (stand_after plant before) caller version group outcome is
    in
    record { version = shown.latest; group = is.call; valid = shown.is_valid }

-- ---- telegrams keep the board

-- as many versions or more, and the same verdicts
record Keeps (before after : State) : Type 0 where
  shown : after.shown ≡ before.shown
  number : before.latest.number ≤ after.latest.number

keeps-same : (state : State) → Keeps state state
keeps-same state = record { shown = refl; number = omega arith }

keeps-one_of : (b : Bool) (state one other : State) → Keeps state one → Keeps state other
    → Keeps state (cond b one other)
keeps-one_of true state one other first second = first
keeps-one_of false state one other first second = second

keeps-unless_late : (last : Option ℕ) (state after : State) → Keeps state after
    → Keeps state (state_unless_late last state after)
keeps-unless_late (Some moment) state after keeps = keeps-same state
keeps-unless_late None state after keeps = keeps

keeps-switching : (state : State) (switching : Switching)
    → Keeps state (after_switching state switching)
keeps-switching state Unknown = keeps-same state
keeps-switching state NoPiece = keeps-same state
keeps-switching state Same = keeps-same state
keeps-switching state (To status) = record { shown = refl; number = omega arith }

number-one_of : (latest changed : Version) (moves : Bool) → latest.number ≤ changed.number
    → latest.number ≤ (cond moves changed latest).number
number-one_of latest changed true more = more
number-one_of latest changed false more = omega arith

keeps-position : (plant : Parts) (state : State) (moment : ℕ) (at : Fix)
    → Keeps state (with_version_for plant (sensed state moment at))
keeps-position plant state moment at =
    let asked = (sensed state moment at).demand in
    record {
      shown = refl;
      number = number-one_of state.latest
          (record state.latest { number = state.latest.number + 1; demand = asked })
          (are_separate asked state.latest.demand plant.band) (omega arith);
    }

keeps-telegram : (plant : Parts) (state : State) (t : Telegram)
    → Keeps state (after_telegram plant state t)
keeps-telegram plant state (Position moment x y heading) =
    let at : Fix = record { x = x; y = y; heading = heading } in
    keeps-unless_late (late state.last_position moment) state
    (with_version_for plant (sensed state moment at)) (keeps-position plant state moment at)
keeps-telegram plant state (Wind moment speed angle) =
    keeps-unless_late (late state.last_wind moment) state
    (record state { last_wind = Some moment; wind = wind_load plant.wind speed angle })
    (record { shown = refl; number = omega arith })
keeps-telegram plant state (Setpoint x y heading) =
    keeps-one_of state.is_manual state state
    (record (restarted state) { set_point = record { x = x; y = y; heading = heading } })
    (keeps-same state) (record { shown = refl; number = omega arith })
keeps-telegram plant state (Thruster name selected) =
    keeps-switching state (thruster_switching plant state.latest.status name selected)
keeps-telegram plant state (Generator name running) =
    keeps-switching state (generator_switching plant state.latest.status name running)
keeps-telegram plant state (Tie name closed) =
    keeps-switching state (tie_switching plant state.latest.status name closed)
keeps-telegram plant state (Mode is_manual) =
    keeps-one_of (is_same state.is_manual is_manual) state state
    (record (restarted state) { is_manual = is_manual; manual = no_demand }) (keeps-same state)
    (record { shown = refl; number = omega arith })
keeps-telegram plant state (Manual demand) =
    keeps-one_of state.is_manual state (record state { manual = demand }) state
    (record { shown = refl; number = omega arith }) (keeps-same state)
keeps-telegram plant state (Ack number) = keeps-same state
keeps-telegram plant state Board = keeps-same state
keeps-telegram plant state (Bar name piece barred) =
    keeps-switching state (bar_switching plant state.latest.status name piece barred)

-- ---- the board keeps a place for each group

-- what the board shows of a group at first
abbrev none_shown : Option Verdict
none_shown = None

length-call : (plant : Parts) (state : State) (call : Call) (reply : Reply)
    → length (after_call plant state call reply).shown ≡ length state.shown
length-call plant state (calls.Telegram t) reply = ap length (keeps-telegram plant state t).shown
length-call plant state (calls.Note n) reply = refl
length-call plant state (calls.Publish version group outcome) replies.Shown =
    length-set state.shown group (Some (record { version = version; holds = holds outcome }))
length-call plant state (calls.Publish version group outcome) reply = refl
length-call plant state calls.Close reply = refl

length-from : (plant : Parts) (stand : Stand) (history : List Entry)
    → length (fold (next plant) stand history).state.shown ≡ length stand.state.shown
length-from plant stand [] = refl
length-from plant stand (entry ∷ more) =
    length-from plant (next plant stand entry) more
    ∙ length-call plant stand.state entry.call entry.reply

pub shown_kept : (plant : Parts) (history : List Entry)
    → length (state_after plant history).shown ≡ MOST_GROUPS
shown_kept plant history =
    length-from plant (opening_stand plant) history ∙ length-replicate MOST_GROUPS none_shown

-- ---- the board shows what was last shown

shown_by-none : (group : ℕ) (call : Call) (reply : Reply) → published group call ≡ None
    → shown_by group call reply ≡ None
shown_by-none group call replies.Shown none = none
shown_by-none group call reply none = refl

verdict-set : (verdicts : List (Option Verdict)) (group other : ℕ) (verdict : Verdict) (is : Bool)
    → other == group ≡ is → other < length verdicts
    → get_or (set verdicts other (Some verdict)) group None
    ≡ instead (get_or verdicts group None) (cond is (Some verdict) None)
verdict-set verdicts group other verdict true is within =
    let same : other ≡ group = eqb-true other group is in
    subst (λ (place : ℕ). get_or (set verdicts other (Some verdict)) place None ≡ Some verdict) same
    (get_or-set_same verdicts other (Some verdict) None within)
verdict-set verdicts group other verdict false is within =
    get_or-set_other verdicts other group (Some verdict) None
    (λ same. eqb-false other group is (sym same))

opening-none : (group : ℕ) → get_or (replicate MOST_GROUPS none_shown) group None ≡ none_shown
opening-none group = ⊎_elim
    (λ (within : group < MOST_GROUPS). get_or-replicate MOST_GROUPS group none_shown None within)
    (λ (past : MOST_GROUPS ≤ group). get_or_past (replicate MOST_GROUPS none_shown) group None
    (omega (arith, past, length-replicate MOST_GROUPS none_shown)))
    (cases_lt group MOST_GROUPS)

verdict-call : (plant : Parts) (state : State) (call : Call) (reply : Reply) (group : ℕ)
    → length plant.groups.items ≤ length state.shown → IsCall plant call
    → verdict_of (after_call plant state call reply) group
    ≡ instead (verdict_of state group) (shown_by group call reply)
verdict-call plant state (calls.Telegram t) reply group places within =
    ap (λ (verdicts : List (Option Verdict)). get_or verdicts group None)
    (keeps-telegram plant state t).shown
    ∙ ap (instead (verdict_of state group))
    (sym (shown_by-none group (calls.Telegram t) reply refl))
verdict-call plant state (calls.Note n) reply group places within =
    ap (instead (verdict_of state group)) (sym (shown_by-none group (calls.Note n) reply refl))
verdict-call plant state (calls.Publish version other outcome) replies.Shown group places within =
    verdict-set state.shown group other (record { version = version; holds = holds outcome })
    (other == group) refl (omega (arith, places, within))
verdict-call plant state (calls.Publish version other outcome) reply group places within = refl
verdict-call plant state calls.Close reply group places within =
    ap (instead (verdict_of state group)) (sym (shown_by-none group calls.Close reply refl))

verdict-from : (plant : Parts) (limit : ℕ) (stand : Stand) (history : List Entry) (group : ℕ)
    (last : Option Verdict) → length plant.groups.items ≤ length stand.state.shown
    → IsLegalFrom plant limit stand history → verdict_of stand.state group ≡ last
    → verdict_of (fold (next plant) stand history).state group
    ≡ fold (λ last entry. instead last (shown_by group entry.call entry.reply)) last history
verdict-from plant limit stand [] group last places legal known = known
verdict-from plant limit stand (entry ∷ more) group last places legal known =
    let shown = shown_by group entry.call entry.reply in
    verdict-from plant limit (next plant stand entry) more group (instead last shown)
    (omega (arith, places, length-call plant stand.state entry.call entry.reply)) legal.1
    (verdict-call plant stand.state entry.call entry.reply group places legal.0.call
    ∙ ap (λ (before : Option Verdict). instead before shown) known)

-- each cell of the board has the verdict that was last shown
pub verdict-last : (plant : Parts) (limit : ℕ) (history : List Entry) (group : ℕ)
    → length plant.groups.items ≤ MOST_GROUPS → IsLegal plant limit history
    → group < length plant.groups.items
    → verdict_of (state_after plant history) group ≡ last_shown group history
verdict-last plant limit history group few legal within =
    let long : length (opening_stand plant).state.shown ≡ MOST_GROUPS =
    length-replicate MOST_GROUPS none_shown in
    verdict-from plant limit (opening_stand plant) history group None (omega (arith, long, few))
    legal (opening-none group)

-- ---- verdicts and the latest version

abbrev pub IsNotPast : ℕ → Option Verdict → Type 0
IsNotPast latest None = Unit {0}
IsNotPast latest (Some verdict) = verdict.version ≤ latest

-- no verdict on the board is about a version past the latest
abbrev pub NonePast : State → Type 0
NonePast state = (group : ℕ) → IsNotPast state.latest.number (verdict_of state group)

not_past-later : (latest later : ℕ) (verdict : Option Verdict) → latest ≤ later
    → IsNotPast latest verdict → IsNotPast later verdict
not_past-later latest later None more kept = tt
not_past-later latest later (Some verdict) more kept = omega (arith, more, kept)

not_past-at : (verdicts : List (Option Verdict)) (latest group : ℕ) (verdict : Verdict)
    → verdict.version ≤ latest
    → IsNotPast latest (get_or (set verdicts group (Some verdict)) group None)
not_past-at verdicts latest group verdict now =
    let after = set verdicts group (Some verdict) in
    ⊎_elim
    (λ (within : group < length verdicts). subst (IsNotPast latest)
    (sym (get_or-set_same verdicts group (Some verdict) None within)) now)
    (λ (past : length verdicts ≤ group). subst (IsNotPast latest)
    (sym (get_or_past after group None
    (omega (arith, past, length-set verdicts group (Some verdict))))) tt)
    (cases_lt group (length verdicts))

not_past-set : (verdicts : List (Option Verdict)) (latest group other : ℕ) (verdict : Verdict)
    → verdict.version ≤ latest → IsNotPast latest (get_or verdicts group None)
    → IsNotPast latest (get_or (set verdicts other (Some verdict)) group None)
not_past-set verdicts latest group other verdict now kept = ⊎_elim
    (λ (same : group ≡ other). subst
    (λ (place : ℕ). IsNotPast latest (get_or (set verdicts place (Some verdict)) group None)) same
    (not_past-at verdicts latest group verdict now))
    (λ differs. subst (IsNotPast latest)
    (sym (get_or-set_other verdicts other group (Some verdict) None differs)) kept)
    (cases_eq group other)

none_past-call : (plant : Parts) (limit : ℕ) (stand : Stand) (caller : ℕ) (call : Call)
    (reply : Reply)
    → IsEntry plant limit stand (record { caller = caller; call = call; reply = reply })
    → NonePast stand.state → NonePast (after_call plant stand.state call reply)
none_past-call plant limit stand caller (calls.Telegram t) reply entry kept =
    let state = stand.state in
    let after = after_telegram plant state t in
    let keeps = keeps-telegram plant state t in
    λ group. subst
    (λ (verdicts : List (Option Verdict)).
    IsNotPast after.latest.number (get_or verdicts group None)) (sym keeps.shown)
    (not_past-later state.latest.number after.latest.number (verdict_of state group) keeps.number
    (kept group))
none_past-call plant limit stand caller (calls.Note n) reply entry kept = kept
none_past-call plant limit stand caller (calls.Publish version other outcome) replies.Shown entry
    kept =
    let shown = shown-entry plant limit stand caller version other outcome entry in
    λ group. not_past-set stand.state.shown stand.state.latest.number group other
    (record { version = version; holds = holds outcome }) (omega (arith, shown.latest))
    (kept group)
none_past-call plant limit stand caller (calls.Publish version other outcome) reply entry kept =
    kept
none_past-call plant limit stand caller calls.Close reply entry kept = kept

none_past-from : (plant : Parts) (limit : ℕ) (stand : Stand) (history : List Entry)
    → IsLegalFrom plant limit stand history → NonePast stand.state
    → NonePast (fold (next plant) stand history).state
none_past-from plant limit stand [] legal kept = kept
none_past-from plant limit stand (entry ∷ more) legal kept =
    none_past-from plant limit (next plant stand entry) more legal.1
    (none_past-call plant limit stand entry.caller entry.call entry.reply legal.0 kept)

-- after a legal history
pub none_past : (plant : Parts) (limit : ℕ) (history : List Entry) → IsLegal plant limit history
    → NonePast (state_after plant history)
none_past plant limit history legal =
    none_past-from plant limit (opening_stand plant) history legal
    (λ group. subst (IsNotPast 0) (sym (opening-none group)) tt)
