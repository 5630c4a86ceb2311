-- What a machine keeps is kept over an answered call.
use Rattle.std.proofs.Common.{◌≡◌, ℕ, ◌+◌, ◌*◌, ◌<◌, ◌≤◌, nat_lt, ◌==◌, List, [], ◌∷◌, ◌++◌, length}
use Rattle.std.proofs.Common.{Bool, true, false, cond, ap, sym, ◌∙◌, subst, arith}
use Rattle.std.proofs.Common.{Option, Some, None, slice_index_or, slice_set, suc, zero}
use Rattle.std.proofs.Math.Path.{refl}
use Rattle.std.proofs.lemmas.Bool.{eq-eqb, eqb-false, eqb-true, leb-false, ltb-false}
use Rattle.std.proofs.lemmas.List.{length-set}
use Rattle.alarm_log.specs.Alarms.{AlarmBook, after_clear_consequences, after_raise, is_active_in}
use Rattle.alarm_log.specs.declared.alarm.Cause.TheVariants.{Short as ShortOfDemand}
use Rattle.certificate.specs.Outcomes.{Question}
use Rattle.certificate.specs.declared.outcome.Outcome.{Outcome}
use Rattle.plant_model.specs.declared.limits.TheConstants.{LAST_ALARM, MOST_GROUPS}
use Rattle.plant_model.specs.declared.plant.Parts.{Parts}
use Rattle.telegram.specs.Telegrams.{IsTelegram}
use Rattle.telegram.specs.declared.telegram.Telegram.{Telegram}
use Rattle.plant_core.specs.Alarming.{after_notice, alarms_after, notice_of}
use Rattle.plant_core.specs.Board.{IsJudged, IsPublishWhere, after_publish, asked_of, holds}
use Rattle.plant_core.specs.Board.{is_about, is_shown, with_verdict}
use Rattle.plant_core.specs.declared.alarming.Notice.{Notice}
use Rattle.plant_core.specs.declared.alarming.Notice.TheVariants.{Nothing, Lost, Held, Short, Given}
use Rattle.plant_core.specs.declared.alarming.Notice.TheVariants.{Acknowledged}
use Rattle.plant_core.specs.declared.call.Call.{Call}
use Rattle.plant_core.specs.declared.call.Call.TheVariants as calls
use Rattle.plant_core.specs.declared.call.Entry.{Entry}
use Rattle.plant_core.specs.declared.call.Reply.{Reply}
use Rattle.plant_core.specs.declared.call.Reply.TheVariants as replies
use Rattle.plant_core.specs.declared.state.State.{State}
use Rattle.plant_core.specs.declared.state.Verdict.{Verdict}
use Rattle.plant_core.specs.Kept.{IsKept, IsReady, count_about, most_raised}
use Rattle.plant_core.specs.Machine.{IsCall, IsEntry, IsReply, Stand, after_call, after_telegram}
use Rattle.plant_core.specs.Machine.{counted, is_full, next}
use Rattle.plant_core.proofs.Follows.{follows-telegram}
use Rattle.plant_core.proofs.Histories.{legal-push, stand_after-push}

-- ---- numbers

-- what is kept of the numbers of a state, and that it may take a position
pub record Stands (limit : ℕ) (state : State) : Type 0 where
  pub ready : IsReady state
  pub numbered : state.latest.number ≤ state.events
  pub counted : state.events ≤ limit
  pub groups : length state.shown ≡ MOST_GROUPS

stands-verdict : (limit : ℕ) (state : State) (group : ℕ) (verdict : Verdict) → Stands limit state
    → Stands limit (with_verdict state group verdict)
stands-verdict limit state group verdict stands = record {
  ready = record {
    demand = stands.ready.demand;
    manual = stands.ready.manual;
    set_point = stands.ready.set_point;
    reached = stands.ready.reached;
    latest = stands.ready.latest;
  };
  numbered = stands.numbered;
  counted = stands.counted;
  groups = length-set state.shown group (Some verdict) ∙ stands.groups;
}

stands-publish : (limit : ℕ) (state : State) (version group : ℕ) (outcome : Outcome)
    (reply : Reply) → Stands limit state
    → Stands limit (after_publish state version group outcome reply)
stands-publish limit state version group outcome replies.Shown stands =
    stands-verdict limit state group (record { version = version; holds = holds outcome }) stands
stands-publish limit state version group outcome _ stands = stands

stands-call : (plant : Parts) (limit : ℕ) (state : State) (call : Call) (reply : Reply)
    → Stands limit state → IsCall plant call → is_full limit state call ≡ false
    → Stands limit (after_call plant state call reply)
stands-call plant limit state (calls.Telegram t) reply stands within room =
    let follows = follows-telegram plant state t stands.ready within in
    let after = after_telegram plant state t in
    record {
      ready = record {
        demand = follows.ready.demand;
        manual = follows.ready.manual;
        set_point = follows.ready.set_point;
        reached = follows.ready.reached;
        latest = follows.ready.latest;
      };
      numbered = omega (arith, follows.number, follows.events, stands.numbered);
      counted = omega (arith, leb-false limit state.events room, follows.events);
      groups = ap (λ (shown : List (Option Verdict)). length shown) follows.shown ∙ stands.groups;
    }
stands-call plant limit state (calls.Note n) reply stands within room = record {
  ready = record {
    demand = stands.ready.demand;
    manual = stands.ready.manual;
    set_point = stands.ready.set_point;
    reached = stands.ready.reached;
    latest = stands.ready.latest;
  };
  numbered = omega (arith, stands.numbered);
  counted = omega (arith, leb-false limit state.events room);
  groups = stands.groups;
}
stands-call plant limit state (calls.Publish version group outcome) reply stands within room =
    stands-publish limit state version group outcome reply stands
stands-call plant limit state calls.Close reply stands within room = record {
  ready = record {
    demand = stands.ready.demand;
    manual = stands.ready.manual;
    set_point = stands.ready.set_point;
    reached = stands.ready.reached;
    latest = stands.ready.latest;
  };
  numbered = stands.numbered;
  counted = stands.counted;
  groups = stands.groups;
}

-- ---- groups that a version's verdicts are shown of

one-at_most : (b : Bool) → cond b 1 0 ≤ 1
one-at_most true = omega arith
one-at_most false = omega arith

count_about-at_most : (version : ℕ) (shown : List (Option Verdict))
    → count_about version shown ≤ length shown
count_about-at_most version [] = omega arith
count_about-at_most version (verdict ∷ more) =
    let one = one-at_most (is_about version verdict) in
    let rest = count_about-at_most version more in
    omega arith

-- a verdict about the version in place of one that isn't
count_about-set : (version : ℕ) (shown : List (Option Verdict)) (group : ℕ) (verdict : Verdict)
    → group < length shown → is_about version (slice_index_or shown group None) ≡ false
    → is_about version (Some verdict) ≡ true
    → count_about version (slice_set shown group (Some verdict)) ≡ count_about version shown + 1
count_about-set version [] group verdict within before about = absurd (omega (arith, within))
count_about-set version (first ∷ more) zero verdict within before about =
    rw (before, about) omega arith
count_about-set version (first ∷ more) (suc group) verdict within before about =
    let rest = count_about-set version more group verdict (omega (arith, within)) before about in
    omega (arith, rest)

-- ---- alarms that were raised

raised-one_of : (b : Bool) (book other : AlarmBook) (most : ℕ) → book.raised ≤ most
    → other.raised ≤ most → (cond b book other).raised ≤ most
raised-one_of true book other most first second = first
raised-one_of false book other most first second = second

raised-version : (same : Bool) (book : AlarmBook)
    → (cond same book (after_clear_consequences book)).raised ≡ book.raised
raised-version true book = refl
raised-version false book = refl

-- a notice raises one at most
raised-notice : (notice : Notice) (book : AlarmBook)
    → (after_notice notice book).raised ≤ book.raised + 1
raised-notice Nothing book = omega arith
raised-notice (Lost group) book = omega arith
raised-notice (Held group) book = omega arith
raised-notice Short book = raised-one_of (is_active_in ShortOfDemand book) book
    (after_raise ShortOfDemand book) (book.raised + 1) (omega arith) (omega arith)
raised-notice Given book = omega arith
raised-notice (Acknowledged number) book = omega arith

raised-after : (before after : State) (notice : Notice) (book : AlarmBook)
    → (alarms_after before after notice book).raised ≤ book.raised + 1
raised-after before after notice book =
    let same = before.latest.number == after.latest.number in
    let cleared = raised-version same book in
    let told = raised-notice notice (cond same book (after_clear_consequences book)) in
    omega (arith, cleared, told)

-- nor any where there is nothing to tell
raised-nothing : (before after : State) (notice : Notice) (book : AlarmBook) → notice ≡ Nothing
    → (alarms_after before after notice book).raised ≡ book.raised
raised-nothing before after notice book is =
    rw is (raised-version (before.latest.number == after.latest.number) book)

-- a new version loses no more groups than it adds
most-later : (number later : ℕ) (shown : List (Option Verdict)) (same : Bool)
    → (number == later) ≡ same → number ≤ later → length shown ≡ MOST_GROUPS
    → number * MOST_GROUPS + count_about number shown
    ≤ later * MOST_GROUPS + count_about later shown
most-later number later shown true is from groups = rw (sym (eqb-true number later is)) omega arith
most-later number later shown false is from groups =
    let few = count_about-at_most number shown in
    let apart = eqb-false number later is in
    omega (arith, few, from, groups, apart)

raised-telegram : (plant : Parts) (limit : ℕ) (state : State) (t : Telegram) (notice : Notice)
    (book : AlarmBook) → Stands limit state → IsTelegram t → book.raised ≤ most_raised state
    → (alarms_after state (counted (after_telegram plant state t)) notice book).raised
    ≤ most_raised (counted (after_telegram plant state t))
raised-telegram plant limit state t notice book stands within few =
    let follows = follows-telegram plant state t stands.ready within in
    let after = after_telegram plant state t in
    let number = state.latest.number in
    let later = after.latest.number in
    let told = raised-after state (counted after) notice book in
    let more = most-later number later state.shown (number == later) refl follows.number_from
    stands.groups in
    let same : count_about later after.shown ≡ count_about later state.shown =
    ap (count_about later) follows.shown in
    omega (arith, few, told, more, same, follows.events)

raised-verdict : (limit : ℕ) (state : State) (group : ℕ) (verdict : Verdict) (notice : Notice)
    (book : AlarmBook) → Stands limit state → group < MOST_GROUPS → is_shown state group ≡ false
    → is_about state.latest.number (Some verdict) ≡ true → book.raised ≤ most_raised state
    → (alarms_after state (with_verdict state group verdict) notice book).raised
    ≤ most_raised (with_verdict state group verdict)
raised-verdict limit state group verdict notice book stands within open_yet about few =
    let told = raised-after state (with_verdict state group verdict) notice book in
    let more = count_about-set state.latest.number state.shown group verdict
    (omega (arith, within, stands.groups)) open_yet about in
    omega (arith, few, told, more)

raised-judged : (limit : ℕ) (state : State) (version group : ℕ) (outcome : Outcome)
    (question : Question) (reply : Reply) (book : AlarmBook) → Stands limit state
    → group < MOST_GROUPS → is_shown state group ≡ false → (version == state.latest.number) ≡ true
    → IsJudged question outcome reply → book.raised ≤ most_raised state
    → (alarms_after state (after_publish state version group outcome reply)
    (notice_of (calls.Publish version group outcome) reply) book).raised
    ≤ most_raised (after_publish state version group outcome reply)
raised-judged limit state version group outcome question replies.Shown book stands within open_yet
    about is few = raised-verdict limit state group
    (record { version = version; holds = holds outcome })
    (notice_of (calls.Publish version group outcome) replies.Shown) book stands within open_yet
    about few
raised-judged limit state version group outcome question (replies.Refused place) book stands within
    open_yet about is few =
    let told = raised-nothing state state Nothing book refl in
    omega (arith, told, few)
raised-judged limit state version group outcome question _ book stands within open_yet about is
    few = absurd is

raised-publish : (past before there : Bool) (plant : Parts) (limit : ℕ) (state : State)
    (version group : ℕ) (outcome : Outcome) (reply : Reply) (book : AlarmBook)
    → nat_lt state.latest.number version ≡ past → nat_lt version state.latest.number ≡ before
    → is_shown state group ≡ there → Stands limit state → group < MOST_GROUPS
    → IsPublishWhere past before there plant state group outcome reply
    → book.raised ≤ most_raised state
    → (alarms_after state (after_publish state version group outcome reply)
    (notice_of (calls.Publish version group outcome) reply) book).raised
    ≤ most_raised (after_publish state version group outcome reply)
raised-publish true before there plant limit state version group outcome reply book is_past
    is_before is_there stands within is few =
    let told = raised-nothing state state Nothing book refl in
    rw is omega (arith, told, few)
raised-publish false true there plant limit state version group outcome reply book is_past
    is_before is_there stands within is few =
    let told = raised-nothing state state Nothing book refl in
    rw is omega (arith, told, few)
raised-publish false false true plant limit state version group outcome reply book is_past
    is_before is_there stands within is few =
    let told = raised-nothing state state Nothing book refl in
    rw is omega (arith, told, few)
raised-publish false false false plant limit state version group outcome reply book is_past
    is_before is_there stands within is few =
    let number = state.latest.number in
    let at_most = ltb-false number version is_past in
    let at_least = ltb-false version number is_before in
    let same : version ≡ number = omega (arith, at_most, at_least) in
    raised-judged limit state version group outcome (asked_of plant state group) reply book stands
    within is_there (eq-eqb version number same) is few

raised-call : (plant : Parts) (limit : ℕ) (state : State) (alarms : AlarmBook) (call : Call)
    (reply : Reply) → Stands limit state → length plant.groups.items ≤ MOST_GROUPS
    → IsCall plant call → IsReply plant (record { state = state; alarms = alarms }) call reply
    → alarms.raised ≤ most_raised state
    → (alarms_after state (after_call plant state call reply) (notice_of call reply) alarms).raised
    ≤ most_raised (after_call plant state call reply)
raised-call plant limit state alarms (calls.Telegram t) reply stands few_groups within is few =
    raised-telegram plant limit state t (notice_of (calls.Telegram t) reply) alarms stands within
    few
raised-call plant limit state alarms (calls.Note n) reply stands few_groups within is few =
    let told = raised-after state (counted state) (notice_of (calls.Note n) reply) alarms in
    omega (arith, told, few)
raised-call plant limit state alarms (calls.Publish version group outcome) reply stands few_groups
    within is few =
    let number = state.latest.number in
    raised-publish (nat_lt number version) (nat_lt version number) (is_shown state group) plant
    limit state version group outcome reply alarms refl refl refl stands
    (omega (arith, within, few_groups)) is few
raised-call plant limit state alarms calls.Close reply stands few_groups within is few =
    let after : State = record state { is_closed = true } in
    let told = raised-nothing state after Nothing alarms refl in
    rw is omega (arith, told, few)

-- fewer were raised than the last number of an alarm says
pub raised-few : (plant : Parts) (limit : ℕ) (state : State) (alarms : AlarmBook)
    (history : List Entry) → IsKept plant limit state alarms history → alarms.raised < LAST_ALARM
raised-few plant limit state alarms history kept =
    let few = count_about-at_most state.latest.number state.shown in
    omega (arith, few, kept.raised, kept.groups, kept.numbered, kept.counted, kept.limited)

-- the machine after an entry that may stand as it stands
pub is_kept-push : (plant : Parts) (limit : ℕ) (stand : Stand) (history : List Entry)
    (entry : Entry) → IsKept plant limit stand.state stand.alarms history
    → IsEntry plant limit stand entry → is_full limit stand.state entry.call ≡ false
    → IsReply plant stand entry.call entry.reply
    → IsKept plant limit (next plant stand entry).state (next plant stand entry).alarms
    (history ++ entry ∷ [])
is_kept-push plant limit stand history entry kept last room is =
    let before : Stands limit stand.state = record {
      ready = kept.ready;
      numbered = kept.numbered;
      counted = kept.counted;
      groups = kept.groups;
    } in
    let stands = stands-call plant limit stand.state entry.call entry.reply before last.call room in
    record {
      legal = legal-push plant limit history entry kept.legal
          (subst (λ (s : Stand). IsEntry plant limit s entry) kept.reached last);
      reached = ap (λ (s : Stand). next plant s entry) kept.reached
          ∙ sym (stand_after-push plant history entry);
      ready = stands.ready;
      numbered = stands.numbered;
      counted = stands.counted;
      limited = kept.limited;
      few_groups = kept.few_groups;
      groups = stands.groups;
      raised = raised-call plant limit stand.state stand.alarms entry.call entry.reply before
          kept.few_groups last.call is kept.raised;
    }
