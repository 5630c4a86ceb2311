-- Along a legal history the latest number never falls, and a session that was ended is its end.
use Rattle.std.proofs.Common.{◌≡◌, ℕ, ◌+◌, ◌≤◌, List, [], ◌∷◌, ◌++◌, Bool, true, false}
use Rattle.std.proofs.Common.{Option, Some, slice_set, true≢false}
use Rattle.std.proofs.Common.{rules, sym, ap, subst, ◌∙◌, arith}
use Rattle.std.proofs.lemmas.List.{append-nil}
use Rattle.std.proofs.lemmas.List.Sums.{fold-append}
use Rattle.std.specs.List.{fold}
use mathlib.Core.List.{IsPrefix}
use Rattle.plant_model.specs.declared.plant.Parts.{Parts}
use Rattle.plant_core.specs.Board.{holds}
use Rattle.plant_core.specs.Kept.{IsReady}
use Rattle.plant_core.specs.Machine.{IsAllowedWhere, IsEntry, IsLegal, IsLegalFrom, Stand}
use Rattle.plant_core.specs.Machine.{after_call, after_telegram, is_answer, is_full, next, opening, opening_stand}
use Rattle.plant_core.specs.Machine.{stand_after, state_after}
use Rattle.plant_core.specs.declared.call.Call.{Call}
use Rattle.plant_core.specs.declared.call.Call.TheVariants as calls
use Rattle.plant_core.specs.declared.call.Entry.{Entry}
use Rattle.plant_core.specs.declared.call.Reply.{Reply}
use Rattle.plant_core.specs.declared.call.Reply.TheVariants as replies
use Rattle.plant_core.specs.declared.state.State.{State}
use Rattle.plant_core.specs.declared.state.Verdict.{Verdict}
use Rattle.plant_core.proofs.Follows.{follows-telegram}
use Rattle.analysis_workers.specs.Works.{IsClosed}

-- ---- fronts of a legal history

legal_from-front : (plant : Parts) (limit : ℕ) (stand : Stand) (before more : List Entry)
    → IsLegalFrom plant limit stand (before ++ more) → IsLegalFrom plant limit stand before
legal_from-front plant limit stand [] more legal = tt
legal_from-front plant limit stand (entry ∷ before) more legal =
    (legal.0, legal_from-front plant limit (next plant stand entry) before more legal.1)

legal_from-back : (plant : Parts) (limit : ℕ) (stand : Stand) (before more : List Entry)
    → IsLegalFrom plant limit stand (before ++ more)
    → IsLegalFrom plant limit (fold (next plant) stand before) more
legal_from-back plant limit stand [] more legal = legal
legal_from-back plant limit stand (entry ∷ before) more legal =
    legal_from-back plant limit (next plant stand entry) before more legal.1

-- ---- numbers

-- a state that may take a position, with as great a number
record Grows (before after : State) : Type 0 where
  ready : IsReady after
  number : before.latest.number ≤ after.latest.number

-- what is counted, ended and shown doesn't matter to the next position
ready-still : (state : State) (events : ℕ) (is_closed : Bool) (shown : List (Option Verdict))
    → IsReady state
    → IsReady (record state { events = events; is_closed = is_closed; shown = shown })
ready-still state events is_closed shown ready = record {
  demand = ready.demand;
  manual = ready.manual;
  set_point = ready.set_point;
  reached = ready.reached;
  latest = ready.latest;
}

grows-call : (plant : Parts) (limit : ℕ) (stand : Stand) (caller : ℕ) (call : Call) (reply : Reply)
    → IsReady stand.state
    → IsEntry plant limit stand (record { caller = caller; call = call; reply = reply })
    → Grows stand.state (after_call plant stand.state call reply)
grows-call plant limit stand caller (calls.Telegram t) reply ready entry =
    let follows = follows-telegram plant stand.state t ready entry.call in
    let after = after_telegram plant stand.state t in record {
      ready = ready-still after (after.events + 1) after.is_closed after.shown follows.ready;
      number = follows.number_from;
    }
grows-call plant limit stand caller (calls.Note n) reply ready entry =
    let state = stand.state in record {
      ready = ready-still state (state.events + 1) state.is_closed state.shown ready;
      number = omega arith;
    }
grows-call plant limit stand caller (calls.Publish version group outcome) replies.Shown ready
    entry = let state = stand.state in record {
      ready = ready-still state state.events state.is_closed
          (slice_set state.shown group (Some (record { version = version; holds = holds outcome })))
          ready;
      number = omega arith;
    }
grows-call plant limit stand caller (calls.Publish version group outcome) reply ready entry =
    record { ready = ready; number = omega arith }
grows-call plant limit stand caller calls.Close reply ready entry =
    let state = stand.state in record {
      ready = ready-still state state.events true state.shown ready;
      number = omega arith;
    }

grows-from : (plant : Parts) (limit : ℕ) (stand : Stand) (history : List Entry)
    → IsReady stand.state → IsLegalFrom plant limit stand history
    → Grows stand.state (fold (next plant) stand history).state
grows-from plant limit stand [] ready legal = record { ready = ready; number = omega arith }
grows-from plant limit stand (entry ∷ more) ready legal =
    let one = grows-call plant limit stand entry.caller entry.call entry.reply ready legal.0 in
    let rest = grows-from plant limit (next plant stand entry) more one.ready legal.1 in
    record { ready = rest.ready; number = omega (arith, one.number, rest.number) }

opening-ready : (plant : Parts) → IsReady (opening plant)
opening-ready plant = record {
  demand = search rules;
  manual = search rules;
  set_point = search rules;
  reached = tt;
  latest = search rules;
}

-- the latest number never falls
pub number_kept : (plant : Parts) (limit : ℕ) (before after : List Entry) → IsPrefix before after
    → IsLegal plant limit after
    → (state_after plant before).latest.number ≤ (state_after plant after).latest.number
number_kept plant limit before after front legal =
    let whole = subst (IsLegal plant limit) (sym front.1) legal in
    let start = opening_stand plant in
    let until = grows-from plant limit start before (opening-ready plant)
    (legal_from-front plant limit start before front.0 whole) in
    let on = grows-from plant limit (stand_after plant before) front.0 until.ready
    (legal_from-back plant limit start before front.0 whole) in
    subst (λ (history : List Entry). (state_after plant before).latest.number
    ≤ (state_after plant history).latest.number) front.1
    (subst (λ (stand : Stand). (state_after plant before).latest.number
    ≤ stand.state.latest.number) (sym (fold-append (next plant) start before front.0)) on.number)

-- ---- ends

closed-where : (closed full : Bool) (plant : Parts) (stand : Stand) (call : Call) (reply : Reply)
    → closed ≡ true → IsAllowedWhere closed full plant stand call reply → is_answer reply ≡ false
closed-where true full plant stand call reply is allowed = ap is_answer allowed
closed-where false full plant stand call reply is allowed = absurd (cc)

-- nothing is answered where a session was ended
closed-entry : (plant : Parts) (limit : ℕ) (stand : Stand) (entry : Entry)
    → stand.state.is_closed ≡ true → IsEntry plant limit stand entry → ⊥
closed-entry plant limit stand entry closed is =
    let none = closed-where stand.state.is_closed (is_full limit stand.state entry.call) plant stand
    entry.call entry.reply closed is.allowed in
    true≢false (sym is.answered ∙ none)

-- so such a history doesn't go on
pub closed_ends : (plant : Parts) (limit : ℕ) (before after : List Entry) → IsPrefix before after
    → IsLegal plant limit after → IsClosed plant before → before ≡ after
closed_ends plant limit before after ([], is) legal closed = sym (append-nil before) ∙ is
closed_ends plant limit before after (entry ∷ more, is) legal closed =
    let whole = subst (IsLegal plant limit) (sym is) legal in
    absurd (closed-entry plant limit (stand_after plant before) entry closed
    (legal_from-back plant limit (opening_stand plant) before (entry ∷ more) whole).0)

-- and it stays ended
pub closed_kept : (plant : Parts) (limit : ℕ) (before after : List Entry) → IsPrefix before after
    → IsLegal plant limit after → IsClosed plant before → IsClosed plant after
closed_kept plant limit before after front legal closed =
    subst (IsClosed plant) (closed_ends plant limit before after front legal closed) closed
