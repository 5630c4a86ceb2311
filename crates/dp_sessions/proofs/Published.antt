-- Verdicts that a session publishes: each is shown, and after those of all groups the board is current.
use Rattle.std.proofs.Common.{◌≡◌, ℕ, ◌+◌, ◌<◌, ◌≤◌, List, [], ◌∷◌, ◌++◌, length, Bool, true, false}
use Rattle.std.proofs.Common.{Some, None, refl, sym, ◌∙◌, ap, subst, arith}
use Rattle.std.proofs.Common.{append_assoc, inl, inr}
use Rattle.std.proofs.lemmas.Bool.Decides.{nat_tests}
use Rattle.std.proofs.lemmas.Bool.{cases_lt}
use Rattle.std.proofs.lemmas.List.{append-nil, get_or-set_other, get_or-set_same, length-append}
use Rattle.certificate.specs.Outcomes.{IsValid}
use Rattle.certificate.specs.declared.outcome.Outcome.{Outcome}
use Rattle.plant_model.specs.declared.limits.TheConstants.{MOST_GROUPS}
use Rattle.plant_model.specs.declared.plant.Parts.{Parts}
use Rattle.plant_core.specs.Board.{IsJudged, IsPublishWhere, asked_of, holds, is_about, is_shown}
use Rattle.plant_core.specs.Board.{with_verdict}
use Rattle.plant_core.specs.Machine.{CoreView, IsAllowed, IsAllowedWhere, Stand, after_call}
use Rattle.plant_core.specs.Machine.{state_of}
use Rattle.plant_core.specs.declared.call.Call.{Call}
use Rattle.plant_core.specs.declared.call.Call.TheVariants.{Publish}
use Rattle.plant_core.specs.declared.call.Entry.{Entry}
use Rattle.plant_core.specs.declared.call.Reply.{Reply}
use Rattle.plant_core.specs.declared.call.Reply.TheVariants.{Shown, Refused}
use Rattle.plant_core.specs.declared.state.State.{State}
use Rattle.plant_core.specs.declared.state.Verdict.{Verdict}
use Rattle.plant_core.proofs.Histories.{stand_after-push}
use Rattle.plant_core.proofs.Verdicts.{shown_kept}
use Rattle.dp_sessions.specs.Sessions.{Asked, EachVerdict, IsVerdictOn}
use Rattle.dp_sessions.specs.Steps.{AddsSilent, AddsVerdict, AddsVerdicts, NoneIsShown}
use Rattle.dp_sessions.proofs.Blocks.{silent-each}

-- ---- one verdict

judged-shown : (plant : Parts) (state : State) (group : ℕ) (outcome : Outcome) (reply : Reply)
    → IsValid (asked_of plant state group) outcome
    → IsJudged (asked_of plant state group) outcome reply → reply ≡ Shown
judged-shown plant state group outcome Shown valid judged = refl
judged-shown plant state group outcome (Refused place) valid judged =
    absurd (judged.fails (valid place))
judged-shown plant state group outcome reply valid judged = absurd judged

publish-where : (past before there : Bool) (plant : Parts) (state : State) (group : ℕ)
    (outcome : Outcome) (reply : Reply) → past ≡ false → before ≡ false → there ≡ false
    → IsValid (asked_of plant state group) outcome
    → IsPublishWhere past before there plant state group outcome reply → reply ≡ Shown
publish-where true before there plant state group outcome reply one two three valid is = absurd (cc)
publish-where false true there plant state group outcome reply one two three valid is =
    absurd (cc)
publish-where false false true plant state group outcome reply one two three valid is = absurd (cc)
publish-where false false false plant state group outcome reply one two three valid is =
    judged-shown plant state group outcome reply valid is

allowed-where : (closed : Bool) (plant : Parts) (limit : ℕ) (stand : Stand) (group : ℕ)
    (outcome : Outcome) (reply : Reply) → closed ≡ false → is_shown stand.state group ≡ false
    → IsValid (asked_of plant stand.state group) outcome
    → IsAllowedWhere closed false plant stand
    (Publish stand.state.latest.number group outcome) reply → reply ≡ Shown
allowed-where true plant limit stand group outcome reply is_open unshown valid is = absurd (cc)
allowed-where false plant limit stand group outcome reply is_open unshown valid is =
    publish-where _ _ _ plant stand.state group outcome reply (grind (arith, nat_tests))
    (grind (arith, nat_tests)) unshown valid is

-- a valid verdict of the latest version is shown, where none is shown of the group yet
pub published-shown : (plant : Parts) (limit : ℕ) (stand : Stand) (group : ℕ) (outcome : Outcome)
    (reply : Reply) → stand.state.is_closed ≡ false → is_shown stand.state group ≡ false
    → IsValid (asked_of plant stand.state group) outcome
    → IsAllowed plant limit stand (Publish stand.state.latest.number group outcome) reply
    → reply ≡ Shown
published-shown plant limit stand group outcome reply is_open unshown valid allowed =
    allowed-where stand.state.is_closed plant limit stand group outcome reply is_open unshown valid
    allowed

-- the state after it
after-verdict : (plant : Parts) (state : State) (call : Call) (reply : Reply)
    (group : ℕ) (outcome : Outcome) → call ≡ Publish state.latest.number group outcome
    → reply ≡ Shown
    → after_call plant state call reply ≡ with_verdict state group
    (record { version = state.latest.number; holds = holds outcome })
after-verdict plant state call reply group outcome is shown =
    ap (λ (c : Call). after_call plant state c reply) is
    ∙ ap (λ (r : Reply). after_call plant state (Publish state.latest.number group outcome) r) shown

-- ---- the verdicts of all groups

-- the groups below this one have verdicts of the latest version, and no other has
pub record PublishedBelow (old core : CoreView) (group : ℕ) : Type 0 where
  pub verdicts : List Entry
  pub history : core ≡ record old { history = old.history ++ verdicts }
  pub count : length verdicts ≡ group
  pub each : EachVerdict (state_of old).latest.number 0 verdicts
  pub latest : (state_of core).latest.number ≡ (state_of old).latest.number
  pub is_open : (state_of core).is_closed ≡ false
  pub below : (k : ℕ) → k < group → is_shown (state_of core) k ≡ true
  pub above : (k : ℕ) → k < length old.plant.groups.items → group ≤ k
      → is_shown (state_of core) k ≡ false

pub published-none : (old : CoreView) → (state_of old).is_closed ≡ false
    → NoneIsShown old.plant (state_of old) → PublishedBelow old old 0
published-none old is_open none = record {
  verdicts = [];
  history = ap (λ (h : List Entry). record old { history = h }) (sym (append-nil old.history));
  count = refl;
  each = tt;
  latest = refl;
  is_open = is_open;
  below = λ k less. absurd (omega (arith, less));
  above = λ k less from. none k less;
}

each-more : (version first : ℕ) (verdicts : List Entry) (entry : Entry)
    → EachVerdict version first verdicts → IsVerdictOn version (first + length verdicts) entry
    → EachVerdict version first (verdicts ++ entry ∷ [])
each-more version first [] entry each last =
    (subst (λ (g : ℕ). IsVerdictOn version g entry) (omega arith) last, tt)
each-more version first (verdict ∷ verdicts) entry each last = (
  each.0,
  each-more version (first + 1) verdicts entry each.1
      (subst (λ (g : ℕ). IsVerdictOn version g entry) (omega arith) last),
)

shown-at : (state : State) (group : ℕ) (holds : Bool) → group < length state.shown
    → is_shown (with_verdict state group
    (record { version = state.latest.number; holds = holds })) group ≡ true
shown-at state group holds within =
    let verdict : Verdict = record { version = state.latest.number; holds = holds } in
    ap (is_about state.latest.number)
    (get_or-set_same state.shown group (Some verdict) None within)
    ∙ grind (arith, nat_tests)

shown-beside : (state : State) (group other : ℕ) (verdict : Verdict) → ¬ (other ≡ group)
    → is_shown (with_verdict state group verdict) other ≡ is_shown state other
shown-beside state group other verdict apart =
    ap (is_about state.latest.number)
    (get_or-set_other state.shown group other (Some verdict) None apart)

-- one more
pub published-more : (old core new : CoreView) (group : ℕ) → PublishedBelow old core group
    → group < length old.plant.groups.items → length old.plant.groups.items ≤ MOST_GROUPS
    → AddsVerdict core new group → PublishedBelow old new (group + 1)
published-more old core new group so_far within few adds =
    let plant = old.plant in
    let number = (state_of core).latest.number in
    let entry = adds.entry in
    let outcome = adds.verdict.outcome in
    let call : entry.call ≡ Publish number group outcome =
    ap (λ (a : Asked). a.1) adds.verdict.asked in
    let verdict : Verdict = record { version = number; holds = holds outcome } in
    let after : state_of new ≡ with_verdict (state_of core) group verdict =
    ap (λ (m : CoreView). state_of m) adds.history
    ∙ ap (λ (s : Stand). s.state) (stand_after-push core.plant core.history entry)
    ∙ after-verdict core.plant (state_of core) entry.call entry.reply group outcome call
    adds.verdict.shown in
    let room : group < length (state_of core).shown =
    omega (arith, within, few, shown_kept core.plant core.history) in
    let same_shown = λ (k : ℕ). ap (λ (s : State). is_shown s k) after in
    record {
      verdicts = so_far.verdicts ++ entry ∷ [];
      history = adds.history
          ∙ ap (λ (m : CoreView). record m { history = m.history ++ entry ∷ [] }) so_far.history
          ∙ ap (λ (h : List Entry). record old { history = h })
          (append_assoc old.history so_far.verdicts (entry ∷ []));
      count = omega (arith, length-append so_far.verdicts (entry ∷ []), so_far.count);
      each = each-more (state_of old).latest.number 0 so_far.verdicts entry so_far.each
          (subst (λ (g : ℕ). IsVerdictOn (state_of old).latest.number g entry)
          (omega (arith, so_far.count))
          (subst (λ (n : ℕ). IsVerdictOn n group entry) so_far.latest adds.verdict));
      latest = ap (λ (s : State). s.latest.number) after ∙ so_far.latest;
      is_open = ap (λ (s : State). s.is_closed) after ∙ so_far.is_open;
      below = λ k less. elim (cases_lt k group) [
        | inl lower ↦ same_shown k ∙ shown-beside (state_of core) group k verdict
            (λ e. absurd (omega (arith, lower, e))) ∙ so_far.below k lower
        | inr from ↦
            subst (λ (j : ℕ). is_shown (state_of new) j ≡ true) (omega (arith, less, from))
            (same_shown group ∙ shown-at (state_of core) group (holds outcome) room)
      ];
      above = λ k less from. same_shown k ∙ shown-beside (state_of core) group k verdict
          (λ e. absurd (omega (arith, from, e))) ∙ so_far.above k less (omega (arith, from));
    }

-- all of them
pub published-all : (old core : CoreView) (group : ℕ) → PublishedBelow old core group
    → group ≡ length old.plant.groups.items → AddsVerdicts old core
published-all old core group below all = record {
  verdicts = below.verdicts;
  history = below.history;
  are = record { one_each = below.count ∙ all; each = below.each };
  running = record {
    is_open = below.is_open;
    current = λ k less. below.below k (omega (
      arith,
      all,
      ap (λ (m : CoreView). length m.plant.groups.items) below.history,
      less,
    ));
  };
}

-- or the first of them, where memory ran out
pub silent-below : (old core new : CoreView) (group : ℕ) → PublishedBelow old core group
    → new ≡ core → AddsSilent old new
silent-below old core new group below same =
    let silent = silent-each old.plant (state_of old).latest.number 0 below.verdicts below.each in
    record {
      verdicts = below.verdicts;
      history = same ∙ below.history;
      of_session = silent.of_session;
      no_frames = silent.commands;
    }
