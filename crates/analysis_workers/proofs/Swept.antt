-- The verdicts of the sweep: each is shown, and after those of all groups the board is current.
use Rattle.std.proofs.Common.{◌≡◌, ℕ, ◌+◌, ◌<◌, ◌≤◌, List, [], ◌∷◌, ◌++◌, length, get_or, take}
use Rattle.std.proofs.Common.{Bool, true, false, cond, Option, None, Some, refl, sym, ap, subst}
use Rattle.std.proofs.Common.{◌∙◌, append_assoc, arith, inl, inr}
use Rattle.std.proofs.lemmas.Bool.Decides.{nat_tests}
use Rattle.std.proofs.lemmas.Bool.{cases_lt}
use Rattle.std.proofs.Math.ListN.{get_or-map}
use Rattle.std.proofs.lemmas.List.{append-nil, get_or-set_other, get_or-set_same, get_or-take}
use Rattle.certificate.specs.Outcomes.{IsValid}
use Rattle.certificate.specs.declared.outcome.Outcome.{Outcome}
use Rattle.plant_model.specs.Versions.{Version}
use Rattle.plant_model.specs.declared.board.Cells.{Cells}
use Rattle.plant_model.specs.declared.board.Cell.TheVariants.{Pending}
use Rattle.plant_model.specs.declared.limits.TheConstants.{MOST_GROUPS}
use Rattle.plant_model.specs.declared.plant.Parts.{Parts}
use Rattle.plant_core.specs.Board.{IsJudged, IsPublishWhere, asked_of, cell_of, cells_of, holds}
use Rattle.plant_core.specs.Board.{is_about, is_shown, verdict_of, with_verdict}
use Rattle.plant_core.specs.Machine.{IsAllowed, IsAllowedWhere, Stand, after_call, is_answer}
use Rattle.plant_core.specs.Machine.{stand_after, state_after}
use Rattle.plant_core.specs.declared.call.Call.{Call}
use Rattle.plant_core.specs.declared.call.Call.TheVariants.{Publish}
use Rattle.plant_core.specs.declared.call.Entry.{Entry}
use Rattle.plant_core.specs.declared.call.Reply.{Reply}
use Rattle.plant_core.specs.declared.call.Reply.TheVariants.{Shown, Refused}
use Rattle.plant_core.specs.declared.state.State.{State}
use Rattle.plant_core.specs.declared.state.Verdict.{Verdict}
use Rattle.plant_core.proofs.Histories.{stand_after-push}
use Rattle.plant_core.proofs.Verdicts.{shown_kept}
use Rattle.plant_book.specs.Books.{BookShown, IsAtRest}
use Rattle.plant_book.specs.Books.{BookView, IsOf}
use Rattle.plant_book.specs.Calls.{Passes, entry_for, with_entries}
use Rattle.plant_book.specs.declared.served.Served.{Served}
use Rattle.analysis_workers.specs.Sweeps.{AddsShown, AreCurrent, AreShownBetween, IsOpen, IsShownOn}
use Rattle.analysis_workers.specs.Sweeps.{Sweeps, SweepsGroup, is_current_cell, state_seen}
use Rattle.analysis_workers.specs.Verdicts.{IsValidFor, PublishesVerdict}

-- ---- a verdict of the latest version

judged-shown : (plant : Parts) (state : State) (group : ℕ) (outcome : Outcome) (reply : Reply)
    → IsValid (asked_of plant state group) outcome
    → IsJudged (asked_of plant state group) outcome reply → reply ≡ Shown
judged-shown plant state group outcome Shown valid judged = refl
judged-shown plant state group outcome (Refused place) valid judged =
    absurd (judged.fails (valid place))
judged-shown plant state group outcome reply valid judged = absurd judged

publish-where : (past before there : Bool) (plant : Parts) (state : State) (group : ℕ)
    (outcome : Outcome) (reply : Reply) → past ≡ false → before ≡ false → there ≡ false
    → IsValid (asked_of plant state group) outcome
    → IsPublishWhere past before there plant state group outcome reply → reply ≡ Shown
publish-where true before there plant state group outcome reply one two three valid is = absurd (cc)
publish-where false true there plant state group outcome reply one two three valid is =
    absurd (cc)
publish-where false false true plant state group outcome reply one two three valid is = absurd (cc)
publish-where false false false plant state group outcome reply one two three valid is =
    judged-shown plant state group outcome reply valid is

allowed-where : (closed : Bool) (plant : Parts) (stand : Stand) (group : ℕ)
    (outcome : Outcome) (reply : Reply) → closed ≡ false → is_shown stand.state group ≡ false
    → IsValid (asked_of plant stand.state group) outcome
    → IsAllowedWhere closed false plant stand
    (Publish stand.state.latest.number group outcome) reply → reply ≡ Shown
allowed-where true plant stand group outcome reply is_open unshown valid is = absurd (cc)
allowed-where false plant stand group outcome reply is_open unshown valid is =
    publish-where _ _ _ plant stand.state group outcome reply (grind (arith, nat_tests))
    (grind (arith, nat_tests)) unshown valid is

-- where it is valid and none is shown of the group yet, it is shown
pub valid-shown : (plant : Parts) (limit : ℕ) (stand : Stand) (group : ℕ) (outcome : Outcome)
    (reply : Reply) → stand.state.is_closed ≡ false → is_shown stand.state group ≡ false
    → IsValid (asked_of plant stand.state group) outcome
    → IsAllowed plant limit stand (Publish stand.state.latest.number group outcome) reply
    → reply ≡ Shown
valid-shown plant limit stand group outcome reply is_open unshown valid allowed =
    allowed-where stand.state.is_closed plant stand group outcome reply is_open unshown valid
    allowed

-- the state after it
after-verdict : (plant : Parts) (state : State) (call : Call) (reply : Reply)
    (group : ℕ) (outcome : Outcome) → call ≡ Publish state.latest.number group outcome
    → reply ≡ Shown
    → after_call plant state call reply ≡ with_verdict state group
    (record { version = state.latest.number; holds = holds outcome })
after-verdict plant state call reply group outcome is shown =
    ap (λ (c : Call). after_call plant state c reply) is
    ∙ ap (λ (r : Reply). after_call plant state (Publish state.latest.number group outcome) r) shown

shown-at : (state : State) (group : ℕ) (holds : Bool) → group < length state.shown
    → is_shown (with_verdict state group
    (record { version = state.latest.number; holds = holds })) group ≡ true
shown-at state group holds within =
    let verdict : Verdict = record { version = state.latest.number; holds = holds } in
    ap (is_about state.latest.number)
    (get_or-set_same state.shown group (Some verdict) None within)
    ∙ grind (arith, nat_tests)

shown-beside : (state : State) (group other : ℕ) (verdict : Verdict) → ¬ (other ≡ group)
    → is_shown (with_verdict state group verdict) other ≡ is_shown state other
shown-beside state group other verdict apart =
    ap (is_about state.latest.number)
    (get_or-set_other state.shown group other (Some verdict) None apart)

-- ---- the root alone

-- while no pass is away the root's turn shows what it has seen
pub root-passes : (old new : BookShown) → old.shown.caller ≡ 0 → old.shown.away ≡ 0
    → Passes old new → new ≡ old
root-passes old new root alone passes =
    passes.pass ∙ λ i. record old {
      shown = record old.shown { seen = passes.turn.alone root alone i };
    }

-- its verdict of the latest version is its next entry, and it is shown
pub adds-shown : (old new : BookShown) (version : Version) (group : ℕ) (served : Served)
    → old.shown.caller ≡ 0 → old.shown.away ≡ 0 → IsOpen old
    → is_shown (state_seen old) group ≡ false → version ≡ (state_seen old).latest
    → PublishesVerdict old new version group served → AddsShown old new group
adds-shown old new version group served root alone is_open unshown is publishes =
    let plant = old.shown.base.plant in
    let limit = old.shown.base.limit in
    let state = state_seen old in
    let stand = stand_after plant old.shown.seen in
    let outcome = publishes.outcome in
    let serves = publishes.serves in
    let before = serves.turn.alone root alone in
    let valid : IsValid (asked_of plant state group) outcome =
    subst (λ (v : Version). IsValidFor plant v group outcome) is publishes.valid in
    let allowed : IsAllowed plant limit stand (Publish state.latest.number group outcome)
    served.reply = subst (λ (v : Version).
    IsAllowed plant limit stand (Publish v.number group outcome) served.reply) is
    (subst (λ (h : List Entry). IsAllowed plant limit (stand_after plant h)
    (Publish version.number group outcome) served.reply) before serves.allowed) in
    let shown = valid-shown plant limit stand group outcome served.reply is_open unshown valid
    allowed in
    let entry : Entry = record {
      caller = 0;
      call = Publish state.latest.number group outcome;
      reply = served.reply;
    } in
    let more : entry_for old.shown.caller (Publish version.number group outcome) served.reply
    ≡ entry ∷ [] =
    (λ i. entry_for (root i) (Publish (is i).number group outcome) served.reply)
    ∙ ap (λ (b : Bool). cond b (entry ∷ []) []) (ap is_answer shown) in
    record {
      entry = entry;
      pass = serves.pass ∙ (λ i. with_entries old (before i) (more i));
      verdict = record { outcome = outcome; own = refl; call = refl; shown = shown };
      rest = serves.rest;
    }

-- ---- the groups so far

-- the cells of the groups below this one are current, by verdicts that are shown
pub record SweptBelow (old now : BookShown) (group : ℕ) : Type 0 where
  pub verdicts : List Entry
  pub pass : now ≡ with_entries old old.shown.seen verdicts
  pub shown : AreShownBetween (state_seen old).latest.number 0 group verdicts
  pub latest : (state_seen now).latest ≡ (state_seen old).latest
  pub is_open : IsOpen now
  pub rest : IsAtRest now.shown
  pub below : (k : ℕ) → k < group → is_shown (state_seen now) k ≡ true

between-wider : (version first last : ℕ) (entries : List Entry)
    → AreShownBetween version first last entries
    → AreShownBetween version first (last + 1) entries
between-wider version first last [] within = omega (arith, within)
between-wider version first last (entry ∷ entries) are =
    (are.0, are.1, are.2, between-wider version (are.0 + 1) last entries are.3)

between-more : (version first last : ℕ) (entries : List Entry) (entry : Entry)
    → AreShownBetween version first last entries → IsShownOn version last entry
    → AreShownBetween version first (last + 1) (entries ++ entry ∷ [])
between-more version first last [] entry within is = (last, within, is, omega arith)
between-more version first last (one ∷ entries) entry are is =
    (are.0, are.1, are.2, between-more version (are.0 + 1) last entries entry are.3 is)

between-widest : (version first last most : ℕ) (entries : List Entry) → last ≤ most
    → AreShownBetween version first last entries → AreShownBetween version first most entries
between-widest version first last most [] less within = omega (arith, less, within)
between-widest version first last most (entry ∷ entries) less are =
    (are.0, are.1, are.2, between-widest version (are.0 + 1) last most entries less are.3)

pub swept-none : (old : BookShown) → IsOpen old → IsAtRest old.shown → SweptBelow old old 0
swept-none old is_open rest = record {
  verdicts = [];
  pass = λ i. record old {
    shown = record old.shown {
      seen = sym (append-nil old.shown.seen) i;
      mine = sym (append-nil old.shown.mine) i;
    };
  };
  shown = omega arith;
  latest = refl;
  is_open = is_open;
  rest = rest;
  below = λ k less. absurd (omega (arith, less));
}

-- a group whose cell is current
pub swept-same : (old now : BookShown) (group : ℕ) → SweptBelow old now group
    → is_shown (state_seen now) group ≡ true → SweptBelow old now (group + 1)
swept-same old now group swept current = record {
  verdicts = swept.verdicts;
  pass = swept.pass;
  shown = between-wider (state_seen old).latest.number 0 group swept.verdicts swept.shown;
  latest = swept.latest;
  is_open = swept.is_open;
  rest = swept.rest;
  below = λ k less. elim (cases_lt k group) [
    | inl lower ↦ swept.below k lower
    | inr from ↦ subst (λ (j : ℕ). is_shown (state_seen now) j ≡ true)
        (omega (arith, less, from)) current
  ];
}

-- a group with one more verdict
pub swept-more : (old mid new : BookShown) (group : ℕ) → SweptBelow old mid group
    → group < length old.shown.base.plant.groups.items
    → length old.shown.base.plant.groups.items ≤ MOST_GROUPS
    → AddsShown mid new group → SweptBelow old new (group + 1)
swept-more old mid new group swept within few adds =
    let entry = adds.entry in
    let state = state_seen mid in
    let outcome = adds.verdict.outcome in
    let verdict : Verdict = record { version = state.latest.number; holds = holds outcome } in
    let base = ap (λ (p : BookShown). p.shown.base.plant) swept.pass in
    let after : state_seen new ≡ with_verdict state group verdict =
    ap state_seen adds.pass
    ∙ ap (λ (s : Stand). s.state)
    (stand_after-push mid.shown.base.plant mid.shown.seen entry)
    ∙ after-verdict mid.shown.base.plant state entry.call entry.reply group outcome
    adds.verdict.call adds.verdict.shown in
    let room : group < length state.shown = omega (
      arith,
      within,
      few,
      shown_kept mid.shown.base.plant mid.shown.seen,
    ) in
    let same_shown = λ (k : ℕ). ap (λ (s : State). is_shown s k) after in
    record {
      verdicts = swept.verdicts ++ entry ∷ [];
      pass = adds.pass
          ∙ ap (λ (p : BookShown). with_entries p p.shown.seen (entry ∷ [])) swept.pass
          ∙ (λ i. record old {
            shown = record old.shown {
              seen = append_assoc old.shown.seen swept.verdicts (entry ∷ []) i;
              mine = append_assoc old.shown.mine swept.verdicts (entry ∷ []) i;
            };
          });
      shown = between-more (state_seen old).latest.number 0 group swept.verdicts entry swept.shown
          (subst (λ (n : ℕ). IsShownOn n group entry) (ap (λ v. v.number) swept.latest)
          adds.verdict);
      latest = ap (λ (s : State). s.latest) after ∙ swept.latest;
      is_open = ap (λ (s : State). s.is_closed) after ∙ swept.is_open;
      rest = adds.rest;
      below = λ k less. elim (cases_lt k group) [
        | inl lower ↦ same_shown k ∙ shown-beside state group k verdict
            (λ e. absurd (omega (arith, lower, e))) ∙ swept.below k lower
        | inr from ↦
            subst (λ (j : ℕ). is_shown (state_seen new) j ≡ true) (omega (arith, less, from))
            (same_shown group ∙ shown-at state group (holds outcome) room)
      ];
    }

pub swept-one : (old mid new : BookShown) (group : ℕ) → SweptBelow old mid group
    → group < length old.shown.base.plant.groups.items
    → length old.shown.base.plant.groups.items ≤ MOST_GROUPS
    → SweepsGroup mid new group → SweptBelow old new (group + 1)
swept-one old mid new group swept within few (inl same) =
    subst (λ (p : BookShown). SweptBelow old p (group + 1)) (sym same.0)
    (swept-same old mid group swept same.1)
swept-one old mid new group swept within few (inr adds) =
    swept-more old mid new group swept within few adds

-- what was swept so far is a part of a sweep
pub swept-part : (old now : BookShown) (group : ℕ) → SweptBelow old now group
    → group ≤ length old.shown.base.plant.groups.items → Sweeps old now
swept-part old now group swept within = record {
  verdicts = swept.verdicts;
  pass = swept.pass;
  shown = between-widest (state_seen old).latest.number 0 group
      (length old.shown.base.plant.groups.items) swept.verdicts within swept.shown;
  latest = swept.latest;
  is_open = swept.is_open;
  rest = swept.rest;
}

-- all of them
pub swept-all : (old now : BookShown) (group : ℕ) → SweptBelow old now group
    → group ≡ length old.shown.base.plant.groups.items → AreCurrent now
swept-all old now group swept all = λ k less. swept.below k (omega (
  arith,
  all,
  ap (λ (p : BookShown). length p.shown.base.plant.groups.items) swept.pass,
  less,
))

-- ---- the cell of a group

current-about : (latest : ℕ) (verdict : Option Verdict)
    → is_current_cell (cell_of latest verdict) ≡ is_about latest verdict
current-about latest None = refl
current-about latest (Some verdict) = refl

-- the cell is current exactly where its group's verdict is shown
pub current-shown : (plant : Parts) (state : State) (group : ℕ)
    → group < length plant.groups.items
    → is_current_cell (get_or (cells_of plant state).list.items group Pending)
    ≡ is_shown state group
current-shown plant state group within =
    let latest = state.latest.number in
    let places = length plant.groups.items in
    ap is_current_cell (get_or-map (cell_of latest) (take places state.shown) group None
    ∙ ap (cell_of latest) (get_or-take places state.shown group None within))
    ∙ current-about latest (verdict_of state group)

-- what was found of the cell is so of what the root has seen
pub current-is : (book : BookView) (old mid : BookShown) (cells : Cells) (group : ℕ)
    (result : Bool) → IsOf book old → mid ≡ old → group < length book.base.plant.groups.items
    → cells ≡ cells_of book.base.plant (state_after book.base.plant mid.shown.seen)
    → result ≡ is_current_cell (get_or cells.list.items group Pending)
    → is_shown (state_seen old) group ≡ result
current-is book old mid cells group result of same within cells_is result_is =
    let plant = book.base.plant in
    let state = state_after plant mid.shown.seen in
    (λ i. is_shown (state_after (of.base i).plant (sym same i).shown.seen) group)
    ∙ sym (current-shown plant state group within)
    ∙ ap (λ (c : Cells). is_current_cell (get_or c.list.items group Pending)) (sym cells_is)
    ∙ sym result_is
