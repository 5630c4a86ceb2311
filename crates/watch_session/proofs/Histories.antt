-- A history of two streams, of the session and of workers, by its callers.
use Rattle.std.proofs.Common.{◌≡◌, ◌≢◌, ℕ, suc, zero, ◌+◌, ◌<◌, ◌≤◌, List, [], ◌++◌, length, map}
use Rattle.std.proofs.Common.{true, false, sym, ◌∙◌, ap, ap₂, subst, arith}
use Rattle.std.specs.List.{All}
use Rattle.std.proofs.lemmas.List.{append-nil}
use Rattle.std.proofs.lemmas.List.Elements.{All-append, All-filter, All-weaker}
use Rattle.frame.specs.declared.item.Item.{Item}
use Rattle.plant_model.specs.declared.plant.Parts.{Parts}
use Rattle.plant_core.specs.Machine.{is_event}
use Rattle.plant_core.specs.declared.call.Call.{Call}
use Rattle.plant_core.specs.declared.call.Call.TheVariants as calls
use Rattle.plant_core.specs.declared.call.Entry.{Entry}
use Rattle.plant_core.specs.declared.call.Reply.{Reply}
use Rattle.analysis_workers.specs.Verdicts.{ArePublished, IsPublish}
use Rattle.log_text.specs.Commands.{call_frames, command_text}
use Rattle.dp_sessions.specs.Sessions.{events_in}
use Rattle.watch_session.specs.Asked.{call_for}
use Rattle.watch_session.specs.Threads.{calls_of}
use Rattle.watch_session.proofs.Calls.{all-asked, as-many, event-asked, open-asked, open-published}
use Rattle.watch_session.proofs.Calls.{silent-asked, silent-published, uncounted-published}
use Rattle.watch_session.proofs.Entries.{by, by-append, by-others, each-caller, each-own}
use Rattle.watch_session.proofs.Entries.{events-all, events-both}

-- the entries of callers 1 and 2 are these, and those of the session and of the workers are published
-- verdicts
pub record IsHistory (workers : ℕ) (control orders history : List Entry) : Type 0 where
  pub callers : All (λ e. e.caller < workers + 3) history
  pub one : by 1 history ≡ control
  pub two : by 2 history ≡ orders
  pub session : ArePublished (by 0 history)
  pub work : (n : ℕ) → 3 ≤ n → n < workers + 3 → ArePublished (by n history)

module _ (workers : ℕ) (control orders history : List Entry)
    (is : IsHistory workers control orders history) where
  of-caller : (P : Entry → Type 0) → All P control → All P orders
      → ((entries : List Entry) → ArePublished entries → All P entries)
      → (n : ℕ) → n < workers + 3 → All P (by n history)
  of-caller P one two published zero below = published (by 0 history) is.session
  of-caller P one two published (suc zero) below = subst (All P) (sym is.one) one
  of-caller P one two published (suc (suc zero)) below = subst (All P) (sym is.two) two
  of-caller P one two published (suc (suc (suc n))) below =
      published (by (suc (suc (suc n))) history)
      (is.work (suc (suc (suc n))) (omega arith) below)

  -- what holds of the entries of callers 1 and 2, and of published verdicts, holds of all
  pub of-all : (P : Entry → Type 0) → All P control → All P orders
      → ((entries : List Entry) → ArePublished entries → All P entries) → All P history
  of-all P one two published =
      each-caller P (workers + 3) history is.callers (of-caller P one two published)

  pub own-one : All (λ e. e.caller ≡ 1) control
  own-one = subst (All (λ (e : Entry). e.caller ≡ 1)) is.one (each-own 1 history)

  pub own-two : All (λ e. e.caller ≡ 2) orders
  own-two = subst (All (λ (e : Entry). e.caller ≡ 2)) is.two (each-own 2 history)

  module _ (asked ordered : List Item) (control_is : calls_of control ≡ map (call_for 1) asked)
      (orders_are : calls_of orders ≡ map (call_for 2) ordered) where
    -- no entry ends the session
    pub open-history : All (λ e. e.call ≢ calls.Close) history
    open-history = of-all (λ (e : Entry). e.call ≢ calls.Close) (open-asked 1 control asked control_is)
        (open-asked 2 orders ordered orders_are) open-published

    silent-orders : (plant : Parts) → All (λ e. command_text plant e ≡ []) orders
    silent-orders plant =
        let Q : Call → Type 0 = λ call. (reply : Reply) → call_frames plant call reply ≡ [] in
        All-weaker (λ (e : Entry). Q e.call) (λ (e : Entry). command_text plant e ≡ [])
        (λ e silent. silent e.reply) orders
        (all-asked Q 2 orders ordered orders_are (λ item reply. silent-asked plant reply item))

    -- only caller 1 has frames
    pub silent-history : (plant : Parts)
        → All (λ e. e.caller ≢ 1 → command_text plant e ≡ []) history
    silent-history plant =
        let P : Entry → Type 0 = λ e. e.caller ≢ 1 → command_text plant e ≡ [] in
        let silent : Entry → Type 0 = λ e. command_text plant e ≡ [] in
        of-all P
        (All-weaker (λ (e : Entry). e.caller ≡ 1) P (λ e own other. absurd (other own)) control
        own-one)
        (All-weaker silent P (λ e none other. none) orders (silent-orders plant))
        (λ entries published. All-weaker silent P (λ e none other. none) entries
        (silent-published plant entries published))

    -- it has a telegram or a note for each item
    pub events-history : events_in history ≡ length asked + length ordered
    events-history =
        let P : Entry → Type 0 = λ e. e.caller ≢ 1 → e.caller ≢ 2 → is_event e.call ≡ false in
        let counted : Entry → Type 0 = λ e. is_event e.call ≡ false in
        let event : Call → Type 0 = λ call. is_event call ≡ true in
        events-both history (of-all P
        (All-weaker (λ (e : Entry). e.caller ≡ 1) P (λ e own other more. absurd (other own)) control
        own-one)
        (All-weaker (λ (e : Entry). e.caller ≡ 2) P (λ e own other more. absurd (more own)) orders
        own-two)
        (λ entries published. All-weaker counted P (λ e none other more. none) entries
        (uncounted-published entries published)))
        ∙ ap₂ (λ (a b : ℕ). a + b)
        (ap events_in is.one
        ∙ events-all control (all-asked event 1 control asked control_is (event-asked 1))
        ∙ as-many 1 control asked control_is)
        (ap events_in is.two
        ∙ events-all orders (all-asked event 2 orders ordered orders_are (event-asked 2))
        ∙ as-many 2 orders ordered orders_are)

  -- with more published verdicts of the session it is still of these callers
  pub history-more : (verdicts : List Entry) → ArePublished verdicts
      → All (λ e. e.caller ≡ 0) verdicts
      → IsHistory workers control orders (history ++ verdicts)
  history-more verdicts published own = record {
    callers = All-append (λ (e : Entry). e.caller < workers + 3) history verdicts is.callers
        (All-weaker (λ (e : Entry). e.caller ≡ 0) (λ (e : Entry). e.caller < workers + 3)
        (λ e zero_is. omega (arith, zero_is)) verdicts own);
    one = none-of 1 (λ e. cc) ∙ is.one;
    two = none-of 2 (λ e. cc) ∙ is.two;
    session = subst ArePublished (sym (by-append 0 history verdicts))
        (All-append (λ (e : Entry). IsPublish e.call) (by 0 history) (by 0 verdicts) is.session
        (All-filter _ (λ (e : Entry). IsPublish e.call) verdicts published));
    work = λ n least below. subst ArePublished
        (sym (none-of n (λ e. absurd (omega (arith, e, least))))) (is.work n least below);
  }
    where
      none-of : (n : ℕ) → 0 ≢ n → by n (history ++ verdicts) ≡ by n history
      none-of n other = by-append n history verdicts
          ∙ ap (λ (more : List Entry). by n history ++ more) (by-others n verdicts own other)
          ∙ append-nil (by n history)
