-- The history of a session stands for its two streams.
use Rattle.std.proofs.Common.{◌≡◌, ◌≢◌, ℕ, ◌+◌, ◌<◌, ◌≤◌, List, [], ◌∷◌, ◌++◌, map}
use Rattle.std.proofs.Common.{refl, ◌∙◌, ap, arith}
use Rattle.std.specs.List.{All}
use Rattle.std.proofs.lemmas.List.{append-nil}
use Rattle.std.proofs.lemmas.List.Elements.{All-append, All-cons, All-nil, All-weaker}
use Rattle.dp_io.specs.Shown.{HasRisen, Shown}
use Rattle.plant_model.specs.declared.limits.TheConstants.{MOST_ENTRIES}
use Rattle.plant_model.specs.declared.plant.Parts.{Parts}
use Rattle.plant_core.specs.Machine.{IsLegal}
use Rattle.plant_core.specs.declared.call.Call.TheVariants as calls
use Rattle.plant_core.specs.declared.call.Entry.{Entry}
use Rattle.plant_book.specs.Books.{BookShown}
use Rattle.analysis_workers.specs.Verdicts.{IsPublish}
use Rattle.dp_sessions.specs.Sessions.{Asked, MayEnd, asked, events_in}
use Rattle.dp_sessions.specs.declared.session.Ending.{Ending}
use Rattle.dp_sessions.specs.declared.session.Ending.TheVariants.{End, Fault, Long, Full, Write}
use Rattle.watch_session.specs.Asked.{call_for}
use Rattle.watch_session.specs.Loops.{MayStop, TakesOrders, TakesStream}
use Rattle.watch_session.specs.Threads.{StandsForPart, StandsForStreams, calls_of}
use Rattle.watch_session.specs.declared.stream.StreamEnd.{StreamEnd}
use Rattle.watch_session.specs.declared.stream.StreamEnd.TheVariants as halts
use Rattle.watch_session.proofs.Entries.{by, by-append, by-others}
use Rattle.watch_session.proofs.Histories.{IsHistory, of-all, own-one, own-two}

-- ---- one stream

abbrev ending_in : StreamEnd → Ending
ending_in (halts.Ended ending) = ending
ending_in end = End

pub same-ending : (one other : Ending) → halts.Ended one ≡ halts.Ended other → one ≡ other
same-ending one other is = ap ending_in is

may-end : (source out later : Shown) (bytes : List ℕ) (pass : BookShown) (history : List Entry)
    (ending : Ending) → MayStop source out bytes pass (halts.Ended ending)
    → (ending ≡ Full → events_in history ≡ MOST_ENTRIES) → (ending ≡ Write → HasRisen later)
    → MayEnd source later bytes history ending
may-end source out later bytes pass history End stops full write = stops
may-end source out later bytes pass history Fault stops full write = stops
may-end source out later bytes pass history Long stops full write = stops
may-end source out later bytes pass history Full stops full write = full refl
may-end source out later bytes pass history Write stops full write = write refl

-- the entries of its caller stand for it
pub stands-part : (caller : ℕ) (source out later : Shown) (ending : Ending) (pass : BookShown)
    (history : List Entry) → TakesStream (halts.Ended ending) source out pass
    → pass.shown.caller ≡ caller → by caller history ≡ pass.shown.mine
    → (ending ≡ Full → events_in history ≡ MOST_ENTRIES) → (ending ≡ Write → HasRisen later)
    → StandsForPart caller source later ending history
stands-part caller source out later ending pass history taken number own full write = record {
  bytes = taken.bytes;
  answered = taken.answered;
  given = taken.given;
  ends = may-end source out later taken.bytes pass history ending taken.ends full write;
  of_bytes = taken.of_bytes;
  in_turn = taken.in_turn;
  no_fault = λ other. taken.no_fault (λ e. other (same-ending ending Fault e));
  answers = ap calls_of own ∙ taken.answers
      ∙ ap (λ (n : ℕ). map (call_for n) taken.answered) number;
}

-- the operators' stream didn't end at a write fault
pub never-write : (source : Shown) (ending : Ending) (pass : BookShown)
    → TakesOrders (halts.Ended ending) source pass → ending ≢ Write
never-write source End pass orders is = cc
never-write source Fault pass orders is = cc
never-write source Long pass orders is = cc
never-write source Full pass orders is = cc
never-write source Write pass orders is = orders.never orders.takes.ends

-- ---- the Close

module _ (close : Entry) (is_close : asked close ≡ (0, calls.Close)) where
  own-close : All (λ e. e.caller ≡ 0) (close ∷ [])
  own-close = All-cons (λ (e : Entry). e.caller ≡ 0) close []
      (ap (λ (a : Asked). a.0) is_close) (All-nil (λ (e : Entry). e.caller ≡ 0))

  -- it is by no other caller
  pub by-closed : (n : ℕ) (front : List Entry) → 0 ≢ n → by n (front ++ close ∷ []) ≡ by n front
  by-closed n front other = by-append n front (close ∷ [])
      ∙ ap (λ (more : List Entry). by n front ++ more) (by-others n (close ∷ []) own-close other)
      ∙ append-nil (by n front)

-- ---- both streams

pub stands-both : (plant : Parts) (workers : ℕ) (sensors operators out later : Shown)
    (one other : Ending) (control orders : BookShown) (front : List Entry) (close : Entry)
    → IsLegal plant MOST_ENTRIES (front ++ close ∷ [])
    → TakesStream (halts.Ended one) sensors out control → control.shown.caller ≡ 1
    → TakesOrders (halts.Ended other) operators orders → orders.shown.caller ≡ 2
    → IsHistory workers control.shown.mine orders.shown.mine front
    → asked close ≡ (0, calls.Close)
    → (one ≡ Full → events_in (front ++ close ∷ []) ≡ MOST_ENTRIES)
    → (other ≡ Full → events_in (front ++ close ∷ []) ≡ MOST_ENTRIES)
    → (one ≡ Write → HasRisen later)
    → StandsForStreams plant workers sensors operators later one other (front ++ close ∷ [])
stands-both plant workers sensors operators out later one other control orders front close legal taken
    first ordered second is is_close full full_orders write =
    let no_write = never-write operators other orders ordered in
    let callers : Entry → Type 0 = λ e. e.caller < workers + 3 in
    let session : Entry → Type 0 = λ e. e.caller ≡ 0 → IsPublish e.call in
    let work : Entry → Type 0 = λ e. 3 ≤ e.caller → IsPublish e.call in
    let publish : Entry → Type 0 = λ e. IsPublish e.call in
    let mine = control.shown.mine in
    let theirs = orders.shown.mine in
    let by_zero : close.caller ≡ 0 = ap (λ (a : Asked). a.0) is_close in
    record {
      legal = legal;
      control = stands-part 1 sensors out later one control (front ++ close ∷ []) taken first
          (by-closed close is_close 1 front (λ e. cc) ∙ is.one) full write;
      orders = stands-part 2 operators ordered.out later other orders (front ++ close ∷ [])
          ordered.takes second (by-closed close is_close 2 front (λ e. cc) ∙ is.two) full_orders
          (λ e. absurd (no_write e));
      no_frames = no_write;
      front = front;
      last = close;
      is = refl;
      close = is_close;
      session = of-all workers mine theirs front is session
          (All-weaker (λ (e : Entry). e.caller ≡ 1) session
          (λ e own zero_is. absurd (omega (arith, own, zero_is))) mine
          (own-one workers mine theirs front is))
          (All-weaker (λ (e : Entry). e.caller ≡ 2) session
          (λ e own zero_is. absurd (omega (arith, own, zero_is))) theirs
          (own-two workers mine theirs front is))
          (λ entries published. All-weaker publish session (λ e some zero_is. some) entries published);
      work = All-append work front (close ∷ [])
          (of-all workers mine theirs front is work
          (All-weaker (λ (e : Entry). e.caller ≡ 1) work
          (λ e own least. absurd (omega (arith, own, least))) mine
          (own-one workers mine theirs front is))
          (All-weaker (λ (e : Entry). e.caller ≡ 2) work
          (λ e own least. absurd (omega (arith, own, least))) theirs
          (own-two workers mine theirs front is))
          (λ entries published. All-weaker publish work (λ e some least. some) entries published))
          (All-cons work close [] (λ least. absurd (omega (arith, by_zero, least))) (All-nil work));
      callers = All-append callers front (close ∷ []) is.callers
          (All-cons callers close [] (omega (arith, by_zero)) (All-nil callers));
    }
