-- Seats that are made, and seats before and after their work.
use Rattle.std.proofs.Common.{◌≡◌, ℕ, ◌+◌, List, [], ◌∷◌, ◌++◌, length, map, sym, ◌∙◌, ap}
use Rattle.std.proofs.Common.{subst, arith, Option, Some, None}
use Rattle.std.specs.List.{All}
use Rattle.std.specs.Option.{IfSome, option_to_list}
use Rattle.std.proofs.lemmas.List.{length-map}
use Rattle.std.proofs.lemmas.List.Elements.{All-append, All-cons, All-head, All-nil, All-tail}
use Rattle.std.proofs.lemmas.List.Elements.{AllZip-push, length_all_zip}
use Rattle.atomic_table.specs.Seated.{TableId}
use Rattle.plant_core.specs.declared.call.Entry.{Entry}
use Rattle.turn_lock.proofs.Lists.{All-prefix}
use Rattle.plant_book.specs.Books.{BookShown, BookView, IsOf}
use Rattle.analysis_workers.specs.Verdicts.{ArePublished}
use Rattle.watch_session.specs.Callers.{AreNumberedFrom}
use Rattle.watch_session.specs.Crews.{AreNewFrom, AreSeatsOf, AreWorked, IsSeatOf, IsWorked}
use Rattle.watch_session.specs.Crews.{ended_at, with_seats}
use Rattle.watch_session.specs.declared.crew.Seat.{Seat}

-- ---- seats that are made

-- the root has given none yet
pub seats-none : (root : BookShown) → root ≡ with_seats root 0
seats-none root =
    let displays : root.displays ≡ root.displays + 0 = omega arith in
    let next : root.shown.next ≡ root.shown.next + 0 = omega arith in
    let away : root.shown.away ≡ root.shown.away + 0 = omega arith in
    λ i. record root {
      displays = displays i;
      shown = record root.shown { next = next i; away = away i };
    }

-- and one more
pub seats-more : (old mid new : BookShown) (count : ℕ) → mid ≡ with_seats old count
    → new ≡ with_seats mid 1 → new ≡ with_seats old (count + 1)
seats-more old mid new count is one =
    let displays : old.displays + count + 1 ≡ old.displays + (count + 1) = omega arith in
    let next : old.shown.next + count + 1 ≡ old.shown.next + (count + 1) = omega arith in
    let away : old.shown.away + count + 1 ≡ old.shown.away + (count + 1) = omega arith in
    one ∙ ap (λ (p : BookShown). with_seats p 1) is
    ∙ (λ i. record old {
      displays = displays i;
      shown = record old.shown { next = next i; away = away i };
    })

-- the next seat at the end
pub new-more : (n : ℕ) (seats : List Seat) (seat : Seat) → AreNewFrom n seats
    → seat.pass.shown.caller ≡ n + length seats → seat.pass.shown.mine ≡ []
    → AreNewFrom n (seats ++ seat ∷ [])
new-more n [] seat new number none = (number ∙ omega arith, none, tt)
new-more n (first ∷ seats) seat new number none = (
  new.0,
  new.1,
  new-more (n + 1) seats seat new.2 (number ∙ omega arith) none,
)

-- one more of the book and of the queue
pub seats-of-more : (book : BookView) (jobs : TableId) (seats : List Seat) (seat : Seat)
    → AreSeatsOf book jobs seats → IsSeatOf book jobs seat
    → AreSeatsOf book jobs (seats ++ seat ∷ [])
seats-of-more book jobs seats seat are is = All-append (IsSeatOf book jobs) seats (seat ∷ []) are
    (All-cons (IsSeatOf book jobs) seat [] is (All-nil (IsSeatOf book jobs)))

-- ---- seats and their work

-- one more seat at the end
pub worked-more : (all front : List Seat) (seat : Seat) (news : List Seat) (new : Seat)
    → all ≡ front ++ seat ∷ [] → AreWorked front news → IsWorked seat new
    → AreWorked all (news ++ new ∷ [])
worked-more all front seat news new is worked last =
    subst (λ (seats : List Seat). AreWorked seats (news ++ new ∷ [])) (sym is)
    (AllZip-push IsWorked front news seat new worked last)

-- what holds of all seats holds of the last
all-last : (P : Seat → Type 0) (all front : List Seat) (seat : Seat)
    → all ≡ front ++ seat ∷ [] → All P all → P seat
all-last P all front seat is holds = last-of front (subst (All P) is holds)
  where
    last-of : (front : List Seat) → All P (front ++ seat ∷ []) → P seat
    last-of [] holds = All-head P seat [] holds
    last-of (first ∷ front) holds =
        last-of front (All-tail P first (front ++ seat ∷ []) holds)

-- the last seat, where there is one
pub last-is : (P : Seat → Type 0) (all front : List Seat) (last : Option Seat)
    → all ≡ front ++ option_to_list last → All P all → IfSome last P
last-is P all front None is holds = tt
last-is P all front (Some seat) is holds = all-last P all front seat is holds

pub last-at : (all front : List Seat) (last : Option Seat)
    → all ≡ front ++ option_to_list last → IfSome last (λ seat. all ≡ front ++ seat ∷ [])
last-at all front None is = tt
last-at all front (Some seat) is = is

pub before-last : (P : Seat → Type 0) (all front : List Seat) (last : Option Seat)
    → all ≡ front ++ option_to_list last → All P all → All P front
before-last P all front last is holds =
    All-prefix P front all (option_to_list last, sym is) holds

-- ---- after the work

-- the passes are the book's
pub worked-of : (book : BookView) (jobs : TableId) (old new : List Seat) → AreSeatsOf book jobs old
    → AreWorked old new → All (λ seat. IsOf book seat.pass) new
worked-of book jobs [] [] are worked = All-nil (λ (seat : Seat). IsOf book seat.pass)
worked-of book jobs [] (seat ∷ new) are worked = absurd worked
worked-of book jobs (one ∷ old) [] are worked = absurd worked
worked-of book jobs (one ∷ old) (seat ∷ new) are worked =
    let P : Seat → Type 0 = IsSeatOf book jobs in
    let of = (All-head P one old are).pass in
    let is = worked.0.went_on.pass in
    All-cons (λ (s : Seat). IsOf book s.pass) seat new
    (record {
      lock = ap (λ (p : BookShown). p.shown.lock) is ∙ of.lock;
      base = ap (λ (p : BookShown). p.shown.base) is ∙ of.base;
    })
    (worked-of book jobs old new (All-tail P one old are) worked.1)

-- their entries are published verdicts
pub worked-numbered : (n : ℕ) (old new : List Seat) → AreNewFrom n old → AreWorked old new
    → AreNumberedFrom n (map ended_at new)
worked-numbered n [] [] are worked = tt
worked-numbered n [] (seat ∷ new) are worked = absurd worked
worked-numbered n (one ∷ old) [] are worked = absurd worked
worked-numbered n (one ∷ old) (seat ∷ new) are worked =
    let is = worked.0.went_on.pass in
    let mine : seat.pass.shown.mine ≡ worked.0.entries =
    ap (λ (p : BookShown). p.shown.mine) is
    ∙ ap (λ (own : List Entry). own ++ worked.0.entries) are.1 in (
      ap (λ (p : BookShown). p.shown.caller) is ∙ are.0,
      subst ArePublished (sym mine) worked.0.published,
      worked-numbered (n + 1) old new are.2 worked.1,
    )

-- and they are as many
pub worked-count : (old new : List Seat) → AreWorked old new
    → length (map ended_at new) ≡ length old
worked-count old new worked =
    length-map new ended_at ∙ sym (length_all_zip IsWorked old new worked)
