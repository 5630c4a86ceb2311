-- What is kept after one item more.
use Rattle.std.proofs.Common.{◌≡◌, ℕ, ◌+◌, ◌≤◌, List, [], ◌∷◌, ◌++◌, Option, None, refl, sym}
use Rattle.std.proofs.Common.{ap, subst, ◌∙◌, arith, Bool, Result, true, false}
use Rattle.std.proofs.lemmas.List.{append-nil}
use Rattle.std.specs.Option.{option_to_list}
use Rattle.std.specs.Int.{from_bool}
use Rattle.std.specs.Prelude.{if◌then◌else◌}
use Rattle.dp_io.specs.Shown.{Shown}
use Rattle.dp_io.specs.declared.stream.Failed.{Failed}
use Rattle.frame.specs.Frames.{frame_text}
use Rattle.frame.specs.declared.item.Item.{Item}
use Rattle.sensor_vote.specs.Rounds.{StandsFor, is_ending, voted}
use Rattle.sensor_vote.specs.declared.vote.Voted.{Voted}
use Rattle.sensor_vote.specs.declared.reference.Reference.{Reference}
use Rattle.sensor_vote.specs.Steps.{CountsTo, EndsSending, HasHeard}
use Rattle.sensor_vote.specs.Texts.{answer_frame, answer_lines, written_for}
use Rattle.sensor_vote.specs.Texts.{bad_after, bad_in, dropped_in, ended_after, heard, is_dropped}
use Rattle.sensor_vote.specs.Texts.{is_round, references, rounds_in, taken_of}
use Rattle.sensor_vote.specs.declared.heard.Heard.{Heard}
use Rattle.sensor_vote.specs.declared.heard.Heard.TheVariants.{Dropped, Passed, Taken}
use Rattle.sensor_vote.specs.declared.watch.Watch.{Watch}
use Rattle.sensor_vote.proofs.Texts.{bad_in-append, dropped-append, ended-append, references-append}
use Rattle.sensor_vote.proofs.Texts.{rounds-append}

taken-one : (items : List Item) (item : Item) (r : Reference) → heard item ≡ Taken r
    → references (items ++ item ∷ []) ≡ references items ++ r ∷ []
taken-one items item r is =
    references-append items item
    ∙ ap (λ (h : Heard). references items ++ option_to_list (taken_of h)) is

taken-none : (items : List Item) (item : Item) → taken_of (heard item) ≡ None
    → references (items ++ item ∷ []) ≡ references items
taken-none items item none =
    references-append items item
    ∙ ap (λ (place : Option Reference). references items ++ option_to_list place) none
    ∙ append-nil (references items)

dropped-as : (items : List Item) (item : Item) (h : Heard) → heard item ≡ h
    → dropped_in (items ++ item ∷ []) ≡ dropped_in items + (if is_dropped h then 1 else 0)
dropped-as items item h is =
    dropped-append items item
    ∙ ap (λ (one : Heard). dropped_in items + (if is_dropped one then 1 else 0)) is

-- the same references were heard
pub heard-same : (old new : Watch) (items : List Item) (item : Item)
    → taken_of (heard item) ≡ None → new.vote ≡ old.vote → new.bad ≡ old.bad
    → new.rounds ≡ old.rounds → new.ended ≡ old.ended
    → new.dropped ≡ dropped_in (items ++ item ∷ []) → HasHeard old items
    → HasHeard new (items ++ item ∷ [])
heard-same old new items item none vote bad rounds ended dropped has =
    let same = sym (taken-none items item none) in
    record {
      vote = vote ∙ subst (λ (rs : List Reference). StandsFor old.vote rs) same has.vote;
      bad = bad ∙ has.bad ∙ ap bad_in same;
      rounds = rounds ∙ has.rounds ∙ ap rounds_in same;
      ended = ended ∙ has.ended ∙ ap (λ (rs : List Reference). ended_after [] rs) same;
      dropped = dropped;
    }

-- a body that is no reference
pub heard-passed : (watch : Watch) (items : List Item) (item : Item) (body : List ℕ)
    → heard item ≡ Passed body → HasHeard watch items → HasHeard watch (items ++ item ∷ [])
heard-passed watch items item body is has =
    let dropped : dropped_in (items ++ item ∷ []) ≡ dropped_in items + 0 =
    dropped-as items item (Passed body) is in
    heard-same watch watch items item (ap taken_of is) refl refl refl refl
    (omega (arith, has.dropped, dropped)) has

-- an item that is dropped
pub heard-dropped : (old new : Watch) (items : List Item) (item : Item) → heard item ≡ Dropped
    → new.vote ≡ old.vote → new.bad ≡ old.bad → new.rounds ≡ old.rounds
    → new.ended ≡ old.ended → new.dropped ≡ old.dropped + 1 → HasHeard old items
    → HasHeard new (items ++ item ∷ [])
heard-dropped old new items item is vote bad rounds ended more has =
    let dropped : dropped_in (items ++ item ∷ []) ≡ dropped_in items + 1 =
    dropped-as items item Dropped is in
    heard-same old new items item (ap taken_of is) vote bad rounds ended
    (omega (arith, has.dropped, dropped, more)) has

-- a reference that is taken
pub heard-taken : (old new : Watch) (items : List Item) (item : Item) (r : Reference)
    → heard item ≡ Taken r → StandsFor new.vote (references items ++ r ∷ [])
    → new.bad ≡ bad_after old.bad (voted (references items) r)
    → new.rounds ≡ old.rounds + (if is_round (voted (references items) r) then 1 else 0)
    → new.ended ≡ old.ended + (if is_ending (references items) r.moment then 1 else 0)
    → new.dropped ≡ old.dropped → HasHeard old items → HasHeard new (items ++ item ∷ [])
heard-taken old new items item r is vote bad rounds ended same has =
    let rs = references items in
    let more = sym (taken-one items item r is) in
    let dropped : dropped_in (items ++ item ∷ []) ≡ dropped_in items + 0 =
    dropped-as items item (Taken r) is in
    record {
      vote = subst (λ (all : List Reference). StandsFor new.vote all) more vote;
      bad = bad ∙ ap (λ (b : List Bool). bad_after b (voted rs r)) has.bad
          ∙ sym (bad_in-append rs r) ∙ ap bad_in more;
      rounds = rounds
          ∙ ap (λ (n : ℕ). n + (if is_round (voted rs r) then 1 else 0)) has.rounds
          ∙ sym (rounds-append rs r) ∙ ap rounds_in more;
      ended = ended
          ∙ ap (λ (n : ℕ). n + (if is_ending rs r.moment then 1 else 0)) has.ended
          ∙ sym (ended-append rs r) ∙ ap (λ (all : List Reference). ended_after [] all) more;
      dropped = omega (arith, has.dropped, dropped, same);
    }

-- ---- counts

pub counts-more : (old new : Watch) (most : ℕ) → new.rounds ≤ old.rounds + 1
    → new.ended ≤ old.ended + 1 → new.dropped ≤ old.dropped + 1 → CountsTo old most
    → CountsTo new (most + 1)
counts-more old new most rounds ended dropped counts = record {
  rounds = omega (arith, rounds, counts.rounds);
  ended = omega (arith, ended, counts.ended);
  dropped = omega (arith, dropped, counts.dropped);
}

pub counts-up : (watch : Watch) (few most : ℕ) → few ≤ most → CountsTo watch few
    → CountsTo watch most
counts-up watch few most less counts = record {
  rounds = omega (arith, less, counts.rounds);
  ended = omega (arith, less, counts.ended);
  dropped = omega (arith, less, counts.dropped);
}

-- a truth value as a number
pub one-where : (b : Bool) → from_bool b ≡ (if b then 1 else 0)
one-where true = refl
one-where false = refl

-- ---- what is written for an item

pub sent-taken : (report : Bool) (items : List Item) (item : Item) (r : Reference)
    (bad : List Bool) (answer : Voted) (result : Result (Unit {0}) Failed) (out : Shown)
    → heard item ≡ Taken r → bad ≡ bad_in (references items)
    → answer ≡ voted (references items) r
    → EndsSending result out
    (if report then answer_lines bad r answer else answer_frame answer)
    → EndsSending result out (written_for report (references items) (heard item))
sent-taken report items item r bad answer result out is bad_is answer_is sent =
    let rs = references items in
    subst (λ (h : Heard). EndsSending result out (written_for report rs h)) (sym is)
    (subst (λ (a : Voted). EndsSending result out
    (if report then answer_lines (bad_in rs) r a else answer_frame a)) answer_is
    (subst (λ (b : List Bool). EndsSending result out
    (if report then answer_lines b r answer else answer_frame answer)) bad_is sent))

pub sent-passed : (report : Bool) (items : List Item) (item : Item) (body : List ℕ)
    (result : Result (Unit {0}) Failed) (out : Shown) → heard item ≡ Passed body
    → EndsSending result out (if report then [] else frame_text body)
    → EndsSending result out (written_for report (references items) (heard item))
sent-passed report items item body result out is sent =
    subst (λ (h : Heard). EndsSending result out (written_for report (references items) h))
    (sym is) sent

nothing-dropped : (report : Bool) (rs : List Reference) → [] ≡ written_for report rs Dropped
nothing-dropped true rs = refl
nothing-dropped false rs = refl

pub sent-dropped : (report : Bool) (items : List Item) (item : Item)
    (result : Result (Unit {0}) Failed) (out : Shown) → heard item ≡ Dropped
    → EndsSending result out []
    → EndsSending result out (written_for report (references items) (heard item))
sent-dropped report items item result out is sent =
    let rs = references items in
    subst (λ (h : Heard). EndsSending result out (written_for report rs h)) (sym is)
    (subst (λ (t : List ℕ). EndsSending result out t) (nothing-dropped report rs) sent)
