-- Streams that gave more items than a history has room for.
use Rattle.std.proofs.Common.{◌⊎◌, ◌≡◌, ℕ, ◌+◌, ◌<◌, ◌≤◌, List, [], ◌∷◌, length}
use Rattle.std.proofs.Common.{refl, ap, inl, inr, arith}
use Rattle.dp_io.specs.Shown.{Shown}
use Rattle.frame.specs.declared.item.Item.{Item}
use Rattle.plant_model.specs.declared.limits.TheConstants.{MOST_ENTRIES}
use Rattle.plant_book.specs.Books.{BookShown}
use Rattle.dp_sessions.specs.Sessions.{GaveItems, GaveTooManyItems}
use Rattle.dp_sessions.specs.declared.session.Ending.{Ending}
use Rattle.dp_sessions.specs.declared.session.Ending.TheVariants.{End, Fault, Long, Full, Write}
use Rattle.watch_session.specs.Loops.{TakesStream}
use Rattle.watch_session.specs.Threads.{graver}
use Rattle.watch_session.specs.declared.stream.StreamEnd.TheVariants as halts

-- a stream that ended at its end or at a full history gave as many items as were answered, and at a full
-- history more
pub record GaveAll (source : Shown) (ending : Ending) (answered : List Item) : Type 0 where
  pub count : ℕ
  pub gave : GaveItems source count
  pub at_least : length answered ≤ count
  pub more : ending ≡ Full → length answered < count

pub gave-end : (source out : Shown) (pass : BookShown)
    (taken : TakesStream (halts.Ended End) source out pass) → GaveAll source End taken.answered
gave-end source out pass taken = record {
  count = length taken.answered;
  gave = (
    taken.bytes,
    taken.given,
    inr (
      ap (λ (xs : List Item). length xs) taken.of_bytes,
      taken.ends,
    ),
  );
  at_least = omega arith;
  more = λ e. absurd (cc);
}

pub gave-full : (source out : Shown) (pass : BookShown)
    (taken : TakesStream (halts.Ended Full) source out pass) → GaveAll source Full taken.answered
gave-full source out pass taken =
    let many = taken.full refl in record {
      count = many.0;
      gave = many.1;
      at_least = omega (arith, many.2);
      more = λ e. many.2;
    }

pub gave-all : (ending : Ending) (source out : Shown) (pass : BookShown)
    (taken : TakesStream (halts.Ended ending) source out pass) → (ending ≡ End) ⊎ (ending ≡ Full)
    → GaveAll source ending taken.answered
gave-all End source out pass taken is = gave-end source out pass taken
gave-all Full source out pass taken is = gave-full source out pass taken
gave-all Fault source out pass taken is = absurd (elim is [ inl e ↦ cc | inr e ↦ cc ])
gave-all Long source out pass taken is = absurd (elim is [ inl e ↦ cc | inr e ↦ cc ])
gave-all Write source out pass taken is = absurd (elim is [ inl e ↦ cc | inr e ↦ cc ])

-- the graver of two endings is a full history only where each is that or the end of its stream
pub record AreFull (one other : Ending) : Type 0 where
  pub first : (one ≡ End) ⊎ (one ≡ Full)
  pub second : (other ≡ End) ⊎ (other ≡ Full)
  pub some : (one ≡ Full) ⊎ (other ≡ Full)

pub full-where : (one other : Ending) → Full ≡ graver one other → AreFull one other
full-where End End is = absurd (cc)
full-where End Full is = record { first = inl refl; second = inr refl; some = inr refl }
full-where Full End is = record { first = inr refl; second = inl refl; some = inl refl }
full-where Full Full is = record { first = inr refl; second = inr refl; some = inl refl }
full-where End Fault is = absurd (cc)
full-where End Long is = absurd (cc)
full-where End Write is = absurd (cc)
full-where Full Fault is = absurd (cc)
full-where Full Long is = absurd (cc)
full-where Full Write is = absurd (cc)
full-where Fault End is = absurd (cc)
full-where Fault Fault is = absurd (cc)
full-where Fault Long is = absurd (cc)
full-where Fault Full is = absurd (cc)
full-where Fault Write is = absurd (cc)
full-where Long End is = absurd (cc)
full-where Long Fault is = absurd (cc)
full-where Long Long is = absurd (cc)
full-where Long Full is = absurd (cc)
full-where Long Write is = absurd (cc)
full-where Write other is = absurd (cc)

-- together they gave too many
pub gave-many : (sensors operators : Shown) (one other : Ending) (asked ordered : List Item)
    → AreFull one other → GaveAll sensors one asked → GaveAll operators other ordered
    → length asked + length ordered ≡ MOST_ENTRIES
    → GaveTooManyItems (sensors ∷ operators ∷ [])
gave-many sensors operators one other asked ordered full first second events = (
  first.count + second.count,
  (
    first.count,
    second.count,
    refl,
    first.gave,
    (second.count, 0, omega arith, second.gave, refl),
  ),
  elim full.some [
    | inl is ↦ omega (arith, events, first.more is, second.at_least)
    | inr is ↦ omega (arith, events, first.at_least, second.more is)
  ],
)
