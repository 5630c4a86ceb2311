-- What the parts of a vote keep of the items, and what they write.
use Rattle.std.specs.Prelude.{◌≡◌, ℕ, ◌<◌, ◌≤◌, List, [], ◌∷◌, ◌++◌, length, Option, take, Bool}
use Rattle.std.specs.Prelude.{Result, OnErr, OnOk}
use Rattle.dp_io.specs.Shown.{HasRisen, NoneFailed, Shown, Took}
use Rattle.dp_io.specs.Streams.{Grew}
use Rattle.dp_io.specs.declared.stream.Failed.{Failed}
use Rattle.frame.specs.declared.item.Item.{Item}
use Rattle.sensor_vote.specs.Rounds.{StandsFor}
use Rattle.sensor_vote.specs.Calls.{IsRead, StopsAt, items_of}
use Rattle.sensor_vote.specs.Texts.{bad_in, dropped_in, ended_after, references, rounds_in}
use Rattle.sensor_vote.specs.Texts.{written_of}
use Rattle.sensor_vote.specs.declared.stream.Ending.{Ending}
use Rattle.sensor_vote.specs.declared.watch.Watch.{Watch}

-- what is kept says this of the items
pub record HasHeard (watch : Watch) (items : List Item) : Type 0 where
  pub vote : StandsFor watch.vote (references items)
  pub bad : watch.bad ≡ bad_in (references items)
  pub rounds : watch.rounds ≡ rounds_in (references items)
  pub ended : watch.ended ≡ ended_after [] (references items)
  pub dropped : watch.dropped ≡ dropped_in items

-- each count is at most this
pub record CountsTo (watch : Watch) (most : ℕ) : Type 0 where
  pub rounds : watch.rounds ≤ most
  pub ended : watch.ended ≤ most
  pub dropped : watch.dropped ≤ most

-- a sink took first bytes of the text, but not the whole
pub record TookFront (sink : Shown) (text : List ℕ) : Type 0 where
  pub count : ℕ
  pub part : count < length text
  pub took : Grew sink.before sink.after (take count text)

-- the items were heard, and what an output took since it showed the first of these is what is
-- written for them
pub record HasWritten (report : Bool) (start now : Option (List ℕ)) (watch : Watch) (items : List Item)
    : Type 0 where
  pub heard : HasHeard watch items
  pub wrote : Grew start now (written_of report items)

-- writing stopped at an item among these, after all of those
pub record StopsAmong (report : Bool) (start now : Option (List ℕ)) (all before : List Item) : Type 0
  where
    pub answered : List Item
    pub item : Item
    pub rest : List Item
    pub among : all ≡ (before ++ answered) ++ item ∷ rest
    pub stops : StopsAt report start now (before ++ answered) item

-- What a call that writes a text to a sink ends with: the sink took it whole and counts no fault, or
-- it took a part and counts one.
pub record EndsSending (result : Result (Unit {0}) Failed) (sink : Shown) (text : List ℕ) : Type 0
  where
    pub whole : OnOk result (Took sink text × NoneFailed sink)
    pub part : OnErr result (TookFront sink text × HasRisen sink)

-- a stream was read that ended so, and what its items give was written
pub record TakesStream (report : Bool) (ending : Ending) (source out : Shown) (watch : Watch)
    : Type 0 where
  pub bytes : List ℕ
  pub read : IsRead ending source bytes
  pub written : HasWritten report out.before out.after watch (items_of ending bytes)
  pub none_failed : NoneFailed out
