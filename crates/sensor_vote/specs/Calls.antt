-- What a vote of the stream that the words name writes, and what it ends with.
use Rattle.std.specs.Prelude.{◌≡◌, ◌≢◌, ℕ, ◌<◌, ◌≤◌, List, [], ◌∷◌, ◌++◌, ◌⊎◌, ◌↔◌, length, take}
use Rattle.std.specs.Prelude.{Bool, false, Option, None, IfSome, Ok, Err, codes}
use Rattle.std.specs.Str.{bytes_eq}
use Rattle.dp_io.specs.Streams.{Gave, Grew}
use Rattle.dp_io.specs.Shown.{HasRisen, IsEmptied, NoneFailed, Shown, Took}
use Rattle.frame.specs.Frames.{items, items_end}
use Rattle.frame.specs.declared.item.Item.{Item}
use Rattle.plant_model.specs.declared.limits.TheConstants.{MOST_STREAM_BYTES}
use Rattle.plant_file.specs.declared.fault.PlantFault.{PlantFault}
use Rattle.dp_words.specs.Faults.{TellsFaults}
use Rattle.dp_words.specs.Statuses.{IsTold}
use Rattle.dp_words.specs.Words.{form_of}
use Rattle.dp_words.specs.declared.form.Form.TheVariants.{Vote}
use Rattle.dp_words.specs.declared.status.RunStatus.{RunStatus}
use Rattle.dp_words.specs.declared.status.RunStatus.TheVariants as statuses
use Rattle.sensor_vote.specs.Texts.{end_of, heard, references, whole_of, written_for, written_of}
use Rattle.sensor_vote.specs.declared.stream.Ending.{Ending}
use Rattle.sensor_vote.specs.declared.stream.Ending.TheVariants.{End, Fault, Long}

-- the first word names the command
abbrev pub names_vote : List (List ℕ) → Bool
names_vote [] = false
names_vote (command ∷ words) = bytes_eq command (codes "vote")

-- the words ask for a vote, with a report or not
abbrev pub AsksVote : List (List ℕ) → Bool → Type 0
AsksVote words report = (telegrams : ℕ) × (form_of words ≡ Ok (Vote telegrams report))

-- ---- the stream

-- the items that count of the bytes of a stream with this ending: at the end of input all, at a read
-- fault those of the whole lines, and of a stream that is too long those of as many bytes as a stream
-- may have
abbrev pub items_of : Ending → List ℕ → List Item
items_of End bytes = items_end bytes
items_of Fault bytes = items bytes
items_of Long bytes = items (take MOST_STREAM_BYTES bytes)

-- when a stream of these bytes ends so
abbrev pub EndsSo : Shown → List ℕ → Ending → Type 0
EndsSo source bytes End = IsEmptied source × NoneFailed source
EndsSo source bytes Fault = HasRisen source
EndsSo source bytes Long = (MOST_STREAM_BYTES < length bytes) × NoneFailed source

-- what the source gave in the call, and how it ended
pub record IsRead (ending : Ending) (source : Shown) (bytes : List ℕ) : Type 0 where
  pub given : Gave source.before source.after bytes
  pub ends : EndsSo source bytes ending

-- a stream is read in pieces of at most this many bytes
abbrev pub most_read : ℕ
most_read = 4096

-- ---- what is written

-- all was written of a stream that ended so
pub record WritesWhole (report : Bool) (ending : Ending) (source out : Shown) : Type 0 where
  pub bytes : List ℕ
  pub read : IsRead ending source bytes
  pub took : Took out (whole_of report (items_of ending bytes))
  pub none_failed : NoneFailed out

-- Of the text of an item, which comes after those before it, first bytes were written, and the text
-- of all before it.
pub record StopsAt (report : Bool) (before after : Option (List ℕ)) (front : List Item) (item : Item)
    : Type 0 where
  pub count : ℕ
  pub part : count < length (written_for report (references front) (heard item))
  pub took : Grew before after (written_of report front
      ++ take count (written_for report (references front) (heard item)))

-- Writing stopped within the text of an item of what was read. Nothing was kept back: that item is
-- completed by the last piece that was read of the stream, of which nothing is read after a fault.
pub record StopsInside (report : Bool) (source out : Shown) : Type 0 where
  pub bytes : List ℕ
  pub piece : List ℕ
  pub front : List Item
  pub item : Item
  pub rest : List Item
  pub given : Gave source.before source.after (bytes ++ piece)
  pub short : length piece ≤ most_read
  pub few : length bytes ≤ MOST_STREAM_BYTES
  pub none_failed : NoneFailed source
  pub answered : List Item
  pub all_before : front ≡ items bytes ++ answered
  pub among : items_end (bytes ++ piece) ≡ front ++ item ∷ rest
  pub stops : StopsAt report out.before out.after front item

-- writing stopped within what stands after all items
pub record StopsAfter (report : Bool) (source out : Shown) : Type 0 where
  pub ending : Ending
  pub bytes : List ℕ
  pub read : IsRead ending source bytes
  pub count : ℕ
  pub part : count < length (end_of report (items_of ending bytes))
  pub took : Grew out.before out.after (written_of report (items_of ending bytes)
      ++ take count (end_of report (items_of ending bytes)))

-- where writing stopped
abbrev pub WritesPart : Bool → Shown → Shown → Type 0
WritesPart report source out = StopsInside report source out ⊎ StopsAfter report source out

-- ---- statuses

-- the status of a vote of which all was written
abbrev pub status_of : Ending → RunStatus
status_of End = statuses.Clear
status_of Fault = statuses.ReadFault
status_of Long = statuses.StreamTooLong

-- what was written is the whole for a stream that ended so, as the words ask for
pub record WritesWholeOf (words : List (List ℕ)) (ending : Ending) (source out : Shown) : Type 0
  where
    pub report : Bool
    pub asked : AsksVote words report
    pub writes : WritesWhole report ending source out

-- what was written begins such a whole
pub record WritesPartOf (words : List (List ℕ)) (source out : Shown) : Type 0 where
  pub report : Bool
  pub asked : AsksVote words report
  pub writes : WritesPart report source out
  pub failed : HasRisen out

-- What the bytes written say at each status, and when it comes. There is no plant, no history and no
-- loss, and no memory is taken.
pub record HasVoted (words : List (List ℕ)) (status : RunStatus) (source out : Shown) : Type 0 where
  -- exactly where the words have no written form, with what is wrong with them
  pub usage : (kind : ℕ) → (status ≡ statuses.Usage kind) ↔ (form_of words ≡ Err kind)
  pub whole : (ending : Ending) → status ≡ status_of ending
      → WritesWholeOf words ending source out
  pub part : status ≡ statuses.WriteFault → WritesPartOf words source out
  pub no_loss : status ≢ statuses.LossFound
  pub no_plant : (fault : PlantFault) → status ≢ statuses.Plant fault
  pub no_history : status ≢ statuses.JournalFull
  pub no_memory : status ≢ statuses.NoMemory
  pub faults : TellsFaults status (source ∷ []) out

-- the source tells its bytes, and they are at most as many as a stream may have
abbrev pub TellsFew : Shown → Type 0
TellsFew source =
    IfSome source.before (λ bytes. length bytes ≤ MOST_STREAM_BYTES) × (source.before ≢ None)

-- words of the form, a source of at most as many bytes as a stream may have and counts of faults
-- that don't rise give Clear
abbrev pub IsComplete : List (List ℕ) → RunStatus → Shown → Shown → Type 0
IsComplete words status source out =
    (report : Bool) → AsksVote words report → TellsFew source → ¬ HasRisen source → ¬ HasRisen out
    → status ≡ statuses.Clear

-- How a vote ends with this status, of a source and a sink that showed this.
pub record EndsVote (words : List (List ℕ)) (status : RunStatus) (source out : Shown) : Type 0 where
  pub voted : HasVoted words status source out
  pub complete : IsComplete words status source out
  -- nothing is written of words without a form
  pub unwritten : (kind : ℕ) → form_of words ≡ Err kind → out.after ≡ out.before

-- How a call of the program ends that votes: as above, with the line told, and the source, of this
-- value before and after it, as it was where the words have no form.
pub record EndsVoteCall {A : Type 0} (words : List (List ℕ)) (status : RunStatus)
    (source_before source_after : A) (source out err : Shown) : Type 0 where
  pub vote : EndsVote words status source out
  pub told : IsTold status err
  pub unread : (kind : ℕ) → form_of words ≡ Err kind → source_after ≡ source_before
