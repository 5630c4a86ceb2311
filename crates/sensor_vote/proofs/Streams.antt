-- What is written as items come, and where writing stops.
use Rattle.std.proofs.Common.{◌≡◌, ℕ, ◌+◌, ◌≤◌, List, [], ◌∷◌, ◌++◌, length, take, drop}
use Rattle.std.proofs.Common.{Option, Some, None, Bool, true, false, ◌==◌, refl, sym, ap}
use Rattle.std.proofs.Common.{Result, Ok, Err}
use Rattle.std.proofs.Common.{subst, ◌∙◌, append_assoc, arith}
use Rattle.std.specs.Option.{option_to_list, IfSome}
use Rattle.std.proofs.Math.Seq.{take-append-add}
use Rattle.std.proofs.lemmas.Bool.Decides.{nat_tests}
use Rattle.std.proofs.lemmas.List.{append-nil, take-append-drop, take-take}
use Rattle.dp_io.specs.Shown.{NoneFailed, Shown, Took}
use Rattle.dp_io.specs.Streams.{Gave, Grew}
use Rattle.dp_io.specs.declared.stream.Failed.{Failed}
use Rattle.dp_io.proofs.Grown.{Grew-append}
use Rattle.frame.specs.Frames.{StandsFor, item_of_line, items, items_end, line_feed, open_line}
use Rattle.frame.specs.declared.item.Damage.TheVariants.{Cut}
use Rattle.frame.specs.declared.item.Item.{Item}
use Rattle.frame.specs.declared.item.Item.TheVariants.{Damaged}
use Rattle.std.specs.Prelude.{if◌then◌else◌, OnErr, OnOk}
use Rattle.frame.proofs.StreamItems.{items-feed, items-other}
use Rattle.plant_model.specs.declared.limits.TheConstants.{MOST_STREAM_BYTES}
use Rattle.sensor_vote.specs.Calls.{StopsAfter, StopsAt, StopsInside, WritesWhole, items_of, most_read}
use Rattle.sensor_vote.specs.Steps.{EndsSending, HasHeard, HasWritten, StopsAmong, TakesStream}
use Rattle.sensor_vote.specs.Steps.{TookFront}
use Rattle.sensor_vote.specs.Texts.{end_of, heard, references, written_for, written_of}
use Rattle.sensor_vote.specs.declared.stream.Ending.{Ending}
use Rattle.sensor_vote.specs.declared.watch.Watch.{Watch}
use Rattle.sensor_vote.proofs.Sending.{grew-none, showed}
use Rattle.sensor_vote.proofs.Texts.{written-append}

-- ---- sources

-- a source that gave nothing yet
pub gave-none : (left : Option (List ℕ)) → Gave left left []
gave-none (Some bytes) = (bytes, refl, refl)
gave-none None = refl

pub gave-more : (before middle after : Option (List ℕ)) (xs ys : List ℕ) → Gave before middle xs
    → Gave middle after ys → Gave before after (xs ++ ys)
gave-more (Some bytes) middle after xs ys first second =
    let later : Gave (Some first.0) after ys = rw (first.1) at second in
    (later.0, later.1, first.2 ∙ ap (λ rest. xs ++ rest) later.2 ∙ sym (append_assoc xs ys later.0))
gave-more None middle after xs ys first second =
    let later : Gave None after ys = rw first at second in later

-- a source that gave no byte, as it had none, has none left
pub emptied-after : (before after : Option (List ℕ)) (piece : List ℕ)
    → Gave before after piece → IfSome before (λ bytes. bytes ≡ [])
    → IfSome after (λ bytes. bytes ≡ [])
emptied-after (Some []) after [] gave none = subst (λ (a : Option (List ℕ)).
    IfSome a (λ bytes. bytes ≡ [])) (sym gave.1) (sym gave.2)
emptied-after (Some []) after (x ∷ piece) gave none = absurd (cc)
emptied-after (Some (x ∷ bytes)) after piece gave none = absurd (cc)
emptied-after None after piece gave none =
    subst (λ (a : Option (List ℕ)). IfSome a (λ bytes. bytes ≡ [])) (sym gave) tt

-- the first bytes of a piece, and the others that were given
pub piece-split : (piece : List ℕ) (part count : ℕ) → part ≤ count
    → take count piece ≡ take part piece ++ drop part (take count piece)
piece-split piece part count less =
    sym (take-append-drop part (take count piece))
    ∙ ap (λ (t : List ℕ). t ++ drop part (take count piece)) (take-take part count piece less)

-- the bytes up to the limit, of those before a piece and the piece that passes it
pub take-limit : (most : ℕ) (fed piece : List ℕ) (room count : ℕ) → length fed + room ≡ most
    → room ≤ count
    → take most (fed ++ take count piece) ≡ fed ++ take room piece
take-limit most fed piece room count full less =
    let P : ℕ → Type 0 = λ n. take n (fed ++ take count piece) ≡ fed ++ take room piece in
    subst P full (take-append-add fed (take count piece) room
    ∙ ap (λ (t : List ℕ). fed ++ t) (take-take room count piece less))

-- ---- items

-- the items of the bytes so far stay, whatever byte comes next
items-byte-where : (fed : List ℕ) (byte : ℕ) (b : Bool) → (byte == line_feed) ≡ b
    → (more : List Item) × (items (fed ++ byte ∷ []) ≡ items fed ++ more)
items-byte-where fed byte true is =
    let feed : byte ≡ line_feed = grind (arith, nat_tests) in (
      option_to_list (item_of_line (open_line fed)),
      ap (λ (n : ℕ). items (fed ++ n ∷ [])) feed ∙ items-feed fed,
    )
items-byte-where fed byte false is =
    let other : ¬ (byte ≡ line_feed) = grind (arith, nat_tests) in
    ([], items-other fed byte other ∙ sym (append-nil (items fed)))

pub items-front : (front back : List ℕ)
    → (more : List Item) × (items (front ++ back) ≡ items front ++ more)
items-front front [] = ([], ap items (append-nil front) ∙ sym (append-nil (items front)))
items-front front (byte ∷ back) =
    let one = items-byte-where front byte (byte == line_feed) refl in
    let rest = items-front (front ++ byte ∷ []) back in (
      one.0 ++ rest.0,
      ap items (sym (append_assoc front (byte ∷ []) back)) ∙ rest.1
          ∙ ap (λ (xs : List Item). xs ++ rest.0) one.1 ∙ append_assoc (items front) one.0 rest.0,
    )

-- the damage of a stream that ends within a line
abbrev ends-with : List ℕ → List Item
ends-with bytes = if length (open_line bytes) == 0 then [] else Damaged Cut ∷ []

-- ---- one item

-- nothing is written before the first item
pub written-none : (report : Bool) (now : Option (List ℕ)) (watch : Watch) → HasHeard watch []
    → HasWritten report now now watch []
written-none report now watch has = record { heard = has; wrote = grew-none now }

-- an item more was heard, and its text written
pub written-more : (report : Bool) (start : Option (List ℕ)) (out : Shown) (old new : Watch)
    (all : List Item) (item : Item) → HasWritten report start out.before old all
    → HasHeard new (all ++ item ∷ [])
    → Took out (written_for report (references all) (heard item))
    → HasWritten report start out.after new (all ++ item ∷ [])
written-more report start out old new all item has hears took = record {
  heard = hears;
  wrote = subst (λ (t : List ℕ). Grew start out.after t) (sym (written-append report all item))
      (Grew-append start out.before out.after (written_of report all)
      (written_for report (references all) (heard item)) has.wrote took);
}

-- some of its text was written
pub stops-at : (report : Bool) (start : Option (List ℕ)) (out : Shown) (watch : Watch)
    (all : List Item) (item : Item) → HasWritten report start out.before watch all
    → TookFront out (written_for report (references all) (heard item))
    → StopsAt report start out.after all item
stops-at report start out watch all item has front = record {
  count = front.count;
  part = front.part;
  took = Grew-append start out.before out.after (written_of report all)
      (take front.count (written_for report (references all) (heard item))) has.wrote front.took;
}

-- ---- more bytes

-- the bytes that were fed of a piece, more of it, and what is left
pub piece-more : (bytes taken front left rest : List ℕ) → taken ++ rest ≡ bytes → rest ≡ front ++ left
    → (taken ++ front) ++ left ≡ bytes
piece-more bytes taken front left rest is split =
    append_assoc taken front left ∙ ap (λ (t : List ℕ). taken ++ t) (sym split) ∙ is

-- all was fed where nothing is left
pub piece-whole : (taken rest bytes : List ℕ) → length rest ≡ 0 → taken ++ rest ≡ bytes → taken ≡ bytes
piece-whole taken [] bytes none is = sym (append-nil taken) ∙ is
piece-whole taken (byte ∷ rest) bytes none is = absurd (omega (arith, none))

-- the items of the bytes fed, of those before the next, and of all of a piece
pub stops-among : (report : Bool) (start now : Option (List ℕ))
    (fed bytes taken front left : List ℕ) (item : Item) → (taken ++ front) ++ left ≡ bytes
    → items ((fed ++ taken) ++ front) ≡ items (fed ++ taken) ++ item ∷ []
    → StopsAt report start now (items (fed ++ taken)) item
    → StopsAmong report start now (items (fed ++ bytes)) (items fed)
stops-among report start now fed bytes taken front left item is gave stops =
    let so_far = items-front fed taken in
    let split : fed ++ bytes ≡ ((fed ++ taken) ++ front) ++ left =
    ap (λ (t : List ℕ). fed ++ t) (sym is)
    ∙ sym (append_assoc fed (taken ++ front) left)
    ∙ ap (λ (t : List ℕ). t ++ left) (sym (append_assoc fed taken front)) in
    let rest = items-front ((fed ++ taken) ++ front) left in
    record {
      answered = so_far.0;
      item = item;
      rest = rest.0;
      among = ap items split ∙ rest.1 ∙ ap (λ (xs : List Item). xs ++ rest.0) gave
          ∙ append_assoc (items (fed ++ taken)) (item ∷ []) rest.0
          ∙ ap (λ (xs : List Item). xs ++ item ∷ rest.0) so_far.1;
      stops = subst (λ (xs : List Item). StopsAt report start now xs item) so_far.1 stops;
    }

-- what more bytes gave was heard and written
pub written-part : (report : Bool) (start now : Option (List ℕ)) (watch : Watch)
    (fed taken front : List ℕ) (given : List Item)
    → items ((fed ++ taken) ++ front) ≡ items (fed ++ taken) ++ given
    → HasWritten report start now watch (items (fed ++ taken) ++ given)
    → HasWritten report start now watch (items (fed ++ (taken ++ front)))
written-part report start now watch fed taken front given gave has =
    subst (λ (xs : List Item). HasWritten report start now watch xs)
    (sym (ap items (sym (append_assoc fed taken front)) ∙ gave)) has

-- ---- the stream

-- the item of the stream's end
pub stops-end : (report : Bool) (start now : Option (List ℕ)) (all before : List Item) (item : Item)
    → all ≡ before ++ item ∷ [] → StopsAt report start now before item
    → StopsAmong report start now all before
stops-end report start now all before item is stops = record {
  answered = [];
  item = item;
  rest = [];
  among = is ∙ ap (λ (xs : List Item). xs ++ item ∷ []) (sym (append-nil before));
  stops = subst (λ (xs : List Item). StopsAt report start now xs item) (sym (append-nil before))
      stops;
}

-- the item that ends the stream was heard, and its text written
pub end-written : (report : Bool) (result : Result (Unit {0}) Failed) (out : Shown)
    (old new : Watch) (item : Item) (framer : Option (List ℕ))
    → ((all : List Item) → HasHeard old all → HasHeard new (all ++ item ∷ []))
    → ((all : List Item) → HasHeard old all
    → EndsSending result out (written_for report (references all) (heard item)))
    → ((fed : List ℕ) → StandsFor framer fed → items_end fed ≡ items fed ++ item ∷ [])
    → OnOk result ((start : Option (List ℕ)) (fed : List ℕ) → StandsFor framer fed
    → HasWritten report start out.before old (items fed)
    → HasWritten report start out.after new (items_end fed))
end-written report (Ok done) out old new item framer hears sends is = λ start fed stands has.
    let all = items fed in
    subst (λ (xs : List Item). HasWritten report start out.after new xs) (sym (is fed stands))
    (written-more report start out old new all item has (hears all has.heard)
    (sends all has.heard).whole.0)
end-written report (Err fault) out old new item framer hears sends is = tt

-- or writing stopped in it
pub end-stopped : (report : Bool) (result : Result (Unit {0}) Failed) (out : Shown)
    (old : Watch) (item : Item) (framer : Option (List ℕ))
    → ((all : List Item) → HasHeard old all
    → EndsSending result out (written_for report (references all) (heard item)))
    → ((fed : List ℕ) → StandsFor framer fed → items_end fed ≡ items fed ++ item ∷ [])
    → OnErr result ((start : Option (List ℕ)) (fed : List ℕ) → StandsFor framer fed
    → HasWritten report start out.before old (items fed)
    → StopsAmong report start out.after (items_end fed) (items fed))
end-stopped report (Ok done) out old item framer sends is = tt
end-stopped report (Err fault) out old item framer sends is = λ start fed stands has.
    let all = items fed in
    stops-end report start out.after (items_end fed) all item (is fed stands)
    (stops-at report start out old all item has (sends all has.heard).part.0)

-- writing stopped among the items of a piece, of which some was taken
pub inside-piece : (report : Bool) (source out : Shown) (fed piece part back : List ℕ)
    → Gave source.before source.after (fed ++ piece) → piece ≡ part ++ back
    → length piece ≤ most_read → length fed ≤ MOST_STREAM_BYTES → NoneFailed source
    → StopsAmong report out.before out.after (items (fed ++ part)) (items fed)
    → StopsInside report source out
inside-piece report source out fed piece part back given split short few same stops =
    let longer : fed ++ piece ≡ (fed ++ part) ++ back =
    ap (λ (t : List ℕ). fed ++ t) split ∙ sym (append_assoc fed part back) in
    let more = items-front (fed ++ part) back in
    let tail : List Item = ends-with (fed ++ piece) in
    let front : List Item = items fed ++ stops.answered in
    record {
      bytes = fed;
      piece = piece;
      front = front;
      item = stops.item;
      rest = (stops.rest ++ more.0) ++ tail;
      given = given;
      short = short;
      few = few;
      none_failed = same;
      answered = stops.answered;
      all_before = refl;
      among = ap (λ (xs : List Item). xs ++ tail)
          (ap items longer ∙ more.1 ∙ ap (λ (xs : List Item). xs ++ more.0) stops.among
          ∙ append_assoc front (stops.item ∷ stops.rest) more.0)
          ∙ append_assoc front (stops.item ∷ (stops.rest ++ more.0)) tail;
      stops = stops.stops;
    }

-- writing stopped at the item of the stream's end
pub inside-end : (report : Bool) (source out : Shown) (fed : List ℕ)
    → Gave source.before source.after fed → length fed ≤ MOST_STREAM_BYTES → NoneFailed source
    → StopsAmong report out.before out.after (items_end fed) (items fed)
    → StopsInside report source out
inside-end report source out fed given few same stops =
    let whole : fed ≡ fed ++ [] = sym (append-nil fed) in
    record {
      bytes = fed;
      piece = [];
      front = items fed ++ stops.answered;
      item = stops.item;
      rest = stops.rest;
      given = subst (λ (t : List ℕ). Gave source.before source.after t) whole given;
      short = omega arith;
      few = few;
      none_failed = same;
      answered = stops.answered;
      all_before = refl;
      among = subst (λ (t : List ℕ). items_end t ≡ (items fed ++ stops.answered)
          ++ stops.item ∷ stops.rest) whole stops.among;
      stops = stops.stops;
    }

-- ---- what stands after all items

-- it was written
pub whole-written : (report : Bool) (ending : Ending) (source out : Shown) (watch : Watch)
    (after : Option (List ℕ)) (faults : ℕ) → (taken : TakesStream report ending source out watch)
    → Took (showed out.after after out.faults_after faults)
    (end_of report (items_of ending taken.bytes))
    × NoneFailed (showed out.after after out.faults_after faults)
    → WritesWhole report ending source (showed out.before after out.faults_before faults)
whole-written report ending source out watch after faults taken ended = record {
  bytes = taken.bytes;
  read = taken.read;
  took = Grew-append out.before out.after after (written_of report (items_of ending taken.bytes))
      (end_of report (items_of ending taken.bytes)) taken.written.wrote ended.0;
  none_failed = ended.1 ∙ taken.none_failed;
}

-- writing stopped within it
pub after-stopped : (report : Bool) (ending : Ending) (source out : Shown) (watch : Watch)
    (after : Option (List ℕ)) (faults : ℕ) → (taken : TakesStream report ending source out watch)
    → TookFront (showed out.after after out.faults_after faults)
    (end_of report (items_of ending taken.bytes))
    → StopsAfter report source (showed out.before after out.faults_before faults)
after-stopped report ending source out watch after faults taken front =
    let all = items_of ending taken.bytes in
    record {
      ending = ending;
      bytes = taken.bytes;
      read = taken.read;
      count = front.count;
      part = front.part;
      took = Grew-append out.before out.after after (written_of report all)
          (take front.count (end_of report all)) taken.written.wrote front.took;
    }
