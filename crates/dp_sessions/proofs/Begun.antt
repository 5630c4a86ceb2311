-- What was begun of a stream's items, where memory ran out.
use Rattle.std.proofs.Common.{◌≡◌, ℕ, ◌+◌, List, [], ◌∷◌, ◌++◌, length, take, Bool}
use Rattle.std.proofs.Common.{true, false, cond, not, ◌==◌, Option, Result, Ok, Err}
use Rattle.std.proofs.Common.{refl, sym, ◌∙◌, ap, subst, arith, drop}
use Rattle.std.specs.Prelude.{map, IfOk, OnErr}
use Rattle.std.specs.List.{filter, flat_map, fold}
use Rattle.std.proofs.lemmas.Bool.Decides.{nat_tests}
use Rattle.std.proofs.lemmas.Grind.{flat_map-append}
use Rattle.std.proofs.lemmas.List.{append-nil, map-append, take-append-drop}
use Rattle.std.proofs.lemmas.List.{take-append-le}
use Rattle.std.proofs.lemmas.List.Elements.{All-head, All-tail, filter-append}
use Rattle.std.proofs.Math.Seq.{take-append-add}
use Rattle.dp_io.specs.Shown.{GrewInPart, Shown, TookPart}
use Rattle.dp_io.specs.Streams.{Gave, Grew}
use Rattle.frame.specs.Frames.{StandsFor, items, items_end}
use Rattle.frame.specs.declared.item.Item.{Item}
use Rattle.frame.specs.declared.item.Item.TheVariants.{Body, Damaged}
use Rattle.plant_model.specs.declared.limits.TheConstants.{MOST_STREAM_BYTES}
use Rattle.plant_model.specs.declared.plant.Parts.{Parts}
use Rattle.telegram.specs.Telegrams.{telegram}
use Rattle.telegram.specs.declared.telegram.Telegram.{Telegram as TelegramKind}
use Rattle.telegram.specs.declared.telegram.Telegram.TheVariants.{Position, Wind}
use Rattle.telegram.specs.declared.telegram.Reject.{Reject}
use Rattle.plant_core.specs.Machine.{CoreView, Stand, next, stand_after}
use Rattle.plant_core.specs.declared.call.Entry.{Entry}
use Rattle.log_text.specs.Commands.{command_text, commands_text}
use Rattle.dp_sessions.specs.Sessions.{AnswersItems, AreAnswered, AreFollowed, AreOfSession, Asked}
use Rattle.dp_sessions.specs.Sessions.{Block, IsBeginning, StopsAtCommand, asked}
use Rattle.dp_sessions.specs.Sessions.{asked_by, asked_for, asked_of_streams, caller_of, entries_of}
use Rattle.dp_sessions.specs.Steps.{AddsSilent, BeginsTaking, HasAnswered, HasBegun, TakesStream}
use Rattle.dp_sessions.specs.Steps.{WroteCommands}
use Rattle.dp_sessions.specs.declared.session.Ending.{Ending}
use Rattle.dp_sessions.specs.declared.session.Ending.TheVariants.{End, Fault, Long, Full, Write}
use Rattle.dp_sessions.proofs.Blocks.{silent-followed, silent-verdicts}
use Rattle.dp_sessions.proofs.Fronts.{beginning-self, beginning-trans, front-begins, items-begin}
use Rattle.dp_sessions.proofs.Fronts.{items-front}
use Rattle.dp_words.proofs.Parts.{part-back, part-whole}

-- ---- what callers but the session ask

abbrev of_streams : Entry → Bool
of_streams entry = not (entry.caller == 0)

pub asked-append : (front back : List Entry)
    → asked_of_streams (front ++ back) ≡ asked_of_streams front ++ asked_of_streams back
asked-append front back = ap (map asked) (filter-append of_streams front back)
    ∙ map-append asked (filter of_streams front) (filter of_streams back)

dropped-where : (b : Bool) (entry : Entry) (kept : List Entry) → b ≡ false
    → cond b (entry ∷ kept) kept ≡ kept
dropped-where true entry kept is = absurd (cc)
dropped-where false entry kept is = refl

kept-where : (b : Bool) (entry : Entry) (kept : List Entry) → b ≡ true
    → cond b (entry ∷ kept) kept ≡ entry ∷ kept
kept-where true entry kept is = refl
kept-where false entry kept is = absurd (cc)

-- the session's own entries ask nothing for a stream
pub asked-session : (entries : List Entry) → AreOfSession entries → asked_of_streams entries ≡ []
asked-session [] all = refl
asked-session (entry ∷ entries) all =
    let own : entry.caller ≡ 0 = All-head (λ (e : Entry). e.caller ≡ 0) entry entries all in
    let none : of_streams entry ≡ false = grind (arith, nat_tests) in
    ap (map asked) (dropped-where (of_streams entry) entry (filter of_streams entries) none)
    ∙ asked-session entries (All-tail (λ (e : Entry). e.caller ≡ 0) entry entries all)

caller-some : (t : TelegramKind) → (caller_of t == 0) ≡ false
caller-some (Position moment x y heading) = refl
caller-some (Wind moment speed angle) = refl
caller-some _ = refl

caller-read : (read : Result TelegramKind Reject) → ((asked_by read).0 == 0) ≡ false
caller-read (Ok t) = caller-some t
caller-read (Err reject) = refl

caller-item : (item : Item) → ((asked_for item).0 == 0) ≡ false
caller-item (Body body) = caller-read (telegram body)
caller-item (Damaged damage) = refl

-- and the answer to an item asks that
pub asked-entry : (entry : Entry) (item : Item) → asked entry ≡ asked_for item
    → asked_of_streams (entry ∷ []) ≡ asked_for item ∷ []
asked-entry entry item is =
    let some : of_streams entry ≡ true =
    ap (λ (a : Asked). not (a.0 == 0)) is ∙ ap not (caller-item item) in
    ap (map asked) (kept-where (of_streams entry) entry [] some)
    ∙ ap (λ (a : Asked). a ∷ []) is

asked-block : (plant : Parts) (block : Block) (item : Item) → asked block.entry ≡ asked_for item
    → AreOfSession block.verdicts
    → asked_of_streams (entries_of block) ≡ asked_for item ∷ []
asked-block plant block item is own =
    asked-append (block.entry ∷ []) block.verdicts
    ∙ ap (λ (rest : List Asked). asked_of_streams (block.entry ∷ []) ++ rest)
    (asked-session block.verdicts own)
    ∙ append-nil (asked_of_streams (block.entry ∷ [])) ∙ asked-entry block.entry item is

asked-blocks : (plant : Parts) (stand : Stand) (blocks : List Block) (answered : List Item)
    → AreFollowed plant stand blocks
    → map (λ (block : Block). asked block.entry) blocks ≡ map asked_for answered
    → asked_of_streams (flat_map entries_of blocks) ≡ map asked_for answered
asked-blocks plant stand [] [] followed is = refl
asked-blocks plant stand [] (item ∷ answered) followed is = cc
asked-blocks plant stand (block ∷ blocks) [] followed is = cc
asked-blocks plant stand (block ∷ blocks) (item ∷ answered) followed is =
    let head : asked block.entry ≡ asked_for item = cc in
    let tail : map (λ (block : Block). asked block.entry) blocks ≡ map asked_for answered = cc in
    asked-append (entries_of block) (flat_map entries_of blocks)
    ∙ ap (λ (rest : List Asked). rest ++ asked_of_streams (flat_map entries_of blocks))
    (asked-block plant block item head (silent-followed plant stand block followed.0).of_session)
    ∙ ap (λ (rest : List Asked). asked_for item ∷ rest)
    (asked-blocks plant (fold (next plant) stand (entries_of block)) blocks answered followed.1
    tail)

-- a history that answers items asks what they ask
pub asked-answers : (plant : Parts) (history : List Entry) (answered : List Item)
    → AnswersItems plant history answered
    → asked_of_streams history ≡ map asked_for answered
asked-answers plant history answered is =
    ap asked_of_streams is.is ∙ asked-append is.opening (flat_map entries_of is.blocks)
    ∙ ap (λ (rest : List Asked). rest ++ asked_of_streams (flat_map entries_of is.blocks))
    (asked-session is.opening (silent-verdicts plant 0 is.opening is.verdicts).of_session)
    ∙ asked-blocks plant (stand_after plant is.opening) is.blocks answered is.followed is.asked

-- ---- what was begun

pub begun-more : (start now : Option (List ℕ)) (core : CoreView) (given more : List Item)
    → HasBegun start now core given → IsBeginning given more → HasBegun start now core more
begun-more start now core given more begun is = record {
  answered = begun.answered;
  begin = beginning-trans begun.answered given more begun.begin is;
  asked = begun.asked;
  wrote = begun.wrote;
}

-- what was answered was begun
pub begun-answered : (start now : Option (List ℕ)) (core : CoreView) (answered given : List Item)
    → HasAnswered start now core answered → IsBeginning answered given
    → HasBegun start now core given
begun-answered start now core answered given has is = record {
  answered = answered;
  begin = is;
  asked = asked-answers core.plant core.history answered has.answers;
  wrote = part-whole start now (commands_text core.plant core.history) has.wrote;
}

-- the item's entry is there, and a beginning of its frames was written
pub begun-entry : (start : Option (List ℕ)) (old new : CoreView) (answered : List Item)
    (item : Item) (entry : Entry) (out : Shown) → HasAnswered start out.before old answered
    → new ≡ record old { history = old.history ++ entry ∷ [] } → asked entry ≡ asked_for item
    → TookPart out (command_text old.plant entry)
    → HasBegun start out.after new (answered ++ item ∷ [])
begun-entry start old new answered item entry out has is asks took =
    let frames = command_text old.plant entry in
    let grown = old.history ++ entry ∷ [] in
    let text : commands_text old.plant grown ≡ commands_text old.plant old.history ++ frames =
    flat_map-append (command_text old.plant) old.history (entry ∷ [])
    ∙ ap (λ (t : List ℕ). commands_text old.plant old.history ++ t) (append-nil frames) in
    let part = part-back start out.before out.after (commands_text old.plant old.history) frames
    has.wrote took in
    subst (λ (m : CoreView). HasBegun start out.after m (answered ++ item ∷ [])) (sym is)
    (record {
      answered = answered ++ item ∷ [];
      begin = beginning-self (answered ++ item ∷ []);
      asked = asked-append old.history (entry ∷ [])
          ∙ ap (λ (rest : List Asked). rest ++ asked_of_streams (entry ∷ []))
          (asked-answers old.plant old.history answered has.answers)
          ∙ ap (λ (rest : List Asked). map asked_for answered ++ rest) (asked-entry entry item asks)
          ∙ sym (map-append asked_for answered (item ∷ []));
      wrote = subst (λ (t : List ℕ). GrewInPart start out.after t) (sym text) part;
    })

-- verdicts that follow change nothing of it
pub begun-silent : (start now : Option (List ℕ)) (old new : CoreView) (given : List Item)
    → HasBegun start now old given → AddsSilent old new → HasBegun start now new given
begun-silent start now old new given begun adds =
    let text : commands_text old.plant (old.history ++ adds.verdicts)
    ≡ commands_text old.plant old.history =
    flat_map-append (command_text old.plant) old.history adds.verdicts
    ∙ ap (λ (t : List ℕ). commands_text old.plant old.history ++ t) adds.no_frames
    ∙ append-nil (commands_text old.plant old.history) in
    subst (λ (m : CoreView). HasBegun start now m given) (sym adds.history)
    (record {
      answered = begun.answered;
      begin = begun.begin;
      asked = asked-append old.history adds.verdicts
          ∙ ap (λ (rest : List Asked). asked_of_streams old.history ++ rest)
          (asked-session adds.verdicts adds.of_session)
          ∙ append-nil (asked_of_streams old.history) ∙ begun.asked;
      wrote = subst (λ (t : List ℕ). GrewInPart start now t) (sym text) begun.wrote;
    })

-- ---- a whole stream

pub begins-where : (ending : Ending) (bytes : List ℕ) (answered : List Item)
    → AreAnswered ending bytes answered → IsBeginning answered (items_end bytes)
begins-where End bytes answered is = ([], sym is ∙ sym (append-nil answered))
begins-where Fault bytes answered is =
    subst (λ (xs : List Item). IsBeginning xs (items_end bytes)) (sym is) (items-begin bytes)
begins-where Long bytes answered is =
    let most = take MOST_STREAM_BYTES bytes in
    let rest = drop MOST_STREAM_BYTES bytes in
    let front : IsBeginning (items most) (items bytes) =
    subst (λ (t : List ℕ). IsBeginning (items most) (items t))
    (take-append-drop MOST_STREAM_BYTES bytes) (items-front most rest) in
    subst (λ (xs : List Item). IsBeginning xs (items_end bytes)) (sym is)
    (beginning-trans (items most) (items bytes) (items_end bytes) front (items-begin bytes))
begins-where Full bytes answered is = front-begins answered (items_end bytes) is
begins-where Write bytes answered is = is

-- a part of a command's frames, after those of all before it, begins the frames of all
part-stopped : (plant : Parts) (before after : Option (List ℕ)) (history : List Entry)
    → StopsAtCommand plant AreOfSession before after history
    → GrewInPart before after (commands_text plant history)
part-stopped plant before after history stops =
    let front = commands_text plant stops.front in
    let frames = command_text plant stops.command in
    let later = commands_text plant stops.back in
    let text : commands_text plant history ≡ front ++ (frames ++ later) =
    ap (commands_text plant) stops.is
    ∙ flat_map-append (command_text plant) stops.front (stops.command ∷ stops.back) in
    let short : take stops.count (frames ++ later) ≡ take stops.count frames =
    take-append-le stops.count frames later (omega (arith, stops.part)) in
    let both : take (length front + stops.count) (front ++ (frames ++ later))
    ≡ front ++ take stops.count frames =
    take-append-add front (frames ++ later) stops.count
    ∙ ap (λ (t : List ℕ). front ++ t) short in (
      length front + stops.count,
      subst (λ (t : List ℕ). Grew before after t)
          (sym (ap (take (length front + stops.count)) text ∙ both)) stops.took,
    )

wrote-begun : (ending : Ending) (plant : Parts) (out : Shown) (history : List Entry)
    → WroteCommands ending plant out history
    → GrewInPart out.before out.after (commands_text plant history)
wrote-begun End plant out history wrote =
    part-whole out.before out.after (commands_text plant history) wrote
wrote-begun Fault plant out history wrote =
    part-whole out.before out.after (commands_text plant history) wrote
wrote-begun Long plant out history wrote =
    part-whole out.before out.after (commands_text plant history) wrote
wrote-begun Full plant out history wrote =
    part-whole out.before out.after (commands_text plant history) wrote
wrote-begun Write plant out history wrote =
    part-stopped plant out.before out.after history wrote

-- a stream that was taken was begun
pub begins-taken : (ending : Ending) (source out : Shown) (core : CoreView)
    → TakesStream ending source out core → BeginsTaking source out core
begins-taken ending source out core taken = record {
  bytes = taken.bytes;
  given = taken.given;
  begun = record {
    answered = taken.answered;
    begin = begins-where ending taken.bytes taken.answered taken.of_bytes;
    asked = asked-answers core.plant core.history taken.answered taken.answers;
    wrote = wrote-begun ending core.plant out core.history taken.wrote;
  };
}

-- what a stream's end gave was begun
pub begins-end : {T E : Type 0} (result : Result T E) (source out : Shown)
    (now : Option (List ℕ)) (old core : CoreView) (framer : Option (List ℕ)) (bytes : List ℕ)
    → Gave source.before source.after bytes → StandsFor framer bytes
    → HasAnswered out.before now old (items bytes)
    → OnErr result ((start : Option (List ℕ)) (fed : List ℕ) → StandsFor framer fed
    → HasAnswered start now old (items fed)
    → HasBegun start out.after core (items_end fed))
    → OnErr result (BeginsTaking source out core)
begins-end (Ok value) source out now old core framer bytes given stands has begun = tt
begins-end (Err error) source out now old core framer bytes given stands has begun =
    record { bytes = bytes; given = given; begun = begun out.before bytes stands has }

pub always-ok : {T E : Type 0} (result : Result T E) (P : T → Type 0) → ((x : T) → P x)
    → IfOk result P
always-ok (Ok value) P all = all value
always-ok (Err error) P all = tt
