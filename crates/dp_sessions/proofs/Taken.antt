-- What the items of a stream leave: one more answered, one that had no room, and one whose frames
-- were cut.
use Rattle.std.proofs.Common.{◌≡◌, ℕ, ◌+◌, ◌<◌, ◌≤◌, List, [], ◌∷◌, ◌++◌, length, take, drop}
use Rattle.std.proofs.Common.{get_or, Option, Some, None, refl, sym, ◌∙◌, ap, subst, append_assoc}
use Rattle.std.proofs.Common.{append-nil, arith, true, false}
use Rattle.std.specs.Option.{is_some, unwrap_or}
use Rattle.std.proofs.lemmas.List.{take_more, take-append-drop}
use Rattle.dp_io.specs.Streams.{Grew}
use Rattle.dp_io.proofs.Grown.{Grew-append}
use Rattle.frame.specs.Frames.{StandsFor, items, items_end}
use Rattle.frame.specs.declared.item.Item.{Item}
use Rattle.plant_core.specs.Machine.{CoreView, stand_of}
use Rattle.log_text.specs.Commands.{command_text, commands_text}
use Rattle.dp_io.specs.Shown.{Shown}
use Rattle.dp_sessions.specs.Sessions.{AnswersItems, AreOfSession, Block, IsBeginning, IsFront}
use Rattle.dp_sessions.specs.Sessions.{StopsAtCommand}
use Rattle.dp_sessions.specs.Sessions.{entries_of}
use Rattle.dp_sessions.specs.Steps.{AddsBlock, HasAnswered, IsFilled, IsUnwritten, TakesBytes, TakesEnd}
use Rattle.dp_sessions.specs.Steps.{TakesItem}
use Rattle.dp_words.specs.Writing.{TookFront}
use Rattle.dp_sessions.specs.declared.session.Ending.{Ending}
use Rattle.dp_sessions.specs.declared.session.Ending.TheVariants.{End, Fault, Long, Full, Write}
use Rattle.dp_sessions.proofs.Blocks.{answers-more, commands-more, commands-opening, events-answered}
use Rattle.dp_sessions.proofs.Blocks.{silent-followed}
use Rattle.dp_sessions.proofs.Counts.{events-counted}
use Rattle.dp_sessions.proofs.Fronts.{beginning-more, beginning-self, items-front}

-- what takes nothing stays
pub grew-none : (taken : Option (List ℕ)) → Grew taken taken []
grew-none (Some bytes) = ap Some (sym (append-nil bytes))
grew-none None = refl

-- and nothing more may be taken after a piece
pub grew-still : (start now later : Option (List ℕ)) (piece : List ℕ) → Grew start now piece
    → Grew now later [] → Grew start later piece
grew-still start now later piece first next = subst (λ (t : List ℕ). Grew start later t)
    (append-nil piece) (Grew-append start now later piece [] first next)

-- ---- one item

-- where no item is answered yet, no frames were written
pub has-none : (now : Option (List ℕ)) (core : CoreView)
    → AnswersItems core.plant core.history [] → HasAnswered now now core []
has-none now core answers = record {
  answers = answers;
  wrote = subst (λ (t : List ℕ). Grew now now t)
      (sym (commands-opening core.plant core.history answers)) (grew-none now);
}

has-kept : (start now later : Option (List ℕ)) (old new : CoreView) (answered : List Item)
    → HasAnswered start now old answered → new ≡ old → Grew now later []
    → HasAnswered start later new answered
has-kept start now later old new answered has same still =
    subst (λ (m : CoreView). HasAnswered start later m answered) (sym same)
    (record {
      answers = has.answers;
      wrote = grew-still start now later (commands_text old.plant old.history) has.wrote still;
    })

answers-block : (old new : CoreView) (answered : List Item) (item : Item) (block : Block)
    → AnswersItems old.plant old.history answered → AddsBlock old new item block
    → AnswersItems new.plant new.history (answered ++ item ∷ [])
answers-block old new answered item block so_far adds =
    subst (λ (m : CoreView). AnswersItems m.plant m.history (answered ++ item ∷ []))
    (sym adds.history)
    (answers-more old.plant old.history answered block item so_far adds.asked adds.followed)

-- the item was answered, and the frames of its command written
pub has-more : (start : Option (List ℕ)) (old new : CoreView) (answered : List Item) (item : Item)
    (out : Shown) → HasAnswered start out.before old answered → TakesItem None old new item out
    → HasAnswered start out.after new (answered ++ item ∷ [])
has-more start old new answered item out has takes =
    let block = takes.0 in
    let adds = takes.1 in
    let frames = command_text old.plant block.entry in
    let more = commands-more old.plant old.history block
    (silent-followed old.plant (stand_of old) block adds.followed) in
    let wrote : Grew start out.after
    (commands_text old.plant (old.history ++ entries_of block)) =
    subst (λ (t : List ℕ). Grew start out.after t) (sym more)
    (Grew-append start out.before out.after (commands_text old.plant old.history) frames has.wrote
    takes.2) in
    record {
      answers = answers-block old new answered item block has.answers adds;
      wrote = subst (λ (m : CoreView). Grew start out.after (commands_text m.plant m.history))
          (sym adds.history) wrote;
    }

filled : (start : Option (List ℕ)) (old new : CoreView) (before answered given : List Item)
    (item : Item) (out : Shown) → HasAnswered start out.before old answered
    → TakesItem (Some Full) old new item out → IsBeginning before answered
    → IsFront answered given → IsFilled start out.after new before given
filled start old new before answered given item out has takes begin front =
    let limit : old.limit ≤ length answered = omega (
      arith,
      takes.2,
      events-counted old.plant old.history,
      events-answered old.plant old.history answered has.answers,
    ) in
    record {
      answered = answered;
      has = has-kept start out.before out.after old new answered has takes.0 takes.1;
      limit = subst (λ (m : CoreView). m.limit ≤ length answered) (sym takes.0) limit;
      begin = begin;
      front = front;
    }

stops-block : (start : Option (List ℕ)) (old new : CoreView) (item : Item) (block : Block)
    (out : Shown) → Grew start out.before (commands_text old.plant old.history)
    → AddsBlock old new item block → TookFront out (command_text old.plant block.entry)
    → StopsAtCommand new.plant AreOfSession start out.after new.history
stops-block start old new item block out wrote adds took =
    let silent = silent-followed old.plant (stand_of old) block adds.followed in
    subst (λ (m : CoreView). StopsAtCommand m.plant AreOfSession start out.after m.history)
    (sym adds.history)
    (record {
      front = old.history;
      command = block.entry;
      back = block.verdicts;
      is = refl;
      last = silent.of_session;
      count = took.0;
      part = took.1;
      took = Grew-append start out.before out.after (commands_text old.plant old.history)
          (take took.0 (command_text old.plant block.entry)) wrote took.2;
    })

unwritten : (start : Option (List ℕ)) (old new : CoreView) (before answered given : List Item)
    (item : Item) (out : Shown) → HasAnswered start out.before old answered
    → TakesItem (Some Write) old new item out → IsBeginning before answered
    → IsBeginning (answered ++ item ∷ []) given → IsUnwritten start out.after new before given
unwritten start old new before answered given item out has takes begin beginning = record {
  answered = answered ++ item ∷ [];
  answers = answers-block old new answered item takes.0 has.answers takes.1;
  begin = beginning-more before answered (item ∷ []) begin;
  beginning = beginning;
  stops = stops-block start old new item takes.0 out has.wrote takes.1 takes.2;
}

-- ---- one byte

-- the bytes fed and one more of a piece
fed-more : (fed bytes : List ℕ) (i : ℕ) → i < length bytes
    → fed ++ take (i + 1) bytes ≡ (fed ++ take i bytes) ++ get_or bytes i 0 ∷ []
fed-more fed bytes i h =
    ap (λ (t : List ℕ). fed ++ t) (take_more bytes i 0 h)
    ∙ sym (append_assoc fed (take i bytes) (get_or bytes i 0 ∷ []))

-- a byte more was fed, and what it gave was answered
pub taken-more : (start now : Option (List ℕ)) (core : CoreView) (framer : Option (List ℕ))
    (fed bytes : List ℕ) (i : ℕ) (given : List Item) → i < length bytes
    → StandsFor framer ((fed ++ take i bytes) ++ get_or bytes i 0 ∷ [])
    → items ((fed ++ take i bytes) ++ get_or bytes i 0 ∷ []) ≡ items (fed ++ take i bytes) ++ given
    → HasAnswered start now core (items (fed ++ take i bytes) ++ given)
    → TakesBytes None start now core framer fed (take (i + 1) bytes)
taken-more start now core framer fed bytes i given h stands gave has =
    let more : fed ++ take (i + 1) bytes ≡ (fed ++ take i bytes) ++ get_or bytes i 0 ∷ [] =
    fed-more fed bytes i h in
    let shown : items (fed ++ take (i + 1) bytes) ≡ items (fed ++ take i bytes) ++ given =
    ap items more ∙ gave in (
      subst (λ (t : List ℕ). StandsFor framer t) (sym more) stands,
      subst (λ (xs : List Item). HasAnswered start now core xs) (sym shown) has,
    )

-- the items of the bytes so far, the one that the next byte gave, and those of the rest
pub items-byte : (fed bytes : List ℕ) (i : ℕ) (item : Item) → i < length bytes
    → items ((fed ++ take i bytes) ++ get_or bytes i 0 ∷ [])
    ≡ items (fed ++ take i bytes) ++ item ∷ []
    → IsBeginning (items (fed ++ take i bytes) ++ item ∷ []) (items (fed ++ bytes))
items-byte fed bytes i item h gave =
    let front : List ℕ = fed ++ take i bytes in
    let split : fed ++ bytes ≡ (front ++ get_or bytes i 0 ∷ []) ++ drop (i + 1) bytes =
    ap (λ (t : List ℕ). fed ++ t) (sym (take-append-drop (i + 1) bytes))
    ∙ sym (append_assoc fed (take (i + 1) bytes) (drop (i + 1) bytes))
    ∙ ap (λ (t : List ℕ). t ++ drop (i + 1) bytes) (fed-more fed bytes i h) in
    let all = items-front (front ++ get_or bytes i 0 ∷ []) (drop (i + 1) bytes) in
    (all.0, ap items split ∙ all.1 ∙ ap (λ (xs : List Item). xs ++ all.0) gave)

front-beginning : (answered given : List Item) (item : Item)
    → IsBeginning (answered ++ item ∷ []) given → IsFront answered given
front-beginning answered given item is =
    (item, is.0, is.1 ∙ append_assoc answered (item ∷ []) is.0)

-- the stream ends at this item
stops-item : (ending : Ending) (start : Option (List ℕ)) (old new : CoreView)
    (framer : Option (List ℕ)) (answered : List Item) (item : Item) (out : Shown)
    (fed bytes : List ℕ) → HasAnswered start out.before old answered
    → TakesItem (Some ending) old new item out → IsBeginning (items fed) answered
    → IsBeginning (answered ++ item ∷ []) (items (fed ++ bytes))
    → TakesBytes (Some ending) start out.after new framer fed bytes
stops-item Full start old new framer answered item out fed bytes has takes begin is =
    filled start old new (items fed) answered (items (fed ++ bytes)) item out has takes begin
    (front-beginning answered (items (fed ++ bytes)) item is)
stops-item Write start old new framer answered item out fed bytes has takes begin is =
    unwritten start old new (items fed) answered (items (fed ++ bytes)) item out has takes begin is
stops-item End start old new framer answered item out fed bytes has takes begin is = absurd takes
stops-item Fault start old new framer answered item out fed bytes has takes begin is = absurd takes
stops-item Long start old new framer answered item out fed bytes has takes begin is = absurd takes

pub stops-where : (ending : Option Ending) (start : Option (List ℕ)) (old new : CoreView)
    (framer : Option (List ℕ)) (answered : List Item) (item : Item) (out : Shown)
    (fed bytes : List ℕ) → is_some ending ≡ true → HasAnswered start out.before old answered
    → TakesItem ending old new item out → IsBeginning (items fed) answered
    → IsBeginning (answered ++ item ∷ []) (items (fed ++ bytes))
    → TakesBytes ending start out.after new framer fed bytes
stops-where None start old new framer answered item out fed bytes some has takes begin is =
    absurd (cc)
stops-where (Some ending) start old new framer answered item out fed bytes some has takes begin
    is = stops-item ending start old new framer answered item out fed bytes has takes begin is

pub none-where : (ending : Option Ending) → is_some ending ≡ false → ending ≡ None
none-where None none = refl
none-where (Some ending) none = absurd (cc)

-- ---- the stream's end

-- nothing stood after the last line
pub ends-clean : (start now : Option (List ℕ)) (core : CoreView) (fed : List ℕ)
    → HasAnswered start now core (items fed) → items_end fed ≡ items fed ++ []
    → TakesEnd End start now core fed
ends-clean start now core fed has gave = subst (λ (xs : List Item). HasAnswered start now core xs)
    (sym (gave ∙ append-nil (items fed))) has

-- the damage of the stream's end was taken, or ended it
pub ends-item : (ending : Option Ending) (start : Option (List ℕ)) (old new : CoreView)
    (item : Item) (out : Shown) (fed : List ℕ)
    → HasAnswered start out.before old (items fed) → TakesItem ending old new item out
    → items_end fed ≡ items fed ++ item ∷ []
    → TakesEnd (unwrap_or ending End) start out.after new fed
ends-item None start old new item out fed has takes gave =
    subst (λ (xs : List Item). HasAnswered start out.after new xs) (sym gave)
    (has-more start old new (items fed) item out has takes)
ends-item (Some Full) start old new item out fed has takes gave =
    filled start old new (items fed) (items fed) (items_end fed) item out has takes
    (beginning-self (items fed)) (item, [], gave)
ends-item (Some Write) start old new item out fed has takes gave =
    unwritten start old new (items fed) (items fed) (items_end fed) item out has takes
    (beginning-self (items fed)) ([], gave ∙ sym (append-nil (items fed ++ item ∷ [])))
ends-item (Some End) start old new item out fed has takes gave = absurd takes
ends-item (Some Fault) start old new item out fed has takes gave = absurd takes
ends-item (Some Long) start old new item out fed has takes gave = absurd takes
