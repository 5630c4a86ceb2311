-- Histories of blocks: what their verdicts add, and one block more.
use Rattle.std.proofs.Common.{◌≡◌, ℕ, ◌+◌, List, [], ◌∷◌, ◌++◌, length, Bool, true, false, cond}
use Rattle.std.proofs.Common.{Result, Ok, Err, refl, sym, ◌∙◌, ap, subst, arith, append_assoc}
use Rattle.std.specs.Prelude.{map}
use Rattle.std.specs.List.{filter, flat_map, fold}
use Rattle.std.proofs.lemmas.Grind.{flat_map-append}
use Rattle.std.proofs.lemmas.List.{append-nil, map-append}
use Rattle.std.proofs.lemmas.List.Elements.{All-nil, All-cons, filter-append}
use Rattle.std.proofs.lemmas.List.{length-append}
use Rattle.std.proofs.lemmas.List.Sums.{fold-append}
use Rattle.frame.specs.declared.item.Item.{Item}
use Rattle.frame.specs.declared.item.Item.TheVariants.{Body, Damaged}
use Rattle.plant_model.specs.declared.plant.Parts.{Parts}
use Rattle.telegram.specs.Telegrams.{telegram}
use Rattle.telegram.specs.declared.telegram.Telegram.{Telegram as TelegramKind}
use Rattle.telegram.specs.declared.telegram.Reject.{Reject}
use Rattle.plant_core.specs.Machine.{Stand, is_event, next, stand_after, opening_stand}
use Rattle.plant_core.specs.declared.call.Entry.{Entry}
use Rattle.log_text.specs.Commands.{call_frames, command_text, commands_text}
use Rattle.dp_sessions.specs.Sessions.{Asked, AnswersItems, AreFollowed, AreOfSession, AreVerdictsOn}
use Rattle.dp_sessions.specs.Sessions.{Block, EachVerdict, IsFollowed, IsFollowedWhere, asked, asked_by}
use Rattle.dp_sessions.specs.Sessions.{asked_for, entries_of, events_in}
use Rattle.dp_sessions.proofs.Counts.{events-first}

-- ---- verdicts

-- entries of the session that have no frames, and of which none is a telegram or a note
pub record AreSilent (plant : Parts) (entries : List Entry) : Type 0 where
  pub commands : commands_text plant entries ≡ []
  pub events : events_in entries ≡ 0
  pub of_session : AreOfSession entries

silent-none : (plant : Parts) → AreSilent plant []
silent-none plant = record {
  commands = refl;
  events = refl;
  of_session = All-nil (λ (e : Entry). e.caller ≡ 0);
}

pub silent-each : (plant : Parts) (version group : ℕ) (entries : List Entry)
    → EachVerdict version group entries → AreSilent plant entries
silent-each plant version group [] each = silent-none plant
silent-each plant version group (entry ∷ entries) each =
    let rest = silent-each plant version (group + 1) entries each.1 in
    let frames : command_text plant entry ≡ [] =
    ap (λ (a : Asked). call_frames plant a.1 entry.reply) each.0.asked in
    let uncounted : cond {A = ℕ} (is_event entry.call) 1 0 ≡ 0 =
    ap (λ (a : Asked). cond {A = ℕ} (is_event a.1) 1 0) each.0.asked in
    record {
      commands = ap (λ (t : List ℕ). t ++ commands_text plant entries) frames ∙ rest.commands;
      events = omega (arith, events-first entry entries, uncounted, rest.events);
      of_session = All-cons (λ (e : Entry). e.caller ≡ 0) entry entries
          (ap (λ (a : Asked). a.0) each.0.asked) rest.of_session;
    }

pub silent-verdicts : (plant : Parts) (version : ℕ) (entries : List Entry)
    → AreVerdictsOn plant version entries → AreSilent plant entries
silent-verdicts plant version entries are = silent-each plant version 0 entries are.each

silent-where : (same : Bool) (plant : Parts) (version : ℕ) (verdicts : List Entry)
    → IsFollowedWhere same plant version verdicts → AreSilent plant verdicts
silent-where true plant version verdicts none =
    subst (λ (entries : List Entry). AreSilent plant entries) (sym none) (silent-none plant)
silent-where false plant version verdicts are = silent-verdicts plant version verdicts are

-- what follows an answer is silent
pub silent-followed : (plant : Parts) (stand : Stand) (block : Block)
    → IsFollowed plant stand block → AreSilent plant block.verdicts
silent-followed plant stand block is =
    silent-where _ plant (next plant stand block.entry).state.latest.number block.verdicts is

-- ---- what is written

commands-append : (plant : Parts) (front back : List Entry)
    → commands_text plant (front ++ back) ≡ commands_text plant front ++ commands_text plant back
commands-append plant front back = flat_map-append (command_text plant) front back

-- a block more adds the frames of its answer
pub commands-more : (plant : Parts) (history : List Entry) (block : Block)
    → AreSilent plant block.verdicts
    → commands_text plant (history ++ entries_of block)
    ≡ commands_text plant history ++ command_text plant block.entry
commands-more plant history block silent =
    commands-append plant history (entries_of block)
    ∙ ap (λ (t : List ℕ). commands_text plant history ++ (command_text plant block.entry ++ t))
    silent.commands
    ∙ ap (λ (t : List ℕ). commands_text plant history ++ t)
    (append-nil (command_text plant block.entry))

-- ---- telegrams and notes

-- what an item asks for is a telegram or a note
event-by : (read : Result TelegramKind Reject) → is_event (asked_by read).1 ≡ true
event-by (Ok telegram) = refl
event-by (Err reject) = refl

event-item : (item : Item) → is_event (asked_for item).1 ≡ true
event-item (Body body) = event-by (telegram body)
event-item (Damaged damage) = refl

pub event-asked : (entry : Entry) (item : Item) → asked entry ≡ asked_for item
    → is_event entry.call ≡ true
event-asked entry item is = ap (λ (a : Asked). is_event a.1) is ∙ event-item item

events-append : (front back : List Entry)
    → events_in (front ++ back) ≡ events_in front + events_in back
events-append front back = ap length (filter-append (λ (e : Entry). is_event e.call) front back)
    ∙ length-append (filter (λ (e : Entry). is_event e.call) front)
    (filter (λ (e : Entry). is_event e.call) back)

events-blocks : (plant : Parts) (stand : Stand) (blocks : List Block) (answered : List Item)
    → AreFollowed plant stand blocks
    → map (λ (block : Block). asked block.entry) blocks ≡ map asked_for answered
    → events_in (flat_map entries_of blocks) ≡ length answered
events-blocks plant stand [] [] followed is = refl
events-blocks plant stand [] (item ∷ answered) followed is = cc
events-blocks plant stand (block ∷ blocks) [] followed is = cc
events-blocks plant stand (block ∷ blocks) (item ∷ answered) followed is =
    let head : asked block.entry ≡ asked_for item = cc in
    let tail : map (λ (block : Block). asked block.entry) blocks ≡ map asked_for answered = cc in
    let rest = flat_map entries_of blocks in
    let more = events-blocks plant (fold (next plant) stand (entries_of block)) blocks answered
    followed.1 tail in
    let counted : cond {A = ℕ} (is_event block.entry.call) 1 0 ≡ 1 =
    ap (λ (b : Bool). cond {A = ℕ} b 1 0) (event-asked block.entry item head) in
    omega (
      arith,
      events-first block.entry (block.verdicts ++ rest),
      counted,
      events-append block.verdicts rest,
      (silent-followed plant stand block followed.0).events,
      more,
    )

-- the history has as many telegrams and notes as it answers items
pub events-answered : (plant : Parts) (history : List Entry) (answered : List Item)
    → AnswersItems plant history answered → events_in history ≡ length answered
events-answered plant history answered is = omega (
  arith,
  ap events_in is.is,
  events-append is.opening (flat_map entries_of is.blocks),
  (silent-verdicts plant 0 is.opening is.verdicts).events,
  events-blocks plant (stand_after plant is.opening) is.blocks answered is.followed is.asked,
)

-- ---- one block more

followed-more : (plant : Parts) (stand : Stand) (blocks : List Block) (block : Block)
    → AreFollowed plant stand blocks
    → IsFollowed plant (fold (next plant) stand (flat_map entries_of blocks)) block
    → AreFollowed plant stand (blocks ++ block ∷ [])
followed-more plant stand [] block followed is = (is, tt)
followed-more plant stand (first ∷ blocks) block followed is =
    let after = fold (next plant) stand (entries_of first) in
    let split = fold-append (next plant) stand (entries_of first) (flat_map entries_of blocks) in (
      followed.0,
      followed-more plant after blocks block followed.1
          (subst (λ (s : Stand). IsFollowed plant s block) split is),
    )

-- the history with the answer to one item more, and what follows it
pub answers-more : (plant : Parts) (history : List Entry) (answered : List Item) (block : Block)
    (item : Item) → AnswersItems plant history answered → asked block.entry ≡ asked_for item
    → IsFollowed plant (stand_after plant history) block
    → AnswersItems plant (history ++ entries_of block) (answered ++ item ∷ [])
answers-more plant history answered block item so_far is followed =
    let stand = stand_after plant so_far.opening in
    let entries = flat_map entries_of so_far.blocks in
    let reached : stand_after plant history ≡ fold (next plant) stand entries =
    ap (stand_after plant) so_far.is
    ∙ fold-append (next plant) (opening_stand plant) so_far.opening entries in
    let last : flat_map entries_of (so_far.blocks ++ block ∷ []) ≡ entries ++ entries_of block =
    flat_map-append entries_of so_far.blocks (block ∷ [])
    ∙ ap (λ (es : List Entry). entries ++ es) (append-nil (entries_of block)) in
    record {
      opening = so_far.opening;
      blocks = so_far.blocks ++ block ∷ [];
      is = ap (λ (h : List Entry). h ++ entries_of block) so_far.is
          ∙ append_assoc so_far.opening entries (entries_of block)
          ∙ ap (λ (es : List Entry). so_far.opening ++ es) (sym last);
      verdicts = so_far.verdicts;
      asked = map-append (λ (b : Block). asked b.entry) so_far.blocks (block ∷ [])
          ∙ ap (λ (front : List Asked). front ++ asked block.entry ∷ []) so_far.asked
          ∙ ap (λ (last : Asked). map asked_for answered ++ last ∷ []) is
          ∙ sym (map-append asked_for answered (item ∷ []));
      followed = followed-more plant stand so_far.blocks block so_far.followed
          (subst (λ (s : Stand). IsFollowed plant s block) reached followed);
    }

-- ---- the opening

blocks-none : (blocks : List Block)
    → map (λ (block : Block). asked block.entry) blocks ≡ map asked_for [] → blocks ≡ []
blocks-none [] is = refl
blocks-none (block ∷ blocks) is = cc

-- where no item is answered yet, no frames were written
pub commands-opening : (plant : Parts) (history : List Entry) → AnswersItems plant history []
    → commands_text plant history ≡ []
commands-opening plant history is =
    let none = blocks-none is.blocks is.asked in
    let opening : history ≡ is.opening =
    is.is ∙ ap (λ (bs : List Block). is.opening ++ flat_map entries_of bs) none
    ∙ append-nil is.opening in
    ap (commands_text plant) opening ∙ (silent-verdicts plant 0 is.opening is.verdicts).commands
