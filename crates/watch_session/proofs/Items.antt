-- One more item of a stream.
use Rattle.std.proofs.Common.{◌≡◌, ◌<◌, ℕ, List, [], ◌∷◌, ◌++◌, map, Option, length, take}
use Rattle.std.proofs.Common.{sym, ap, ap₂, subst, ◌∙◌}
use Rattle.std.proofs.lemmas.Grind.{flat_map-append}
use Rattle.std.proofs.lemmas.List.{append-nil, map-append}
use Rattle.dp_io.specs.Shown.{Shown, Took}
use Rattle.dp_io.specs.Streams.{Grew}
use Rattle.dp_io.proofs.Grown.{Grew-append}
use Rattle.frame.specs.declared.item.Item.{Item}
use Rattle.plant_model.specs.declared.plant.Parts.{Parts}
use Rattle.plant_core.specs.declared.call.Call.{Call}
use Rattle.plant_core.specs.declared.call.Entry.{Entry}
use Rattle.plant_book.specs.Books.{BookShown}
use Rattle.plant_book.specs.declared.base.BookBase.{BookBase}
use Rattle.analysis_workers.specs.Works.{GoesOn}
use Rattle.log_text.specs.Commands.{command_text, commands_text}
use Rattle.dp_words.specs.Writing.{TookFront}
use Rattle.watch_session.specs.Asked.{call_for}
use Rattle.watch_session.specs.Loops.{Answers, IsAskedFor, LacksFrames}
use Rattle.watch_session.specs.Loops.{StopsAtFrames, frames}
use Rattle.watch_session.specs.Threads.{calls_of}

-- ---- lists

pub calls-append : (front back : List Entry)
    → calls_of (front ++ back) ≡ calls_of front ++ calls_of back
calls-append front back = map-append (λ (entry : Entry). entry.call) front back

pub commands-more : (plant : Parts) (entries : List Entry) (entry : Entry)
    → commands_text plant (entries ++ entry ∷ [])
    ≡ commands_text plant entries ++ command_text plant entry
commands-more plant entries entry =
    flat_map-append (command_text plant) entries (entry ∷ [])
    ∙ ap (λ (text : List ℕ). commands_text plant entries ++ text)
    (append-nil (command_text plant entry))

-- ---- a pass that went on

module _ (old new : BookShown) (entries : List Entry) (on : GoesOn old new entries) where
  pub mine-on : new.shown.mine ≡ old.shown.mine ++ entries
  mine-on = ap (λ (p : BookShown). p.shown.mine) on.pass

  pub number-on : new.shown.caller ≡ old.shown.caller
  number-on = ap (λ (p : BookShown). p.shown.caller) on.pass

  pub book-on : new.shown.base ≡ old.shown.base
  book-on = ap (λ (p : BookShown). p.shown.base) on.pass

  pub plant-on : new.shown.base.plant ≡ old.shown.base.plant
  plant-on = ap (λ (b : BookBase). b.plant) book-on

-- with no entry, the same items were answered
pub asked-same : (old new : BookShown) (answered : List Item) → GoesOn old new []
    → IsAskedFor old answered → IsAskedFor new answered
asked-same old new answered on asked =
    ap calls_of (mine-on old new [] on ∙ append-nil old.shown.mine) ∙ asked
    ∙ ap (λ (n : ℕ). map (call_for n) answered) (sym (number-on old new [] on))

-- with the answer to an item, one more
pub asked-more : (old new : BookShown) (item : Item) (entry : Entry) (answered : List Item)
    → Answers old new item entry → IsAskedFor old answered
    → IsAskedFor new (answered ++ item ∷ [])
asked-more old new item entry answered answers asked =
    let n = old.shown.caller in
    ap calls_of (mine-on old new (entry ∷ []) answers.went_on)
    ∙ calls-append old.shown.mine (entry ∷ [])
    ∙ ap₂ (λ (xs ys : List Call). xs ++ ys) asked (ap (λ (c : Call). c ∷ []) answers.asked)
    ∙ sym (map-append (call_for n) answered (item ∷ []))
    ∙ ap (λ (m : ℕ). map (call_for m) (answered ++ item ∷ []))
    (sym (number-on old new (entry ∷ []) answers.went_on))

-- ---- frames

-- the frames of all commands, with those of one more entry
pub frames-more : (old new : BookShown) (item : Item) (entry : Entry) → Answers old new item entry
    → commands_text new.shown.base.plant new.shown.mine
    ≡ commands_text old.shown.base.plant old.shown.mine ++ frames old entry
frames-more old new item entry answers =
    ap₂ commands_text (plant-on old new (entry ∷ []) answers.went_on)
    (mine-on old new (entry ∷ []) answers.went_on)
    ∙ commands-more old.shown.base.plant old.shown.mine entry

pub frames-same : (old new : BookShown) → GoesOn old new []
    → commands_text new.shown.base.plant new.shown.mine
    ≡ commands_text old.shown.base.plant old.shown.mine
frames-same old new on = ap₂ commands_text (plant-on old new [] on)
    (mine-on old new [] on ∙ append-nil old.shown.mine)

module _ (start : Option (List ℕ)) (out : Shown) (old new : BookShown) where
  pub wrote-more : (item : Item) (entry : Entry) → Answers old new item entry
      → Grew start out.before (commands_text old.shown.base.plant old.shown.mine)
      → Took out (frames old entry)
      → Grew start out.after (commands_text new.shown.base.plant new.shown.mine)
  wrote-more item entry answers wrote took =
      subst (λ (text : List ℕ). Grew start out.after text)
      (sym (frames-more old new item entry answers))
      (Grew-append start out.before out.after
      (commands_text old.shown.base.plant old.shown.mine) (frames old entry) wrote took)

  pub wrote-same : GoesOn old new []
      → Grew start out.before (commands_text old.shown.base.plant old.shown.mine)
      → Took out [] → Grew start out.after (commands_text new.shown.base.plant new.shown.mine)
  wrote-same on wrote took =
      let text = commands_text old.shown.base.plant old.shown.mine in
      subst (λ (t : List ℕ). Grew start out.after t)
      (append-nil text ∙ sym (frames-same old new on))
      (Grew-append start out.before out.after text [] wrote took)

  -- those of the last entry weren't written
  pub lacks-last : (item : Item) (entry : Entry) → Answers old new item entry
      → Grew start out.before (commands_text old.shown.base.plant old.shown.mine)
      → Took out [] → LacksFrames start out.after new
  lacks-last item entry answers wrote took =
      let text = commands_text old.shown.base.plant old.shown.mine in
      record {
        front = old.shown.mine;
        command = entry;
        is = mine-on old new (entry ∷ []) answers.went_on;
        took = subst (λ (p : Parts). Grew start out.after (commands_text p old.shown.mine))
            (sym (plant-on old new (entry ∷ []) answers.went_on))
            (subst (λ (t : List ℕ). Grew start out.after t) (append-nil text)
            (Grew-append start out.before out.after text [] wrote took));
      }

  -- or only in part
  pub stops-at : (item : Item) (entry : Entry) → Answers old new item entry
      → Grew start out.before (commands_text old.shown.base.plant old.shown.mine)
      → TookFront out (frames old entry) → StopsAtFrames start out.after new
  stops-at item entry answers wrote took =
      let plant : old.shown.base.plant ≡ new.shown.base.plant =
      sym (plant-on old new (entry ∷ []) answers.went_on) in
      record {
        front = old.shown.mine;
        command = entry;
        is = mine-on old new (entry ∷ []) answers.went_on;
        count = took.0;
        part = subst (λ (p : Parts). took.0 < length (command_text p entry)) plant took.1;
        took = subst (λ (p : Parts). Grew start out.after (commands_text p old.shown.mine
            ++ take took.0 (command_text p entry))) plant
            (Grew-append start out.before out.after
            (commands_text old.shown.base.plant old.shown.mine)
            (take took.0 (frames old entry)) wrote took.2);
      }
