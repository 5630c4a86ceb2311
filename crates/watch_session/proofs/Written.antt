-- What was written of a session's history.
use Rattle.std.proofs.Common.{◌≡◌, ◌≢◌, ℕ, ◌+◌, ◌<◌, List, [], ◌∷◌, ◌++◌, length, take, Option}
use Rattle.std.proofs.Common.{refl, sym, ◌∙◌, ap, subst}
use Rattle.std.specs.List.{All}
use Rattle.std.proofs.Math.Seq.{take-append-add}
use Rattle.dp_io.specs.Shown.{GrewInPart}
use Rattle.dp_io.specs.Streams.{Grew}
use Rattle.plant_model.specs.declared.plant.Parts.{Parts}
use Rattle.plant_core.specs.declared.call.Entry.{Entry}
use Rattle.plant_book.specs.Books.{BookShown}
use Rattle.turn_lock.proofs.Lists.{All-prefix}
use Rattle.log_text.specs.Commands.{command_text, commands_text}
use Rattle.dp_sessions.specs.Sessions.{StopsAtCommand}
use Rattle.dp_sessions.specs.declared.session.Ending.{Ending}
use Rattle.dp_sessions.specs.declared.session.Ending.TheVariants.{End, Fault, Long, Full, Write}
use Rattle.dp_words.proofs.Parts.{part-front, part-whole}
use Rattle.watch_session.specs.Loops.{StopsAtFrames, Wrote}
use Rattle.watch_session.specs.Threads.{AreOfOthers}
use Rattle.watch_session.specs.declared.stream.StreamEnd.{StreamEnd}
use Rattle.watch_session.specs.declared.stream.StreamEnd.TheVariants as halts
use Rattle.watch_session.proofs.Entries.{by, commands-by}
use Rattle.watch_session.proofs.Items.{commands-more}
use Rattle.watch_session.proofs.Last.{last-of}

-- all frames were written, where no fault stopped them
pub wrote-frames : (one : Ending) (start now : Option (List ℕ)) (pass : BookShown) → one ≢ Write
    → Wrote (halts.Ended one) start now pass
    → Grew start now (commands_text pass.shown.base.plant pass.shown.mine)
wrote-frames End start now pass other wrote = wrote
wrote-frames Fault start now pass other wrote = wrote
wrote-frames Long start now pass other wrote = wrote
wrote-frames Full start now pass other wrote = wrote
wrote-frames Write start now pass other wrote = absurd (other refl)

-- at any end the frames of first commands were, or a part of those of the last
pub wrote-part : (end : StreamEnd) (start now : Option (List ℕ)) (pass : BookShown)
    → Wrote end start now pass
    → GrewInPart start now (commands_text pass.shown.base.plant pass.shown.mine)
wrote-part (halts.Ended Write) start now pass stops =
    let plant = pass.shown.base.plant in
    let text : commands_text plant pass.shown.mine
    ≡ commands_text plant stops.front ++ command_text plant stops.command =
    ap (commands_text plant) stops.is ∙ commands-more plant stops.front stops.command in
    subst (λ (t : List ℕ). GrewInPart start now t) (sym text)
    (grew-both start now (commands_text plant stops.front) (command_text plant stops.command)
    stops.count stops.took)
  where
    grew-both : (start now : Option (List ℕ)) (x y : List ℕ) (count : ℕ)
        → Grew start now (x ++ take count y) → GrewInPart start now (x ++ y)
    grew-both start now x y count took = (
      length x + count,
      subst (λ (t : List ℕ). Grew start now t) (sym (take-append-add x y count)) took,
    )
wrote-part halts.NoFrames start now pass lacks =
    let plant = pass.shown.base.plant in
    let text : commands_text plant pass.shown.mine
    ≡ commands_text plant lacks.front ++ command_text plant lacks.command =
    ap (commands_text plant) lacks.is ∙ commands-more plant lacks.front lacks.command in
    subst (λ (t : List ℕ). GrewInPart start now t) (sym text)
    (part-front start now (commands_text plant lacks.front) (command_text plant lacks.command)
    (part-whole start now (commands_text plant lacks.front) lacks.took))
wrote-part (halts.Ended End) start now pass wrote = part-whole start now _ wrote
wrote-part (halts.Ended Fault) start now pass wrote = part-whole start now _ wrote
wrote-part (halts.Ended Long) start now pass wrote = part-whole start now _ wrote
wrote-part (halts.Ended Full) start now pass wrote = part-whole start now _ wrote
wrote-part halts.NoAnswer start now pass wrote = part-whole start now _ wrote

-- writing stopped within the frames of the last command of the history
pub stops-command : (plant : Parts) (before after : Option (List ℕ)) (pass : BookShown)
    (history : List Entry) → StopsAtFrames before after pass → pass.shown.base.plant ≡ plant
    → by 1 history ≡ pass.shown.mine
    → All (λ e. e.caller ≢ 1 → command_text plant e ≡ []) history
    → StopsAtCommand plant AreOfOthers before after history
stops-command plant before after pass history stops plant_is own silent =
    let last = last-of 1 history stops.front stops.command (own ∙ stops.is) in
    let P : Entry → Type 0 = λ e. e.caller ≢ 1 → command_text plant e ≡ [] in
    let front_silent = All-prefix P last.front history
    (stops.command ∷ last.back, sym last.is) silent in
    let text : commands_text plant stops.front ≡ commands_text plant last.front =
    ap (commands_text plant) (sym last.own_front) ∙ commands-by plant 1 last.front front_silent in
    record {
      front = last.front;
      command = stops.command;
      back = last.back;
      is = last.is;
      last = last.others;
      count = stops.count;
      part = subst (λ (p : Parts). stops.count < length (command_text p stops.command)) plant_is
          stops.part;
      took = subst (λ (t : List ℕ). Grew before after
          (t ++ take stops.count (command_text plant stops.command))) text
          (subst (λ (p : Parts). Grew before after (commands_text p stops.front
          ++ take stops.count (command_text p stops.command))) plant_is stops.took);
    }
