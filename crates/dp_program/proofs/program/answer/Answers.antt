-- What the words ask for is what their form says.
use Rattle.std.proofs.Common.{length, map, string_bytes, subst, sym, ap, Ok, ◌∙◌}
use Rattle.std.proofs.Math.Path.{refl}
use Rattle.dp_io.specs.Shown.{writing}
use Rattle.dp_words.specs.Words.{AsksWithin, NamesBelow}
use Rattle.dp_words.specs.declared.form.Form.{Form}
use Rattle.dp_words.specs.declared.form.Form.TheVariants.{Check, Replay, Run}
use Rattle.dp_sessions.specs.Checks.{AsksCheck}
use Rattle.dp_sessions.specs.Sessions.{passed}
use Rattle.dp_words.proofs.Plants.{named-at, word-at}
use Rattle.dp_program.proofs.Named.{no-capability, no-drill, no-vote, ran-check, ran-replay}
use Rattle.dp_program.proofs.Named.{ran-usage, ran-watch}
use Rattle.dp_program.proofs.program.answer.Goals as goal

pub watch-requires-clause-workers : goal.watch-requires-clause-workers
watch-requires-clause-workers g c =
    let run = c.in-Ok-Run in
    let within = subst AsksWithin run.field-0-is run.ensures.demand in
    λ lifetimes lives. within.1

pub returns-in-Ok-Run : goal.returns-in-Ok-Run
returns-in-Ok-Run g c =
    let words = map string_bytes c.args.words.now in
    let run = c.in-Ok-Run in
    let is_form = sym run.ensures.form ∙ ap Ok run.field-0-is in
    let within = subst (λ (form : Form). NamesBelow form (length c.args.words.now)) run.field-0-is
    run.ensures.within in
    let word = c.as_str-word.result.now in
    let named = named-at string_bytes c.args.words.now c.index-words-plant.result
    (Run run.plant run.field-0-1 run.field-0-2 run.workers) word run.plant is_form refl within.0
    c.index-words-plant.is c.as_str-word.ensures.value in
    ran-watch words c.watch.result (passed g.A.Source c.args.first.now c.watch.new.first)
    (passed g.B.Source c.args.second.now c.watch.new.sensors)
    (passed g.C.Source c.args.third.now c.watch.new.operators)
    (writing g.O.Sink c.args.out.now c.watch.new.out) (λ none. c.watch.ensures.unread (none word named))
    run.plant run.field-0-1 run.field-0-2 run.workers is_form (c.watch.ensures.session words named)

pub returns-in-Ok-Replay : goal.returns-in-Ok-Replay
returns-in-Ok-Replay g c =
    let words = map string_bytes c.args.words.now in
    let replay = c.in-Ok-Replay in
    let is_form = sym replay.ensures.form ∙ ap Ok replay.field-0-is in
    let within = subst (λ (form : Form). NamesBelow form (length c.args.words.now))
    replay.field-0-is replay.ensures.within in
    let word = c.as_str.result.now in
    let named = named-at string_bytes c.args.words.now c.index-words-plant-in-Ok-Replay.result
    (Replay replay.plant replay.field-0-1) word replay.plant is_form refl within.0
    c.index-words-plant-in-Ok-Replay.is c.as_str.ensures.value in
    ran-replay words c.replay.result (passed g.A.Source c.args.first.now c.replay.new.first)
    (passed g.B.Source c.args.second.now c.replay.new.telegrams)
    (passed g.C.Source c.args.third.now c.args.third.now)
    (writing g.O.Sink c.args.out.now c.replay.new.out)
    (λ none. c.replay.ensures.unread (none word named)) replay.plant replay.field-0-1 is_form
    (c.replay.ensures.session words named) refl

pub returns-in-Ok-Check : goal.returns-in-Ok-Check
returns-in-Ok-Check g c =
    let words = map string_bytes c.args.words.now in
    let check = c.in-Ok-Check in
    let is_form = sym check.ensures.form ∙ ap Ok check.field-0-is in
    let within = subst (λ (form : Form). NamesBelow form (length c.args.words.now)) check.field-0-is
    check.ensures.within in
    let word = c.as_str-in-Ok-Check.result.now in
    let asked : AsksCheck words word check.demand check.json = (
      check.plant,
      is_form,
      word-at string_bytes c.args.words.now c.index-words-plant-in-Ok-Check.result word check.plant
          within c.index-words-plant-in-Ok-Check.is c.as_str-in-Ok-Check.ensures.value,
    ) in
    let named = named-at string_bytes c.args.words.now c.index-words-plant-in-Ok-Check.result
    (Check check.plant check.demand check.json) word check.plant is_form refl within
    c.index-words-plant-in-Ok-Check.is c.as_str-in-Ok-Check.ensures.value in
    ran-check words c.check.result (passed g.A.Source c.args.first.now c.check.new.first)
    (passed g.B.Source c.args.second.now c.args.second.now)
    (passed g.C.Source c.args.third.now c.args.third.now)
    (writing g.O.Sink c.args.out.now c.check.new.out)
    (λ none. c.check.ensures.unread (none word named)) check.plant check.demand check.json is_form
    (c.check.ensures.findings words asked) refl refl

pub returns-in-Err : goal.returns-in-Err
returns-in-Err g c =
    ran-usage (map string_bytes c.args.words.now) c.in-Err.kind
    (passed g.A.Source c.args.first.now c.args.first.now)
    (passed g.B.Source c.args.second.now c.args.second.now)
    (passed g.C.Source c.args.third.now c.args.third.now)
    (writing g.O.Sink c.args.out.now c.args.out.now) (sym c.in-Err.ensures.form) refl refl refl refl
    refl refl refl refl

pub unreachable-requires : goal.unreachable-requires
unreachable-requires g c =
    let vote = c.in-Ok-Vote in
    no-vote (map string_bytes c.args.words.now) vote.field-0-0 vote.field-0-1
    c.requires.no_vote (sym vote.ensures.form ∙ ap Ok vote.field-0-is)

pub unreachable-requires-in-Ok-Capability : goal.unreachable-requires-in-Ok-Capability
unreachable-requires-in-Ok-Capability g c =
    let capability = c.in-Ok-Capability in
    no-capability (map string_bytes c.args.words.now) capability.field-0-0 capability.field-0-1
    c.requires.no_capability (sym capability.ensures.form ∙ ap Ok capability.field-0-is)

pub unreachable-requires-in-Ok-Drill : goal.unreachable-requires-in-Ok-Drill
unreachable-requires-in-Ok-Drill g c =
    let drill = c.in-Ok-Drill in
    no-drill (map string_bytes c.args.words.now) drill.field-0-0 drill.field-0-1
    c.requires.no_drill (sym drill.ensures.form ∙ ap Ok drill.field-0-is)
