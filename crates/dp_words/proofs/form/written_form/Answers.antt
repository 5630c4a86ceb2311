-- The kept options and places are enough for each command.
use Rattle.std.proofs.Common.{ap, map, string_bytes, ◌∙◌}
use Rattle.dp_words.specs.Sorting.{pair}
use Rattle.dp_words.proofs.Forms.{form_of_capability, form_of_check, form_of_drill, form_of_replay}
use Rattle.dp_words.proofs.Forms.{form_of_run, form_of_vote}
use Rattle.dp_words.proofs.Forms.{names_of}
use Rattle.dp_words.proofs.form.written_form.Goals as goal

pub returns-in-run-clause-form : goal.returns-in-run-clause-form
returns-in-run-clause-form c =
    let sorted = c.sort_words-sorted in
    c.run_form.ensures.form
    ∙ form_of_run string_bytes c.args.words.now c.in-Some.words.now c.in-Some.command.now
    c.as_str.result.now (map pair c.as_slice-options.result.now)
    (map pair c.as_slice-places.result.now) c.in-Some.ensures.cases.0 c.as_str.ensures.value
    c.in-run.is (ap (map pair) c.as_slice-options.ensures.value ∙ sorted.ensures.options)
    (ap (map pair) c.as_slice-places.ensures.value ∙ sorted.ensures.places)

pub returns-in-replay-clause-form : goal.returns-in-replay-clause-form
returns-in-replay-clause-form c =
    let sorted = c.sort_words-sorted in
    c.replay_form.ensures.form
    ∙ form_of_replay string_bytes c.args.words.now c.in-Some.words.now c.in-Some.command.now
    c.as_str.result.now (map pair c.as_slice-options.result.now)
    (map pair c.as_slice-places.result.now) c.in-Some.ensures.cases.0 c.as_str.ensures.value
    c.in-replay.is (ap (map pair) c.as_slice-options.ensures.value ∙ sorted.ensures.options)
    (ap (map pair) c.as_slice-places.ensures.value ∙ sorted.ensures.places)

pub returns-in-check-clause-form : goal.returns-in-check-clause-form
returns-in-check-clause-form c =
    let sorted = c.sort_words-sorted in
    c.check_form.ensures.form
    ∙ form_of_check string_bytes c.args.words.now c.in-Some.words.now c.in-Some.command.now
    c.as_str.result.now (map pair c.as_slice-options.result.now)
    (map pair c.as_slice-places.result.now) c.in-Some.ensures.cases.0 c.as_str.ensures.value
    c.in-check.is (ap (map pair) c.as_slice-options.ensures.value ∙ sorted.ensures.options)
    (ap (map pair) c.as_slice-places.ensures.value ∙ sorted.ensures.places)

pub returns-in-vote-clause-form : goal.returns-in-vote-clause-form
returns-in-vote-clause-form c =
    let sorted = c.sort_words-sorted in
    c.vote_form.ensures.form
    ∙ form_of_vote string_bytes c.args.words.now c.in-Some.words.now c.in-Some.command.now
    c.as_str.result.now (map pair c.as_slice-options.result.now)
    (map pair c.as_slice-places.result.now) c.in-Some.ensures.cases.0 c.as_str.ensures.value
    c.in-vote.is (ap (map pair) c.as_slice-options.ensures.value ∙ sorted.ensures.options)
    (ap (map pair) c.as_slice-places.ensures.value ∙ sorted.ensures.places)

pub returns-in-capability-clause-form : goal.returns-in-capability-clause-form
returns-in-capability-clause-form c =
    let sorted = c.sort_words-sorted in
    c.capability_form.ensures.form
    ∙ form_of_capability string_bytes c.args.words.now c.in-Some.words.now c.in-Some.command.now
    c.as_str.result.now (map pair c.as_slice-options.result.now)
    (map pair c.as_slice-places.result.now) c.in-Some.ensures.cases.0 c.as_str.ensures.value
    c.in-capability.is (ap (map pair) c.as_slice-options.ensures.value ∙ sorted.ensures.options)
    (ap (map pair) c.as_slice-places.ensures.value ∙ sorted.ensures.places)

pub returns-in-drill-clause-form : goal.returns-in-drill-clause-form
returns-in-drill-clause-form c =
    let sorted = c.sort_words-sorted in
    c.drill_form.ensures.form
    ∙ form_of_drill string_bytes c.args.words.now c.in-Some.words.now c.in-Some.command.now
    c.as_str.result.now (map pair c.as_slice-options.result.now)
    (map pair c.as_slice-places.result.now) c.in-Some.ensures.cases.0 c.as_str.ensures.value
    c.in-drill.is (ap (map pair) c.as_slice-options.ensures.value ∙ sorted.ensures.options)
    (ap (map pair) c.as_slice-places.ensures.value ∙ sorted.ensures.places)

pub returns-in-run-clause-within : goal.returns-in-run-clause-within
returns-in-run-clause-within c =
    names_of string_bytes c.args.words.now c.run_form.result (returns-in-run-clause-form c)

pub returns-in-replay-clause-within : goal.returns-in-replay-clause-within
returns-in-replay-clause-within c =
    names_of string_bytes c.args.words.now c.replay_form.result (returns-in-replay-clause-form c)

pub returns-in-check-clause-within : goal.returns-in-check-clause-within
returns-in-check-clause-within c =
    names_of string_bytes c.args.words.now c.check_form.result (returns-in-check-clause-form c)

pub returns-in-vote-clause-within : goal.returns-in-vote-clause-within
returns-in-vote-clause-within c =
    names_of string_bytes c.args.words.now c.vote_form.result (returns-in-vote-clause-form c)

pub returns-in-capability-clause-within : goal.returns-in-capability-clause-within
returns-in-capability-clause-within c =
    names_of string_bytes c.args.words.now c.capability_form.result (returns-in-capability-clause-form c)

pub returns-in-drill-clause-within : goal.returns-in-drill-clause-within
returns-in-drill-clause-within c =
    names_of string_bytes c.args.words.now c.drill_form.result (returns-in-drill-clause-form c)
