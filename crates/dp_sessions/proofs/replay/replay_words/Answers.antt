-- The words have no form, or one without a plant, or name a plant.
use Rattle.std.proofs.Common.{length, map, string_bytes, sym, ap}
use Rattle.std.proofs.Math.Path.{refl}
use Rattle.dp_io.specs.Shown.{NoneFailed, reading, writing}
use Rattle.dp_words.specs.declared.status.RunStatus.TheVariants.{Usage}
use Rattle.dp_sessions.specs.Sessions.{passed, recorded}
use Rattle.dp_sessions.proofs.Endings.{session-usage}
use Rattle.dp_words.proofs.Faults.{all-one}
use Rattle.dp_words.proofs.Plants.{named-at}
use Rattle.dp_sessions.proofs.Votes.{has-plant}
use Rattle.dp_sessions.proofs.replay.replay_words.Goals as goal

pub returns-in-Some-clause-session : goal.returns-in-Some-clause-session
returns-in-Some-clause-session g c = λ none.
    let words = map string_bytes c.args.words.now in
    c.replay.ensures.session words
    (named-at string_bytes c.args.words.now c.index-words-plant.result c.in-Ok.form
    c.as_str.result.now c.in-Some.plant (sym c.in-Ok.ensures.form) (sym c.in-Some.ensures.place)
    (c.in-Some.ensures.within (length c.args.words.now) c.in-Ok.ensures.within)
    c.index-words-plant.is c.as_str.ensures.value)

pub returns-in-Some-clause-refused : goal.returns-in-Some-clause-refused
returns-in-Some-clause-refused g c = λ none.
    absurd (has-plant (map string_bytes c.args.words.now) c.in-Ok.form c.in-Some.plant
    (sym c.in-Ok.ensures.form) (sym c.in-Some.ensures.place) none)

pub returns-in-Some-clause-unread : goal.returns-in-Some-clause-unread
returns-in-Some-clause-unread g c = λ none.
    let word = c.as_str.result.now in
    c.replay.ensures.unread (none word
    (named-at string_bytes c.args.words.now c.index-words-plant.result c.in-Ok.form word
    c.in-Some.plant (sym c.in-Ok.ensures.form) (sym c.in-Some.ensures.place)
    (c.in-Some.ensures.within (length c.args.words.now) c.in-Ok.ensures.within)
    c.index-words-plant.is c.as_str.ensures.value))

pub returns-in-None-clause-session : goal.returns-in-None-clause-session
returns-in-None-clause-session g c = λ some.
    absurd (some (c.in-Ok.form, sym c.in-Ok.ensures.form, sym c.in-None.ensures.place))

pub returns-in-None-clause-refused : goal.returns-in-None-clause-refused
returns-in-None-clause-refused g c = λ none. record {
  usage = ap Usage c.number.ensures;
  unread = (refl, refl);
  unwritten = refl;
  none_failed = refl;
}

pub returns-in-Err-clause-session : goal.returns-in-Err-clause-session
returns-in-Err-clause-session g c = λ none.
    let words = map string_bytes c.args.words.now in
    let first = reading g.A.Source c.args.first.now c.args.first.now in
    let telegrams = c.args.telegrams.now in
    let source = passed g.B.Source telegrams telegrams in
    let out = writing g.O.Sink c.args.out.now c.args.out.now in
    session-usage words c.in-Err.kind first (recorded source out) out (sym c.in-Err.ensures.form)
    (record { unwritten = refl; unread = refl }) refl (all-one NoneFailed source.shown refl) refl

pub returns-in-Err-clause-refused : goal.returns-in-Err-clause-refused
returns-in-Err-clause-refused g c = λ none. absurd (cc (none.1, c.in-Err.ensures.form))
