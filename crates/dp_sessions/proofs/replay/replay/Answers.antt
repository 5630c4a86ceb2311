-- What each end of a session says: no plant, a session that ended, and one that was stopped.
use Rattle.std.proofs.Common.{◌≡◌, [], ◌∷◌, ap, Err}
use Rattle.std.proofs.Math.Path.{refl}
use Rattle.dp_io.specs.Shown.{NoneFailed, reading, writing}
use Rattle.dp_words.specs.declared.status.RunStatus.TheVariants.{NoMemory, WriteFault}
use Rattle.dp_sessions.specs.Sessions.{passed, recorded}
use Rattle.dp_sessions.proofs.Endings.{session-ended, session-no_plant, session-stopped}
use Rattle.dp_sessions.proofs.Endings.{shows-ending}
use Rattle.dp_words.proofs.Faults.{all-one, tells-no_plant}
use Rattle.dp_sessions.proofs.replay.replay.Goals as goal

pub returns-in-Err-clause-session : goal.returns-in-Err-clause-session
returns-in-Err-clause-session g c = λ words named.
    let first =
    reading g.A.Source c.args.first.now c.plant_from.new.source in
    let telegrams = c.args.telegrams.now in
    let source = passed g.B.Source telegrams telegrams in
    let out = writing g.O.Sink c.args.out.now c.args.out.now in
    let word = c.args.word.now in
    let status = c.in-Err.status in
    let error = c.in-Err.ensures.finds.error in
    session-no_plant words status word first (recorded source out) out named error
    (record { unwritten = refl; unread = refl })
    (tells-no_plant c.plant_from.result status word first (source.shown ∷ []) out error c.in-Err.is
    c.plant_from.ensures.no_fault refl (all-one NoneFailed source.shown refl))

pub returns-in-Ok-session-clause-session : goal.returns-in-Ok-session-clause-session
returns-in-Ok-session-clause-session g c = λ words named.
    let first =
    reading g.A.Source c.args.first.now c.plant_from.new.source in
    let source =
    passed g.B.Source c.args.telegrams.now c.session.new.source in
    let out = writing g.O.Sink c.args.out.now c.session.new.out in
    let ended = c.in-Ok-session.ended in
    let ends = c.in-Ok-session.ensures in
    let stands = ends.ended.stands in
    session-ended words c.args.word.now c.status.result ended.ending ended.is_lost c.in-Ok.plant
    first (recorded source out) out named c.in-Ok.ensures.finds.found c.status.ensures ends.whole
    ends.ended
    (shows-ending c.in-Ok.plant ended.ending source.shown out ends.ended.history stands ends.full)
    (c.plant_from.ensures.no_fault (λ e. cc (c.in-Ok.is, e)) (λ e. cc (c.in-Ok.is, e)))
    ends.writing.no_fault

pub returns-in-Err-session-clause-session : goal.returns-in-Err-session-clause-session
returns-in-Err-session-clause-session g c = λ words named.
    let first =
    reading g.A.Source c.args.first.now c.plant_from.new.source in
    let source =
    passed g.B.Source c.args.telegrams.now c.session.new.source in
    let out = writing g.O.Sink c.args.out.now c.session.new.out in
    let status = c.in-Err-session.status in
    let stopped = c.in-Err-session.ensures in
    session-stopped words c.args.word.now status c.in-Ok.plant first (recorded source out) out named
    c.in-Ok.ensures.finds.found stopped.writing.errors
    (λ (fault : status ≡ WriteFault). stopped.cut (ap Err fault))
    (λ (memory : status ≡ NoMemory). stopped.begun (ap Err memory))
    (λ (fault : status ≡ WriteFault). stopped.writing.failed (ap Err fault))
