-- What each end of a session says: no plant, a session that ended, and one that was stopped.
use Rattle.std.proofs.Common.{◌≡◌, [], ◌∷◌, ap, Err}
use Rattle.std.proofs.Math.Path.{refl}
use Rattle.dp_io.specs.Shown.{NoneFailed, reading, writing}
use Rattle.dp_words.specs.declared.status.RunStatus.TheVariants.{NoMemory, WriteFault}
use Rattle.dp_sessions.specs.Sessions.{passed}
use Rattle.dp_sessions.proofs.Endings.{session-ended, session-no_plant, session-stopped}
use Rattle.dp_words.proofs.Faults.{all-two, tells-no_plant}
use Rattle.watch_session.specs.Threads.{watched}
use Rattle.dp_program.proofs.Gravest.{shows-both}
use Rattle.dp_program.proofs.watch.watch.Goals as goal

pub returns-in-Err-clause-session : goal.returns-in-Err-clause-session
returns-in-Err-clause-session g c = λ words named.
    let first = reading g.A.Source c.args.first.now c.plant_from.new.source in
    let sensors = passed g.B.Source c.args.sensors.now c.args.sensors.now in
    let operators = passed g.C.Source c.args.operators.now c.args.operators.now in
    let out = writing g.O.Sink c.args.out.now c.args.out.now in
    let word = c.args.word.now in
    let status = c.in-Err.status in
    let error = c.in-Err.ensures.finds.error in
    session-no_plant words status word first (watched c.args.workers sensors operators out) out named
    error (record { unwritten = refl; unread = (refl, refl) })
    (tells-no_plant c.plant_from.result status word first (sensors.shown ∷ operators.shown ∷ []) out
    error c.in-Err.is c.plant_from.ensures.no_fault refl
    (all-two NoneFailed sensors.shown operators.shown refl refl))

pub returns-in-Ok-watch_session-clause-session : goal.returns-in-Ok-watch_session-clause-session
returns-in-Ok-watch_session-clause-session g c = λ words named.
    let first = reading g.A.Source c.args.first.now c.plant_from.new.source in
    let sensors = passed g.B.Source c.args.sensors.now c.watch_session.new.second in
    let operators = passed g.C.Source c.args.operators.now c.watch_session.new.third in
    let out = writing g.O.Sink c.args.out.now c.watch_session.new.out in
    let ended = c.in-Ok-watch_session.ended in
    let ends = c.in-Ok-watch_session.ensures in
    let workers = c.args.workers in
    session-ended words c.args.word.now c.status.result ended.ending ended.is_lost c.in-Ok.plant first
    (watched workers sensors operators out) out named c.in-Ok.ensures.finds.found c.status.ensures
    ends.whole ends.ended
    (shows-both c.in-Ok.plant workers sensors.shown operators.shown out ended.ending
    ends.ended.history ends.whole ends.ended.stands ends.full)
    (c.plant_from.ensures.no_fault (λ e. cc (c.in-Ok.is, e)) (λ e. cc (c.in-Ok.is, e)))
    ends.writing.no_fault

pub returns-in-Err-watch_session-clause-session : goal.returns-in-Err-watch_session-clause-session
returns-in-Err-watch_session-clause-session g c = λ words named.
    let first = reading g.A.Source c.args.first.now c.plant_from.new.source in
    let sensors = passed g.B.Source c.args.sensors.now c.watch_session.new.second in
    let operators = passed g.C.Source c.args.operators.now c.watch_session.new.third in
    let out = writing g.O.Sink c.args.out.now c.watch_session.new.out in
    let status = c.in-Err-watch_session.status in
    let stopped = c.in-Err-watch_session.ensures in
    session-stopped words c.args.word.now status c.in-Ok.plant first
    (watched c.args.workers sensors operators out) out named c.in-Ok.ensures.finds.found
    stopped.writing.errors
    (λ (fault : status ≡ WriteFault). stopped.cut (ap Err fault))
    (λ (memory : status ≡ NoMemory). stopped.begun (ap Err memory))
    (λ (fault : status ≡ WriteFault). stopped.writing.failed (ap Err fault))
