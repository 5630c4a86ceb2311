-- The session's history stands for its stream, and what was written is its frames, log and report.
use Rattle.std.proofs.Common.{◌≡◌, ◌≢◌, ℕ, ap, inl, inr, rules, subst, ◌∙◌}
use Rattle.std.proofs.Math.Path.{refl}
use Rattle.plant_model.specs.declared.plant.Parts.{Parts}
use Rattle.plant_core.specs.Machine.{CoreView, IsLegal, Stand, after_reply}
use Rattle.plant_core.specs.declared.call.Call.TheVariants.{Close}
use Rattle.dp_io.specs.Shown.{Took, TookPart, writing}
use Rattle.dp_sessions.specs.declared.session.Ending.TheVariants.{Write}
use Rattle.dp_sessions.specs.Sessions.{has_lost_cell, passed, status_of, told}
use Rattle.dp_sessions.specs.Steps.{TakesStream}
use Rattle.dp_sessions.proofs.Begun.{begins-taken}
use Rattle.dp_sessions.proofs.Closed.{IsClosed, closed-session, new-plant, session-begun, session-part}
use Rattle.dp_sessions.proofs.Closed.{session-starved, session-stopped, session-whole}
use Rattle.dp_sessions.proofs.session.session.Goals as goal

pub returns-then-eq-clause-cut : goal.returns-then-eq-clause-cut
returns-then-eq-clause-cut g c = λ fault.
    let source = passed g.S.Source c.args.source.now c.take_stream.new.source in
    let out = writing g.O.Sink c.args.out.now c.take_stream.new.out in
    let old = c.take_stream.new.core in
    let new = c.apply.new.self in
    let reply = c.in_ok-apply.field-0 in
    let taken = c.in_ok-ending.ensures.taken in
    let is : IsClosed c.args.plant old new reply = closed-session c.args.plant c.in_ok-core.core
    c.publish_all.new.core old new _ _ c.core-2.inside.state reply c.in_ok-core.ensures
    c.publish_all.ensures.plant c.publish_all.ensures.limit c.take_stream.ensures.plant
    c.take_stream.ensures.limit c.core-2.view_is
    (ap (λ (s : Stand). s.state) c.core-2.invariant.reached)
    c.core-2.invariant.counted taken.running.is_open c.in_ok-apply.ensures.allowed
    (subst (λ (n : ℕ). new ≡ after_reply old
    (record { caller = n; call = Close; reply = reply })) c.number.ensures
    c.in_ok-apply.ensures.history) c.core-3.view_is c.core-3.invariant.legal in
    let is_write : c.in_ok-ending.ending ≡ Write = search rules in
    session-stopped c.args.plant source out old new reply
    (subst (λ ending. TakesStream ending source.shown out old) is_write taken) is
    (λ other. c.in_ok-ending.ensures.read (λ e. cc (is_write, e)))

pub returns-then-eq-clause-writing : goal.returns-then-eq-clause-writing
returns-then-eq-clause-writing g c =
    let source = passed g.S.Source c.args.source.now c.take_stream.new.source in
    let out = writing g.O.Sink c.args.out.now c.take_stream.new.out in
    let old = c.take_stream.new.core in
    let new = c.apply.new.self in
    let reply = c.in_ok-apply.field-0 in
    let taken = c.in_ok-ending.ensures.taken in
    let is : IsClosed c.args.plant old new reply = closed-session c.args.plant c.in_ok-core.core
    c.publish_all.new.core old new _ _ c.core-2.inside.state reply c.in_ok-core.ensures
    c.publish_all.ensures.plant c.publish_all.ensures.limit c.take_stream.ensures.plant
    c.take_stream.ensures.limit c.core-2.view_is
    (ap (λ (s : Stand). s.state) c.core-2.invariant.reached)
    c.core-2.invariant.counted taken.running.is_open c.in_ok-apply.ensures.allowed
    (subst (λ (n : ℕ). new ≡ after_reply old
    (record { caller = n; call = Close; reply = reply })) c.number.ensures
    c.in_ok-apply.ensures.history) c.core-3.view_is c.core-3.invariant.legal in
    let is_write : c.in_ok-ending.ending ≡ Write = search rules in
    let written = subst (λ ending. TakesStream ending source.shown out old) is_write taken in
    record {
      failed = λ fault. written.ends is.few;
      errors = inl refl;
      no_fault = tt;
      counted = c.take_stream.ensures.written;
    }

pub returns-in_err-write_history-clause-cut : goal.returns-in_err-write_history-clause-cut
returns-in_err-write_history-clause-cut g c = λ fault.
    let source = passed g.S.Source c.args.source.now c.take_stream.new.source in
    let out = writing g.O.Sink c.args.out.now c.take_stream.new.out in
    let old = c.take_stream.new.core in
    let new = c.apply.new.self in
    let reply = c.in_ok-apply.field-0 in
    let taken = c.in_ok-ending.ensures.taken in
    let is : IsClosed c.args.plant old new reply = closed-session c.args.plant c.in_ok-core.core
    c.publish_all.new.core old new _ _ c.core-2.inside.state reply c.in_ok-core.ensures
    c.publish_all.ensures.plant c.publish_all.ensures.limit c.take_stream.ensures.plant
    c.take_stream.ensures.limit c.core-2.view_is
    (ap (λ (s : Stand). s.state) c.core-2.invariant.reached)
    c.core-2.invariant.counted taken.running.is_open c.in_ok-apply.ensures.allowed
    (subst (λ (n : ℕ). new ≡ after_reply old
    (record { caller = n; call = Close; reply = reply })) c.number.ensures
    c.in_ok-apply.ensures.history) c.core-3.view_is c.core-3.invariant.legal in
    let later = writing g.O.Sink c.take_stream.new.out c.write_history.new.out in
    let whole = writing g.O.Sink c.args.out.now c.write_history.new.out in
    let no_write : c.in_ok-ending.ending ≢ Write = search rules in
    let plant = new-plant c.args.plant old new reply is in
    session-part c.args.plant source out later whole c.in_ok-ending.ending old new reply no_write
    taken is c.in_ok-ending.ensures.read refl refl refl
    (subst (λ (p : Parts). TookPart later (told p new.history)) plant
    c.in_err-write_history.ensures.part)

pub returns-clause-ended : goal.returns-clause-ended
returns-clause-ended g c =
    let source = passed g.S.Source c.args.source.now c.take_stream.new.source in
    let out = writing g.O.Sink c.args.out.now c.take_stream.new.out in
    let old = c.take_stream.new.core in
    let new = c.apply.new.self in
    let reply = c.in_ok-apply.field-0 in
    let taken = c.in_ok-ending.ensures.taken in
    let is : IsClosed c.args.plant old new reply = closed-session c.args.plant c.in_ok-core.core
    c.publish_all.new.core old new _ _ c.core-2.inside.state reply c.in_ok-core.ensures
    c.publish_all.ensures.plant c.publish_all.ensures.limit c.take_stream.ensures.plant
    c.take_stream.ensures.limit c.core-2.view_is
    (ap (λ (s : Stand). s.state) c.core-2.invariant.reached)
    c.core-2.invariant.counted taken.running.is_open c.in_ok-apply.ensures.allowed
    (subst (λ (n : ℕ). new ≡ after_reply old
    (record { caller = n; call = Close; reply = reply })) c.number.ensures
    c.in_ok-apply.ensures.history) c.core-3.view_is c.core-3.invariant.legal in
    let later = writing g.O.Sink c.take_stream.new.out c.write_history.new.out in
    let whole = writing g.O.Sink c.args.out.now c.write_history.new.out in
    let no_write : c.in_ok-ending.ending ≢ Write = search rules in
    let plant = new-plant c.args.plant old new reply is in
    let lost : c.has_lost_cell-is_lost.result ≡ has_lost_cell c.args.plant new.history =
    c.has_lost_cell-is_lost.ensures
    ∙ ap (λ (p : Parts). has_lost_cell p new.history) plant in
    session-whole c.args.plant source out later whole c.in_ok-ending.ending _ old new reply no_write
    taken is c.in_ok-ending.ensures.read refl refl refl
    (subst (λ (p : Parts). Took later (told p new.history)) plant
    c.in_ok-write_history.ensures.whole)
    (ap (status_of c.in_ok-ending.ending) lost)

-- ---- where memory ran out

pub returns-in_err-write_history-clause-begun : goal.returns-in_err-write_history-clause-begun
returns-in_err-write_history-clause-begun g c = λ memory.
    let source = passed g.S.Source c.args.source.now c.take_stream.new.source in
    let out = writing g.O.Sink c.args.out.now c.take_stream.new.out in
    let old = c.take_stream.new.core in
    let new = c.apply.new.self in
    let reply = c.in_ok-apply.field-0 in
    let taken = c.in_ok-ending.ensures.taken in
    let is : IsClosed c.args.plant old new reply = closed-session c.args.plant c.in_ok-core.core
    c.publish_all.new.core old new _ _ c.core-2.inside.state reply c.in_ok-core.ensures
    c.publish_all.ensures.plant c.publish_all.ensures.limit c.take_stream.ensures.plant
    c.take_stream.ensures.limit c.core-2.view_is
    (ap (λ (s : Stand). s.state) c.core-2.invariant.reached)
    c.core-2.invariant.counted taken.running.is_open c.in_ok-apply.ensures.allowed
    (subst (λ (n : ℕ). new ≡ after_reply old
    (record { caller = n; call = Close; reply = reply })) c.number.ensures
    c.in_ok-apply.ensures.history) c.core-3.view_is c.core-3.invariant.legal in
    let later = writing g.O.Sink c.take_stream.new.out c.write_history.new.out in
    let whole = writing g.O.Sink c.args.out.now c.write_history.new.out in
    let no_write : c.in_ok-ending.ending ≢ Write = search rules in
    let plant = new-plant c.args.plant old new reply is in
    inr (session-starved c.args.plant source out later whole c.in_ok-ending.ending old new reply
    no_write taken is refl refl refl
    (subst (λ (p : Parts). TookPart later (told p new.history)) plant
    c.in_err-write_history.ensures.part))

pub returns-in_err-apply-clause-begun : goal.returns-in_err-apply-clause-begun
returns-in_err-apply-clause-begun g c = λ memory.
    let source = passed g.S.Source c.args.source.now c.take_stream.new.source in
    let out = writing g.O.Sink c.args.out.now c.take_stream.new.out in
    let core = c.take_stream.new.core in
    let ending = c.in_ok-ending.ending in
    let taken = c.in_ok-ending.ensures.taken in
    let started = c.in_ok-core.ensures in
    inr (session-begun c.args.plant source out core
    (begins-taken ending source.shown out core taken)
    (c.take_stream.ensures.plant ∙ c.publish_all.ensures.plant
    ∙ ap (λ (m : CoreView). m.plant) started)
    (c.take_stream.ensures.limit ∙ c.publish_all.ensures.limit
    ∙ ap (λ (m : CoreView). m.limit) started)
    (subst (λ (m : CoreView). IsLegal m.plant m.limit m.history) c.core-2.view_is
    c.core-2.invariant.legal))

pub returns-in_err-ending-clause-begun : goal.returns-in_err-ending-clause-begun
returns-in_err-ending-clause-begun g c = λ memory.
    let source = passed g.S.Source c.args.source.now c.take_stream.new.source in
    let out = writing g.O.Sink c.args.out.now c.take_stream.new.out in
    let started = c.in_ok-core.ensures in
    inr (session-begun c.args.plant source out c.take_stream.new.core c.in_err-ending.ensures.begun
    (c.take_stream.ensures.plant ∙ c.publish_all.ensures.plant
    ∙ ap (λ (m : CoreView). m.plant) started)
    (c.take_stream.ensures.limit ∙ c.publish_all.ensures.limit
    ∙ ap (λ (m : CoreView). m.limit) started)
    (subst (λ (m : CoreView). IsLegal m.plant m.limit m.history) c.core-2.view_is
    c.core-2.invariant.legal))
