-- The item was answered, with verdicts where it made a version, or the history has no room for it.
use Rattle.std.proofs.Common.{◌≡◌, ◌≢◌, ℕ, [], ◌∷◌, ◌++◌, ap, sym, subst, ◌∙◌}
use Rattle.std.proofs.Math.Path.{refl}
use Rattle.plant_model.specs.declared.status.Version.{Version}
use Rattle.plant_core.specs.Machine.{CoreView, state_of}
use Rattle.plant_core.specs.declared.call.Entry.{Entry}
use Rattle.plant_core.specs.declared.call.Reply.TheVariants.{JournalFull}
use Rattle.dp_io.specs.Shown.{writing}
use Rattle.dp_sessions.specs.Sessions.{Asked}
use Rattle.std.proofs.lemmas.Result.{err_from_is_err_and}
use Rattle.dp_sessions.specs.Steps.{HasBegun}
use Rattle.dp_sessions.proofs.Answered.{begun-frames, begun-unframed, written-frames}
use Rattle.dp_sessions.proofs.Begun.{begun-answered, begun-silent}
use Rattle.dp_sessions.proofs.Answered.{AddsEntry, FramesOf, IsAsked, adds-entry, adds-verdicts, answered}
use Rattle.dp_sessions.proofs.Answered.{last-answered, open-answered, plant-answered, takes-cut}
use Rattle.dp_sessions.proofs.Answered.{takes-written, unshown-answered}
use Rattle.dp_sessions.proofs.session.take_item.Goals as goal
use Rattle.dp_sessions.proofs.session.take_item.Goals.{in-JournalFull, in_default}
use Rattle.dp_sessions.proofs.session.take_item.Goals.{then-latest-version+in_ok-publish_all}
use Rattle.dp_sessions.proofs.session.take_item.Goals.{else-latest-version}

pub apply-requires : goal.apply-requires
apply-requires g c = c.asked_for-caller.ensures.within c.args.core.now.plant

pub unreachable-requires : goal.unreachable-requires
unreachable-requires g c =
    let old = c.args.core.now in
    let new = c.apply.new.self in
    let item = c.args.item in
    let asks : Asked = (c.number.result, c.asked_for-caller.result.1) in
    let reply = c.in_ok-reply.reply in
    let asked : IsAsked old new item asks reply = record {
      running = c.requires;
      asks_is = ap (λ (n : ℕ). (n, c.asked_for-caller.result.1)) c.number.ensures
          ∙ c.asked_for-caller.ensures.asked;
      allowed = c.in_ok-reply.ensures.allowed;
      history = c.in_ok-reply.ensures.history;
    } in
    let other : reply ≢ JournalFull = elim c.match-matches.branch [
      | in-JournalFull w ↦ absurd (cc (w.matches-is, c.if-matches.false))
      | in_default w ↦ w.in_default.not-JournalFull
    ] in
    let is = answered old new item asks reply asked other in
    let last = last-answered old new item _ c.history.result.now is c.history.ensures.entries in
    cc (c.in_default-last.ensures.value, last)

pub publish_all-requires-clause-is_open : goal.publish_all-requires-clause-is_open
publish_all-requires-clause-is_open g c =
    let old = c.args.core.now in
    let new = c.apply.new.self in
    let item = c.args.item in
    let asks : Asked = (c.number.result, c.asked_for-caller.result.1) in
    let reply = c.in_ok-reply.reply in
    let asked : IsAsked old new item asks reply = record {
      running = c.requires;
      asks_is = ap (λ (n : ℕ). (n, c.asked_for-caller.result.1)) c.number.ensures
          ∙ c.asked_for-caller.ensures.asked;
      allowed = c.in_ok-reply.ensures.allowed;
      history = c.in_ok-reply.ensures.history;
    } in
    let other : reply ≢ JournalFull = elim c.match-matches.branch [
      | in-JournalFull w ↦ absurd (cc (w.matches-is, c.if-matches.false))
      | in_default w ↦ w.in_default.not-JournalFull
    ] in
    let is = answered old new item asks reply asked other in
    open-answered old new item _ is

pub publish_all-requires-clause-unshown : goal.publish_all-requires-clause-unshown
publish_all-requires-clause-unshown g c =
    let old = c.args.core.now in
    let new = c.apply.new.self in
    let item = c.args.item in
    let asks : Asked = (c.number.result, c.asked_for-caller.result.1) in
    let reply = c.in_ok-reply.reply in
    let asked : IsAsked old new item asks reply = record {
      running = c.requires;
      asks_is = ap (λ (n : ℕ). (n, c.asked_for-caller.result.1)) c.number.ensures
          ∙ c.asked_for-caller.ensures.asked;
      allowed = c.in_ok-reply.ensures.allowed;
      history = c.in_ok-reply.ensures.history;
    } in
    let other : reply ≢ JournalFull = elim c.match-matches.branch [
      | in-JournalFull w ↦ absurd (cc (w.matches-is, c.if-matches.false))
      | in_default w ↦ w.in_default.not-JournalFull
    ] in
    let is = answered old new item asks reply asked other in
    let before : c.behind-core.inside.number ≡ (state_of old).latest.number =
    ap (λ (v : Version). v.number) (c.behind-core.view_is ∙ c.latest.ensures) in
    let after : c.behind-core-2.inside.number ≡ (state_of new).latest.number =
    ap (λ (v : Version). v.number) (c.behind-core-2.view_is ∙ c.latest-2.ensures) in
    unshown-answered old new item _ is
    (λ e. c.if-latest-version.true (after ∙ e ∙ sym before))

pub returns-then-is_written-clause-taken : goal.returns-then-is_written-clause-taken
returns-then-is_written-clause-taken g c =
    let old = c.args.core.now in
    let new = c.apply.new.self in
    let item = c.args.item in
    let asks : Asked = (c.number.result, c.asked_for-caller.result.1) in
    let reply = c.in_ok-reply.reply in
    let asked : IsAsked old new item asks reply = record {
      running = c.requires;
      asks_is = ap (λ (n : ℕ). (n, c.asked_for-caller.result.1)) c.number.ensures
          ∙ c.asked_for-caller.ensures.asked;
      allowed = c.in_ok-reply.ensures.allowed;
      history = c.in_ok-reply.ensures.history;
    } in
    let other : reply ≢ JournalFull = elim c.match-matches.branch [
      | in-JournalFull w ↦ absurd (cc (w.matches-is, c.if-matches.false))
      | in_default w ↦ w.in_default.not-JournalFull
    ] in
    let is = answered old new item asks reply asked other in
    let before : c.behind-core.inside.number ≡ (state_of old).latest.number =
    ap (λ (v : Version). v.number) (c.behind-core.view_is ∙ c.latest.ensures) in
    let after : c.behind-core-2.inside.number ≡ (state_of new).latest.number =
    ap (λ (v : Version). v.number) (c.behind-core-2.view_is ∙ c.latest-2.ensures) in
    let entry : Entry = record { caller = asks.0; call = asks.1; reply = reply } in
    let core = c.if-latest-version.core in
    let adds : AddsEntry old core item entry = elim c.if-latest-version.branch [
      | then-latest-version+in_ok-publish_all w ↦
          let published = w.in_ok-publish_all.ensures.verdicts in
          let moved : (state_of new).latest.number ≢ (state_of old).latest.number =
          λ e. w.if-latest-version.true (after ∙ e ∙ sym before) in
          subst (λ (m : CoreView). AddsEntry old m item entry) (sym w.core-is) (record {
            verdicts = published.verdicts;
            adds = adds-verdicts old new w.publish_all.new.core item entry is moved published;
          })
      | else-latest-version w ↦
          let stays : (state_of new).latest.number ≡ (state_of old).latest.number =
          sym after ∙ w.if-latest-version.false ∙ before in
          subst (λ (m : CoreView). AddsEntry old m item entry) (sym w.core-is) (record {
            verdicts = [];
            adds = adds-entry old new item entry is stays;
          })
    ] in
    let last = last-answered old new item entry c.history.result.now is c.history.ensures.entries in
    let out = writing g.S.Sink c.args.out.now c.write_command.new.out in
    let of : FramesOf old entry c.in_ok-is_written.is_written out = record {
      plant = c.plant.result.now;
      written = c.in-Some.entry.now;
      plant_is = c.plant.ensures ∙ plant-answered old new item entry is;
      entry_is = cc (c.in-Some.ensures.value, last);
      frames = c.in_ok-is_written.ensures.frames;
    } in
    takes-written old core item entry c.in_ok-is_written.is_written out adds of c.if-is_written.true

pub returns-else-is_written-clause-taken : goal.returns-else-is_written-clause-taken
returns-else-is_written-clause-taken g c =
    let old = c.args.core.now in
    let new = c.apply.new.self in
    let item = c.args.item in
    let asks : Asked = (c.number.result, c.asked_for-caller.result.1) in
    let reply = c.in_ok-reply.reply in
    let asked : IsAsked old new item asks reply = record {
      running = c.requires;
      asks_is = ap (λ (n : ℕ). (n, c.asked_for-caller.result.1)) c.number.ensures
          ∙ c.asked_for-caller.ensures.asked;
      allowed = c.in_ok-reply.ensures.allowed;
      history = c.in_ok-reply.ensures.history;
    } in
    let other : reply ≢ JournalFull = elim c.match-matches.branch [
      | in-JournalFull w ↦ absurd (cc (w.matches-is, c.if-matches.false))
      | in_default w ↦ w.in_default.not-JournalFull
    ] in
    let is = answered old new item asks reply asked other in
    let before : c.behind-core.inside.number ≡ (state_of old).latest.number =
    ap (λ (v : Version). v.number) (c.behind-core.view_is ∙ c.latest.ensures) in
    let after : c.behind-core-2.inside.number ≡ (state_of new).latest.number =
    ap (λ (v : Version). v.number) (c.behind-core-2.view_is ∙ c.latest-2.ensures) in
    let entry : Entry = record { caller = asks.0; call = asks.1; reply = reply } in
    let core = c.if-latest-version.core in
    let adds : AddsEntry old core item entry = elim c.if-latest-version.branch [
      | then-latest-version+in_ok-publish_all w ↦
          let published = w.in_ok-publish_all.ensures.verdicts in
          let moved : (state_of new).latest.number ≢ (state_of old).latest.number =
          λ e. w.if-latest-version.true (after ∙ e ∙ sym before) in
          subst (λ (m : CoreView). AddsEntry old m item entry) (sym w.core-is) (record {
            verdicts = published.verdicts;
            adds = adds-verdicts old new w.publish_all.new.core item entry is moved published;
          })
      | else-latest-version w ↦
          let stays : (state_of new).latest.number ≡ (state_of old).latest.number =
          sym after ∙ w.if-latest-version.false ∙ before in
          subst (λ (m : CoreView). AddsEntry old m item entry) (sym w.core-is) (record {
            verdicts = [];
            adds = adds-entry old new item entry is stays;
          })
    ] in
    let last = last-answered old new item entry c.history.result.now is c.history.ensures.entries in
    let out = writing g.S.Sink c.args.out.now c.write_command.new.out in
    let of : FramesOf old entry c.in_ok-is_written.is_written out = record {
      plant = c.plant.result.now;
      written = c.in-Some.entry.now;
      plant_is = c.plant.ensures ∙ plant-answered old new item entry is;
      entry_is = cc (c.in-Some.ensures.value, last);
      frames = c.in_ok-is_written.ensures.frames;
    } in
    takes-cut old core item entry c.in_ok-is_written.is_written out adds of c.if-is_written.false

-- ---- where memory ran out

pub returns-in_err-reply-clause-begun : goal.returns-in_err-reply-clause-begun
returns-in_err-reply-clause-begun g c =
    let old = c.args.core.now in
    let item = c.args.item in
    let taken = g.S.Sink.taken c.args.out.now in
    let failed = err_from_is_err_and c.from_residual.result c.from_residual.ensures.1 in
    rw failed.1 (λ start answered has.
    subst (λ (m : CoreView). HasBegun start taken m (answered ++ item ∷ []))
    (sym c.in_err-reply.ensures.kept)
    (begun-answered start taken old answered (answered ++ item ∷ []) has (item ∷ [], refl)))

pub returns-in_err-is_written-clause-begun : goal.returns-in_err-is_written-clause-begun
returns-in_err-is_written-clause-begun g c =
    let old = c.args.core.now in
    let new = c.apply.new.self in
    let item = c.args.item in
    let asks : Asked = (c.number.result, c.asked_for-caller.result.1) in
    let reply = c.in_ok-reply.reply in
    let asked : IsAsked old new item asks reply = record {
      running = c.requires;
      asks_is = ap (λ (n : ℕ). (n, c.asked_for-caller.result.1)) c.number.ensures
          ∙ c.asked_for-caller.ensures.asked;
      allowed = c.in_ok-reply.ensures.allowed;
      history = c.in_ok-reply.ensures.history;
    } in
    let other : reply ≢ JournalFull = elim c.match-matches.branch [
      | in-JournalFull w ↦ absurd (cc (w.matches-is, c.if-matches.false))
      | in_default w ↦ w.in_default.not-JournalFull
    ] in
    let is = answered old new item asks reply asked other in
    let entry : Entry = record { caller = asks.0; call = asks.1; reply = reply } in
    let taken = g.S.Sink.taken in
    let failed = err_from_is_err_and c.from_residual-in_err-is_written.result
    c.from_residual-in_err-is_written.ensures.1 in
    rw failed.1 (λ start answered has.
    subst (λ out. HasBegun start (taken out) new (answered ++ item ∷ []))
    (sym c.in_err-is_written.ensures.kept)
    (begun-unframed start (taken c.args.out.now) old new answered item entry has is))

pub returns-in_err-publish_all-clause-begun : goal.returns-in_err-publish_all-clause-begun
returns-in_err-publish_all-clause-begun g c =
    let old = c.args.core.now in
    let new = c.apply.new.self in
    let item = c.args.item in
    let asks : Asked = (c.number.result, c.asked_for-caller.result.1) in
    let reply = c.in_ok-reply.reply in
    let asked : IsAsked old new item asks reply = record {
      running = c.requires;
      asks_is = ap (λ (n : ℕ). (n, c.asked_for-caller.result.1)) c.number.ensures
          ∙ c.asked_for-caller.ensures.asked;
      allowed = c.in_ok-reply.ensures.allowed;
      history = c.in_ok-reply.ensures.history;
    } in
    let other : reply ≢ JournalFull = elim c.match-matches.branch [
      | in-JournalFull w ↦ absurd (cc (w.matches-is, c.if-matches.false))
      | in_default w ↦ w.in_default.not-JournalFull
    ] in
    let is = answered old new item asks reply asked other in
    let entry : Entry = record { caller = asks.0; call = asks.1; reply = reply } in
    let last = last-answered old new item entry c.history.result.now is c.history.ensures.entries in
    let out = writing g.S.Sink c.args.out.now c.write_command.new.out in
    let of : FramesOf old entry c.in_ok-is_written.is_written out = record {
      plant = c.plant.result.now;
      written = c.in-Some.entry.now;
      plant_is = c.plant.ensures ∙ plant-answered old new item entry is;
      entry_is = cc (c.in-Some.ensures.value, last);
      frames = c.in_ok-is_written.ensures.frames;
    } in
    let failed = err_from_is_err_and c.from_residual-in_err-publish_all.result
    c.from_residual-in_err-publish_all.ensures.1 in
    rw failed.1 (λ start answered has.
    begun-silent start out.after new c.publish_all.new.core (answered ++ item ∷ [])
    (begun-frames start old new answered item entry c.in_ok-is_written.is_written out has is of)
    c.in_err-publish_all.ensures.silent)

-- ---- no fault was passed over

pub returns-then-is_written-clause-no_fault : goal.returns-then-is_written-clause-no_fault
returns-then-is_written-clause-no_fault g c = λ other.
    let old = c.args.core.now in
    let new = c.apply.new.self in
    let item = c.args.item in
    let asks : Asked = (c.number.result, c.asked_for-caller.result.1) in
    let reply = c.in_ok-reply.reply in
    let asked : IsAsked old new item asks reply = record {
      running = c.requires;
      asks_is = ap (λ (n : ℕ). (n, c.asked_for-caller.result.1)) c.number.ensures
          ∙ c.asked_for-caller.ensures.asked;
      allowed = c.in_ok-reply.ensures.allowed;
      history = c.in_ok-reply.ensures.history;
    } in
    let other : reply ≢ JournalFull = elim c.match-matches.branch [
      | in-JournalFull w ↦ absurd (cc (w.matches-is, c.if-matches.false))
      | in_default w ↦ w.in_default.not-JournalFull
    ] in
    let is = answered old new item asks reply asked other in
    let entry : Entry = record { caller = asks.0; call = asks.1; reply = reply } in
    let last = last-answered old new item entry c.history.result.now is c.history.ensures.entries in
    let out = writing g.S.Sink c.args.out.now c.write_command.new.out in
    let of : FramesOf old entry c.in_ok-is_written.is_written out = record {
      plant = c.plant.result.now;
      written = c.in-Some.entry.now;
      plant_is = c.plant.ensures ∙ plant-answered old new item entry is;
      entry_is = cc (c.in-Some.ensures.value, last);
      frames = c.in_ok-is_written.ensures.frames;
    } in
    written-frames old entry c.in_ok-is_written.is_written out of c.if-is_written.true
