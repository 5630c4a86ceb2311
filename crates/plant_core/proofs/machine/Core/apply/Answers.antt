-- The new entry keeps what the machine keeps.
use Rattle.std.proofs.Common.{◌≡◌, false, sym, subst}
use Rattle.std.proofs.Math.Path.{refl}
use Rattle.plant_core.specs.declared.call.Entry.{Entry}
use Rattle.plant_core.specs.declared.call.Reply.TheVariants.{Closed, JournalFull}
use Rattle.plant_core.specs.Machine.{CoreView, IsAllowed, IsCall, IsEntry, Stand, is_full}
use Rattle.plant_core.proofs.Kept.{is_kept-push, raised-few}
use Rattle.plant_core.proofs.Clones.{clone-is}
use Rattle.plant_core.proofs.Replies.{allowed-closed, allowed-core, allowed-full, allowed-reply}
use Rattle.plant_core.proofs.Replies.{answer-reply}
use Rattle.plant_core.proofs.machine.Core.apply.Goals as goal

-- ---- what is kept

pub invariant_of-self : goal.invariant_of-self
invariant_of-self g c = rw c.in_err-push.ensures.items c.self.invariant

pub alarm-requires : goal.alarm-requires
alarm-requires g c =
    let inside = c.self.inside in
    raised-few inside.plant inside.limit inside.state inside.alarms inside.history.items
    c.self.invariant

pub invariant_of-self-2 : goal.invariant_of-self-2
invariant_of-self-2 g c =
    let inside = c.self.inside in
    let plant = inside.plant in
    let limit = inside.limit in
    let stand : Stand = record { state = inside.state; alarms = inside.alarms } in
    let reply = c.answer-reply.result.0 in
    let entry : Entry = record { caller = c.args.caller; call = c.args.call; reply = reply } in
    let room : is_full limit stand.state c.args.call ≡ false = sym c.if-is_full.ensures in
    let allowed : IsAllowed plant limit stand c.args.call reply =
    allowed-reply plant limit stand c.args.call reply c.if-self.false room
    c.answer-reply.ensures.reply in
    let last : IsEntry plant limit stand entry = record {
      call = subst (λ (core : CoreView). IsCall core.plant c.args.call) (sym c.self.view_is)
          c.requires;
      allowed = allowed;
      answered = answer-reply plant stand c.args.call reply c.answer-reply.ensures.reply;
    } in
    rw (
      c.in_ok-push.ensures.items,
      c.alarm.ensures,
      c.notice_of-notice.ensures,
      c.answer-reply.ensures.state,
      clone-is reply c.in_ok-clone.field-0 c.in_ok-clone.ensures.cases,
    )
    (is_kept-push plant limit stand inside.history.items entry c.self.invariant last room
    c.answer-reply.ensures.reply)

-- ---- what is answered

pub returns-then-self-clause-allowed : goal.returns-then-self-clause-allowed
returns-then-self-clause-allowed g c =
    let inside = c.self.inside in
    let stand : Stand = record { state = inside.state; alarms = inside.alarms } in
    let seen : CoreView =
    record { plant = inside.plant; limit = inside.limit; history = inside.history.items } in
    allowed-core c.args.self.now seen stand c.args.call Closed c.self.view_is
    c.self.invariant.reached
    (allowed-closed inside.plant inside.limit stand c.args.call c.if-self.true)

pub returns-then-is_full-clause-allowed : goal.returns-then-is_full-clause-allowed
returns-then-is_full-clause-allowed g c =
    let inside = c.self.inside in
    let stand : Stand = record { state = inside.state; alarms = inside.alarms } in
    let seen : CoreView =
    record { plant = inside.plant; limit = inside.limit; history = inside.history.items } in
    allowed-core c.args.self.now seen stand c.args.call JournalFull c.self.view_is
    c.self.invariant.reached (allowed-full inside.plant inside.limit stand c.args.call
    c.if-self.false (sym c.if-is_full.ensures))

pub returns-clause-allowed : goal.returns-clause-allowed
returns-clause-allowed g c =
    let inside = c.self.inside in
    let stand : Stand = record { state = inside.state; alarms = inside.alarms } in
    let seen : CoreView =
    record { plant = inside.plant; limit = inside.limit; history = inside.history.items } in
    let reply = c.answer-reply.result.0 in
    allowed-core c.args.self.now seen stand c.args.call reply c.self.view_is
    c.self.invariant.reached (allowed-reply inside.plant inside.limit stand c.args.call reply
    c.if-self.false (sym c.if-is_full.ensures) c.answer-reply.ensures.reply)

pub returns-clause-history : goal.returns-clause-history
returns-clause-history g c =
    let inside = c.self.inside in
    let reply = c.answer-reply.result.0 in
    let stand : Stand = record { state = inside.state; alarms = inside.alarms } in
    let answer = answer-reply inside.plant stand c.args.call reply c.answer-reply.ensures.reply in
    rw (
      answer,
      c.in_ok-push.ensures.items,
      sym c.self.view_is,
      clone-is reply c.in_ok-clone.field-0 c.in_ok-clone.ensures.cases,
    ) refl
