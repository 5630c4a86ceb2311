-- A telegram doesn't count itself.
use Rattle.std.proofs.Common.{subst}
use Rattle.std.proofs.Math.Path.{refl}
use Rattle.telegram.specs.Telegrams.{IsTelegram}
use Rattle.plant_core.specs.Machine.{IsCall}
use Rattle.plant_core.specs.declared.call.Call.{Call}
use Rattle.plant_core.proofs.Follows.{follows-telegram}
use Rattle.plant_core.proofs.answer.answer.Goals as goal

pub returns-in-Telegram-clause-state : goal.returns-in-Telegram-clause-state
returns-in-Telegram-clause-state g c =
    let within : IsTelegram c.in-Telegram.telegram =
    subst (λ (call : Call). IsCall c.args.plant.now call) c.in-Telegram.is c.requires.call in
    let follows = follows-telegram c.args.plant.now c.args.state.now c.in-Telegram.telegram
    c.requires.ready within in
    rw (c.answer_telegram-reply.ensures.state, c.in-Telegram.is, follows.events) refl
