-- What an entry of a legal history is answered.
use Rattle.std.proofs.Common.{◌≡◌, ℕ, Bool, true, false, ap}
use Rattle.plant_model.specs.declared.plant.Parts.{Parts}
use Rattle.plant_core.specs.Machine.{IsAllowedWhere, IsEntry, IsReply, Stand, is_answer, is_full}
use Rattle.plant_core.specs.declared.call.Call.{Call}
use Rattle.plant_core.specs.declared.call.Entry.{Entry}
use Rattle.plant_core.specs.declared.call.Reply.{Reply}

reply-where : (closed full : Bool) (plant : Parts) (stand : Stand) (call : Call) (reply : Reply)
    → IsAllowedWhere closed full plant stand call reply → is_answer reply ≡ true
    → IsReply plant stand call reply
reply-where true full plant stand call reply is answered =
    let other : is_answer reply ≡ false = ap is_answer is in absurd (cc)
reply-where false true plant stand call reply is answered =
    let other : is_answer reply ≡ false = ap is_answer is in absurd (cc)
reply-where false false plant stand call reply is answered = is

-- one of those of a call where there is room
pub reply-entry : (plant : Parts) (limit : ℕ) (stand : Stand) (entry : Entry)
    → IsEntry plant limit stand entry → IsReply plant stand entry.call entry.reply
reply-entry plant limit stand entry is =
    reply-where stand.state.is_closed (is_full limit stand.state entry.call) plant stand entry.call
    entry.reply is.allowed is.answered
