-- To a call there is one reply, but for the thrusts of a command.
use Rattle.std.proofs.Common.{◌≡◌, ◌∙◌, ℕ, nat_lt, Bool, true, false, Option, Some, None, refl, ap, sym}
use Rattle.std.proofs.Common.{subst}
use Rattle.alarm_log.specs.Alarms.{AlarmBook}
use Rattle.certificate.specs.Losses.{question_after}
use Rattle.certificate.specs.Outcomes.{Question}
use Rattle.certificate.specs.declared.outcome.Outcome.{Outcome}
use Rattle.pid.specs.declared.position.Fix.{Fix}
use Rattle.plant_model.specs.declared.plant.Parts.{Parts}
use Rattle.plant_model.specs.declared.status.Loss.TheVariants.{Intact}
use Rattle.telegram.specs.declared.telegram.Telegram.{Telegram}
use Rattle.telegram.specs.declared.telegram.Telegram.TheVariants.{Position}
use Rattle.plant_core.specs.Board.{IsJudged, IsPublishWhere, asked_of, is_shown}
use Rattle.plant_core.specs.Machine.{IsAllowedWhere, IsReply, IsTelegramReply, Stand, is_full}
use Rattle.plant_core.specs.Sensing.{IsCommanded, IsCommandedUnlessLate, late, sensed}
use Rattle.plant_core.specs.declared.call.Call.{Call}
use Rattle.plant_core.specs.declared.call.Call.TheVariants as calls
use Rattle.plant_core.specs.declared.call.Reply.{Reply}
use Rattle.plant_core.specs.declared.call.Reply.TheVariants.{Commanded, Refused, Shown}
use Rattle.plant_core.specs.declared.state.State.{State}
use Rattle.log_audit.specs.Twins.{AreAlike, RepliesAreAlike}
use Rattle.log_audit.proofs.Faults.{one_first_fault}
use Rattle.log_audit.proofs.Rights.{rights_alike}

pub alike_itself : (reply : Reply) → AreAlike reply reply
alike_itself (Commanded version demand given) = record {
  version = refl;
  asked = refl;
  gives = record { top = refl; bottom = refl; choice = refl };
}
alike_itself reply = refl

alike_from_path : (reply other : Reply) → reply ≡ other → AreAlike reply other
alike_from_path reply other same = subst (AreAlike reply) same (alike_itself reply)

both_are : (one reply other : Reply) → reply ≡ one → other ≡ one → AreAlike reply other
both_are one reply other first second = alike_from_path reply other (first ∙ sym second)

-- ---- positions

commanded_alike : (plant : Parts) (state : State) (reply other : Reply)
    → IsCommanded plant state reply → IsCommanded plant state other → AreAlike reply other
commanded_alike plant state (Commanded version demand given)
    (Commanded other_version other_demand other) first second = record {
      version = first.version ∙ sym second.version;
      asked = first.demand ∙ sym second.demand;
      gives = rights_alike (question_after plant state.latest.status Intact state.demand) given other
          first.allocation second.allocation;
    }
commanded_alike plant state (Commanded version demand given) other first second = absurd second
commanded_alike plant state reply other first second = absurd first

position_alike : (last : Option ℕ) (plant : Parts) (state : State) (reply other : Reply)
    → IsCommandedUnlessLate last plant state reply → IsCommandedUnlessLate last plant state other
    → AreAlike reply other
position_alike (Some moment) plant state reply other first second =
    both_are _ reply other first second
position_alike None plant state reply other first second =
    commanded_alike plant state reply other first second

telegram_alike : (plant : Parts) (state : State) (alarms : AlarmBook) (t : Telegram)
    (reply other : Reply) → IsTelegramReply plant state alarms t reply
    → IsTelegramReply plant state alarms t other → AreAlike reply other
telegram_alike plant state alarms (Position moment x y heading) reply other first second =
    let at : Fix = record { x = x; y = y; heading = heading } in
    position_alike (late state.last_position moment) plant (sensed state moment at) reply other
    first second
telegram_alike plant state alarms t reply other first second = both_are _ reply other first second

-- ---- verdicts

judged_alike : (question : Question) (outcome : Outcome) (reply other : Reply)
    → IsJudged question outcome reply → IsJudged question outcome other → AreAlike reply other
judged_alike question outcome Shown Shown first second = refl
judged_alike question outcome Shown (Refused place) first second =
    absurd (second.fails (first place))
judged_alike question outcome (Refused place) Shown first second =
    absurd (first.fails (second place))
judged_alike question outcome (Refused place) (Refused other) first second =
    ap (λ p. Refused p) (one_first_fault question outcome place other first second)
judged_alike question outcome Shown other first second = absurd second
judged_alike question outcome (Refused place) other first second = absurd second
judged_alike question outcome reply other first second = absurd first

publish_alike : (past before there : Bool) (plant : Parts) (state : State) (group : ℕ)
    (outcome : Outcome) (reply other : Reply)
    → IsPublishWhere past before there plant state group outcome reply
    → IsPublishWhere past before there plant state group outcome other → AreAlike reply other
publish_alike true before there plant state group outcome reply other first second =
    both_are _ reply other first second
publish_alike false true there plant state group outcome reply other first second =
    both_are _ reply other first second
publish_alike false false true plant state group outcome reply other first second =
    both_are _ reply other first second
publish_alike false false false plant state group outcome reply other first second =
    judged_alike (asked_of plant state group) outcome reply other first second

-- ---- calls

reply_alike : (plant : Parts) (stand : Stand) (call : Call) (reply other : Reply)
    → IsReply plant stand call reply → IsReply plant stand call other → AreAlike reply other
reply_alike plant stand (calls.Telegram t) reply other first second =
    telegram_alike plant stand.state stand.alarms t reply other first second
reply_alike plant stand (calls.Note n) reply other first second =
    both_are _ reply other first second
reply_alike plant stand (calls.Publish version group outcome) reply other first second =
    let latest = stand.state.latest.number in
    publish_alike (nat_lt latest version) (nat_lt version latest) (is_shown stand.state group) plant
    stand.state group outcome reply other first second
reply_alike plant stand calls.Close reply other first second = both_are _ reply other first second

allowed_alike : (closed full : Bool) (plant : Parts) (stand : Stand) (call : Call)
    (reply other : Reply) → IsAllowedWhere closed full plant stand call reply
    → IsAllowedWhere closed full plant stand call other → AreAlike reply other
allowed_alike true full plant stand call reply other first second =
    both_are _ reply other first second
allowed_alike false true plant stand call reply other first second =
    both_are _ reply other first second
allowed_alike false false plant stand call reply other first second =
    reply_alike plant stand call reply other first second

pub replies_alike : RepliesAreAlike
replies_alike plant limit stand call reply other first second =
    allowed_alike stand.state.is_closed (is_full limit stand.state call) plant stand call reply
    other first second
