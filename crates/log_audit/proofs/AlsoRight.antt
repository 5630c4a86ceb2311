-- The replies that the machine may give beside its own.
use Rattle.std.proofs.Common.{◌≡◌, ◌∙◌, ℕ, nat_lt, Bool, true, false, cond, Option, Some, None, refl, ap}
use Rattle.std.proofs.Common.{sym, subst}
use Rattle.alarm_log.specs.Alarms.{AlarmBook, is_unacknowledged_in}
use Rattle.certificate.specs.Losses.{question_after}
use Rattle.certificate.specs.Outcomes.{Question}
use Rattle.certificate.specs.declared.outcome.Outcome.{Outcome}
use Rattle.pid.specs.declared.position.Fix.{Fix}
use Rattle.plant_model.specs.declared.plant.Parts.{Parts}
use Rattle.plant_model.specs.declared.status.Loss.TheVariants.{Intact}
use Rattle.plant_model.specs.declared.status.Status.{Status}
use Rattle.plant_model.specs.declared.wrench.Wrench.{Wrench}
use Rattle.telegram.specs.declared.telegram.Telegram.{Telegram}
use Rattle.telegram.specs.declared.telegram.Telegram.TheVariants.{Position, Wind, Setpoint}
use Rattle.telegram.specs.declared.telegram.Telegram.TheVariants.{Thruster}
use Rattle.telegram.specs.declared.telegram.Telegram.TheVariants.{Generator, Tie, Mode, Manual}
use Rattle.telegram.specs.declared.telegram.Telegram.TheVariants.{Ack, Board, Bar}
use Rattle.thrust_allocation.specs.Allocations.{IsRight}
use Rattle.thrust_allocation.specs.declared.allocation.Allocation.{Allocation}
use Rattle.plant_core.specs.Board.{IsJudged, IsPublishWhere, asked_of, is_shown}
use Rattle.plant_core.specs.Machine.{IsAllowed, IsAllowedWhere, IsReply, IsTelegramReply, Stand}
use Rattle.plant_core.specs.Machine.{is_full}
use Rattle.plant_core.specs.Orders.{set_point_reply}
use Rattle.plant_core.specs.Sensing.{IsCommanded, IsCommandedUnlessLate, late, sensed, unless_late}
use Rattle.plant_core.specs.Switching.{bar_switching, generator_switching, is_same}
use Rattle.plant_core.specs.Switching.{switching_reply, thruster_switching, tie_switching}
use Rattle.plant_core.specs.declared.call.Call.{Call}
use Rattle.plant_core.specs.declared.call.Call.TheVariants as calls
use Rattle.plant_core.specs.declared.call.Reply.{Reply}
use Rattle.plant_core.specs.declared.call.Reply.TheVariants as replies
use Rattle.plant_core.specs.declared.call.Reply.TheVariants.{Commanded, Refused, Shown}
use Rattle.plant_core.specs.declared.state.State.{State}
use Rattle.plant_core.specs.declared.switch.Switching.{Switching}
use Rattle.plant_core.specs.declared.switch.Switching.TheVariants.{Unknown, NoPiece, Same as AsItIs}
use Rattle.plant_core.specs.declared.switch.Switching.TheVariants.{To}
use Rattle.log_audit.specs.Twins.{AreAlike, IsAlsoRight, IsOwnRight, is_command}
use Rattle.log_audit.proofs.Replies.{replies_alike}

-- ---- replies that are no commands

plain-switching : (state : State) (switching : Switching)
    → is_command (switching_reply state switching) ≡ false
plain-switching state Unknown = refl
plain-switching state NoPiece = refl
plain-switching state AsItIs = refl
plain-switching state (To status) = refl

plain-late : (last : Option ℕ) → is_command (unless_late last replies.Taken) ≡ false
plain-late (Some moment) = refl
plain-late None = refl

plain-one_of : (test : Bool) (reply other : Reply) → is_command reply ≡ false
    → is_command other ≡ false → is_command (cond test reply other) ≡ false
plain-one_of true reply other first second = first
plain-one_of false reply other first second = second

plain-set_point : (state : State) → is_command (set_point_reply state) ≡ false
plain-set_point state = plain-one_of state.is_manual replies.WrongMode replies.Taken refl refl

-- ---- the machine's own commands are right

own_plain : (plant : Parts) (status : Status) (reply : Reply) → is_command reply ≡ false
    → IsOwnRight plant status reply
own_plain plant status (Commanded version demand given) plain = absurd (cc)
own_plain plant status reply plain = tt

own-commanded : (plant : Parts) (state : State) (reply : Reply) → IsCommanded plant state reply
    → IsOwnRight plant state.latest.status reply
own-commanded plant state (Commanded version demand given) is =
    subst (λ (d : Wrench). IsRight (question_after plant state.latest.status Intact d) given)
    (sym is.demand) is.allocation
own-commanded plant state reply is = absurd is

own-position : (last : Option ℕ) (plant : Parts) (state : State) (reply : Reply)
    → IsCommandedUnlessLate last plant state reply → IsOwnRight plant state.latest.status reply
own-position (Some moment) plant state reply is =
    own_plain plant state.latest.status reply (ap is_command is)
own-position None plant state reply is = own-commanded plant state reply is

own-telegram : (plant : Parts) (state : State) (alarms : AlarmBook) (t : Telegram) (reply : Reply)
    → IsTelegramReply plant state alarms t reply → IsOwnRight plant state.latest.status reply
own-telegram plant state alarms (Position moment x y heading) reply is =
    let at : Fix = record { x = x; y = y; heading = heading } in
    own-position (late state.last_position moment) plant (sensed state moment at) reply is
own-telegram plant state alarms (Wind moment speed angle) reply is =
    own_plain plant state.latest.status reply
    (ap is_command is ∙ plain-late (late state.last_wind moment))
own-telegram plant state alarms (Setpoint x y heading) reply is =
    own_plain plant state.latest.status reply (ap is_command is ∙ plain-set_point state)
own-telegram plant state alarms (Thruster name selected) reply is =
    own_plain plant state.latest.status reply (ap is_command is
    ∙ plain-switching state (thruster_switching plant state.latest.status name selected))
own-telegram plant state alarms (Generator name running) reply is =
    own_plain plant state.latest.status reply (ap is_command is
    ∙ plain-switching state (generator_switching plant state.latest.status name running))
own-telegram plant state alarms (Tie name closed) reply is =
    own_plain plant state.latest.status reply (ap is_command is
    ∙ plain-switching state (tie_switching plant state.latest.status name closed))
own-telegram plant state alarms (Mode is_manual) reply is =
    own_plain plant state.latest.status reply (ap is_command is
    ∙ plain-one_of (is_same state.is_manual is_manual) replies.Same replies.Taken refl refl)
own-telegram plant state alarms (Manual demand) reply is =
    own_plain plant state.latest.status reply (ap is_command is
    ∙ plain-one_of state.is_manual replies.Taken replies.WrongMode refl refl)
own-telegram plant state alarms (Ack number) reply is =
    own_plain plant state.latest.status reply (ap is_command is
    ∙ plain-one_of (is_unacknowledged_in number alarms) replies.Taken replies.NoSuchAlarm refl refl)
own-telegram plant state alarms Board reply is =
    own_plain plant state.latest.status reply (ap is_command is)
own-telegram plant state alarms (Bar name piece barred) reply is =
    own_plain plant state.latest.status reply (ap is_command is
    ∙ plain-switching state (bar_switching plant state.latest.status name piece barred))

own-judged : (plant : Parts) (status : Status) (question : Question) (outcome : Outcome)
    (reply : Reply) → IsJudged question outcome reply → IsOwnRight plant status reply
own-judged plant status question outcome Shown is = tt
own-judged plant status question outcome (Refused place) is = tt
own-judged plant status question outcome reply is = absurd is

own-publish : (past before there : Bool) (plant : Parts) (state : State) (group : ℕ)
    (outcome : Outcome) (reply : Reply)
    → IsPublishWhere past before there plant state group outcome reply
    → IsOwnRight plant state.latest.status reply
own-publish true before there plant state group outcome reply is =
    own_plain plant state.latest.status reply (ap is_command is)
own-publish false true there plant state group outcome reply is =
    own_plain plant state.latest.status reply (ap is_command is)
own-publish false false true plant state group outcome reply is =
    own_plain plant state.latest.status reply (ap is_command is)
own-publish false false false plant state group outcome reply is =
    own-judged plant state.latest.status (asked_of plant state group) outcome reply is

own-reply : (plant : Parts) (stand : Stand) (call : Call) (reply : Reply)
    → IsReply plant stand call reply → IsOwnRight plant stand.state.latest.status reply
own-reply plant stand (calls.Telegram t) reply is =
    own-telegram plant stand.state stand.alarms t reply is
own-reply plant stand (calls.Note n) reply is =
    own_plain plant stand.state.latest.status reply (ap is_command is)
own-reply plant stand (calls.Publish version group outcome) reply is =
    let latest = stand.state.latest.number in
    own-publish (nat_lt latest version) (nat_lt version latest) (is_shown stand.state group) plant
    stand.state group outcome reply is
own-reply plant stand calls.Close reply is =
    own_plain plant stand.state.latest.status reply (ap is_command is)

pub own-allowed : (closed full : Bool) (plant : Parts) (stand : Stand) (call : Call) (reply : Reply)
    → IsAllowedWhere closed full plant stand call reply
    → IsOwnRight plant stand.state.latest.status reply
own-allowed true full plant stand call reply is =
    own_plain plant stand.state.latest.status reply (ap is_command is)
own-allowed false true plant stand call reply is =
    own_plain plant stand.state.latest.status reply (ap is_command is)
own-allowed false false plant stand call reply is = own-reply plant stand call reply is

-- ---- what is allowed is right beside the machine's own

join : (plant : Parts) (status : Status) (reply other : Reply) → AreAlike reply other
    → IsOwnRight plant status other → IsAlsoRight plant status reply other
join plant status (Commanded version demand given) (Commanded other_version other_demand other)
    alike own = record {
      version = alike.version;
      asked = alike.asked;
      right = subst (λ (d : Wrench). IsRight (question_after plant status Intact d) other)
          (sym alike.asked) own;
    }
join plant status reply other alike own = alike

pub also_right : (plant : Parts) (limit : ℕ) (stand : Stand) (call : Call) (reply other : Reply)
    → IsAllowed plant limit stand call reply → IsAllowed plant limit stand call other
    → IsAlsoRight plant stand.state.latest.status reply other
also_right plant limit stand call reply other first second =
    join plant stand.state.latest.status reply other
    (replies_alike plant limit stand call reply other first second)
    (own-allowed stand.state.is_closed (is_full limit stand.state call) plant stand call other second)

-- ---- and what is right beside the machine's own is allowed

not_plain : (reply : Reply) (version : ℕ) (demand : Wrench) (given : Allocation)
    → is_command reply ≡ false → Commanded version demand given ≡ reply → ⊥
not_plain reply version demand given plain same =
    let both : true ≡ false = ap is_command same ∙ plain in absurd (cc)

other_commanded : (plant : Parts) (state : State) (version other_version : ℕ)
    (demand other_demand : Wrench) (given other : Allocation) → version ≡ other_version
    → demand ≡ other_demand → IsRight (question_after plant state.latest.status Intact demand) other
    → IsCommanded plant state (Commanded version demand given)
    → IsCommanded plant state (Commanded other_version other_demand other)
other_commanded plant state version other_version demand other_demand given other numbers demands
    right is = record {
      version = sym numbers ∙ is.version;
      demand = sym demands ∙ is.demand;
      allocation = subst (λ (d : Wrench). IsRight (question_after plant state.latest.status Intact d) other)
          is.demand right;
    }

other_position : (last : Option ℕ) (plant : Parts) (state : State) (version other_version : ℕ)
    (demand other_demand : Wrench) (given other : Allocation) → version ≡ other_version
    → demand ≡ other_demand → IsRight (question_after plant state.latest.status Intact demand) other
    → IsCommandedUnlessLate last plant state (Commanded version demand given)
    → IsCommandedUnlessLate last plant state (Commanded other_version other_demand other)
other_position (Some moment) plant state version other_version demand other_demand given other numbers
    demands right is = absurd (not_plain (replies.Late moment) version demand given refl is)
other_position None plant state version other_version demand other_demand given other numbers demands
    right is =
    other_commanded plant state version other_version demand other_demand given other numbers demands
    right is

module _ (plant : Parts) (stand : Stand) (version other_version : ℕ) (demand other_demand : Wrench)
    (given other : Allocation) (numbers : version ≡ other_version) (demands : demand ≡ other_demand)
    (right : IsRight (question_after plant stand.state.latest.status Intact demand) other) where
  abbrev own : Reply
  own = Commanded version demand given

  abbrev else_own : Reply
  else_own = Commanded other_version other_demand other

  other_telegram : (t : Telegram) → IsTelegramReply plant stand.state stand.alarms t own
      → IsTelegramReply plant stand.state stand.alarms t else_own
  other_telegram (Position moment x y heading) is =
      let at : Fix = record { x = x; y = y; heading = heading } in
      other_position (late stand.state.last_position moment) plant (sensed stand.state moment at)
      version other_version demand other_demand given other numbers demands right is
  other_telegram (Wind moment speed angle) is =
      absurd (not_plain _ version demand given (plain-late (late stand.state.last_wind moment)) is)
  other_telegram (Setpoint x y heading) is =
      absurd (not_plain _ version demand given (plain-set_point stand.state) is)
  other_telegram (Thruster name selected) is =
      absurd (not_plain _ version demand given (plain-switching stand.state
      (thruster_switching plant stand.state.latest.status name selected)) is)
  other_telegram (Generator name running) is =
      absurd (not_plain _ version demand given (plain-switching stand.state
      (generator_switching plant stand.state.latest.status name running)) is)
  other_telegram (Tie name closed) is =
      absurd (not_plain _ version demand given (plain-switching stand.state
      (tie_switching plant stand.state.latest.status name closed)) is)
  other_telegram (Mode is_manual) is =
      absurd (not_plain _ version demand given (plain-one_of
      (is_same stand.state.is_manual is_manual) replies.Same replies.Taken refl refl) is)
  other_telegram (Manual asked) is =
      absurd (not_plain _ version demand given (plain-one_of stand.state.is_manual replies.Taken
      replies.WrongMode refl refl) is)
  other_telegram (Ack number) is =
      absurd (not_plain _ version demand given (plain-one_of
      (is_unacknowledged_in number stand.alarms) replies.Taken replies.NoSuchAlarm refl refl) is)
  other_telegram Board is = absurd (cc)
  other_telegram (Bar name piece barred) is =
      absurd (not_plain _ version demand given (plain-switching stand.state
      (bar_switching plant stand.state.latest.status name piece barred)) is)

  other_publish : (past before there : Bool) (group : ℕ) (outcome : Outcome)
      → IsPublishWhere past before there plant stand.state group outcome own
      → IsPublishWhere past before there plant stand.state group outcome else_own
  other_publish true before there group outcome is = absurd (cc)
  other_publish false true there group outcome is = absurd (cc)
  other_publish false false true group outcome is = absurd (cc)
  other_publish false false false group outcome is = absurd is

  other_reply : (call : Call) → IsReply plant stand call own → IsReply plant stand call else_own
  other_reply (calls.Telegram t) is = other_telegram t is
  other_reply (calls.Note n) is = absurd (cc)
  other_reply (calls.Publish number group outcome) is =
      let latest = stand.state.latest.number in
      other_publish (nat_lt latest number) (nat_lt number latest) (is_shown stand.state group) group
      outcome is
  other_reply calls.Close is = absurd (cc)

  other_allowed : (closed full : Bool) (call : Call)
      → IsAllowedWhere closed full plant stand call own
      → IsAllowedWhere closed full plant stand call else_own
  other_allowed true full call is = absurd (cc)
  other_allowed false true call is = absurd (cc)
  other_allowed false false call is = other_reply call is

pub also_allowed : (plant : Parts) (limit : ℕ) (stand : Stand) (call : Call) (reply other : Reply)
    → IsAllowed plant limit stand call reply
    → IsAlsoRight plant stand.state.latest.status reply other
    → IsAllowed plant limit stand call other
also_allowed plant limit stand call (Commanded version demand given)
    (Commanded other_version other_demand other) allowed also =
    other_allowed plant stand version other_version demand other_demand given other also.version
    also.asked also.right stand.state.is_closed (is_full limit stand.state call) call allowed
also_allowed plant limit stand call reply other allowed also =
    subst (IsAllowed plant limit stand call) also allowed
