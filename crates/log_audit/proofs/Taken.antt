-- What the machine's own reply and the log's are to each other.
use Rattle.std.proofs.Common.{◌≡◌, ◌∙◌, Bool, true, false, IsTrue, refl, ap, sym, subst, [], ◌∷◌}
use Rattle.std.proofs.Common.{◌++◌, cond}
use Rattle.plant_model.specs.declared.status.Status.{Status}
use Rattle.plant_core.specs.Machine.{CoreView, IsAllowed, IsCall, after_reply}
use Rattle.plant_core.specs.Machine.{is_answer, is_full, stand_of}
use Rattle.plant_core.specs.declared.call.Entry.{Entry}
use Rattle.plant_core.specs.declared.call.Reply.{Reply}
use Rattle.plant_core.specs.declared.call.Reply.TheVariants.{Commanded}
use Rattle.log_audit.specs.Steps.{HasTaken, MayStand, StaysBehind}
use Rattle.log_audit.specs.Twins.{AreAlike, IsAlsoRight, IsOwnRight}
use Rattle.log_audit.proofs.AlsoRight.{also_allowed, also_right, own-allowed}
use Rattle.log_audit.proofs.Replies.{replies_alike}

-- replies that are alike are answers, or neither is
answered_alike : (own other : Reply) → AreAlike own other → is_answer other ≡ true
    → is_answer own ≡ true
answered_alike (Commanded version demand given) (Commanded number wrench other) alike answered = refl
answered_alike own other alike answered = ap is_answer alike ∙ answered

module _ (core : CoreView) (entry : Entry) (own : Reply)
    (allowed : IsAllowed core.plant core.limit (stand_of core) entry.call own) where
  abbrev status : Status
  status = (stand_of core).state.latest.status

  abbrev twin : Entry
  twin = record { caller = entry.caller; call = entry.call; reply = own }

  -- the machine's own commands are right
  pub own_right : IsOwnRight core.plant status own
  own_right =
      own-allowed (stand_of core).state.is_closed (is_full core.limit (stand_of core).state entry.call)
      core.plant (stand_of core) entry.call own allowed

  -- where the log's reply is right as well, its entry may stand, and the machine took a twin
  pub takes : (after : CoreView) → IsCall core.plant entry.call → IsTrue (is_answer entry.reply)
      → IsAlsoRight core.plant status own entry.reply → after ≡ after_reply core twin
      → HasTaken core after entry
  takes after call answered right is =
      let other = also_allowed core.plant core.limit (stand_of core) entry.call own entry.reply
      allowed right in
      let alike = replies_alike core.plant core.limit (stand_of core) entry.call own entry.reply
      allowed other in
      let own_answered = answered_alike own entry.reply alike answered in
      record {
        stands = record { call = call; allowed = other; answered = answered };
        twin = twin;
        twins = record { caller = refl; call = refl; reply = alike };
        history = is ∙ ap (λ (answer : Bool). cond answer
            (record core { history = core.history ++ twin ∷ [] }) core) own_answered;
      }

  -- where it isn't, the entry may not stand
  pub refuses : (IsAlsoRight core.plant status own entry.reply → ⊥) → MayStand core entry → ⊥
  refuses wrong stands =
      wrong (also_right core.plant core.limit (stand_of core) entry.call own entry.reply allowed
      stands.allowed)

  by_answer : (answer : Bool) → StaysBehind core
      (cond answer (record core { history = core.history ++ twin ∷ [] }) core)
  by_answer true = record { plant = refl; limit = refl }
  by_answer false = record { plant = refl; limit = refl }

  pub behind : (after : CoreView) → after ≡ after_reply core twin → StaysBehind core after
  behind after is = subst (StaysBehind core) (sym is) (by_answer (is_answer own))
