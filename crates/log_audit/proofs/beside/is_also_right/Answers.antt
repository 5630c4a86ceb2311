-- Commands by their allocations, and other replies as they are.
use Rattle.std.proofs.Common.{◌≡◌, Bool, IsTrue, refl, subst, sym}
use Rattle.plant_model.specs.declared.plant.Parts.{Parts}
use Rattle.plant_model.specs.declared.status.Status.{Status}
use Rattle.plant_core.specs.declared.call.Reply.{Reply}
use Rattle.plant_core.specs.declared.call.Reply.TheVariants.{Commanded}
use Rattle.log_audit.specs.Twins.{IsAlsoRight}
use Rattle.log_audit.proofs.beside.is_also_right.Goals as goal

-- what a test tells of two replies it tells of equal ones
said_of_both : (plant : Parts) (status : Status) (test : Bool) (own other reply answer : Reply)
    → own ≡ reply → other ≡ answer
    → ((IsTrue test → IsAlsoRight plant status reply answer)
    × (IsAlsoRight plant status reply answer → IsTrue test))
    → ((IsTrue test → IsAlsoRight plant status own other)
    × (IsAlsoRight plant status own other → IsTrue test))
said_of_both plant status test own other reply answer first second said =
    subst (λ (r : Reply). (IsTrue test → IsAlsoRight plant status r other)
    × (IsAlsoRight plant status r other → IsTrue test)) (sym first)
    (subst (λ (r : Reply). (IsTrue test → IsAlsoRight plant status reply r)
    × (IsAlsoRight plant status reply r → IsTrue test)) (sym second) said)

pub returns-then-are_of_one : goal.returns-then-are_of_one
returns-then-are_of_one c =
    said_of_both c.args.plant.now c.args.status.now c.is_right.result c.args.own.now c.args.other.now
    (Commanded c.in-Commanded.version c.in-Commanded.demand c.in-Commanded.allocation)
    (Commanded c.in-Commanded-other.other_version c.in-Commanded-other.other_demand
    c.in-Commanded-other.given) c.in-Commanded.is c.in-Commanded-other.is (
      λ t. record {
        version = (c.if-are_of_one.ensures.0 refl).0;
        asked = (c.if-are_of_one.ensures.0 refl).1;
        right = c.is_right.ensures.0 t;
      },
      λ also. c.is_right.ensures.1 also.right,
    )
