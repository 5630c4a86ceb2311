-- One step of an audit: a line, and the machine that takes the call of its entry.
use Rattle.std.specs.Prelude.{◌≡◌, ℕ, List, [], ◌∷◌, ◌++◌}
use Rattle.plant_core.specs.Machine.{CoreView, IsEntry, stand_of}
use Rattle.plant_core.specs.declared.call.Entry.{Entry}
use Rattle.log_reading.specs.Lines.{IsLineOf}
use Rattle.log_audit.specs.Twins.{AreTwins}

-- the entry may stand next
abbrev pub MayStand : CoreView → Entry → Type 0
MayStand core entry = IsEntry core.plant core.limit (stand_of core) entry

-- it may, and the machine has taken a twin of it: the same call, with a reply of its own
pub record HasTaken (before after : CoreView) (entry : Entry) : Type 0 where
  pub stands : MayStand before entry
  pub twin : Entry
  pub twins : AreTwins twin entry
  pub history : after ≡ record before { history = before.history ++ twin ∷ [] }

-- the entry of this line may, and so has it
pub record HasTold (before after : CoreView) (own : List ℕ) : Type 0 where
  pub entry : Entry
  pub told : IsLineOf before.plant own entry
  pub taken : HasTaken before after entry

-- no entry of this line may
abbrev pub NoneMayFollow : CoreView → List ℕ → Type 0
NoneMayFollow core own = (entry : Entry) → IsLineOf core.plant own entry → ¬ MayStand core entry

-- the machine is one of the same plant with the same limit
pub record StaysBehind (before after : CoreView) : Type 0 where
  pub plant : after.plant ≡ before.plant
  pub limit : after.limit ≡ before.limit
