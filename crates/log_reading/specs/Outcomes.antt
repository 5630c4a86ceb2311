-- What the fields of outcomes, demands and allocations say.
use Rattle.std.specs.Prelude.{ℕ, ℤ, pos, int_le, List, [], ◌∷◌, length, ◌==◌, if◌then◌else◌}
use Rattle.std.specs.Prelude.{Option, Some, None, codes}
use Rattle.dp_num.specs.declared.fractions.Fraction.{Fraction}
use Rattle.plant_model.specs.declared.limits.TheConstants.{MOST_CHOICES, MOST_THRUSTERS}
use Rattle.plant_model.specs.declared.thrust.Thrust.{Thrust}
use Rattle.plant_model.specs.declared.thrust.Thrusts.{Thrusts}
use Rattle.plant_model.specs.declared.wrench.Wrench.{Wrench}
use Rattle.wrench_geometry.specs.declared.vector.Vec3.{Vec3}
use Rattle.certificate.specs.declared.outcome.Cuts.{Cuts}
use Rattle.certificate.specs.declared.outcome.Outcome.{Outcome}
use Rattle.certificate.specs.declared.outcome.Outcome.TheVariants.{Holds, Lost}
use Rattle.certificate.specs.declared.outcome.Place.{Place}
use Rattle.certificate.specs.declared.outcome.Place.TheVariants as places
use Rattle.thrust_allocation.specs.declared.allocation.Allocation.{Allocation}
use Rattle.log_reading.specs.Fields.{◌>>=◌, Form, all_of, at_first, at_only, by_kind, ended, i32_of}
use Rattle.log_reading.specs.Fields.{i64_of, i128_of, u32_of, when}

-- ---- outcomes

-- a thrust along x and along y
abbrev pub thrust_at : List (List ℕ) → Option (Thrust × List (List ℕ))
thrust_at fields = do
  x ← at_first i128_of fields
  y ← at_first i128_of x.1
  Some (record { x = x.0; y = y.0 }, y.1)

abbrev pub thrusts_of : List (List ℕ) → Option Thrusts
thrusts_of fields = do
  items ← all_of thrust_at MOST_THRUSTERS fields
  Some (record { list = record { items = items } })

-- a cut along x, along y and in yaw
abbrev pub cut_at : List (List ℕ) → Option (Vec3 × List (List ℕ))
cut_at fields = do
  x ← at_first i64_of fields
  y ← at_first i64_of x.1
  z ← at_first i64_of y.1
  Some (record { x = x.0; y = y.0; z = z.0 }, z.1)

abbrev pub cuts_of : List (List ℕ) → Option Cuts
cuts_of fields = do
  items ← all_of cut_at MOST_CHOICES fields
  Some (record { list = record { items = items } })

-- a choice, and thrusts in it over a denominator
abbrev pub holds_of : List (List ℕ) → Option Outcome
holds_of fields = do
  choice ← at_first u32_of fields
  q ← at_first i64_of choice.1
  thrusts ← thrusts_of q.1
  Some (Holds choice.0 q.0 thrusts)

-- the count of cuts, and as many cuts
abbrev pub lost_of : List (List ℕ) → Option Outcome
lost_of fields = do
  count ← at_first u32_of fields
  cuts ← cuts_of count.1
  if length cuts.list.items == count.0 then Some (Lost cuts) else None

abbrev pub outcome_forms : List (Form Outcome)
outcome_forms =
    record { kind = codes "HOLDS"; read = holds_of }
    ∷ record { kind = codes "LOST"; read = lost_of } ∷ []

abbrev pub outcome_of : List (List ℕ) → Option Outcome
outcome_of = by_kind outcome_forms

-- ---- places

abbrev pub numbered_place : (ℕ → Place) → List (List ℕ) → Option Place
numbered_place make fields = do
  number ← at_only u32_of fields
  Some (make number)

abbrev pub place_forms : List (Form Place)
place_forms =
    record { kind = codes "DENOMINATOR"; read = ended places.Denominator }
    ∷ record { kind = codes "CHOICE"; read = ended places.Choice }
    ∷ record { kind = codes "THRUST-COUNT"; read = ended places.ThrustCount }
    ∷ record { kind = codes "THRUSTER"; read = numbered_place (λ n. places.Thruster n) }
    ∷ record { kind = codes "SUM"; read = ended places.Sum }
    ∷ record { kind = codes "CUT-COUNT"; read = ended places.CutCount }
    ∷ record { kind = codes "CUT"; read = numbered_place (λ n. places.Cut n) } ∷ []

-- where an outcome first fails
abbrev pub place_of : List (List ℕ) → Option Place
place_of = by_kind place_forms

-- ---- demands and allocations

abbrev pub wrench_at : List (List ℕ) → Option (Wrench × List (List ℕ))
wrench_at fields = do
  x ← at_first i32_of fields
  y ← at_first i32_of x.1
  n ← at_first i32_of y.1
  Some (record { x = x.0; y = y.0; n = n.0 }, n.1)

-- the fraction of these parts, where there is one
abbrev pub fraction_of : ℤ → ℤ → Option Fraction
fraction_of top bottom =
    when (int_le (pos 0) top) (λ low. when (int_le (pos 1) bottom) (λ some.
    Some (record {
      top = top;
      bottom = bottom;
      top_from_0 = record { le = low };
      bottom_from_1 = record { le = some };
    })))

abbrev pub fraction_at : List (List ℕ) → Option (Fraction × List (List ℕ))
fraction_at fields = do
  top ← at_first i64_of fields
  bottom ← at_first i64_of top.1
  fraction ← fraction_of top.0 bottom.0
  Some (fraction, bottom.1)

abbrev pub allocation_of : List (List ℕ) → Option Allocation
allocation_of fields = do
  fraction ← fraction_at fields
  choice ← at_first u32_of fraction.1
  q ← at_first i64_of choice.1
  thrusts ← thrusts_of q.1
  Some (record { fraction = fraction.0; choice = choice.0; q = q.0; thrusts = thrusts })
