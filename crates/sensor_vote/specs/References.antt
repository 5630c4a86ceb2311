-- What a reference says, and which body says so.
use Rattle.std.specs.Prelude.{ℕ, ◌≤◌, List, [], ◌∷◌, Option, Some, None, Result, Ok, Err, codes}
use Rattle.std.specs.Prelude.{if◌then◌else◌, Bool, true, nat_lt}
use Rattle.std.specs.Str.{bytes_eq}
use Rattle.plant_model.specs.declared.limits.TheConstants.{LAST_MOMENT, MOST_POSITION, WHOLE_TURN}
use Rattle.telegram.specs.Telegrams.{IsFix, ◌>>=◌, angle_of, fields, moment_of, natural_of}
use Rattle.telegram.specs.Telegrams.{within_of}
use Rattle.telegram.specs.declared.telegram.Reject.{Reject}
use Rattle.telegram.specs.declared.telegram.Reject.TheVariants.{Count}
use Rattle.sensor_vote.specs.declared.reference.Reference.{Reference}
use Rattle.sensor_vote.specs.declared.reference.TheConstants.{REFERENCES}

-- the number of a reference
pub record IsNumber (number : ℕ) : Type 0 where
  pub low : 1 ≤ number
  pub high : number ≤ REFERENCES

-- each number is within its range
pub record IsReference (r : Reference) : Type 0 where
  pub moment : r.moment ≤ LAST_MOMENT
  pub number : IsNumber r.number
  pub fix : IsFix r.x r.y r.heading

-- the reference of these five fields, or the first refusal from left to right
abbrev pub reference_by : List ℕ → List ℕ → List ℕ → List ℕ → List ℕ → Result Reference Reject
reference_by t i x y h = do
  moment ← moment_of t
  number ← natural_of 1 REFERENCES i
  north ← within_of MOST_POSITION x
  east ← within_of MOST_POSITION y
  heading ← angle_of h
  Ok (record { moment = moment; number = number; x = north; y = east; heading = heading })

-- the reference of these fields, which are five
abbrev pub reference_of_fields : List (List ℕ) → Result Reference Reject
reference_of_fields (t ∷ i ∷ x ∷ y ∷ h ∷ []) = reference_by t i x y h
reference_of_fields _ = Err Count

-- what a body says whose first field is `REF`, and none for any other body
abbrev pub read_fields : List (List ℕ) → Option (Result Reference Reject)
read_fields [] = None
read_fields (kind ∷ rest) =
    if bytes_eq kind (codes "REF") then Some (reference_of_fields rest) else None

-- the reference of a body, or why its fields are none
abbrev pub reference_of : List ℕ → Option (Result Reference Reject)
reference_of body = read_fields (fields body)

-- the heading of what has come is below a whole turn
abbrev pub has_heading : Option Reference → Bool
has_heading None = true
has_heading (Some r) = nat_lt r.heading WHOLE_TURN
