-- What sources and sinks do to the bytes that they tell of, and when a count of faults rose.
use Rattle.std.specs.Prelude.{◌≡◌, ℕ, ◌+◌, ◌-◌, ◌^◌, ◌≤◌, List, ◌++◌, Option, Some, None}
use Rattle.std.proofs.Common.{min}

-- A count of 64 bits after one more: it stays at its type's end.
abbrev pub one_more : ℕ → ℕ
one_more count = min (count + 1) (2 ^ 64 - 1)

-- A count of faults rose: it is greater than before, or it stands at its type's end.
abbrev pub Rose : ℕ → ℕ → Type 0
Rose before now = min (before + 1) (2 ^ 64 - 1) ≤ now

-- Of what was left before, the piece was moved out of the front, and the rest is left.
-- What doesn't tell goes on not telling.
abbrev pub Gave : Option (List ℕ) → Option (List ℕ) → List ℕ → Type 0
Gave (Some before) after piece = (rest : List ℕ) × (after ≡ Some rest) × (before ≡ piece ++ rest)
Gave None after piece = after ≡ None

-- What was taken grew by the piece. What doesn't tell goes on not telling.
abbrev pub Grew : Option (List ℕ) → Option (List ℕ) → List ℕ → Type 0
Grew (Some before) after piece = after ≡ Some (before ++ piece)
Grew None after piece = after ≡ None
