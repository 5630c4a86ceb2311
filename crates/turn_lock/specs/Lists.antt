-- Lists: sums over them, numbers that differ, and the longer of two.
use Rattle.std.specs.Prelude.{◌≡◌, ℕ, ◌+◌, ◌==◌, List, [], ◌∷◌, length, filter, nat_le}
use Rattle.std.specs.Prelude.{if◌then◌else◌}
use mathlib.Core.Option.{Option, some}
use lib.ListN.{get_elem?}

-- the entries that a caller made, in their order
abbrev pub entries_by : {E : Type 0} → (E → ℕ) → ℕ → List E → List E
entries_by caller_of caller log = filter (λ e. caller_of e == caller) log

-- the longer of two lists, and the first where they are as long
abbrev pub longer : {E : Type 0} → List E → List E → List E
longer xs ys = if nat_le (length ys) (length xs) then xs else ys

-- the weights of the elements, added up
abbrev pub total : {V : Type 0} → (V → ℕ) → List V → ℕ
total weight [] = 0
total weight (v ∷ vs) = weight v + total weight vs

-- no two elements have the same number
abbrev pub Apart : {V : Type 0} → (V → Option ℕ) → List V → Type 0
Apart {V} number vs =
    (i j : ℕ) (v w : V) (n : ℕ) → get_elem? vs i ≡ some v → get_elem? vs j ≡ some w
    → number v ≡ some n → number w ≡ some n → i ≡ j
