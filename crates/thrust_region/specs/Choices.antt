-- Choices of one piece for each thruster, and their numbers.
use Rattle.std.specs.Prelude.{ℕ, ◌*◌, ◌/◌, ◌%◌, List, [], ◌∷◌, ◌++◌, length, slice_get}
use Rattle.std.specs.Option.{option_to_list}

-- how many choices there are of one element of each list
abbrev pub choices_of : {A : Type 0} → List (List A) → ℕ
choices_of [] = 1
choices_of (list ∷ lists) = length list * choices_of lists

-- the choice with the number k, of which the element of the last list varies fastest
abbrev pub choice_of : {A : Type 0} → List (List A) → ℕ → List A
choice_of [] k = []
choice_of (list ∷ lists) k =
    option_to_list (slice_get list (k / choices_of lists)) ++ choice_of lists (k % choices_of lists)
