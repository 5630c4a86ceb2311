-- What stands in a document, with something in its place where it doesn't.
use Rattle.std.specs.Prelude.{ℕ, ℤ, pos, negsuc, List, [], ◌∷◌, Bool, false, is_some, unwrap_or}
use Rattle.std.specs.Prelude.{option_map, slice_get, nat_lt, ◌^◌}
use Rattle.toml.specs.Data.{Data, array, Items, no_items, item, Members, no_members, member, as_str}
use Rattle.toml.specs.Data.{as_integer, as_bool, as_table}

-- the elements of a list
abbrev pub elements : Items → List Data
elements no_items = []
elements (item d ds) = d ∷ elements ds

-- the elements of a value, where it is a list
abbrev pub list_in : Data → List Data
list_in (array ds) = elements ds
list_in _ = []

-- the keys of a table
abbrev pub keys : Members → List (List ℕ)
keys no_members = []
keys (member k d ms) = k ∷ keys ms

abbrev pub is_whole : Data → Bool
is_whole d = is_some (as_integer d)

abbrev pub is_text : Data → Bool
is_text d = is_some (as_str d)

abbrev pub is_truth : Data → Bool
is_truth d = is_some (as_bool d)

abbrev pub is_table : Data → Bool
is_table d = is_some (as_table d)

-- the whole number that a value is, and 0 where it is none
abbrev pub number_in : Data → ℤ
number_in d = unwrap_or (as_integer d) (pos 0)

-- the text that a value is, and an empty one where it is none
abbrev pub text_in : Data → List ℕ
text_in d = unwrap_or (as_str d) []

-- the truth value that a value is, and false where it is none
abbrev pub truth_in : Data → Bool
truth_in d = unwrap_or (as_bool d) false

-- the whole number at a place of a list, and 0 where there is none
abbrev pub number_at : ℕ → Data → ℤ
number_at place d = unwrap_or (option_map number_in (slice_get (list_in d) place)) (pos 0)

-- a number that isn't below 0
abbrev pub natural : ℤ → ℕ
natural (pos n) = n
natural (negsuc n) = 0

-- a number that fits 32 bits
abbrev pub is_small : Data → Bool
is_small d = nat_lt (natural (number_in d)) (2 ^ 32)
