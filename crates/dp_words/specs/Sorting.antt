-- The words after a command, sorted one after another.
use Rattle.std.specs.Prelude.{◌≡◌, List, map, take}
use Rattle.std.specs.List.{list_any}
use Rattle.dp_words.specs.declared.sorting.TheConstants.{KEPT_OPTIONS, KEPT_PLACES}
use Rattle.dp_words.specs.declared.sorting.Placed.{Placed as Word}
use Rattle.dp_words.specs.declared.sorting.Sorted.{Sorted}
use Rattle.dp_words.specs.Words.{Placed, is_dashes, options, places}

-- the word with its place
abbrev pub pair : Word → Placed
pair word = (word.place, word.word.now)

-- what it has are the first options and places of these words
pub record HasSorted (sorted : Sorted) (words : List Placed) : Type 0 where
  pub dashes : sorted.had_dashes ≡ list_any is_dashes words
  pub options_first : map pair sorted.options.items ≡ take KEPT_OPTIONS (options words)
  pub places_first : map pair sorted.places.items ≡ take KEPT_PLACES (places words)
