-- The first line at which lists of lines differ.
use Rattle.std.specs.Prelude.{◌≡◌, ℕ, ◌+◌, List}
use Rattle.std.specs.List.{common_prefix_len}
use Rattle.std.specs.Str.{bytes_eq}

-- the lines differ, and first at this one, counted from 1
pub record DifferAt (lines others : List (List ℕ)) (number : ℕ) : Type 0 where
  pub other : ¬ (lines ≡ others)
  pub at : number ≡ common_prefix_len bytes_eq lines others + 1
