-- Lines of text.
use Rattle.std.specs.Prelude.{ℕ, List, [], ◌∷◌, ◌++◌}
use Rattle.frame.specs.Frames.{line_feed}

-- a text with the line feed that ends its line
abbrev pub line : List ℕ → List ℕ
line text = text ++ line_feed ∷ []
