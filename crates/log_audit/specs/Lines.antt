-- The lines of a log.
use Rattle.std.specs.Prelude.{◌≡◌, ℕ, List, ◌∷◌, ◌++◌, map, ◌==◌, All, IsTrue, true, false, codes}
use Rattle.std.specs.List.{AllByRecursion}
use Rattle.std.specs.Str.{bytes_eq}
use Rattle.frame.specs.Frames.{line_feed}
use Rattle.plant_model.specs.Names.{is_name}
use Rattle.plant_model.specs.Plants.{are_distinct}
use Rattle.plant_model.specs.declared.plant.Parts.{Parts}
use Rattle.plant_core.specs.declared.call.Entry.{Entry}
use Rattle.log_text.specs.Lines.{line}
use Rattle.log_text.specs.Texts.{call_text, caller_text, reply_text}

-- a text without a line feed
abbrev pub HasNoFeed : List ℕ → Type 0
HasNoFeed text = All (λ b. (b == line_feed) ≡ false) text

abbrev pub AreLines : List (List ℕ) → Type 0
AreLines lines = AllByRecursion HasNoFeed lines

-- an entry's line, but for its line feed
abbrev pub entry_line : Parts → Entry → List ℕ
entry_line plant entry = caller_text entry.caller ++ codes " " ++ call_text plant entry.call
    ++ codes " = " ++ reply_text entry.reply

abbrev pub entry_lines : Parts → List Entry → List (List ℕ)
entry_lines plant history = map (entry_line plant) history

abbrev pub head_line : Parts → List ℕ
head_line plant = codes "LOG,1," ++ plant.name

abbrev pub log_lines : Parts → List Entry → List (List ℕ)
log_lines plant history = head_line plant ∷ entry_lines plant history

-- the plant, its thrusters and its groups have names that are ones, and no two groups share one
pub record HasNames (plant : Parts) : Type 0 where
  pub own : IsTrue (is_name plant.name)
  pub thrusters : All (λ thruster. IsTrue (is_name thruster.name)) plant.thrusters.items
  pub groups : All (λ group. IsTrue (is_name group.name)) plant.groups.items
  pub distinct : are_distinct bytes_eq (map (λ group. group.name) plant.groups.items) ≡ true

-- the text is this line and the rest
pub record IsFirstLine (text own rest : List ℕ) : Type 0 where
  pub good : HasNoFeed own
  pub is : line own ++ rest ≡ text
