-- The numbers of the program's statuses, and what is told of them.
use Rattle.std.specs.Prelude.{ℕ, List, [], ◌∷◌, ◌++◌, ◌==◌, ◌⊎◌, if◌then◌else◌, codes}
use Rattle.frame.specs.Frames.{line_feed}
use Rattle.plant_file.specs.Texts.{fault_text}
use Rattle.dp_io.specs.Shown.{HasRisen, Shown, Took}
use Rattle.dp_words.specs.declared.status.RunStatus.{RunStatus}
use Rattle.dp_words.specs.declared.status.RunStatus.TheVariants.{Clear, LossFound, Usage, Plant}
use Rattle.dp_words.specs.declared.status.RunStatus.TheVariants.{ReadFault, WriteFault, NoMemory}
use Rattle.dp_words.specs.declared.status.RunStatus.TheVariants.{JournalFull, StreamTooLong}

-- the exit status
abbrev pub status_code : RunStatus → ℕ
status_code Clear = 0
status_code LossFound = 1
status_code (Usage kind) = 2
status_code (Plant fault) = 3
status_code ReadFault = 4
status_code WriteFault = 5
status_code JournalFull = 6
status_code NoMemory = 7
status_code StreamTooLong = 8

-- what is wrong with the words: 1 there is none, 2 the command is unknown, 3 the others aren't the
-- command's
abbrev pub usage_text : ℕ → List ℕ
usage_text kind = if kind == 1 then codes "1" else (if kind == 2 then codes "2" else codes "3")

-- a text with the line feed that ends its line
abbrev pub line : List ℕ → List ℕ
line text = text ++ line_feed ∷ []

-- the line on the error output, none where all was read and written
abbrev pub status_text : RunStatus → List ℕ
status_text Clear = []
status_text LossFound = []
status_text (Usage kind) = line (codes "dp: usage " ++ usage_text kind)
status_text (Plant fault) = line (codes "dp: plant " ++ fault_text fault)
status_text ReadFault = line (codes "dp: read fault")
status_text WriteFault = line (codes "dp: write fault")
status_text JournalFull = line (codes "dp: journal full")
status_text NoMemory = line (codes "dp: no memory")
status_text StreamTooLong = line (codes "dp: stream too long")

-- the error output took the status's line, or its count of faults rose
abbrev pub IsTold : RunStatus → Shown → Type 0
IsTold status err = Took err (status_text status) ⊎ HasRisen err
