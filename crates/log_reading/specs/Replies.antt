-- What the fields of replies say.
use Rattle.std.specs.Prelude.{ℕ, List, [], ◌∷◌, if◌then◌else◌, Option, Some, codes}
use Rattle.std.specs.Str.{bytes_eq}
use Rattle.plant_model.specs.declared.board.Cell.{Cell}
use Rattle.plant_model.specs.declared.board.Cell.TheVariants.{Pending, Seen}
use Rattle.plant_model.specs.declared.board.Cells.{Cells}
use Rattle.plant_model.specs.declared.limits.TheConstants.{MOST_GROUPS}
use Rattle.telegram.specs.Telegrams.{fields}
use Rattle.plant_core.specs.declared.call.Reply.{Reply}
use Rattle.plant_core.specs.declared.call.Reply.TheVariants as replies
use Rattle.log_reading.specs.Fields.{◌>>=◌, Form, all_of, at_first, at_only, by_kind, cut, ended}
use Rattle.log_reading.specs.Fields.{u32_of, word_of}
use Rattle.log_reading.specs.Outcomes.{allocation_of, place_of, wrench_at}

-- ---- cells

abbrev pub colon : ℕ
colon = 58

-- which version's verdict, the verdict, and whether that version is the latest
abbrev pub seen_of : List ℕ → Option Cell
seen_of field = do
  version ← cut colon field
  words ← cut colon version.1
  number ← u32_of version.0
  holds ← word_of (codes "HOLDS") (codes "LOST") words.0
  current ← word_of (codes "CURRENT") (codes "SUPERSEDED") words.1
  Some (Seen number holds current)

abbrev pub cell_of : List ℕ → Option Cell
cell_of field = if bytes_eq field (codes "PENDING") then Some Pending else seen_of field

-- cells, beside the latest version's number
abbrev pub cells_with : ℕ → List (List ℕ) → Option Cells
cells_with latest fields = do
  items ← all_of (at_first cell_of) MOST_GROUPS fields
  Some (record { latest = latest; list = record { items = items } })

abbrev pub cells_of : List (List ℕ) → Option Reply
cells_of fields = do
  latest ← at_first u32_of fields
  cells ← cells_with latest.0 latest.1
  Some (replies.Cells cells)

-- ---- replies

abbrev pub numbered : (ℕ → Reply) → List (List ℕ) → Option Reply
numbered make fields = do
  number ← at_only u32_of fields
  Some (make number)

abbrev pub commanded_of : List (List ℕ) → Option Reply
commanded_of fields = do
  version ← at_first u32_of fields
  demand ← wrench_at version.1
  allocation ← allocation_of demand.1
  Some (replies.Commanded version.0 demand.0 allocation)

abbrev pub refused_of : List (List ℕ) → Option Reply
refused_of fields = do
  place ← place_of fields
  Some (replies.Refused place)

abbrev pub reply_forms : List (Form Reply)
reply_forms =
    record { kind = codes "VERSION"; read = numbered (λ n. replies.Version n) }
    ∷ record { kind = codes "SAME"; read = ended replies.Same }
    ∷ record { kind = codes "TAKEN"; read = ended replies.Taken }
    ∷ record { kind = codes "UNKNOWN-NAME"; read = ended replies.UnknownName }
    ∷ record { kind = codes "NO-PIECE"; read = ended replies.NoPiece }
    ∷ record { kind = codes "COMMANDED"; read = commanded_of }
    ∷ record { kind = codes "LATE"; read = numbered (λ n. replies.Late n) }
    ∷ record { kind = codes "WRONG-MODE"; read = ended replies.WrongMode }
    ∷ record { kind = codes "NOTED"; read = ended replies.Noted }
    ∷ record { kind = codes "NO-SUCH-ALARM"; read = ended replies.NoSuchAlarm }
    ∷ record { kind = codes "CELLS"; read = cells_of }
    ∷ record { kind = codes "SHOWN"; read = ended replies.Shown }
    ∷ record { kind = codes "SUPERSEDED"; read = numbered (λ n. replies.Superseded n) }
    ∷ record { kind = codes "UNKNOWN"; read = numbered (λ n. replies.Unknown n) }
    ∷ record { kind = codes "ALREADY"; read = ended replies.Already }
    ∷ record { kind = codes "REFUSED"; read = refused_of } ∷ []

-- the reply that a text is, where it is an answer
abbrev pub reply_of : List ℕ → Option Reply
reply_of text = by_kind reply_forms (fields text)
