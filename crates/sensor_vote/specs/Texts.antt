-- The frames and the report that a vote makes of the items of a stream.
use Rattle.std.specs.Prelude.{ℕ, ◌+◌, List, [], ◌∷◌, ◌++◌, Bool, true, false, not, ◌&&◌, Option}
use Rattle.std.specs.Prelude.{None, Some, Result, Ok, Err, if◌then◌else◌, codes, decimal, fold}
use Rattle.std.specs.Prelude.{◌-◌, count_by, get_or}
use Rattle.std.specs.List.{filter_map, flat_map, join_with_byte}
use Rattle.frame.specs.Frames.{frame_text}
use Rattle.frame.specs.declared.item.Item.{Item}
use Rattle.frame.specs.declared.item.Item.TheVariants.{Body, Damaged}
use Rattle.telegram.specs.Telegrams.{comma, telegram_text}
use Rattle.telegram.specs.declared.telegram.Reject.{Reject}
use Rattle.telegram.specs.declared.telegram.Telegram.TheVariants.{Position}
use Rattle.sensor_vote.specs.References.{reference_of}
use Rattle.sensor_vote.specs.Rounds.{answers_after, is_ending, is_unfinished, voted}
use Rattle.sensor_vote.specs.declared.reference.Reference.{Reference}
use Rattle.sensor_vote.specs.declared.vote.Voted.{Voted}
use Rattle.sensor_vote.specs.declared.vote.Voted.TheVariants.{Late, Round, Twice, Waiting}
use Rattle.dp_words.specs.Statuses.{line}
use Rattle.sensor_vote.specs.declared.heard.Heard.{Heard}
use Rattle.sensor_vote.specs.declared.heard.Heard.TheVariants.{Dropped, Passed, Taken}

-- ---- what is heard

abbrev pub heard_as : List ℕ → Option (Result Reference Reject) → Heard
heard_as body None = Passed body
heard_as body (Some (Ok reference)) = Taken reference
heard_as body (Some (Err reject)) = Dropped

-- a reference is taken, any other body is passed on, and what is damaged or no reference is dropped
abbrev pub heard : Item → Heard
heard (Body body) = heard_as body (reference_of body)
heard (Damaged damage) = Dropped

abbrev pub taken_of : Heard → Option Reference
taken_of (Taken reference) = Some reference
taken_of (Passed body) = None
taken_of Dropped = None

-- the references that are taken of the items
abbrev pub references : List Item → List Reference
references items = filter_map (λ item. taken_of (heard item)) items

abbrev pub is_dropped : Heard → Bool
is_dropped Dropped = true
is_dropped (Taken reference) = false
is_dropped (Passed body) = false

-- ---- frames

-- a round's last reference gives the frame of its position, any other none
abbrev pub answer_frame : Voted → List ℕ
answer_frame (Round moment x y heading bad) =
    frame_text (telegram_text (Position moment x y heading))
answer_frame Waiting = []
answer_frame Twice = []
answer_frame (Late last) = []

-- what is written for an item after these references, which were taken before it
abbrev pub frames_of : List Reference → Heard → List ℕ
frames_of taken (Taken reference) = answer_frame (voted taken reference)
frames_of taken (Passed body) = frame_text body
frames_of taken Dropped = []

-- ---- the report

abbrev pub fields_line : List (List ℕ) → List ℕ
fields_line fields = line (join_with_byte comma fields)

-- a line that names a moment and a reference
abbrev pub moment_line : List ℕ → ℕ → ℕ → List ℕ
moment_line kind moment number = fields_line (kind ∷ decimal moment ∷ decimal number ∷ [])

abbrev pub refused_line : Reference → List ℕ → List ℕ
refused_line r cause =
    fields_line (codes "REFUSED" ∷ decimal r.moment ∷ decimal r.number ∷ cause ∷ [])

abbrev pub bad_after : List Bool → Voted → List Bool
bad_after bad (Round moment x y heading now) = now
bad_after bad Waiting = bad
bad_after bad Twice = bad
bad_after bad (Late last) = bad

-- which references the last round marked as bad; none where no round has ended
abbrev pub bad_in : List Reference → List Bool
bad_in taken = fold bad_after (false ∷ false ∷ false ∷ []) (answers_after [] taken)

-- a reference that becomes bad, or no longer is
abbrev pub change_line : ℕ → ℕ → Bool → Bool → List ℕ
change_line moment number before now =
    if now && not before then moment_line (codes "ALARM") moment number
    else (if before && not now then moment_line (codes "CLEARED") moment number else [])

-- whether the reference of this number is marked
abbrev pub is_marked : List Bool → ℕ → Bool
is_marked bad number = get_or bad (number - 1) false

-- the lines of the three references, in the order of their numbers
abbrev pub change_lines : ℕ → List Bool → List Bool → List ℕ
change_lines moment before now =
    flat_map (λ number. change_line moment number (is_marked before number) (is_marked now number))
    (1 ∷ 2 ∷ 3 ∷ [])

abbrev pub answer_lines : List Bool → Reference → Voted → List ℕ
answer_lines bad r (Round moment x y heading now) = change_lines moment bad now
answer_lines bad r Waiting = []
answer_lines bad r Twice = refused_line r (codes "TWICE")
answer_lines bad r (Late last) = refused_line r (codes "LATE")

abbrev pub lines_of : List Reference → Heard → List ℕ
lines_of taken (Taken reference) = answer_lines (bad_in taken) reference (voted taken reference)
lines_of taken (Passed body) = []
lines_of taken Dropped = []

abbrev pub is_round : Voted → Bool
is_round (Round moment x y heading bad) = true
is_round Waiting = false
is_round Twice = false
is_round (Late last) = false

-- how many rounds had all their references
abbrev pub rounds_in : List Reference → ℕ
rounds_in taken = count_by is_round (answers_after [] taken)

-- how many of these references, which come after those, end a round that has not all
abbrev pub ended_after : List Reference → List Reference → ℕ
ended_after taken [] = 0
ended_after taken (r ∷ rs) =
    (if is_ending taken r.moment then 1 else 0) + ended_after (taken ++ r ∷ []) rs

-- how many rounds have ended or stand without all their references
abbrev pub unfinished_in : List Reference → ℕ
unfinished_in taken = ended_after [] taken + (if is_unfinished taken then 1 else 0)

-- how many items were dropped
abbrev pub dropped_in : List Item → ℕ
dropped_in items = count_by (λ item. is_dropped (heard item)) items

-- how many rounds had all their references, how many hadn't, and how many items were dropped
abbrev pub counts_line : List Item → List ℕ
counts_line items =
    fields_line (codes "VOTE" ∷ decimal (rounds_in (references items))
    ∷ decimal (unfinished_in (references items)) ∷ decimal (dropped_in items) ∷ [])

abbrev pub last_lines : List Item → List ℕ
last_lines items = counts_line items ++ line (codes "END")

-- ---- both

-- what is written for an item, as a report or not
abbrev pub written_for : Bool → List Reference → Heard → List ℕ
written_for report taken heard = if report then lines_of taken heard else frames_of taken heard

-- what is written for these items, which come after those
abbrev pub written_after : Bool → List Item → List Item → List ℕ
written_after report before [] = []
written_after report before (item ∷ items) =
    written_for report (references before) (heard item)
    ++ written_after report (before ++ item ∷ []) items

-- what is written for all items, in their order
abbrev pub written_of : Bool → List Item → List ℕ
written_of report items = written_after report [] items

-- what is written after all items
abbrev pub end_of : Bool → List Item → List ℕ
end_of report items = if report then last_lines items else []

-- the whole of what is written
abbrev pub whole_of : Bool → List Item → List ℕ
whole_of report items = written_of report items ++ end_of report items
