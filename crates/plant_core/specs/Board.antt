-- The board, and what comes of a verdict that is published.
use Rattle.std.specs.Prelude.{◌≡◌, ℕ, length, map, take, Bool, true, false, ◌==◌, nat_lt}
use Rattle.std.specs.Prelude.{Option, Some, None, slice_index_or, slice_set}
use Rattle.plant_model.specs.declared.board.Cell.{Cell}
use Rattle.plant_model.specs.declared.board.Cell.TheVariants.{Pending, Seen}
use Rattle.plant_model.specs.declared.board.Cells.{Cells}
use Rattle.plant_model.specs.declared.plant.Parts.{Parts}
use Rattle.plant_model.specs.declared.status.Loss.TheVariants.{Group}
use Rattle.certificate.specs.Losses.{question_after}
use Rattle.certificate.specs.Outcomes.{IsFirstFault, IsValid, Question}
use Rattle.certificate.specs.declared.outcome.Outcome.{Outcome}
use Rattle.certificate.specs.declared.outcome.Outcome.TheVariants.{Holds, Lost}
use Rattle.plant_core.specs.declared.call.Reply.{Reply}
use Rattle.plant_core.specs.declared.call.Reply.TheVariants as replies
use Rattle.plant_core.specs.declared.state.State.{State}
use Rattle.plant_core.specs.declared.state.Verdict.{Verdict}

-- ---- cells

-- what the board shows of a group: nothing, or the verdict that was last shown, which is current
-- exactly where it is about the latest version
abbrev pub cell_of : ℕ → Option Verdict → Cell
cell_of latest None = Pending
cell_of latest (Some verdict) = Seen verdict.version verdict.holds (verdict.version == latest)

-- the board: the latest version's number, and a cell for each group
abbrev pub cells_of : Parts → State → Cells
cells_of plant state = record {
  latest = state.latest.number;
  list = record {
    items = map (cell_of state.latest.number) (take (length plant.groups.items) state.shown);
  };
}

-- ---- verdicts

-- what is asked after the loss of a group, of the latest version
abbrev pub asked_of : Parts → State → ℕ → Question
asked_of plant state group =
    question_after plant state.latest.status (Group group) state.latest.demand

abbrev pub holds : Outcome → Bool
holds (Holds choice q thrusts) = true
holds (Lost cuts) = false

abbrev pub is_about : ℕ → Option Verdict → Bool
is_about version None = false
is_about version (Some verdict) = verdict.version == version

-- the verdict that was last shown of the group
abbrev pub verdict_of : State → ℕ → Option Verdict
verdict_of state group = slice_index_or state.shown group None

-- the board shows a verdict of the latest version for the group
abbrev pub is_shown : State → ℕ → Bool
is_shown state group = is_about state.latest.number (verdict_of state group)

-- a verdict is shown where it is valid, and refused where it first fails
abbrev pub IsJudged : Question → Outcome → Reply → Type 0
IsJudged question outcome replies.Shown = IsValid question outcome
IsJudged question outcome (replies.Refused place) = IsFirstFault question outcome place
IsJudged question outcome _ = ⊥

-- whether the verdict's version is past the latest is judged first, then whether it is before it,
-- then whether the board shows one of the latest, and then the verdict
abbrev pub IsPublishWhere : Bool → Bool → Bool → Parts → State → ℕ → Outcome → Reply → Type 0
IsPublishWhere true before there plant state group outcome reply =
    reply ≡ replies.Unknown state.latest.number
IsPublishWhere false true there plant state group outcome reply =
    reply ≡ replies.Superseded state.latest.number
IsPublishWhere false false true plant state group outcome reply = reply ≡ replies.Already
IsPublishWhere false false false plant state group outcome reply =
    IsJudged (asked_of plant state group) outcome reply

-- what a verdict of a version on the loss of a group may be answered
abbrev pub IsPublishReply : Parts → State → ℕ → ℕ → Outcome → Reply → Type 0
IsPublishReply plant state version group outcome reply =
    IsPublishWhere (nat_lt state.latest.number version) (nat_lt version state.latest.number)
    (is_shown state group) plant state group outcome reply

abbrev pub with_verdict : State → ℕ → Verdict → State
with_verdict state group verdict =
    record state { shown = slice_set state.shown group (Some verdict) }

-- the state after it: a verdict that is shown takes its group's cell
abbrev pub after_publish : State → ℕ → ℕ → Outcome → Reply → State
after_publish state version group outcome replies.Shown =
    with_verdict state group (record { version = version; holds = holds outcome })
after_publish state version group outcome _ = state
