-- How far lines are all that a session writes.
use Rattle.std.specs.Prelude.{◌≡◌, ℕ, ◌≤◌, List, [], ◌∷◌, ◌++◌, length, drop, Bool, true, false}
use Rattle.plant_core.specs.Machine.{CoreView}
use Rattle.log_text.specs.Commands.{commands_text}
use Rattle.log_audit.specs.Audits.{IsRead}
use Rattle.log_audit.specs.FirstBad.{text_of}
use Rattle.log_audit.specs.Sessions.{IsBadSession, NoneBegins, is_framed, report_lines}
use Rattle.log_audit.specs.declared.part.Part.{Part}
use Rattle.log_audit.specs.declared.part.Part.TheVariants.{Bad, Front, Log, Report}

-- of lines of which one is no frame's, those before it are kept, and an empty line in its place
pub record IsCut (kept : List ℕ) (lines : List (List ℕ)) : Type 0 where
  pub front : List (List ℕ)
  pub own : List ℕ
  pub back : List (List ℕ)
  pub is : lines ≡ front ++ own ∷ back
  pub other : is_framed own ≡ false
  pub text : kept ≡ text_of (front ++ [] ∷ [])

-- what is kept of the lines before a log: it first differs from frames where they do
abbrev pub Keeps : Bool → List ℕ → List (List ℕ) → Type 0
Keeps false kept lines = kept ≡ text_of lines
Keeps true kept lines = IsCut kept lines

-- no line begins a log, and the machine has answered no call
pub record IsFront (core : CoreView) (is_cut : Bool) (kept frames : List ℕ) (lines : List (List ℕ))
    : Type 0 where
  pub none : NoneBegins lines
  pub keeps : Keeps is_cut kept lines
  pub fresh : core.history ≡ []
  pub unframed : frames ≡ []

-- the lines from the first that begins a log are a history's log, of which the machine has taken twins
pub record IsLogBehind (core : CoreView) (kept frames : List ℕ) (lines : List (List ℕ)) : Type 0
  where
    pub front : List (List ℕ)
    pub none : NoneBegins front
    pub is_cut : Bool
    pub keeps : Keeps is_cut kept front
    pub log : List (List ℕ)
    pub is : lines ≡ front ++ log
    pub entries : ℕ
    pub read : IsRead core log entries
    pub framed : frames ≡ commands_text core.plant read.history

-- behind them stand first lines of the history's report, which are so many bytes of it
pub record IsReportBehind (core : CoreView) (kept frames report : List ℕ) (taken : ℕ)
    (lines : List (List ℕ)) : Type 0 where
  pub before : List (List ℕ)
  pub logged : IsLogBehind core kept frames before
  pub first : List ℕ
  pub told : List (List ℕ)
  pub is : lines ≡ before ++ first ∷ told
  pub left : List (List ℕ)
  pub split : report_lines core.plant logged.read.history ≡ (first ∷ told) ++ left
  pub within : taken ≤ length report
  pub rest : drop taken report ≡ text_of left

-- whatever follows the lines, the text is bad at this line first
abbrev pub IsBadSessionOn : CoreView → List (List ℕ) → ℕ → Type 0
IsBadSessionOn core lines number =
    (more : List ℕ) → IsBadSession core.plant (text_of lines ++ more) number

abbrev pub IsAt : Part → CoreView → List ℕ → List ℕ → List ℕ → List (List ℕ) → Type 0
IsAt (Front is_cut) core kept frames report lines = IsFront core is_cut kept frames lines
IsAt Log core kept frames report lines = IsLogBehind core kept frames lines
IsAt (Report taken) core kept frames report lines = IsReportBehind core kept frames report taken lines
IsAt (Bad number) core kept frames report lines = IsBadSessionOn core lines number
