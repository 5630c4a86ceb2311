-- What a worker did.
use Rattle.std.specs.Prelude.{◌≡◌, ◌≢◌, ℕ, ◌<◌, ◌≤◌, ◌⊎◌, List, [], ◌∷◌, ◌++◌, length, true, All}
use Rattle.std.specs.Prelude.{Result, Ok, Err, MatchResult}
use mathlib.Core.List.{IsPrefix}
use Rattle.glance.specs.Shown.{Seeing}
use Rattle.plant_model.specs.declared.plant.Parts.{Parts}
use Rattle.plant_core.specs.Machine.{state_after}
use Rattle.plant_core.specs.declared.call.Entry.{Entry}
use Rattle.plant_book.specs.Books.{BookShown, IsAtRest}
use Rattle.plant_book.specs.declared.base.BookBase.{BookBase}
use Rattle.plant_book.specs.declared.board.BoardBase.{BoardBase}
use Rattle.analysis_jobs.specs.Passes.{JobHand}
use Rattle.analysis_jobs.specs.declared.job.Job.{Job}
use Rattle.analysis_jobs.specs.declared.job.Job.TheVariants.{Analyse, Stop}
use Rattle.analysis_workers.specs.Verdicts.{IsVerdictOn}

-- ---- a worker

-- what a worker has: a pass of the book, one of the queue and a display
pub record Worker : Type 0 where
  pub pass : BookShown
  pub own : JobHand
  pub eyes : Seeing Entry BoardBase

abbrev pub worker : BookShown → JobHand → Seeing Entry BoardBase → Worker
worker pass own eyes = record { pass = pass; own = own; eyes = eyes }

-- the display is one of the book's
pub record IsDisplayOf (book : BookBase) (eyes : Seeing Entry BoardBase) : Type 0 where
  pub glance : eyes.glance ≡ book.glance
  pub base : eyes.base ≡ record { plant = book.plant; limit = book.limit }

-- ---- jobs and their verdicts

abbrev pub IsAnalyse : Job → Type 0
IsAnalyse (Analyse version group) = Unit {0}
IsAnalyse Stop = ⊥

-- the plant hasn't the group, or the version of this number is before the latest of what a display has
-- seen
abbrev pub IsSkipped : Parts → List Entry → ℕ → ℕ → Type 0
IsSkipped plant seen number group = (length plant.groups.items ≤ group)
    ⊎ (number < (state_after plant seen).latest.number)

-- then a job may have no verdict
abbrev pub MaySkip : Parts → List Entry → Job → Type 0
MaySkip plant seen (Analyse version group) = IsSkipped plant seen version.number group
MaySkip plant seen Stop = ⊥

-- the entry is the caller's verdict on the job, valid for the job's version
abbrev pub IsVerdictFor : Parts → ℕ → Job → Entry → Type 0
IsVerdictFor plant caller (Analyse version group) entry =
    IsVerdictOn plant caller version group entry
IsVerdictFor plant caller Stop entry = ⊥

-- the entries are verdicts on the jobs, one for each in their order, but for jobs that may have none
abbrev pub AreWorked : (Job → Type 0) → Parts → ℕ → List Job → List Entry → Type 0
AreWorked may plant caller [] entries = entries ≡ []
AreWorked may plant caller (job ∷ jobs) entries =
    (may job × AreWorked may plant caller jobs entries)
    ⊎ ((entry : Entry) × (more : List Entry) × (entries ≡ entry ∷ more)
    × IsVerdictFor plant caller job entry × AreWorked may plant caller jobs more)

-- a session was ended in this history
abbrev pub IsClosed : Parts → List Entry → Type 0
IsClosed plant history = (state_after plant history).is_closed ≡ true

-- The entries are verdicts on the jobs, one for each in their order. A job may have none where the
-- plant hasn't its group, or its version is before the latest of what a display has seen. Where what
-- the caller has seen has the end of a session, the last jobs may have none.
pub record AreDone (plant : Parts) (caller : ℕ) (shown seen : List Entry) (jobs : List Job)
    (entries : List Entry) : Type 0 where
  pub done : List Job
  pub left : List Job
  pub split : jobs ≡ done ++ left
  pub worked : AreWorked (MaySkip plant shown) plant caller done entries
  pub analyses : All IsAnalyse left
  pub closed : left ≢ [] → IsClosed plant seen

-- ---- the work

-- a pass went on: it has seen more, with these entries of its own at the end of its own
pub record GoesOn (old new : BookShown) (entries : List Entry) : Type 0 where
  pub pass : new ≡ record old {
    shown = record old.shown { seen = new.shown.seen; mine = old.shown.mine ++ entries };
  }
  pub seen : IsPrefix old.shown.seen new.shown.seen
  pub rest : IsAtRest new.shown

-- a display went on: it has seen more
pub record LooksOn (old new : Seeing Entry BoardBase) : Type 0 where
  pub display : new ≡ record old { seen = new.seen }
  pub seen : IsPrefix old.seen new.seen

-- the job that was taken last: a Stop, or one for whose verdict there was no memory
abbrev pub IsLastJob : {A E : Type 0} → Result A E → Job → Type 0
IsLastJob answer last = MatchResult answer (λ _. last ≡ Stop) (λ _. IsAnalyse last)

-- A worker took these jobs and then the last one, which has no verdict, and its new entries are
-- verdicts on the jobs.
pub record Works {A E : Type 0} (old new : Worker) (answer : Result A E) : Type 0 where
  pub jobs : List Job
  pub last : Job
  pub taken : new.own ≡ record old.own {
    hand = record old.own.hand { taken = old.own.hand.taken ++ jobs ++ last ∷ [] };
  }
  pub ends : IsLastJob answer last
  pub entries : List Entry
  pub went_on : GoesOn old.pass new.pass entries
  pub looked : LooksOn old.eyes new.eyes
  pub are_done : AreDone old.pass.shown.base.plant old.pass.shown.caller new.eyes.seen
      new.pass.shown.seen jobs entries

-- ---- one job

-- the job is done, but for want of memory
abbrev pub jobs_of : {A E : Type 0} → Result A E → Job → List Job
jobs_of (Ok done) job = job ∷ []
jobs_of (Err error) job = []

-- A job was worked on. Whatever was done before it, it is done after that.
pub record WorksOn {A E : Type 0} (old new : BookShown) (eyes later : Seeing Entry BoardBase)
    (job : Job) (answer : Result A E) : Type 0 where
  pub entries : List Entry
  pub went_on : GoesOn old new entries
  pub looked : LooksOn eyes later
  pub adds : (jobs : List Job) (before : List Entry)
      → AreDone old.shown.base.plant old.shown.caller eyes.seen old.shown.seen jobs before
      → AreDone old.shown.base.plant old.shown.caller later.seen new.shown.seen
      (jobs ++ jobs_of answer job) (before ++ entries)
