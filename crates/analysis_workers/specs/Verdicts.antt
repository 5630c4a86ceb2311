-- Verdicts that are published.
use Rattle.std.specs.Prelude.{◌≡◌, ℕ, List, All}
use Rattle.plant_model.specs.Versions.{Version}
use Rattle.plant_model.specs.declared.plant.Parts.{Parts}
use Rattle.plant_model.specs.declared.status.Loss.TheVariants.{Group}
use Rattle.certificate.specs.Losses.{question_after}
use Rattle.certificate.specs.Outcomes.{IsValid}
use Rattle.certificate.specs.declared.outcome.Outcome.{Outcome}
use Rattle.plant_core.specs.declared.call.Call.{Call}
use Rattle.plant_core.specs.declared.call.Call.TheVariants.{Publish}
use Rattle.plant_core.specs.declared.call.Entry.{Entry}
use Rattle.plant_book.specs.Books.{BookShown}
use Rattle.plant_book.specs.Calls.{Serves}
use Rattle.plant_book.specs.declared.served.Served.{Served}

abbrev pub IsPublish : Call → Type 0
IsPublish (Publish version group outcome) = Unit {0}
IsPublish _ = ⊥

-- the outcome is valid for the version after the loss of the group
abbrev pub IsValidFor : Parts → Version → ℕ → Outcome → Type 0
IsValidFor plant version group outcome =
    IsValid (question_after plant version.status (Group group) version.demand) outcome

-- the call published such an outcome
pub record PublishesVerdict (old new : BookShown) (version : Version) (group : ℕ)
    (served : Served) : Type 0 where
  pub outcome : Outcome
  pub valid : IsValidFor old.shown.base.plant version group outcome
  pub serves : Serves old new (Publish version.number group outcome) served

-- the entry is a caller's verdict of the version on the loss of the group, with such an outcome
pub record IsVerdictOn (plant : Parts) (caller : ℕ) (version : Version) (group : ℕ)
    (entry : Entry) : Type 0 where
  pub outcome : Outcome
  pub own : entry.caller ≡ caller
  pub call : entry.call ≡ Publish version.number group outcome
  pub valid : IsValidFor plant version group outcome

-- the entry is a caller's verdict, of some version on the loss of some group
pub record IsVerdict (plant : Parts) (caller : ℕ) (entry : Entry) : Type 0 where
  pub version : Version
  pub group : ℕ
  pub is : IsVerdictOn plant caller version group entry

abbrev pub AreVerdicts : Parts → ℕ → List Entry → Type 0
AreVerdicts plant caller entries = All (IsVerdict plant caller) entries

abbrev pub ArePublished : List Entry → Type 0
ArePublished entries = All (λ entry. IsPublish entry.call) entries
