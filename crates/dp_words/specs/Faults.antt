-- That no fault is passed over.
use Rattle.std.specs.Prelude.{◌≡◌, ◌<◌, List, ◌∷◌, ◌⊎◌, All}
use Rattle.std.specs.List.{Any}
use Rattle.dp_io.specs.Shown.{HasRisen, NoneFailed, Shown}
use Rattle.dp_words.specs.declared.status.RunStatus.{RunStatus}
use Rattle.dp_words.specs.declared.status.RunStatus.TheVariants.{ReadFault, WriteFault, NoMemory}

-- its count of faults is greater than before
abbrev pub HasGreaterCount : Shown → Type 0
HasGreaterCount shown = shown.faults_before < shown.faults_after

-- the statuses that say of no read or write that it failed, and of no want of memory
abbrev pub TellsNone : RunStatus → Type 0
TellsNone ReadFault = ⊥
TellsNone WriteFault = ⊥
TellsNone NoMemory = ⊥
TellsNone _ = Unit {0}

-- Of the sources that are read and of the output no fault is passed over. Where the status tells of
-- none, each count is as it was. Where the output's count is greater, the status is WriteFault, and
-- where it didn't rise and a source's is greater, ReadFault, unless memory ran out.
pub record TellsFaults (status : RunStatus) (sources : List Shown) (out : Shown) : Type 0 where
  pub none : TellsNone status → All NoneFailed (out ∷ sources)
  pub of_output : HasGreaterCount out → (status ≡ WriteFault) ⊎ (status ≡ NoMemory)
  pub of_sources : ¬ HasRisen out → Any HasGreaterCount sources
      → (status ≡ ReadFault) ⊎ (status ≡ NoMemory)
