-- Logs of the lists that were published: each begins with the one before, and all have one base.
use Rattle.std.specs.Prelude.{◌≡◌, List, [], ◌∷◌}
use mathlib.Core.List.{IsPrefix}
use Rattle.logbook.specs.Pages.{Book}
use Rattle.glance.specs.declared.identity.Identity.{Identity}
use Rattle.glance.specs.declared.stage.Stage.{Stage}

module _ {E B : Type 0} where
  -- the last of these stages
  abbrev pub last_of : Stage E B → List (Stage E B) → Stage E B
  last_of stage [] = stage
  last_of stage (next ∷ more) = last_of next more

  -- a stage that may be published after another
  pub record Follows (before after : Stage E B) : Type 0 where
    pub base : after.base ≡ before.base
    pub list : IsPrefix before.list after.list

  -- each stage follows the one before
  abbrev pub AreChained : Stage E B → List (Stage E B) → Type 0
  AreChained stage [] = Unit {0}
  AreChained stage (next ∷ more) = Follows stage next × AreChained next more

  -- there is a stage, and each follows the one before
  abbrev pub IsChain : List (Stage E B) → Type 0
  IsChain [] = ⊥
  IsChain (stage ∷ more) = AreChained stage more

  -- the list that was published last
  abbrev pub list_of : List (Stage E B) → List E
  list_of [] = []
  list_of (stage ∷ more) = (last_of stage more).list

  -- the base of the stages
  abbrev pub base_of : B → List (Stage E B) → B
  base_of any [] = any
  base_of any (stage ∷ more) = (last_of stage more).base

  -- a log of the same base, whose last list begins with that of another
  pub record IsLater (any : B) (before after : List (Stage E B)) : Type 0 where
    pub base : base_of any after ≡ base_of any before
    pub list : IsPrefix (list_of before) (list_of after)

  abbrev pub stage_of : B → List E → Stage E B
  stage_of base list = record { base = base; list = list }

-- what tells displays from others is the log of what is published for them
abbrev pub identity_of : Book → Identity
identity_of book = record { number = book.number; log = book.log_name; cells = book.cells_name }
