-- What the readers of the published board know: which log it is of.
use Rattle.std.specs.Prelude.{◌≡◌, ℕ, List, [], Option, ◌∷◌, Some, None, IsSomeAnd, drop}
use mathlib.Core.Option.{some}
use lib.ListN.{get_elem?}
use Rattle.atomic_table.specs.declared.shared.Seat.{Seat}
use Rattle.left_right.specs.Sides.{view}
use Rattle.left_right.specs.declared.Absorb.{Ghosts}
use Rattle.left_right.specs.declared.writer.Writer.{Writer}
use Rattle.left_right.specs.declared.board.Doing.{Doing}
use Rattle.left_right.specs.declared.part.Part.{Part}
use Rattle.logbook.specs.Pages.{Book}
use Rattle.glance.specs.Shots.{Standing}

-- what a place knows
abbrev pub known_at : {T V : Type 0} → Seat (Option (Part T)) (Doing T V) → V
known_at place = view place

module _ {E B : Type 0} where
  -- a board that is known is of this log
  abbrev pub IsOf : Book → Option (Standing E B) → Type 0
  IsOf glance None = Unit {0}
  IsOf glance (Some shot) = shot.glance ≡ glance

  -- a board is known, and it is of this log
  abbrev pub Knows : Book → Option (Standing E B) → Type 0
  Knows glance None = ⊥
  Knows glance (Some shot) = shot.glance ≡ glance

  -- each board that is known is of this log
  abbrev pub AreOfOneLog : Book → List (Option (Standing E B)) → Type 0
  AreOfOneLog glance views = (seat : ℕ) (known : Option (Standing E B))
      → get_elem? views seat ≡ some known → IsOf glance known

  -- boards of this log
  abbrev pub AreOf : Book → List (Standing E B) → Type 0
  AreOf glance [] = Unit {0}
  AreOf glance (shot ∷ more) = (shot.glance ≡ glance) × AreOf glance more

  module _ {P A : Type 0} {g : Ghosts (Standing E B) (Standing E B) (Standing E B)} where
    -- the writer publishes boards of this log
    abbrev pub Writes : Book
        → Option (Writer (Standing E B) (Standing E B) (Option (Standing E B)) P A (Standing E B) g)
        → Type 0
    Writes glance writer = IsSomeAnd writer (λ w. (w.desk.shown.value.glance ≡ glance)
        × AreOf glance (drop w.behind w.log.items))

    -- the writer knows a board of this log
    abbrev pub CanTell : Book
        → Option (Writer (Standing E B) (Standing E B) (Option (Standing E B)) P A (Standing E B) g)
        → Type 0
    CanTell glance writer = IsSomeAnd writer (λ w. Knows glance (known_at w.desk.place))
