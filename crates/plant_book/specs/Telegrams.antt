-- Whose telegram it is.
use Rattle.telegram.specs.declared.telegram.Telegram.{Telegram}
use Rattle.telegram.specs.declared.telegram.Telegram.TheVariants.{Position, Wind, Board}

abbrev pub IsPosition : Telegram → Type 0
IsPosition (Position moment x y heading) = Unit {0}
IsPosition _ = ⊥

abbrev pub IsWindTelegram : Telegram → Type 0
IsWindTelegram (Wind moment speed angle) = Unit {0}
IsWindTelegram _ = ⊥

-- a telegram of the operators that isn't about the board
abbrev pub IsOrder : Telegram → Type 0
IsOrder (Position moment x y heading) = ⊥
IsOrder (Wind moment speed angle) = ⊥
IsOrder Board = ⊥
IsOrder _ = Unit {0}
