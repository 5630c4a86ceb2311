-- Laws of all telegrams.
use Rattle.std.specs.Prelude.{◌≡◌, ℕ, List, Ok}
use Rattle.telegram.specs.Telegrams.{IsTelegram, telegram, telegram_text}
use Rattle.telegram.specs.declared.telegram.Telegram.{Telegram}

-- each telegram is what its text is read as
abbrev pub IsReadOfItsText : Type 0
IsReadOfItsText = (t : Telegram) → IsTelegram t → telegram (telegram_text t) ≡ Ok t

-- a body that is read as a telegram is the telegram's text
abbrev pub IsReadOfNoOther : Type 0
IsReadOfNoOther = (body : List ℕ) (t : Telegram) → telegram body ≡ Ok t → telegram_text t ≡ body

-- what is read is within its ranges
abbrev pub IsReadWithinRanges : Type 0
IsReadWithinRanges = (body : List ℕ) (t : Telegram) → telegram body ≡ Ok t → IsTelegram t
