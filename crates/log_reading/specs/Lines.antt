-- The line of an entry, and the entry of a line.
use Rattle.std.specs.Prelude.{◌≡◌, ℕ, List, if◌then◌else◌, IsTrue, Option, Some, None, codes}
use Rattle.std.specs.Str.{bytes_eq}
use Rattle.plant_model.specs.declared.plant.Parts.{Parts}
use Rattle.plant_core.specs.Machine.{IsCall, is_answer}
use Rattle.plant_core.specs.declared.call.Entry.{Entry}
use Rattle.log_text.specs.Fits.{FitsEntry}
use Rattle.log_text.specs.Lines.{line}
use Rattle.log_text.specs.Texts.{entry_text}
use Rattle.log_reading.specs.Calls.{call_of, caller_of}
use Rattle.log_reading.specs.Fields.{◌>>=◌, cut}
use Rattle.log_reading.specs.Replies.{reply_of}

-- The entry has a line in a log of the plant: its call is within its ranges, its reply is an answer,
-- and a program can hold it.
pub record HasLine (plant : Parts) (entry : Entry) : Type 0 where
  pub call : IsCall plant entry.call
  pub answered : IsTrue (is_answer entry.reply)
  pub held : FitsEntry entry

-- the text and a line feed are the line of this entry
pub record IsLineOf (plant : Parts) (text : List ℕ) (entry : Entry) : Type 0 where
  pub has : HasLine plant entry
  pub is : entry_text plant entry ≡ line text

-- a line is that of one entry
abbrev pub LinesTellEntries : Parts → Type 0
LinesTellEntries plant = (text : List ℕ) (entry other : Entry) → IsLineOf plant text entry
    → IsLineOf plant text other → entry ≡ other

-- ---- how a line is read

abbrev pub space : ℕ
space = 32

-- the entry of a caller, a call and a reply
abbrev pub entry_with : Parts → List ℕ → List ℕ → List ℕ → Option Entry
entry_with plant caller call reply = do
  number ← caller_of caller
  asked ← call_of plant call
  answer ← reply_of reply
  Some (record { caller = number; call = asked; reply = answer })

-- the entry of a line: its parts stand between spaces, and there is a sign before the reply
abbrev pub entry_of : Parts → List ℕ → Option Entry
entry_of plant text = do
  caller ← cut space text
  call ← cut space caller.1
  sign ← cut space call.1
  if bytes_eq sign.0 (codes "=") then entry_with plant caller.0 call.0 sign.1 else None
