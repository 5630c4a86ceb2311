-- What is asked on one of two streams.
use Rattle.std.specs.Prelude.{ℕ, ◌==◌, Result, Ok, Err, if◌then◌else◌}
use Rattle.frame.specs.declared.item.Item.{Item}
use Rattle.frame.specs.declared.item.Item.TheVariants.{Body, Damaged}
use Rattle.telegram.specs.Telegrams.{telegram}
use Rattle.telegram.specs.declared.telegram.Reject.{Reject}
use Rattle.telegram.specs.declared.telegram.Telegram.{Telegram}
use Rattle.plant_core.specs.declared.call.Call.{Call}
use Rattle.plant_core.specs.declared.call.Call.TheVariants as calls
use Rattle.plant_core.specs.declared.call.Note.TheVariants as notes
use Rattle.dp_sessions.specs.Sessions.{caller_of}
use Rattle.watch_session.specs.declared.stream.Stream.{Stream}
use Rattle.watch_session.specs.declared.stream.Stream.TheVariants.{Sensors, Operators}

-- a telegram of the stream's caller is asked, and one of the other's is noted as stray
abbrev pub call_on : ℕ → Telegram → Call
call_on caller telegram = if caller_of telegram == caller then calls.Telegram telegram
    else calls.Note notes.Stray

-- why a body is no telegram is noted
abbrev pub call_of_body : ℕ → Result Telegram Reject → Call
call_of_body caller (Ok telegram) = call_on caller telegram
call_of_body caller (Err reject) = calls.Note (notes.Rejected reject)

-- what a caller asks for an item of its stream
abbrev pub call_for : ℕ → Item → Call
call_for caller (Body body) = call_of_body caller (telegram body)
call_for caller (Damaged damage) = calls.Note (notes.Damaged damage)

-- the caller of a stream: the sensors' is 1, and the operators' 2
abbrev pub caller_on : Stream → ℕ
caller_on Sensors = 1
caller_on Operators = 2
