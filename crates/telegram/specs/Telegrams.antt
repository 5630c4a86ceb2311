-- What the body of a frame says, and how a telegram is spelled.
use Rattle.std.specs.Prelude.{ℕ, ℤ, pos, neg_ℤ, nat_abs, ◌-◌, ◌≤◌, List, [], ◌∷◌}
use Rattle.std.specs.Prelude.{Bool, true, false, ◌==◌, Option, Some, None, Result, Ok, Err}
use Rattle.std.specs.Prelude.{if◌then◌else◌, IsTrue, codes, decimal}
use Rattle.std.specs.Borrow.{Bor}
use Rattle.std.specs.Fmt.{signed_decimal}
use Rattle.std.specs.List.{slice_split, join_with_byte}
use Rattle.std.specs.Str.{bytes_eq}
use Rattle.plant_model.specs.Names.{is_name}
use Rattle.plant_model.specs.Numbers.{IsWithin}
use Rattle.plant_model.specs.Versions.{IsDemand}
use Rattle.plant_model.specs.declared.limits.TheConstants.{LAST_ALARM, LAST_MOMENT, MOST_FORCE}
use Rattle.plant_model.specs.declared.limits.TheConstants.{MOST_MOMENT, MOST_PIECES, MOST_POSITION}
use Rattle.plant_model.specs.declared.limits.TheConstants.{MOST_WIND_SPEED, WHOLE_TURN}
use Rattle.telegram.specs.declared.telegram.Telegram.{Telegram}
use Rattle.telegram.specs.declared.telegram.Telegram.TheVariants.{Position, Wind, Setpoint}
use Rattle.telegram.specs.declared.telegram.Telegram.TheVariants.{Thruster, Generator, Tie, Mode}
use Rattle.telegram.specs.declared.telegram.Telegram.TheVariants.{Manual, Ack, Board, Bar}
use Rattle.telegram.specs.declared.telegram.Reject.{Reject}
use Rattle.telegram.specs.declared.telegram.Reject.TheVariants.{Kind, Count, Number, Range, Word}
use Rattle.telegram.specs.Numbers.{number_of}

abbrev pub reject_number : Reject → ℕ
reject_number Kind = 1
reject_number Count = 2
reject_number Number = 3
reject_number Range = 4
reject_number Word = 5

abbrev pub comma : ℕ
comma = 44

-- what stands between the commas
abbrev pub fields : List ℕ → List (List ℕ)
fields text = slice_split (λ b. b == comma) text

-- the fields after a comma, if there is one
abbrev pub fields_left : Option (Bor (List ℕ)) → List (List ℕ)
fields_left None = []
fields_left (Some text) = fields text.now

-- ---- one field

infixl 10 ◌>>=◌
abbrev pub ◌>>=◌ : {A B : Type 0} → Result A Reject → (A → Result B Reject) → Result B Reject
(Ok x) >>= f = f x
(Err reject) >>= f = Err reject

-- a whole number that is not negative, from low to high
abbrev pub natural_of : ℕ → ℕ → List ℕ → Result ℕ Reject
natural_of low high field = number_of field (pos low) (pos high) >>= λ z. Ok (nat_abs z)

-- a number that is at most so far from 0, either way
abbrev pub within_of : ℤ → List ℕ → Result ℤ Reject
within_of most field = number_of field (neg_ℤ most) most

abbrev pub moment_of : List ℕ → Result ℕ Reject
moment_of = natural_of 0 LAST_MOMENT

abbrev pub angle_of : List ℕ → Result ℕ Reject
angle_of = natural_of 0 (WHOLE_TURN - 1)

abbrev pub name_of : List ℕ → Result (List ℕ) Reject
name_of field = if is_name field then Ok field else Err Word

-- one of two words, of which the first says that it is so
abbrev pub word_of : List ℕ → List ℕ → List ℕ → Result Bool Reject
word_of on off field =
    if bytes_eq field on then Ok true else (if bytes_eq field off then Ok false else Err Word)

-- ---- so many fields, taken from left to right

abbrev pub none : Result Telegram Reject → List (List ℕ) → Result Telegram Reject
none read [] = read
none read (a ∷ more) = Err Count

abbrev pub one : (List ℕ → Result Telegram Reject) → List (List ℕ) → Result Telegram Reject
one read [] = Err Count
one read (a ∷ more) = none (read a) more

abbrev pub two : (List ℕ → List ℕ → Result Telegram Reject) → List (List ℕ) → Result Telegram Reject
two read [] = Err Count
two read (a ∷ more) = one (read a) more

abbrev pub three : (List ℕ → List ℕ → List ℕ → Result Telegram Reject) → List (List ℕ)
    → Result Telegram Reject
three read [] = Err Count
three read (a ∷ more) = two (read a) more

abbrev pub four : (List ℕ → List ℕ → List ℕ → List ℕ → Result Telegram Reject) → List (List ℕ)
    → Result Telegram Reject
four read [] = Err Count
four read (a ∷ more) = three (read a) more

-- ---- telegrams

abbrev pub position_of : List ℕ → List ℕ → List ℕ → List ℕ → Result Telegram Reject
position_of t x y h = do
  moment ← moment_of t
  north ← within_of MOST_POSITION x
  east ← within_of MOST_POSITION y
  heading ← angle_of h
  Ok (Position moment north east heading)

abbrev pub wind_of : List ℕ → List ℕ → List ℕ → Result Telegram Reject
wind_of t s a = do
  moment ← moment_of t
  speed ← natural_of 0 MOST_WIND_SPEED s
  angle ← angle_of a
  Ok (Wind moment speed angle)

abbrev pub setpoint_of : List ℕ → List ℕ → List ℕ → Result Telegram Reject
setpoint_of x y h = do
  north ← within_of MOST_POSITION x
  east ← within_of MOST_POSITION y
  heading ← angle_of h
  Ok (Setpoint north east heading)

-- what is made of a name and a value
abbrev pub made : (List ℕ → Bool → Telegram) → Result (List ℕ × Bool) Reject
    → Result Telegram Reject
made make read = read >>= λ found. Ok (make found.0 found.1)

-- a switch of a part: its name, and one of two words
abbrev pub switch_of : (List ℕ → Bool → Telegram) → List ℕ → List ℕ → List ℕ → List ℕ
    → Result Telegram Reject
switch_of make on off n w = do
  name ← name_of n
  value ← word_of on off w
  Ok (make name value)

abbrev pub mode_of : List ℕ → Result Telegram Reject
mode_of w = do
  manual ← word_of (codes "MANUAL") (codes "AUTO") w
  Ok (Mode manual)

abbrev pub manual_of : List ℕ → List ℕ → List ℕ → Result Telegram Reject
manual_of x y n = do
  surge ← within_of MOST_FORCE x
  sway ← within_of MOST_FORCE y
  yaw ← within_of MOST_MOMENT n
  Ok (Manual (record { x = surge; y = sway; n = yaw }))

abbrev pub ack_of : List ℕ → Result Telegram Reject
ack_of n = do
  number ← natural_of 1 LAST_ALARM n
  Ok (Ack number)

abbrev pub bar_of : List ℕ → List ℕ → List ℕ → Result Telegram Reject
bar_of n k w = do
  name ← name_of n
  piece ← natural_of 0 (MOST_PIECES - 1) k
  barred ← word_of (codes "BAR") (codes "FREE") w
  Ok (Bar name piece barred)

-- what a first field has after it
pub record Form : Type 0 where
  pub kind : List ℕ
  pub read : List (List ℕ) → Result Telegram Reject

-- the forms of telegrams
abbrev pub forms : List Form
forms =
    record { kind = codes "POS"; read = four position_of }
    ∷ record { kind = codes "WND"; read = three wind_of }
    ∷ record { kind = codes "SET"; read = three setpoint_of }
    ∷ record { kind = codes "THR"; read = two (switch_of Thruster (codes "IN") (codes "OUT")) }
    ∷ record { kind = codes "GEN"; read = two (switch_of Generator (codes "RUN") (codes "STOP")) }
    ∷ record { kind = codes "TIE"; read = two (switch_of Tie (codes "CLOSE") (codes "OPEN")) }
    ∷ record { kind = codes "MOD"; read = one mode_of }
    ∷ record { kind = codes "MAN"; read = three manual_of }
    ∷ record { kind = codes "ACK"; read = one ack_of }
    ∷ record { kind = codes "BRD"; read = none (Ok Board) }
    ∷ record { kind = codes "BAR"; read = three bar_of } ∷ []

-- what the form with this kind reads, or `Kind` where there is none
abbrev pub read_by : List Form → List ℕ → List (List ℕ) → Result Telegram Reject
read_by [] kind rest = Err Kind
read_by (form ∷ others) kind rest =
    if bytes_eq kind form.kind then form.read rest else read_by others kind rest

-- the telegram of these fields, or the first refusal: of the kind, of the number of fields, and
-- then of each field
abbrev pub telegram_of : List (List ℕ) → Result Telegram Reject
telegram_of [] = Err Kind
telegram_of (kind ∷ rest) = read_by forms kind rest

-- the telegram of a body, or why it is none
abbrev pub telegram : List ℕ → Result Telegram Reject
telegram body = telegram_of (fields body)

-- ---- their texts

-- the fields of a telegram
abbrev pub parts_of : Telegram → List (List ℕ)
parts_of (Position moment x y heading) =
    codes "POS" ∷ decimal moment ∷ signed_decimal x ∷ signed_decimal y ∷ decimal heading ∷ []
parts_of (Wind moment speed angle) =
    codes "WND" ∷ decimal moment ∷ decimal speed ∷ decimal angle ∷ []
parts_of (Setpoint x y heading) =
    codes "SET" ∷ signed_decimal x ∷ signed_decimal y ∷ decimal heading ∷ []
parts_of (Thruster name selected) =
    codes "THR" ∷ name ∷ (if selected then codes "IN" else codes "OUT") ∷ []
parts_of (Generator name running) =
    codes "GEN" ∷ name ∷ (if running then codes "RUN" else codes "STOP") ∷ []
parts_of (Tie name closed) =
    codes "TIE" ∷ name ∷ (if closed then codes "CLOSE" else codes "OPEN") ∷ []
parts_of (Mode manual) = codes "MOD" ∷ (if manual then codes "MANUAL" else codes "AUTO") ∷ []
parts_of (Manual demand) =
    codes "MAN" ∷ signed_decimal demand.x ∷ signed_decimal demand.y ∷ signed_decimal demand.n ∷ []
parts_of (Ack number) = codes "ACK" ∷ decimal number ∷ []
parts_of Board = codes "BRD" ∷ []
parts_of (Bar name piece barred) =
    codes "BAR" ∷ name ∷ decimal piece ∷ (if barred then codes "BAR" else codes "FREE") ∷ []

-- the body of a telegram
abbrev pub telegram_text : Telegram → List ℕ
telegram_text t = join_with_byte comma (parts_of t)

-- ---- their ranges

-- a position and a heading are within their ranges
pub record IsFix (x y : ℤ) (heading : ℕ) : Type 0 where
  pub north : IsWithin MOST_POSITION x
  pub east : IsWithin MOST_POSITION y
  pub turn : heading ≤ WHOLE_TURN - 1

pub record IsWind (speed angle : ℕ) : Type 0 where
  pub strength : speed ≤ MOST_WIND_SPEED
  pub turn : angle ≤ WHOLE_TURN - 1

-- the number of an alarm
pub record IsAlarm (number : ℕ) : Type 0 where
  pub low : 1 ≤ number
  pub high : number ≤ LAST_ALARM

-- each number is within its range, and each name is a name
abbrev pub IsTelegram : Telegram → Type 0
IsTelegram (Position moment x y heading) = (moment ≤ LAST_MOMENT) × IsFix x y heading
IsTelegram (Wind moment speed angle) = (moment ≤ LAST_MOMENT) × IsWind speed angle
IsTelegram (Setpoint x y heading) = IsFix x y heading
IsTelegram (Thruster name selected) = IsTrue (is_name name)
IsTelegram (Generator name running) = IsTrue (is_name name)
IsTelegram (Tie name closed) = IsTrue (is_name name)
IsTelegram (Mode manual) = Unit {0}
IsTelegram (Manual demand) = IsDemand demand
IsTelegram (Ack number) = IsAlarm number
IsTelegram Board = Unit {0}
IsTelegram (Bar name piece barred) = IsTrue (is_name name) × (piece ≤ MOST_PIECES - 1)
