-- The words of the command line: which have a written form, and what the form says.
use Rattle.std.specs.Prelude.{ℕ, ◌+◌, ◌-◌, ◌<◌, ◌≤◌, List, [], ◌∷◌, ◌++◌, length, take, drop}
use Rattle.std.specs.Prelude.{Bool, true, false, not, ◌&&◌, ◌||◌}
use Rattle.std.specs.Prelude.{◌==◌, nat_le, nat_lt, slice_index, slice_index_or, Option, Some, None}
use Rattle.std.specs.Prelude.{Result, Ok, Err, if◌then◌else◌, codes}
use Rattle.std.specs.List.{filter, enumerate_from, before_first, after_first}
use Rattle.std.specs.Str.{byte, bytes_eq}
use Rattle.plant_model.specs.Names.{dash}
use Rattle.plant_model.specs.Versions.{IsDemand}
use Rattle.plant_model.specs.declared.limits.TheConstants.{MOST_FORCE, MOST_MOMENT, MOST_WORKERS}
use Rattle.plant_model.specs.declared.wrench.Wrench.{Wrench}
use Rattle.telegram.specs.Telegrams.{◌>>=◌, natural_of, within_of}
use Rattle.telegram.specs.declared.telegram.Reject.{Reject}
use Rattle.drill_streams.specs.declared.streams.TheConstants.{MOST_DRILL_STEPS}
use Rattle.dp_words.specs.declared.form.Form.{Form}
use Rattle.dp_words.specs.declared.form.Form.TheVariants.{Capability, Check, Drill, Replay, Run}
use Rattle.dp_words.specs.declared.form.Form.TheVariants.{Vote}
use Rattle.dp_words.specs.declared.form.WordsFault.{WordsFault}
use Rattle.dp_words.specs.declared.form.WordsFault.TheVariants.{NoWord, UnknownCommand, OtherWords}

-- a word with its place in the command line
abbrev pub Placed : Type 0
Placed = ℕ × List ℕ

-- the words after the command, each with its place
abbrev pub placed : List (List ℕ) → List Placed
placed words = enumerate_from 1 words

abbrev pub is_dashes : Placed → Bool
is_dashes word = bytes_eq word.1 (codes "--")

-- it starts with `-` and is longer than one byte
abbrev pub is_option : Placed → Bool
is_option word = nat_lt 1 (length word.1) && slice_index word.1 0 == dash

-- the option words: those before the first `--` that look so
abbrev pub options : List Placed → List Placed
options words = filter is_option (before_first is_dashes words)

-- the places: the other words before the first `--`, and all after it
abbrev pub places : List Placed → List Placed
places words =
    filter (λ word. not (is_option word)) (before_first is_dashes words)
    ++ after_first is_dashes words

abbrev pub is_dash : Placed → Bool
is_dash word = bytes_eq word.1 (codes "-")

-- the number of what is wrong with words
abbrev pub kind_of : WordsFault → ℕ
kind_of NoWord = 1
kind_of UnknownCommand = 2
kind_of OtherWords = 3

-- ---- `run`

-- as many workers as a session may have
abbrev pub AreWorkers : ℕ → Type 0
AreWorkers workers = (1 ≤ workers) × (workers ≤ MOST_WORKERS)

-- the number of workers that a value says: one digit from 1 to the most
abbrev pub workers_of : List ℕ → Option ℕ
workers_of [] = None
workers_of (digit ∷ []) =
    if nat_le (byte "1") digit && nat_le digit (byte "0" + MOST_WORKERS)
    then Some (digit - byte "0") else None
workers_of (digit ∷ more ∷ rest) = None

-- the value in a word `--workers=N`
abbrev pub value_in : List ℕ → Option (List ℕ)
value_in word =
    if bytes_eq (take 10 word) (codes "--workers=") then Some (drop 10 word) else None

abbrev pub workers_in : Option (List ℕ) → Option ℕ
workers_in None = None
workers_in (Some value) = workers_of value

-- a run with these places, of which at most one is `-`, and so many workers
abbrev pub run_of : Option ℕ → Placed → Placed → Placed → Result Form WordsFault
run_of None plant sensors operators = Err OtherWords
run_of (Some workers) plant sensors operators =
    if (is_dash plant && is_dash sensors)
    || ((is_dash plant || is_dash sensors) && is_dash operators) then Err OtherWords
    else Ok (Run plant.0 sensors.0 operators.0 workers)

abbrev pub run_placed : Option ℕ → List Placed → Result Form WordsFault
run_placed workers [] = Err OtherWords
run_placed workers (plant ∷ []) = Err OtherWords
run_placed workers (plant ∷ sensors ∷ []) = Err OtherWords
run_placed workers (plant ∷ sensors ∷ operators ∷ []) = run_of workers plant sensors operators
run_placed workers (plant ∷ sensors ∷ operators ∷ more ∷ rest) = Err OtherWords

-- the value is the word at this place, and the others are the places of the form
abbrev pub run_at : ℕ → Placed → Placed → Placed → Placed → Result Form WordsFault
run_at place a b c d =
    if a.0 == place then run_of (workers_of a.1) b c d else
    (if b.0 == place then run_of (workers_of b.1) a c d else
    (if c.0 == place then run_of (workers_of c.1) a b d else
    (if d.0 == place then run_of (workers_of d.1) a b c else Err OtherWords)))

-- the value of the option is the word that follows it
abbrev pub run_valued : Placed → List Placed → Result Form WordsFault
run_valued option [] = Err OtherWords
run_valued option (a ∷ []) = Err OtherWords
run_valued option (a ∷ b ∷ []) = Err OtherWords
run_valued option (a ∷ b ∷ c ∷ []) = Err OtherWords
run_valued option (a ∷ b ∷ c ∷ d ∷ []) = run_at (option.0 + 1) a b c d
run_valued option (a ∷ b ∷ c ∷ d ∷ more ∷ rest) = Err OtherWords

-- `run` has three places, of which at most one is `-`, and may have the option `--workers N` or
-- `--workers=N`; without it there are two workers
abbrev pub run_form : List Placed → List Placed → Result Form WordsFault
run_form [] all = run_placed (Some 2) all
run_form (option ∷ []) all =
    if bytes_eq option.1 (codes "--workers") then run_valued option all
    else run_placed (workers_in (value_in option.1)) all
run_form (option ∷ more ∷ rest) all = Err OtherWords

-- ---- the other commands

-- `replay` has two places and no option, and at most one place is `-`
abbrev pub replay_form : List Placed → List Placed → Result Form WordsFault
replay_form [] [] = Err OtherWords
replay_form [] (plant ∷ []) = Err OtherWords
replay_form [] (plant ∷ telegrams ∷ []) =
    if is_dash plant && is_dash telegrams then Err OtherWords
    else Ok (Replay plant.0 telegrams.0)
replay_form [] (plant ∷ telegrams ∷ more ∷ rest) = Err OtherWords
replay_form (option ∷ more) all = Err OtherWords

-- whether this is the option; neither where another is, or more than one
abbrev pub asks_for : List ℕ → List Placed → Option Bool
asks_for name [] = Some false
asks_for name (option ∷ []) = if bytes_eq option.1 name then Some true else None
asks_for name (option ∷ more ∷ rest) = None

-- the demand that three words spell, within its limits
abbrev pub demand_of : List ℕ → List ℕ → List ℕ → Result Wrench Reject
demand_of x y n = do
  surge ← within_of MOST_FORCE x
  sway ← within_of MOST_FORCE y
  yaw ← within_of MOST_MOMENT n
  Ok (record { x = surge; y = sway; n = yaw })

-- a check of the plant at this place, where the demand and the option are right
abbrev pub check_of : ℕ → Result Wrench Reject → Option Bool → Result Form WordsFault
check_of plant (Ok demand) (Some json) = Ok (Check plant demand json)
check_of plant (Ok demand) None = Err OtherWords
check_of plant (Err reject) json = Err OtherWords

-- `check` has four places, of which the last three are the demand, and may have the option
-- `--json`; a `-` is no number, so that at most one place is `-`
abbrev pub check_form : List Placed → List Placed → Result Form WordsFault
check_form options [] = Err OtherWords
check_form options (plant ∷ []) = Err OtherWords
check_form options (plant ∷ x ∷ []) = Err OtherWords
check_form options (plant ∷ x ∷ y ∷ []) = Err OtherWords
check_form options (plant ∷ x ∷ y ∷ n ∷ []) =
    check_of plant.0 (demand_of x.1 y.1 n.1) (asks_for (codes "--json") options)
check_form options (plant ∷ x ∷ y ∷ n ∷ more ∷ rest) = Err OtherWords

-- a vote on the telegrams at this place, where the option is right
abbrev pub vote_of : ℕ → Option Bool → Result Form WordsFault
vote_of telegrams (Some report) = Ok (Vote telegrams report)
vote_of telegrams None = Err OtherWords

-- `vote` has one place, and may have the option `--report`
abbrev pub vote_form : List Placed → List Placed → Result Form WordsFault
vote_form options [] = Err OtherWords
vote_form options (telegrams ∷ []) = vote_of telegrams.0 (asks_for (codes "--report") options)
vote_form options (telegrams ∷ more ∷ rest) = Err OtherWords

-- the capability of the plant at this place, where the demand is right and there is no option
abbrev pub capability_of : ℕ → Result Wrench Reject → List Placed → Result Form WordsFault
capability_of plant (Ok demand) [] = Ok (Capability plant demand)
capability_of plant (Ok demand) (option ∷ more) = Err OtherWords
capability_of plant (Err reject) options = Err OtherWords

-- `capability` has the places of `check` and no option
abbrev pub capability_form : List Placed → List Placed → Result Form WordsFault
capability_form options [] = Err OtherWords
capability_form options (plant ∷ []) = Err OtherWords
capability_form options (plant ∷ x ∷ []) = Err OtherWords
capability_form options (plant ∷ x ∷ y ∷ []) = Err OtherWords
capability_form options (plant ∷ x ∷ y ∷ n ∷ []) =
    capability_of plant.0 (demand_of x.1 y.1 n.1) options
capability_form options (plant ∷ x ∷ y ∷ n ∷ more ∷ rest) = Err OtherWords

-- the seed of a drill, and its size
abbrev pub seed_of : List ℕ → Result ℕ Reject
seed_of = natural_of 0 4294967295

abbrev pub size_of : List ℕ → Result ℕ Reject
size_of = natural_of 1 MOST_DRILL_STEPS

-- a drill of this seed and size, where both are right
abbrev pub drill_of : Result ℕ Reject → Result ℕ Reject → Result Form WordsFault
drill_of (Ok seed) (Ok size) = Ok (Drill seed size)
drill_of (Ok seed) (Err reject) = Err OtherWords
drill_of (Err reject) size = Err OtherWords

-- `drill` has two places, the seed and the size, and no option
abbrev pub drill_form : List Placed → List Placed → Result Form WordsFault
drill_form [] [] = Err OtherWords
drill_form [] (seed ∷ []) = Err OtherWords
drill_form [] (seed ∷ size ∷ []) = drill_of (seed_of seed.1) (size_of size.1)
drill_form [] (seed ∷ size ∷ more ∷ rest) = Err OtherWords
drill_form (option ∷ more) all = Err OtherWords

-- the written form of the words, or what is wrong with them: there is none, the command is unknown,
-- or the others aren't of its form
abbrev pub written_form : List (List ℕ) → Result Form WordsFault
written_form [] = Err NoWord
written_form (command ∷ words) =
    let rest = placed words in
    if bytes_eq command (codes "run") then run_form (options rest) (places rest) else
    (if bytes_eq command (codes "replay") then replay_form (options rest) (places rest)
    else
    (if bytes_eq command (codes "check") then check_form (options rest) (places rest)
    else
    (if bytes_eq command (codes "vote") then vote_form (options rest) (places rest)
    else
    (if bytes_eq command (codes "capability") then capability_form (options rest) (places rest)
    else
    (if bytes_eq command (codes "drill") then drill_form (options rest) (places rest)
    else Err UnknownCommand)))))

-- the form, or the number of what is wrong
abbrev pub numbered : Result Form WordsFault → Result Form ℕ
numbered (Ok form) = Ok form
numbered (Err fault) = Err (kind_of fault)

-- the written form of the words, or the number of what is wrong with them: 1 there is no word, 2 the
-- command is unknown, 3 the other words aren't of its form
abbrev pub form_of : List (List ℕ) → Result Form ℕ
form_of words = numbered (written_form words)

-- the places that the form names are among that many words
abbrev pub NamesBelow : Form → ℕ → Type 0
NamesBelow (Run plant sensors operators workers) count =
    (plant < count) × (sensors < count) × (operators < count)
NamesBelow (Replay plant telegrams) count = (plant < count) × (telegrams < count)
NamesBelow (Check plant demand json) count = plant < count
NamesBelow (Vote telegrams report) count = telegrams < count
NamesBelow (Capability plant demand) count = plant < count
NamesBelow (Drill seed size) count = Unit {0}

-- as many steps as a drill may have
abbrev pub AreSteps : ℕ → Type 0
AreSteps size = (1 ≤ size) × (size ≤ MOST_DRILL_STEPS)

-- what the form asks for is within its limits: so many workers, such a demand, or so many steps
abbrev pub AsksWithin : Form → Type 0
AsksWithin (Run plant sensors operators workers) = AreWorkers workers
AsksWithin (Replay plant telegrams) = Unit {0}
AsksWithin (Check plant demand json) = IsDemand demand
AsksWithin (Vote telegrams report) = Unit {0}
AsksWithin (Capability plant demand) = IsDemand demand
AsksWithin (Drill seed size) = AreSteps size

-- the place of the plant's word, where the command has a plant
abbrev pub plant_place : Form → Option ℕ
plant_place (Run plant sensors operators workers) = Some plant
plant_place (Replay plant telegrams) = Some plant
plant_place (Check plant demand json) = Some plant
plant_place (Vote telegrams report) = None
plant_place (Capability plant demand) = Some plant
plant_place (Drill seed size) = None

-- the word at a place, or an empty one where there is none
abbrev pub word_at : List (List ℕ) → Option ℕ → List ℕ
word_at words None = []
word_at words (Some place) = slice_index_or words place []

-- the places of the words that name files: of the plant, and of the sensors and the operators or of the
-- telegrams; or of the telegrams alone; a drill has no file
abbrev pub files_of : Result Form ℕ → List (Option ℕ)
files_of (Ok (Run plant sensors operators workers)) =
    Some plant ∷ Some sensors ∷ Some operators ∷ []
files_of (Ok (Replay plant telegrams)) = Some plant ∷ Some telegrams ∷ None ∷ []
files_of (Ok (Check plant demand json)) = Some plant ∷ None ∷ None ∷ []
files_of (Ok (Vote telegrams report)) = Some telegrams ∷ None ∷ None ∷ []
files_of (Ok (Capability plant demand)) = Some plant ∷ None ∷ None ∷ []
files_of (Ok (Drill seed size)) = None ∷ None ∷ None ∷ []
files_of (Err kind) = None ∷ None ∷ None ∷ []
