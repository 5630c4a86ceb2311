-- Words have the form of the command that they name, or none.
use Rattle.std.proofs.Common.{◌≡◌, ℕ, ◌+◌, List, [], ◌∷◌, Bool, true, false, ◌==◌, ◌&&◌, ◌||◌}
use Rattle.std.proofs.Common.{if◌then◌else◌, Option, Some, None, Result, Ok, Err, refl, sym, ◌∙◌}
use Rattle.std.proofs.Common.{ap, subst, codes}
use Rattle.std.proofs.lemmas.Slice.Eq.{bytes_eq-Decides}
use Rattle.std.specs.Str.{bytes_eq}
use Rattle.plant_model.specs.declared.wrench.Wrench.{Wrench}
use Rattle.telegram.specs.declared.telegram.Reject.{Reject}
use Rattle.dp_words.specs.declared.form.Form.{Form}
use Rattle.dp_words.specs.declared.form.Form.TheVariants.{Capability, Check, Drill, Replay, Run}
use Rattle.dp_words.specs.declared.form.Form.TheVariants.{Vote}
use Rattle.dp_words.specs.declared.form.WordsFault.{WordsFault}
use Rattle.dp_words.specs.declared.form.WordsFault.TheVariants.{OtherWords, UnknownCommand}
use Rattle.dp_words.specs.Words.{capability_form, capability_of, drill_form, drill_of, seed_of}
use Rattle.dp_words.specs.Words.{size_of}
use Rattle.dp_words.specs.Words.{Placed, asks_for, check_form, check_of, demand_of, form_of}
use Rattle.dp_words.specs.Words.{is_dash, kind_of, numbered, options, placed, places, replay_form}
use Rattle.dp_words.specs.Words.{run_at, run_form, run_of, run_placed, run_valued, value_in}
use Rattle.dp_words.specs.Words.{vote_form, vote_of, workers_in, workers_of, written_form}

-- the word of the form's command
abbrev pub command_of : Form → List ℕ
command_of (Run plant sensors operators workers) = codes "run"
command_of (Replay plant telegrams) = codes "replay"
command_of (Check plant demand json) = codes "check"
command_of (Vote telegrams report) = codes "vote"
command_of (Capability plant demand) = codes "capability"
command_of (Drill seed size) = codes "drill"

-- a form of this command, or none for the words after the first
abbrev pub IsOf : List ℕ → Result Form WordsFault → Type 0
IsOf name (Ok form) = command_of form ≡ name
IsOf name (Err fault) = fault ≡ OtherWords

-- ---- the words after the command

unless : (b : Bool) (form : Form)
    → IsOf (command_of form) (if b then Err OtherWords else Ok form)
unless true form = refl
unless false form = refl

run-of : (workers : Option ℕ) (plant sensors operators : Placed)
    → IsOf (codes "run") (run_of workers plant sensors operators)
run-of None plant sensors operators = refl
run-of (Some workers) plant sensors operators =
    unless ((is_dash plant && is_dash sensors)
    || ((is_dash plant || is_dash sensors) && is_dash operators))
    (Run plant.0 sensors.0 operators.0 workers)

run-placed : (workers : Option ℕ) (all : List Placed)
    → IsOf (codes "run") (run_placed workers all)
run-placed workers [] = refl
run-placed workers (a ∷ []) = refl
run-placed workers (a ∷ b ∷ []) = refl
run-placed workers (a ∷ b ∷ c ∷ []) = run-of workers a b c
run-placed workers (a ∷ b ∷ c ∷ d ∷ rest) = refl

run-at : (place : ℕ) (a b c d : Placed) → IsOf (codes "run") (run_at place a b c d)
run-at place a b c d = by (a.0 == place) (b.0 == place) (c.0 == place) (d.0 == place)
  where
    by : (p q r s : Bool) → IsOf (codes "run")
        (if p then run_of (workers_of a.1) b c d else
        (if q then run_of (workers_of b.1) a c d else
        (if r then run_of (workers_of c.1) a b d else
        (if s then run_of (workers_of d.1) a b c else Err OtherWords))))
    by true q r s = run-of (workers_of a.1) b c d
    by false true r s = run-of (workers_of b.1) a c d
    by false false true s = run-of (workers_of c.1) a b d
    by false false false true = run-of (workers_of d.1) a b c
    by false false false false = refl

run-valued : (option : Placed) (all : List Placed) → IsOf (codes "run") (run_valued option all)
run-valued option [] = refl
run-valued option (a ∷ []) = refl
run-valued option (a ∷ b ∷ []) = refl
run-valued option (a ∷ b ∷ c ∷ []) = refl
run-valued option (a ∷ b ∷ c ∷ d ∷ []) = run-at (option.0 + 1) a b c d
run-valued option (a ∷ b ∷ c ∷ d ∷ e ∷ rest) = refl

run-is : (chosen all : List Placed) → IsOf (codes "run") (run_form chosen all)
run-is [] all = run-placed (Some 2) all
run-is (option ∷ []) all = by (bytes_eq option.1 (codes "--workers"))
  where
    by : (b : Bool) → IsOf (codes "run") (if b then run_valued option all
        else run_placed (workers_in (value_in option.1)) all)
    by true = run-valued option all
    by false = run-placed (workers_in (value_in option.1)) all
run-is (option ∷ more ∷ rest) all = refl

replay-is : (chosen all : List Placed) → IsOf (codes "replay") (replay_form chosen all)
replay-is [] [] = refl
replay-is [] (a ∷ []) = refl
replay-is [] (a ∷ b ∷ []) = unless (is_dash a && is_dash b) (Replay a.0 b.0)
replay-is [] (a ∷ b ∷ c ∷ rest) = refl
replay-is (option ∷ more) all = refl

check-of : (plant : ℕ) (demand : Result Wrench Reject) (json : Option Bool)
    → IsOf (codes "check") (check_of plant demand json)
check-of plant (Ok demand) (Some json) = refl
check-of plant (Ok demand) None = refl
check-of plant (Err reject) json = refl

check-is : (chosen all : List Placed) → IsOf (codes "check") (check_form chosen all)
check-is chosen [] = refl
check-is chosen (a ∷ []) = refl
check-is chosen (a ∷ b ∷ []) = refl
check-is chosen (a ∷ b ∷ c ∷ []) = refl
check-is chosen (a ∷ b ∷ c ∷ d ∷ []) =
    check-of a.0 (demand_of b.1 c.1 d.1) (asks_for (codes "--json") chosen)
check-is chosen (a ∷ b ∷ c ∷ d ∷ e ∷ rest) = refl

vote-of : (telegrams : ℕ) (report : Option Bool) → IsOf (codes "vote") (vote_of telegrams report)
vote-of telegrams (Some report) = refl
vote-of telegrams None = refl

vote-is : (chosen all : List Placed) → IsOf (codes "vote") (vote_form chosen all)
vote-is chosen [] = refl
vote-is chosen (a ∷ []) = vote-of a.0 (asks_for (codes "--report") chosen)
vote-is chosen (a ∷ b ∷ rest) = refl

capability-of : (plant : ℕ) (demand : Result Wrench Reject) (chosen : List Placed)
    → IsOf (codes "capability") (capability_of plant demand chosen)
capability-of plant (Ok demand) [] = refl
capability-of plant (Ok demand) (option ∷ more) = refl
capability-of plant (Err reject) chosen = refl

capability-is : (chosen all : List Placed) → IsOf (codes "capability") (capability_form chosen all)
capability-is chosen [] = refl
capability-is chosen (a ∷ []) = refl
capability-is chosen (a ∷ b ∷ []) = refl
capability-is chosen (a ∷ b ∷ c ∷ []) = refl
capability-is chosen (a ∷ b ∷ c ∷ d ∷ []) = capability-of a.0 (demand_of b.1 c.1 d.1) chosen
capability-is chosen (a ∷ b ∷ c ∷ d ∷ e ∷ rest) = refl

drill-of : (seed size : Result ℕ Reject) → IsOf (codes "drill") (drill_of seed size)
drill-of (Ok seed) (Ok size) = refl
drill-of (Ok seed) (Err reject) = refl
drill-of (Err reject) size = refl

drill-is : (chosen all : List Placed) → IsOf (codes "drill") (drill_form chosen all)
drill-is [] [] = refl
drill-is [] (a ∷ []) = refl
drill-is [] (a ∷ b ∷ []) = drill-of (seed_of a.1) (size_of b.1)
drill-is [] (a ∷ b ∷ c ∷ rest) = refl
drill-is (option ∷ more) all = refl

-- ---- all words

-- the form is that of the command whose word the first is
named-where : (command : List ℕ) (run replay check vote capability drill : Bool)
    (chosen all : List Placed) (form : Form) → (run ≡ true → command ≡ codes "run")
    → (replay ≡ true → command ≡ codes "replay") → (check ≡ true → command ≡ codes "check")
    → (vote ≡ true → command ≡ codes "vote")
    → (capability ≡ true → command ≡ codes "capability")
    → (drill ≡ true → command ≡ codes "drill")
    → (if run then run_form chosen all
    else (if replay then replay_form chosen all
    else (if check then check_form chosen all
    else (if vote then vote_form chosen all
    else (if capability then capability_form chosen all
    else (if drill then drill_form chosen all else Err UnknownCommand))))))
    ≡ Ok form
    → command ≡ command_of form
named-where command true replay check vote capability drill chosen all form one two three four five
    six is =
    one refl ∙ sym (subst (IsOf (codes "run")) is (run-is chosen all))
named-where command false true check vote capability drill chosen all form one two three four five
    six is =
    two refl ∙ sym (subst (IsOf (codes "replay")) is (replay-is chosen all))
named-where command false false true vote capability drill chosen all form one two three four five
    six is =
    three refl ∙ sym (subst (IsOf (codes "check")) is (check-is chosen all))
named-where command false false false true capability drill chosen all form one two three four five
    six is =
    four refl ∙ sym (subst (IsOf (codes "vote")) is (vote-is chosen all))
named-where command false false false false true drill chosen all form one two three four five
    six is =
    five refl ∙ sym (subst (IsOf (codes "capability")) is (capability-is chosen all))
named-where command false false false false false true chosen all form one two three four five
    six is =
    six refl ∙ sym (subst (IsOf (codes "drill")) is (drill-is chosen all))
named-where command false false false false false false chosen all form one two three four five
    six is = absurd (cc)

found : (read : Result Form WordsFault) (form : Form) → numbered read ≡ Ok form → read ≡ Ok form
found (Ok other) form is = cc
found (Err fault) form is = cc

pub first-is : (command : List ℕ) (words : List (List ℕ)) (form : Form)
    → form_of (command ∷ words) ≡ Ok form → command ≡ command_of form
first-is command words form is =
    let reads : (name : List ℕ) → bytes_eq command name ≡ true → command ≡ name =
    λ name e. (bytes_eq-Decides command name).0 e in
    named-where command (bytes_eq command (codes "run")) (bytes_eq command (codes "replay"))
    (bytes_eq command (codes "check")) (bytes_eq command (codes "vote"))
    (bytes_eq command (codes "capability")) (bytes_eq command (codes "drill"))
    (options (placed words)) (places (placed words)) form
    (reads (codes "run")) (reads (codes "replay")) (reads (codes "check")) (reads (codes "vote"))
    (reads (codes "capability")) (reads (codes "drill"))
    (found (written_form (command ∷ words)) form is)

-- two words of commands
pub differ : (a b : List ℕ) → bytes_eq a b ≡ false → a ≡ b → ⊥
differ a b none same = cc (none, (bytes_eq-Decides a b).1 same)

-- words that name a command have no form of another
pub no-other : (command : List ℕ) (words : List (List ℕ)) (name : List ℕ) (form : Form)
    → bytes_eq command name ≡ true → (name ≡ command_of form → ⊥)
    → form_of (command ∷ words) ≡ Ok form → ⊥
no-other command words name form named other is =
    other (sym ((bytes_eq-Decides command name).0 named) ∙ first-is command words form is)

-- words of a form name its command
pub names-it : (command : List ℕ) (words : List (List ℕ)) (form : Form)
    → form_of (command ∷ words) ≡ Ok form → bytes_eq command (command_of form) ≡ true
names-it command words form is =
    (bytes_eq-Decides command (command_of form)).1 (first-is command words form is)

other-number : (name : List ℕ) (read : Result Form WordsFault) (kind : ℕ) → IsOf name read
    → numbered read ≡ Err kind → kind ≡ 3
other-number name (Ok form) kind is e = cc
other-number name (Err fault) kind is e =
    let number : kind_of fault ≡ kind = cc in sym number ∙ ap kind_of is

-- where words that name a check have no form, it is for the words after the first
pub check-other : (command : List ℕ) (words : List (List ℕ)) (kind : ℕ)
    → bytes_eq command (codes "check") ≡ true → form_of (command ∷ words) ≡ Err kind → kind ≡ 3
check-other command words kind named is =
    let same : command ≡ codes "check" = (bytes_eq-Decides command (codes "check")).0 named in
    let of : IsOf (codes "check") (written_form (command ∷ words)) =
    subst (λ (c : List ℕ). IsOf (codes "check") (written_form (c ∷ words))) (sym same)
    (check-is (options (placed words)) (places (placed words))) in
    other-number (codes "check") (written_form (command ∷ words)) kind of is

-- and likewise for a vote
pub vote-other : (command : List ℕ) (words : List (List ℕ)) (kind : ℕ)
    → bytes_eq command (codes "vote") ≡ true → form_of (command ∷ words) ≡ Err kind → kind ≡ 3
vote-other command words kind named is =
    let same : command ≡ codes "vote" = (bytes_eq-Decides command (codes "vote")).0 named in
    let of : IsOf (codes "vote") (written_form (command ∷ words)) =
    subst (λ (c : List ℕ). IsOf (codes "vote") (written_form (c ∷ words))) (sym same)
    (vote-is (options (placed words)) (places (placed words))) in
    other-number (codes "vote") (written_form (command ∷ words)) kind of is

-- and for a capability
pub capability-other : (command : List ℕ) (words : List (List ℕ)) (kind : ℕ)
    → bytes_eq command (codes "capability") ≡ true → form_of (command ∷ words) ≡ Err kind
    → kind ≡ 3
capability-other command words kind named is =
    let same : command ≡ codes "capability" =
    (bytes_eq-Decides command (codes "capability")).0 named in
    let of : IsOf (codes "capability") (written_form (command ∷ words)) =
    subst (λ (c : List ℕ). IsOf (codes "capability") (written_form (c ∷ words))) (sym same)
    (capability-is (options (placed words)) (places (placed words))) in
    other-number (codes "capability") (written_form (command ∷ words)) kind of is

-- and for a drill
pub drill-other : (command : List ℕ) (words : List (List ℕ)) (kind : ℕ)
    → bytes_eq command (codes "drill") ≡ true → form_of (command ∷ words) ≡ Err kind → kind ≡ 3
drill-other command words kind named is =
    let same : command ≡ codes "drill" = (bytes_eq-Decides command (codes "drill")).0 named in
    let of : IsOf (codes "drill") (written_form (command ∷ words)) =
    subst (λ (c : List ℕ). IsOf (codes "drill") (written_form (c ∷ words))) (sym same)
    (drill-is (options (placed words)) (places (placed words))) in
    other-number (codes "drill") (written_form (command ∷ words)) kind of is
