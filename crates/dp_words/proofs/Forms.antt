-- What the kept options and places say of a form.
use Rattle.std.proofs.Common.{◌≡◌, ◌≢◌, ℕ, suc, ◌+◌, ◌<◌, ◌≤◌, List, [], ◌∷◌}
use Rattle.std.proofs.Common.{length, take, Bool, true, false}
use Rattle.std.proofs.Common.{◌==◌, ◌||◌, not, ◌&&◌, if◌then◌else◌, Option, Some, None, Result}
use Rattle.std.proofs.Common.{Ok, Err, refl, sym}
use Rattle.std.proofs.Common.{ap, ap₂, ◌∙◌, map, subst, arith}
use Rattle.std.proofs.lemmas.List.{length-map}
use Rattle.std.specs.Result.{IfOk}
use Rattle.std.specs.List.{All, filter, position_or_len, before_first, after_first}
use Rattle.std.specs.Prelude.{codes}
use Rattle.std.specs.Str.{bytes_eq}
use Rattle.std.proofs.lemmas.List.Elements.{All-append, All-drop, All-filter, All-take}
use Rattle.std.proofs.lemmas.List.FromFn.{length-enumerate_from, get_or-enumerate_from}
use Rattle.plant_model.specs.declared.wrench.Wrench.{Wrench}
use Rattle.telegram.specs.declared.telegram.Reject.{Reject}
use Rattle.dp_words.specs.declared.form.Form.{Form}
use Rattle.dp_words.specs.declared.form.Form.TheVariants.{Replay, Run}
use Rattle.dp_words.specs.declared.form.WordsFault.{WordsFault}
use Rattle.dp_words.specs.declared.form.WordsFault.TheVariants.{UnknownCommand, OtherWords}
use Rattle.dp_words.specs.declared.sorting.TheConstants.{KEPT_OPTIONS, KEPT_PLACES}
use Rattle.dp_words.specs.Words.{Placed, placed, is_dash, is_dashes, is_option, options, places}
use Rattle.dp_words.specs.Words.{replay_form, check_form, check_of, demand_of, asks_for}
use Rattle.dp_words.specs.Words.{written_form, NamesBelow, vote_form, vote_of}
use Rattle.dp_words.specs.Words.{run_at, run_form, run_of, run_placed, run_valued}
use Rattle.dp_words.specs.Words.{value_in, workers_in, workers_of}
use Rattle.dp_words.specs.Words.{capability_form, capability_of, drill_form, drill_of, seed_of}
use Rattle.dp_words.specs.Words.{size_of}

-- ---- the kept options and places are enough

placed_kept : (workers : Option ℕ) (all : List Placed)
    → run_placed workers (take KEPT_PLACES all) ≡ run_placed workers all
placed_kept workers [] = refl
placed_kept workers (plant ∷ []) = refl
placed_kept workers (plant ∷ sensors ∷ []) = refl
placed_kept workers (plant ∷ sensors ∷ operators ∷ []) = refl
placed_kept workers (plant ∷ sensors ∷ operators ∷ more ∷ rest) = refl

valued_kept : (option : Placed) (all : List Placed)
    → run_valued option (take KEPT_PLACES all) ≡ run_valued option all
valued_kept option [] = refl
valued_kept option (a ∷ []) = refl
valued_kept option (a ∷ b ∷ []) = refl
valued_kept option (a ∷ b ∷ c ∷ []) = refl
valued_kept option (a ∷ b ∷ c ∷ d ∷ []) = refl
valued_kept option (a ∷ b ∷ c ∷ d ∷ more ∷ rest) = refl

pub run_kept : (all_options all : List Placed)
    → run_form (take KEPT_OPTIONS all_options) (take KEPT_PLACES all) ≡ run_form all_options all
run_kept [] all = placed_kept (Some 2) all
run_kept (option ∷ []) all = by (bytes_eq option.1 (codes "--workers"))
  where
    by : (b : Bool) → (if b then run_valued option (take KEPT_PLACES all)
        else run_placed (workers_in (value_in option.1)) (take KEPT_PLACES all))
        ≡ (if b then run_valued option all else run_placed (workers_in (value_in option.1)) all)
    by true = valued_kept option all
    by false = placed_kept (workers_in (value_in option.1)) all
run_kept (option ∷ more ∷ rest) all = refl

pub replay_kept : (all_options all : List Placed)
    → replay_form (take KEPT_OPTIONS all_options) (take KEPT_PLACES all)
    ≡ replay_form all_options all
replay_kept [] [] = refl
replay_kept [] (plant ∷ []) = refl
replay_kept [] (plant ∷ telegrams ∷ []) = refl
replay_kept [] (plant ∷ telegrams ∷ more ∷ rest) = refl
replay_kept (option ∷ more) all = refl

option_kept : (name : List ℕ) (all : List Placed)
    → asks_for name (take KEPT_OPTIONS all) ≡ asks_for name all
option_kept name [] = refl
option_kept name (option ∷ []) = refl
option_kept name (option ∷ more ∷ rest) = refl

pub check_kept : (all_options all : List Placed)
    → check_form (take KEPT_OPTIONS all_options) (take KEPT_PLACES all)
    ≡ check_form all_options all
check_kept all_options [] = refl
check_kept all_options (plant ∷ []) = refl
check_kept all_options (plant ∷ x ∷ []) = refl
check_kept all_options (plant ∷ x ∷ y ∷ []) = refl
check_kept all_options (plant ∷ x ∷ y ∷ n ∷ []) =
    ap (check_of plant.0 (demand_of x.1 y.1 n.1)) (option_kept (codes "--json") all_options)
check_kept all_options (plant ∷ x ∷ y ∷ n ∷ more ∷ rest) = refl

pub vote_kept : (all_options all : List Placed)
    → vote_form (take KEPT_OPTIONS all_options) (take KEPT_PLACES all)
    ≡ vote_form all_options all
vote_kept all_options [] = refl
vote_kept all_options (telegrams ∷ []) =
    ap (vote_of telegrams.0) (option_kept (codes "--report") all_options)
vote_kept all_options (telegrams ∷ more ∷ rest) = refl

no_option_kept : (plant : ℕ) (demand : Result Wrench Reject) (all : List Placed)
    → capability_of plant demand (take KEPT_OPTIONS all) ≡ capability_of plant demand all
no_option_kept plant (Ok demand) [] = refl
no_option_kept plant (Ok demand) (option ∷ more) = refl
no_option_kept plant (Err reject) all = refl

pub capability_kept : (all_options all : List Placed)
    → capability_form (take KEPT_OPTIONS all_options) (take KEPT_PLACES all)
    ≡ capability_form all_options all
capability_kept all_options [] = refl
capability_kept all_options (plant ∷ []) = refl
capability_kept all_options (plant ∷ x ∷ []) = refl
capability_kept all_options (plant ∷ x ∷ y ∷ []) = refl
capability_kept all_options (plant ∷ x ∷ y ∷ n ∷ []) =
    no_option_kept plant.0 (demand_of x.1 y.1 n.1) all_options
capability_kept all_options (plant ∷ x ∷ y ∷ n ∷ more ∷ rest) = refl

pub drill_kept : (all_options all : List Placed)
    → drill_form (take KEPT_OPTIONS all_options) (take KEPT_PLACES all)
    ≡ drill_form all_options all
drill_kept [] [] = refl
drill_kept [] (seed ∷ []) = refl
drill_kept [] (seed ∷ size ∷ []) = refl
drill_kept [] (seed ∷ size ∷ more ∷ rest) = refl
drill_kept (option ∷ more) all = refl

-- another count of places than two is no form of `drill`
pub no_drill_unless_two : (all_options all : List Placed) → length all ≢ 2
    → Err OtherWords ≡ drill_form all_options all
no_drill_unless_two [] [] other = refl
no_drill_unless_two [] (seed ∷ []) other = refl
no_drill_unless_two [] (seed ∷ size ∷ []) other = absurd (other refl)
no_drill_unless_two [] (seed ∷ size ∷ more ∷ rest) other = refl
no_drill_unless_two (option ∷ more) all other = refl

-- nor is any option
pub no_drill_with_options : (all_options all : List Placed) → 1 ≤ length all_options
    → Err OtherWords ≡ drill_form all_options all
no_drill_with_options [] all some = absurd (omega (arith, some))
no_drill_with_options (option ∷ more) all some = refl

-- another count of places than four is no form of `capability`
pub no_capability_unless_four : (all_options all : List Placed) → length all ≢ 4
    → Err OtherWords ≡ capability_form all_options all
no_capability_unless_four all_options [] other = refl
no_capability_unless_four all_options (plant ∷ []) other = refl
no_capability_unless_four all_options (plant ∷ x ∷ []) other = refl
no_capability_unless_four all_options (plant ∷ x ∷ y ∷ []) other = refl
no_capability_unless_four all_options (plant ∷ x ∷ y ∷ n ∷ []) other = absurd (other refl)
no_capability_unless_four all_options (plant ∷ x ∷ y ∷ n ∷ more ∷ rest) other = refl

no_capability_of : (plant : ℕ) (demand : Result Wrench Reject) (all : List Placed)
    → 1 ≤ length all → Err OtherWords ≡ capability_of plant demand all
no_capability_of plant (Ok demand) [] some = absurd (omega (arith, some))
no_capability_of plant (Ok demand) (option ∷ more) some = refl
no_capability_of plant (Err reject) all some = refl

-- nor is any option
pub no_capability_with_options : (all_options all : List Placed) → 1 ≤ length all_options
    → Err OtherWords ≡ capability_form all_options all
no_capability_with_options all_options [] some = refl
no_capability_with_options all_options (plant ∷ []) some = refl
no_capability_with_options all_options (plant ∷ x ∷ []) some = refl
no_capability_with_options all_options (plant ∷ x ∷ y ∷ []) some = refl
no_capability_with_options all_options (plant ∷ x ∷ y ∷ n ∷ []) some =
    no_capability_of plant.0 (demand_of x.1 y.1 n.1) all_options some
no_capability_with_options all_options (plant ∷ x ∷ y ∷ n ∷ more ∷ rest) some = refl

-- another count of places than four is no form
pub error_unless_four : (all_options all : List Placed) → length all ≢ 4
    → Err OtherWords ≡ check_form all_options all
error_unless_four all_options [] other = refl
error_unless_four all_options (plant ∷ []) other = refl
error_unless_four all_options (plant ∷ x ∷ []) other = refl
error_unless_four all_options (plant ∷ x ∷ y ∷ []) other = refl
error_unless_four all_options (plant ∷ x ∷ y ∷ n ∷ []) other = absurd (other refl)
error_unless_four all_options (plant ∷ x ∷ y ∷ n ∷ more ∷ rest) other = refl

check_none : (plant : ℕ) (demand : Result Wrench Reject) (json : Option Bool) → json ≡ None
    → Err OtherWords ≡ check_of plant demand json
check_none plant (Ok demand) (Some json) none = cc
check_none plant (Ok demand) None none = refl
check_none plant (Err reject) json none = refl

-- and neither are options other than its own
pub error_where_none : (all_options all : List Placed)
    → asks_for (codes "--json") all_options ≡ None → Err OtherWords ≡ check_form all_options all
error_where_none all_options [] none = refl
error_where_none all_options (plant ∷ []) none = refl
error_where_none all_options (plant ∷ x ∷ []) none = refl
error_where_none all_options (plant ∷ x ∷ y ∷ []) none = refl
error_where_none all_options (plant ∷ x ∷ y ∷ n ∷ []) none =
    check_none plant.0 (demand_of x.1 y.1 n.1) (asks_for (codes "--json") all_options) none
error_where_none all_options (plant ∷ x ∷ y ∷ n ∷ more ∷ rest) none = refl

-- and of three, or with a value of four, for a run
pub error_unless_three : (workers : Option ℕ) (all : List Placed) → length all ≢ 3
    → Err OtherWords ≡ run_placed workers all
error_unless_three workers [] other = refl
error_unless_three workers (plant ∷ []) other = refl
error_unless_three workers (plant ∷ sensors ∷ []) other = refl
error_unless_three workers (plant ∷ sensors ∷ operators ∷ []) other = absurd (other refl)
error_unless_three workers (plant ∷ sensors ∷ operators ∷ more ∷ rest) other = refl

pub error_unless_valued : (option : Placed) (all : List Placed) → length all ≢ 4
    → Err OtherWords ≡ run_valued option all
error_unless_valued option [] other = refl
error_unless_valued option (a ∷ []) other = refl
error_unless_valued option (a ∷ b ∷ []) other = refl
error_unless_valued option (a ∷ b ∷ c ∷ []) other = refl
error_unless_valued option (a ∷ b ∷ c ∷ d ∷ []) other = absurd (other refl)
error_unless_valued option (a ∷ b ∷ c ∷ d ∷ more ∷ rest) other = refl

-- ---- a form names places among the words

abbrev IsBelow : ℕ → Placed → Type 0
IsBelow count word = word.0 < count

placed_below : (words : List (List ℕ)) → All (IsBelow (length words + 1)) (placed words)
placed_below words k d below =
    let within : k < length words = omega (arith, below, length-enumerate_from 1 words) in
    let is = get_or-enumerate_from 1 words k d within in
    subst (IsBelow (length words + 1)) (sym is) (omega (arith, within))

places_below : (count : ℕ) (words : List Placed) → All (IsBelow count) words
    → All (IsBelow count) (places words)
places_below count words below =
    let before = before_first is_dashes words in
    All-append (IsBelow count) (filter (λ word. not (is_option word)) before)
    (after_first is_dashes words)
    (All-filter (λ word. not (is_option word)) (IsBelow count) before
    (All-take (IsBelow count) (position_or_len is_dashes words) words below))
    (All-drop (IsBelow count) (position_or_len is_dashes words + 1) words below)

replay_below : (count : ℕ) (all_options all : List Placed) → All (IsBelow count) all
    → IfOk (replay_form all_options all) (λ form. NamesBelow form count)
replay_below count [] [] below = tt
replay_below count [] (plant ∷ []) below = tt
replay_below count [] (plant ∷ telegrams ∷ []) below =
    by (is_dash plant && is_dash telegrams)
  where
    by : (b : Bool) → IfOk {E = WordsFault} (if b then Err OtherWords else Ok (Replay plant.0 telegrams.0))
        (λ form. NamesBelow form count)
    by true = tt
    by false = (below 0 plant (omega arith), below 1 plant (omega arith))
replay_below count [] (plant ∷ telegrams ∷ more ∷ rest) below = tt
replay_below count (option ∷ more) all below = tt

check_of_below : (count plant : ℕ) (demand : Result Wrench Reject) (json : Option Bool)
    → plant < count → IfOk (check_of plant demand json) (λ form. NamesBelow form count)
check_of_below count plant (Ok demand) (Some json) below = below
check_of_below count plant (Ok demand) None below = tt
check_of_below count plant (Err reject) json below = tt

check_below : (count : ℕ) (all_options all : List Placed) → All (IsBelow count) all
    → IfOk (check_form all_options all) (λ form. NamesBelow form count)
check_below count all_options [] below = tt
check_below count all_options (plant ∷ []) below = tt
check_below count all_options (plant ∷ x ∷ []) below = tt
check_below count all_options (plant ∷ x ∷ y ∷ []) below = tt
check_below count all_options (plant ∷ x ∷ y ∷ n ∷ []) below =
    check_of_below count plant.0 (demand_of x.1 y.1 n.1) (asks_for (codes "--json") all_options)
    (below 0 plant (omega arith))
check_below count all_options (plant ∷ x ∷ y ∷ n ∷ more ∷ rest) below = tt

vote_of_below : (count telegrams : ℕ) (report : Option Bool) → telegrams < count
    → IfOk (vote_of telegrams report) (λ form. NamesBelow form count)
vote_of_below count telegrams (Some report) below = below
vote_of_below count telegrams None below = tt

vote_below : (count : ℕ) (all_options all : List Placed) → All (IsBelow count) all
    → IfOk (vote_form all_options all) (λ form. NamesBelow form count)
vote_below count all_options [] below = tt
vote_below count all_options (telegrams ∷ []) below =
    vote_of_below count telegrams.0 (asks_for (codes "--report") all_options)
    (below 0 telegrams (omega arith))
vote_below count all_options (telegrams ∷ more ∷ rest) below = tt

run_of_below : (count : ℕ) (workers : Option ℕ) (plant sensors operators : Placed)
    → plant.0 < count → sensors.0 < count → operators.0 < count
    → IfOk (run_of workers plant sensors operators) (λ form. NamesBelow form count)
run_of_below count None plant sensors operators one two three = tt
run_of_below count (Some workers) plant sensors operators one two three =
    by ((is_dash plant && is_dash sensors)
    || ((is_dash plant || is_dash sensors) && is_dash operators))
  where
    by : (b : Bool) → IfOk {E = WordsFault} (if b then Err OtherWords
        else Ok (Run plant.0 sensors.0 operators.0 workers)) (λ form. NamesBelow form count)
    by true = tt
    by false = (one, two, three)

run_placed_below : (count : ℕ) (workers : Option ℕ) (all : List Placed) → All (IsBelow count) all
    → IfOk (run_placed workers all) (λ form. NamesBelow form count)
run_placed_below count workers [] below = tt
run_placed_below count workers (plant ∷ []) below = tt
run_placed_below count workers (plant ∷ sensors ∷ []) below = tt
run_placed_below count workers (plant ∷ sensors ∷ operators ∷ []) below =
    run_of_below count workers plant sensors operators (below 0 plant (omega arith))
    (below 1 plant (omega arith)) (below 2 plant (omega arith))
run_placed_below count workers (plant ∷ sensors ∷ operators ∷ more ∷ rest) below = tt

run_at_below : (count place : ℕ) (a b c d : Placed) → a.0 < count → b.0 < count → c.0 < count
    → d.0 < count → IfOk (run_at place a b c d) (λ form. NamesBelow form count)
run_at_below count place a b c d one two three four =
    by (a.0 == place) (b.0 == place) (c.0 == place) (d.0 == place)
  where
    by : (p q r s : Bool) → IfOk {E = WordsFault}
        (if p then run_of (workers_of a.1) b c d else
        (if q then run_of (workers_of b.1) a c d else
        (if r then run_of (workers_of c.1) a b d else
        (if s then run_of (workers_of d.1) a b c else Err OtherWords))))
        (λ form. NamesBelow form count)
    by true q r s = run_of_below count (workers_of a.1) b c d two three four
    by false true r s = run_of_below count (workers_of b.1) a c d one three four
    by false false true s = run_of_below count (workers_of c.1) a b d one two four
    by false false false true = run_of_below count (workers_of d.1) a b c one two three
    by false false false false = tt

run_valued_below : (count : ℕ) (option : Placed) (all : List Placed) → All (IsBelow count) all
    → IfOk (run_valued option all) (λ form. NamesBelow form count)
run_valued_below count option [] below = tt
run_valued_below count option (a ∷ []) below = tt
run_valued_below count option (a ∷ b ∷ []) below = tt
run_valued_below count option (a ∷ b ∷ c ∷ []) below = tt
run_valued_below count option (a ∷ b ∷ c ∷ d ∷ []) below =
    run_at_below count (option.0 + 1) a b c d (below 0 a (omega arith)) (below 1 a (omega arith))
    (below 2 a (omega arith)) (below 3 a (omega arith))
run_valued_below count option (a ∷ b ∷ c ∷ d ∷ more ∷ rest) below = tt

run_below : (count : ℕ) (all_options all : List Placed) → All (IsBelow count) all
    → IfOk (run_form all_options all) (λ form. NamesBelow form count)
run_below count [] all below = run_placed_below count (Some 2) all below
run_below count (option ∷ []) all below = by (bytes_eq option.1 (codes "--workers"))
  where
    by : (b : Bool) → IfOk (if b then run_valued option all
        else run_placed (workers_in (value_in option.1)) all) (λ form. NamesBelow form count)
    by true = run_valued_below count option all below
    by false = run_placed_below count (workers_in (value_in option.1)) all below
run_below count (option ∷ more ∷ rest) all below = tt

capability_of_below : (count plant : ℕ) (demand : Result Wrench Reject) (all : List Placed)
    → plant < count → IfOk (capability_of plant demand all) (λ form. NamesBelow form count)
capability_of_below count plant (Ok demand) [] below = below
capability_of_below count plant (Ok demand) (option ∷ more) below = tt
capability_of_below count plant (Err reject) all below = tt

capability_below : (count : ℕ) (all_options all : List Placed) → All (IsBelow count) all
    → IfOk (capability_form all_options all) (λ form. NamesBelow form count)
capability_below count all_options [] below = tt
capability_below count all_options (plant ∷ []) below = tt
capability_below count all_options (plant ∷ x ∷ []) below = tt
capability_below count all_options (plant ∷ x ∷ y ∷ []) below = tt
capability_below count all_options (plant ∷ x ∷ y ∷ n ∷ []) below =
    capability_of_below count plant.0 (demand_of x.1 y.1 n.1) all_options
    (below 0 plant (omega arith))
capability_below count all_options (plant ∷ x ∷ y ∷ n ∷ more ∷ rest) below = tt

drill_of_below : (count : ℕ) (seed size : Result ℕ Reject)
    → IfOk (drill_of seed size) (λ form. NamesBelow form count)
drill_of_below count (Ok seed) (Ok size) = tt
drill_of_below count (Ok seed) (Err reject) = tt
drill_of_below count (Err reject) size = tt

drill_below : (count : ℕ) (all_options all : List Placed)
    → IfOk (drill_form all_options all) (λ form. NamesBelow form count)
drill_below count [] [] = tt
drill_below count [] (seed ∷ []) = tt
drill_below count [] (seed ∷ size ∷ []) = drill_of_below count (seed_of seed.1) (size_of size.1)
drill_below count [] (seed ∷ size ∷ more ∷ rest) = tt
drill_below count (option ∷ more) all = tt

command_below : (count : ℕ) (all_options all : List Placed)
    (run replay check vote capability drill : Bool)
    → All (IsBelow count) all
    → IfOk {E = WordsFault} (if run then run_form all_options all
    else (if replay then replay_form all_options all
    else (if check then check_form all_options all
    else (if vote then vote_form all_options all
    else (if capability then capability_form all_options all
    else (if drill then drill_form all_options all else Err UnknownCommand))))))
    (λ form. NamesBelow form count)
command_below count all_options all true replay check vote capability drill below =
    run_below count all_options all below
command_below count all_options all false true check vote capability drill below =
    replay_below count all_options all below
command_below count all_options all false false true vote capability drill below =
    check_below count all_options all below
command_below count all_options all false false false true capability drill below =
    vote_below count all_options all below
command_below count all_options all false false false false true drill below =
    capability_below count all_options all below
command_below count all_options all false false false false false true below =
    drill_below count all_options all
command_below count all_options all false false false false false false below = tt

-- the places of a form are among the words
pub names_below : (words : List (List ℕ))
    → IfOk (written_form words) (λ form. NamesBelow form (length words))
names_below [] = tt
names_below (command ∷ words) =
    let count : length words + 1 ≡ suc (length words) = omega arith in
    subst (λ n. IfOk (written_form (command ∷ words)) (λ form. NamesBelow form n)) count
    (command_below (length words + 1) (options (placed words)) (places (placed words))
    (bytes_eq command (codes "run")) (bytes_eq command (codes "replay"))
    (bytes_eq command (codes "check")) (bytes_eq command (codes "vote"))
    (bytes_eq command (codes "capability")) (bytes_eq command (codes "drill"))
    (places_below (length words + 1) (placed words) (placed_below words)))

pub names_of : {X : Type 0} (f : X → List ℕ) (words : List X) (form : Result Form WordsFault)
    → form ≡ written_form (map f words) → IfOk form (λ one. NamesBelow one (length words))
names_of f words form is =
    subst (λ count. IfOk form (λ one. NamesBelow one count)) (length-map words f)
    (subst (λ one. IfOk one (λ found. NamesBelow found (length (map f words)))) (sym is)
    (names_below (map f words)))

-- ---- the form of a command

command-is : {X : Type 0} (f : X → List ℕ) (words rest : List X) (command : X) (name : List ℕ)
    → words ≡ command ∷ rest → name ≡ f command
    → written_form (name ∷ map f rest) ≡ written_form (map f words)
command-is f words rest command name split named =
    ap (λ text. written_form (text ∷ map f rest)) named ∙ ap (λ xs. written_form (map f xs)) (sym split)

-- `run`, of the kept options and places
pub form_of_run : {X : Type 0} (f : X → List ℕ) (words rest : List X) (command : X)
    (name : List ℕ) (kept_options kept : List Placed)
    → words ≡ command ∷ rest → name ≡ f command → name ≡ codes "run"
    → kept_options ≡ take KEPT_OPTIONS (options (placed (map f rest)))
    → kept ≡ take KEPT_PLACES (places (placed (map f rest)))
    → run_form kept_options kept ≡ written_form (map f words)
form_of_run f words rest command name kept_options kept split named is options_are places_are =
    ap₂ run_form options_are places_are
    ∙ run_kept (options (placed (map f rest))) (places (placed (map f rest)))
    ∙ ap (λ text. written_form (text ∷ map f rest)) (sym is)
    ∙ command-is f words rest command name split named

-- `replay` likewise
pub form_of_replay : {X : Type 0} (f : X → List ℕ) (words rest : List X) (command : X)
    (name : List ℕ) (kept_options kept : List Placed)
    → words ≡ command ∷ rest → name ≡ f command → name ≡ codes "replay"
    → kept_options ≡ take KEPT_OPTIONS (options (placed (map f rest)))
    → kept ≡ take KEPT_PLACES (places (placed (map f rest)))
    → replay_form kept_options kept ≡ written_form (map f words)
form_of_replay f words rest command name kept_options kept split named is options_are places_are =
    ap₂ replay_form options_are places_are
    ∙ replay_kept (options (placed (map f rest))) (places (placed (map f rest)))
    ∙ ap (λ text. written_form (text ∷ map f rest)) (sym is)
    ∙ command-is f words rest command name split named

-- `check` likewise
pub form_of_check : {X : Type 0} (f : X → List ℕ) (words rest : List X) (command : X)
    (name : List ℕ) (kept_options kept : List Placed)
    → words ≡ command ∷ rest → name ≡ f command → name ≡ codes "check"
    → kept_options ≡ take KEPT_OPTIONS (options (placed (map f rest)))
    → kept ≡ take KEPT_PLACES (places (placed (map f rest)))
    → check_form kept_options kept ≡ written_form (map f words)
form_of_check f words rest command name kept_options kept split named is options_are places_are =
    ap₂ check_form options_are places_are
    ∙ check_kept (options (placed (map f rest))) (places (placed (map f rest)))
    ∙ ap (λ text. written_form (text ∷ map f rest)) (sym is)
    ∙ command-is f words rest command name split named

-- `vote` likewise
pub form_of_vote : {X : Type 0} (f : X → List ℕ) (words rest : List X) (command : X)
    (name : List ℕ) (kept_options kept : List Placed)
    → words ≡ command ∷ rest → name ≡ f command → name ≡ codes "vote"
    → kept_options ≡ take KEPT_OPTIONS (options (placed (map f rest)))
    → kept ≡ take KEPT_PLACES (places (placed (map f rest)))
    → vote_form kept_options kept ≡ written_form (map f words)
form_of_vote f words rest command name kept_options kept split named is options_are places_are =
    ap₂ vote_form options_are places_are
    ∙ vote_kept (options (placed (map f rest))) (places (placed (map f rest)))
    ∙ ap (λ text. written_form (text ∷ map f rest)) (sym is)
    ∙ command-is f words rest command name split named

-- `capability` likewise
pub form_of_capability : {X : Type 0} (f : X → List ℕ) (words rest : List X) (command : X)
    (name : List ℕ) (kept_options kept : List Placed)
    → words ≡ command ∷ rest → name ≡ f command → name ≡ codes "capability"
    → kept_options ≡ take KEPT_OPTIONS (options (placed (map f rest)))
    → kept ≡ take KEPT_PLACES (places (placed (map f rest)))
    → capability_form kept_options kept ≡ written_form (map f words)
form_of_capability f words rest command name kept_options kept split named is options_are
    places_are =
    ap₂ capability_form options_are places_are
    ∙ capability_kept (options (placed (map f rest))) (places (placed (map f rest)))
    ∙ ap (λ text. written_form (text ∷ map f rest)) (sym is)
    ∙ command-is f words rest command name split named

-- `drill` likewise
pub form_of_drill : {X : Type 0} (f : X → List ℕ) (words rest : List X) (command : X)
    (name : List ℕ) (kept_options kept : List Placed)
    → words ≡ command ∷ rest → name ≡ f command → name ≡ codes "drill"
    → kept_options ≡ take KEPT_OPTIONS (options (placed (map f rest)))
    → kept ≡ take KEPT_PLACES (places (placed (map f rest)))
    → drill_form kept_options kept ≡ written_form (map f words)
form_of_drill f words rest command name kept_options kept split named is options_are places_are =
    ap₂ drill_form options_are places_are
    ∙ drill_kept (options (placed (map f rest))) (places (placed (map f rest)))
    ∙ ap (λ text. written_form (text ∷ map f rest)) (sym is)
    ∙ command-is f words rest command name split named
