-- What one reference more does to the rounds.
use Rattle.std.proofs.Common.{◌≡◌, ◌∙◌, ℕ, zero, suc, ◌-◌, ◌<◌, ◌≤◌, ◌≢◌, max, List, [], ◌∷◌, ◌++◌}
use Rattle.std.proofs.Common.{length, get_or, true, false, ◌⊎◌, inl, inr, Option, Some, None, refl, ap, sym}
use Rattle.std.proofs.Common.{arith}
use Rattle.std.proofs.lemmas.List.{take_all}
use Rattle.std.proofs.lemmas.List.Elements.{All-set}
use Rattle.std.proofs.lemmas.List.Folds.{find-append}
use Rattle.std.proofs.lemmas.List.Sums.{AllPass-from_list_all, list_all-from_AllPass}
use Rattle.std.specs.List.{find, list_all, prefix_len, slice_set}
use Rattle.std.specs.Option.{option_or}
use Rattle.std.specs.Prelude.{nat_le, is_some, if◌then◌else◌}
use Rattle.sensor_vote.specs.References.{IsNumber, has_heading}
use Rattle.sensor_vote.specs.Rounds.{answer_of, before_later, is_of, is_whole, kept, last_moment}
use Rattle.sensor_vote.specs.Rounds.{of_round, round_at, voted}
use Rattle.sensor_vote.specs.declared.reference.Reference.{Reference}
use Rattle.sensor_vote.specs.declared.vote.Voted.TheVariants.{Late, Twice}

-- the latest moment is that of the others, or this one's
last_moment-append : (xs : List Reference) (r : Reference)
    → last_moment (xs ++ r ∷ []) ≡ max (last_moment xs) r.moment
last_moment-append [] r = omega arith
last_moment-append (x ∷ xs) r = omega (arith, last_moment-append xs r)

-- none is later than the latest
all_early : (m : ℕ) (xs : List Reference) → last_moment xs ≤ m
    → prefix_len (λ r. nat_le r.moment m) xs ≡ length xs
all_early m [] is_early = refl
all_early m (x ∷ xs) is_early =
    let first : x.moment ≤ m = omega arith in
    grind (arith, all_early m xs (omega arith))

-- so the round of the latest moment, and of a later one, hasn't ended
before_later-all : (m : ℕ) (xs : List Reference) → last_moment xs ≤ m → before_later m xs ≡ xs
before_later-all m xs is_early = rw (all_early m xs is_early) (take_all (length xs) xs (omega arith))

-- no reference has a later moment
find-later : (m number : ℕ) (xs : List Reference) → last_moment xs < m
    → find (is_of m number) xs ≡ None
find-later m number [] later = refl
find-later m number (x ∷ xs) later =
    let first : x.moment < m = omega arith in
    grind (arith, find-later m number xs (omega arith))

of_round-later : (m number : ℕ) (xs : List Reference) → last_moment xs < m
    → of_round m xs number ≡ None
of_round-later m number xs later =
    rw (before_later-all m xs (omega arith)) (find-later m number xs later)

-- the round of a later moment is empty
pub round_at-later : (m : ℕ) (xs : List Reference) → last_moment xs < m
    → round_at m xs ≡ None ∷ None ∷ None ∷ []
round_at-later m xs later =
    rw (of_round-later m 1 xs later, of_round-later m 2 xs later, of_round-later m 3 xs later) refl

-- what one reference more makes of a place of a round
or_this : ℕ → ℕ → Reference → Option Reference → Option Reference
or_this m number r place = option_or place (if is_of m number r then Some r else None)

or_this-other : (m number : ℕ) (r : Reference) (place : Option Reference)
    → is_of m number r ≡ false → or_this m number r place ≡ place
unfolding or_this
or_this-other m number r None other = rw other refl
or_this-other m number r (Some x) other = refl

or_this-taken : (m number : ℕ) (r : Reference) (place : Option Reference)
    → is_some place ≡ true → or_this m number r place ≡ place
unfolding or_this
or_this-taken m number r (Some x) taken = refl
or_this-taken m number r None taken = cc

or_this-own : (m number : ℕ) (r : Reference) (place : Option Reference)
    → is_of m number r ≡ true → place ≡ None → or_this m number r place ≡ Some r
unfolding or_this
or_this-own m number r place own none = rw (none, own) refl

of_round-append : (m number : ℕ) (xs : List Reference) (r : Reference)
    → last_moment xs ≤ m → r.moment ≤ m
    → of_round m (xs ++ r ∷ []) number ≡ or_this m number r (of_round m xs number)
unfolding or_this
of_round-append m number xs r is_early r_early =
    rw (before_later-all m xs is_early, before_later-all m (xs ++ r ∷ []) (omega (arith, last_moment-append xs r)))
    (find-append (is_of m number) xs (r ∷ []))

-- ---- the references after which nothing changes

-- it is none of the round's places, or those that it is are taken
abbrev IsNothingNew : ℕ → Reference → List Reference → ℕ → Type 0
IsNothingNew m r xs number = (is_of m number r ≡ false) ⊎ (is_some (of_round m xs number) ≡ true)

of_round-same : (m number : ℕ) (xs : List Reference) (r : Reference) → last_moment xs ≤ m
    → r.moment ≤ m → IsNothingNew m r xs number
    → of_round m (xs ++ r ∷ []) number ≡ of_round m xs number
of_round-same m number xs r is_early r_early (inl other) =
    of_round-append m number xs r is_early r_early
    ∙ or_this-other m number r (of_round m xs number) other
of_round-same m number xs r is_early r_early (inr taken) =
    of_round-append m number xs r is_early r_early
    ∙ or_this-taken m number r (of_round m xs number) taken

kept-same : (xs : List Reference) (r : Reference) → r.moment ≤ last_moment xs
    → ((number : ℕ) → IsNumber number → IsNothingNew (last_moment xs) r xs number)
    → kept (xs ++ r ∷ []) ≡ kept xs
kept-same xs r r_early nothing_new =
    let last : last_moment (xs ++ r ∷ []) ≡ last_moment xs = omega (arith, last_moment-append xs r) in
    let same : (number : ℕ) → IsNumber number
    → of_round (last_moment xs) (xs ++ r ∷ []) number ≡ of_round (last_moment xs) xs number =
    λ number is_number. of_round-same (last_moment xs) number xs r (omega arith) r_early
    (nothing_new number is_number) in
    rw (
      last,
      same 1 (record { low = omega arith; high = omega arith }),
      same 2 (record { low = omega arith; high = omega arith }),
      same 3 (record { low = omega arith; high = omega arith }),
    ) refl

-- a place of a round is one of three
whole-taken : (a b c : Option Reference) → is_whole (a ∷ b ∷ c ∷ []) ≡ true
    → (is_some a ≡ true) × (is_some b ≡ true) × (is_some c ≡ true)
whole-taken (Some a) (Some b) (Some c) whole = (refl, refl, refl)
whole-taken (Some a) (Some b) None whole = cc
whole-taken (Some a) None c whole = cc
whole-taken None b c whole = cc

each-taken : (m : ℕ) (xs : List Reference) → is_whole (round_at m xs) ≡ true → (number : ℕ)
    → IsNumber number → is_some (of_round m xs number) ≡ true
each-taken m xs whole zero is_number = absurd (omega (arith, is_number.low))
each-taken m xs whole (suc zero) is_number =
    (whole-taken (of_round m xs 1) (of_round m xs 2) (of_round m xs 3) whole).0
each-taken m xs whole (suc (suc zero)) is_number =
    (whole-taken (of_round m xs 1) (of_round m xs 2) (of_round m xs 3) whole).1
each-taken m xs whole (suc (suc (suc zero))) is_number =
    (whole-taken (of_round m xs 1) (of_round m xs 2) (of_round m xs 3) whole).2
each-taken m xs whole (suc (suc (suc (suc n)))) is_number = absurd (omega (arith, is_number.high))

-- where the place of its number is taken
own-taken : (m number : ℕ) (xs : List Reference) (r : Reference)
    → is_some (of_round m xs r.number) ≡ true → IsNothingNew m r xs number
own-taken m number xs r taken = grind arith

-- a round that has a reference is that of the latest moment
whole-latest : (m : ℕ) (xs : List Reference) → last_moment xs ≤ m
    → is_whole (round_at m xs) ≡ true → m ≡ last_moment xs
whole-latest m xs is_early whole =
    let at_later : last_moment xs < m → false ≡ true =
    λ later. sym (ap is_whole (round_at-later m xs later)) ∙ whole in
    grind arith

taken-latest : (m number : ℕ) (xs : List Reference) → last_moment xs ≤ m
    → is_some (of_round m xs number) ≡ true → m ≡ last_moment xs
taken-latest m number xs is_early taken =
    let at_later : last_moment xs < m → false ≡ true =
    λ later. sym (ap is_some (of_round-later m number xs later)) ∙ taken in
    grind arith

-- ---- what is answered, and what is kept then

-- a later round has begun
pub voted-before : (xs : List Reference) (r : Reference) → r.moment < last_moment xs
    → voted xs r ≡ Late (last_moment xs)
voted-before xs r before = grind arith

pub kept-before : (xs : List Reference) (r : Reference) → r.moment < last_moment xs
    → kept (xs ++ r ∷ []) ≡ kept xs
kept-before xs r before = kept-same xs r (omega arith) (λ number is_number. inl (grind arith))

-- the round is whole
pub voted-whole : (xs : List Reference) (r : Reference)
    → is_whole (round_at r.moment xs) ≡ true → voted xs r ≡ Late (last_moment xs)
voted-whole xs r whole = grind arith

pub kept-whole : (xs : List Reference) (r : Reference) → last_moment xs ≤ r.moment
    → is_whole (round_at r.moment xs) ≡ true → kept (xs ++ r ∷ []) ≡ kept xs
kept-whole xs r is_early whole =
    let latest : r.moment ≡ last_moment xs = whole-latest r.moment xs is_early whole in
    kept-same xs r (omega arith)
    (λ number is_number. inr (each-taken (last_moment xs) xs (rw latest at whole) number is_number))

-- the round has one of its number
pub voted-twice : (xs : List Reference) (r : Reference) → last_moment xs ≤ r.moment
    → is_whole (round_at r.moment xs) ≡ false → is_some (of_round r.moment xs r.number) ≡ true
    → voted xs r ≡ Twice
voted-twice xs r is_early some_left taken = grind arith

pub kept-twice : (xs : List Reference) (r : Reference) → last_moment xs ≤ r.moment
    → is_some (of_round r.moment xs r.number) ≡ true → kept (xs ++ r ∷ []) ≡ kept xs
kept-twice xs r is_early taken =
    let latest : r.moment ≡ last_moment xs = taken-latest r.moment r.number xs is_early taken in
    kept-same xs r (omega arith)
    (λ number is_number. own-taken (last_moment xs) number xs r (rw latest at taken))

-- the reference is the first of its number
place-other : (m number : ℕ) (xs : List Reference) (r : Reference) → last_moment xs ≤ m
    → r.moment ≡ m → r.number ≢ number
    → of_round m (xs ++ r ∷ []) number ≡ of_round m xs number
place-other m number xs r is_early at other =
    of_round-same m number xs r is_early (omega arith) (inl (grind arith))

place-own : (m number : ℕ) (xs : List Reference) (r : Reference) → last_moment xs ≤ m
    → r.moment ≡ m → r.number ≡ number → of_round m xs number ≡ None
    → of_round m (xs ++ r ∷ []) number ≡ Some r
place-own m number xs r is_early at own none =
    of_round-append m number xs r is_early (omega arith)
    ∙ or_this-own m number r (of_round m xs number) (grind arith) none

placed : (m n : ℕ) (xs : List Reference) (r : Reference) → last_moment xs ≤ m → r.moment ≡ m
    → r.number ≡ n → IsNumber n → of_round m xs n ≡ None
    → round_at m (xs ++ r ∷ []) ≡ slice_set (round_at m xs) (n - 1) (Some r)
placed m zero xs r is_early at own is_number none = absurd (omega (arith, is_number.low))
placed m (suc zero) xs r is_early at own is_number none =
    rw (
      place-own m 1 xs r is_early at own none,
      place-other m 2 xs r is_early at (omega arith),
      place-other m 3 xs r is_early at (omega arith),
    ) refl
placed m (suc (suc zero)) xs r is_early at own is_number none =
    rw (
      place-other m 1 xs r is_early at (omega arith),
      place-own m 2 xs r is_early at own none,
      place-other m 3 xs r is_early at (omega arith),
    ) refl
placed m (suc (suc (suc zero))) xs r is_early at own is_number none =
    rw (
      place-other m 1 xs r is_early at (omega arith),
      place-other m 2 xs r is_early at (omega arith),
      place-own m 3 xs r is_early at own none,
    ) refl
placed m (suc (suc (suc (suc n)))) xs r is_early at own is_number none =
    absurd (omega (arith, is_number.high))

pub round_at-placed : (xs : List Reference) (r : Reference) → last_moment xs ≤ r.moment
    → IsNumber r.number → of_round r.moment xs r.number ≡ None
    → round_at r.moment (xs ++ r ∷ []) ≡ slice_set (round_at r.moment xs) (r.number - 1) (Some r)
round_at-placed xs r is_early is_number none =
    placed r.moment r.number xs r is_early refl refl is_number none

pub voted-placed : (xs : List Reference) (r : Reference) → last_moment xs ≤ r.moment
    → IsNumber r.number → is_whole (round_at r.moment xs) ≡ false
    → of_round r.moment xs r.number ≡ None
    → voted xs r
    ≡ answer_of r.moment (slice_set (round_at r.moment xs) (r.number - 1) (Some r))
voted-placed xs r is_early is_number some_left none =
    let first : voted xs r ≡ answer_of r.moment (round_at r.moment (xs ++ r ∷ [])) = grind arith in
    first ∙ ap (answer_of r.moment) (round_at-placed xs r is_early is_number none)

pub kept-placed : (xs : List Reference) (r : Reference) → last_moment xs ≤ r.moment
    → IsNumber r.number → of_round r.moment xs r.number ≡ None
    → kept (xs ++ r ∷ []) ≡ record {
      last = r.moment;
      round = slice_set (round_at r.moment xs) (r.number - 1) (Some r);
    }
kept-placed xs r is_early is_number none =
    let last : last_moment (xs ++ r ∷ []) ≡ r.moment = omega (arith, last_moment-append xs r) in
    rw (last, round_at-placed xs r is_early is_number none) refl

-- the place of a number in a round
pub place-at : (m n : ℕ) (xs : List Reference) (default : Option Reference) → IsNumber n
    → get_or (round_at m xs) (n - 1) default ≡ of_round m xs n
place-at m zero xs default is_number = absurd (omega (arith, is_number.low))
place-at m (suc zero) xs default is_number = refl
place-at m (suc (suc zero)) xs default is_number = refl
place-at m (suc (suc (suc zero))) xs default is_number = refl
place-at m (suc (suc (suc (suc n)))) xs default is_number = absurd (omega (arith, is_number.high))

pub none-left : (place : Option Reference) → is_some place ≡ false → place ≡ None
none-left None is_none = refl
none-left (Some r) is_none = absurd (cc)

-- a round of headings below a whole turn, with one more of them
pub headings-set : (round : List (Option Reference)) (place : ℕ) (r : Reference)
    → list_all has_heading round ≡ true → has_heading (Some r) ≡ true
    → list_all has_heading (slice_set round place (Some r)) ≡ true
headings-set round place r all own =
    list_all-from_AllPass has_heading (slice_set round place (Some r))
    (All-set (λ (p : Option Reference). has_heading p ≡ true) round place (Some r) own
    (AllPass-from_list_all has_heading round all))
