-- Which rounds the references of a vessel make, and what is answered to each reference.
--
-- Everything here is said of the whole list of references that were taken, in the order in which they
-- came, and nothing of what is kept of them.
use Rattle.std.specs.Prelude.{◌≡◌, ℕ, max, nat_le, nat_lt, List, [], ◌∷◌, ◌++◌, map, Bool, not}
use Rattle.std.specs.Prelude.{◌&&◌, ◌||◌, ◌==◌, Option, Some, if◌then◌else◌, find, is_some}
use Rattle.std.specs.Prelude.{take_while}
use Rattle.std.specs.List.{list_all, list_any}
use Rattle.sensor_vote.specs.Medians.{is_off, median_of}
use Rattle.sensor_vote.specs.declared.reference.Reference.{Reference}
use Rattle.sensor_vote.specs.declared.vote.Voted.{Voted}
use Rattle.sensor_vote.specs.declared.vote.Voted.TheVariants.{Late, Round, Twice, Waiting}

-- ---- rounds

-- the latest moment of the references; 0 where there are none
abbrev pub last_moment : List Reference → ℕ
last_moment [] = 0
last_moment (r ∷ rs) = max r.moment (last_moment rs)

-- the references before the first whose moment is later: such a one ends the round of the moment
abbrev pub before_later : ℕ → List Reference → List Reference
before_later moment taken = take_while (λ r. nat_le r.moment moment) taken

-- the reference has this moment and this number
abbrev pub is_of : ℕ → ℕ → Reference → Bool
is_of moment number r = r.moment == moment && r.number == number

-- the reference of this number in the round of the moment: the first such before the round ends
abbrev pub of_round : ℕ → List Reference → ℕ → Option Reference
of_round moment taken number = find (is_of moment number) (before_later moment taken)

-- the round of the moment: for each number its reference, where it has come
abbrev pub round_at : ℕ → List Reference → List (Option Reference)
round_at moment taken = map (of_round moment taken) (1 ∷ 2 ∷ 3 ∷ [])

-- all references of the round have come
abbrev pub is_whole : List (Option Reference) → Bool
is_whole round = list_all is_some round

-- some have come, and not all
abbrev pub is_open : List (Option Reference) → Bool
is_open round = list_any is_some round && not (is_whole round)

-- ---- answers

-- what is answered to a round's last reference: what the three say together, and which are bad
abbrev pub round_of : ℕ → Reference → Reference → Reference → Voted
round_of moment a b c =
    let m = median_of a b c in
    Round moment m.x m.y m.heading (map (is_off m) (a ∷ b ∷ c ∷ []))

-- what is answered to a reference that is the first of its number in its round, which then is this
abbrev pub answer_of : ℕ → List (Option Reference) → Voted
answer_of moment (Some a ∷ Some b ∷ Some c ∷ []) = round_of moment a b c
answer_of moment _ = Waiting

-- What is answered to a reference after these: that it is late, where a later round has begun or its
-- own is whole; that it comes twice, where the round has one of its number; or else what its round
-- says with it.
abbrev pub voted : List Reference → Reference → Voted
voted taken r =
    if nat_lt r.moment (last_moment taken) || is_whole (round_at r.moment taken)
    then Late (last_moment taken)
    else (if is_some (of_round r.moment taken r.number) then Twice
    else answer_of r.moment (round_at r.moment (taken ++ r ∷ [])))

-- what is answered to each of the references that come after these
abbrev pub answers_after : List Reference → List Reference → List Voted
answers_after taken [] = []
answers_after taken (r ∷ rs) = voted taken r ∷ answers_after (taken ++ r ∷ []) rs

-- ---- what is kept

-- what is kept of the references: the latest moment, and its round
pub record Kept : Type 0 where
  pub last : ℕ
  pub round : List (Option Reference)

abbrev pub kept : List Reference → Kept
kept taken = record { last = last_moment taken; round = round_at (last_moment taken) taken }

-- a vote that keeps this took these references, as far as what follows can tell
abbrev pub StandsFor : Kept → List Reference → Type 0
StandsFor vote taken = vote ≡ kept taken

-- whether the latest round has a reference, and fewer than three
abbrev pub is_unfinished : List Reference → Bool
is_unfinished taken = is_open (round_at (last_moment taken) taken)

-- whether a reference of this moment ends a round that isn't finished
abbrev pub is_ending : List Reference → ℕ → Bool
is_ending taken moment = nat_lt (last_moment taken) moment && is_unfinished taken
