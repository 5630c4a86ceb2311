-- Words that are sorted one after another, at the first `--`.
use Rattle.std.proofs.Common.{◌≡◌, ℕ, suc, ◌+◌, ◌<◌, ◌≤◌, ◌↔◌, List, []}
use Rattle.std.proofs.Common.{◌∷◌, ◌++◌, length, map, take}
use Rattle.std.proofs.Common.{drop, Bool, true, false, not, cond, ◌||◌, Result, Ok, Err, refl, sym}
use Rattle.std.proofs.Common.{ap, ap₂, ◌∙◌, arith, append_assoc, get_or}
use Rattle.std.specs.Result.{IsOk, OnOk, OnErr}
use Rattle.std.specs.List.{filter, position_or_len, before_first, after_first, list_any}
use Rattle.std.proofs.lemmas.List.{append-nil, length-append, length-map, length-take, map-append}
use Rattle.std.proofs.lemmas.List.{take-append-le, take_all, take_more, get_or-map}
use Rattle.std.proofs.lemmas.List.FromFn.{length-enumerate_from, get_or-enumerate_from}
use Rattle.std.proofs.lemmas.List.Elements.{filter-append}
use Rattle.std.proofs.lemmas.List.Folds.{list_any-append}
use Rattle.arrayvec.specs.ArrayVec.{ArrayVec}
use Rattle.dp_words.specs.Words.{Placed, placed, is_dashes, is_option, options, places}

-- ---- a list cut at the first element that passes a test

module _ {X : Type 0} (p : X → Bool) where
  before_at : (x : X) (xs : List X) → p x ≡ true → before_first p (x ∷ xs) ≡ []
  before_at x xs passes =
      ap (λ b. take (cond (not b) (1 + position_or_len p xs) 0) (x ∷ xs)) passes

  before_past : (x : X) (xs : List X) → p x ≡ false
      → before_first p (x ∷ xs) ≡ x ∷ before_first p xs
  before_past x xs fails =
      let count : 1 + position_or_len p xs ≡ suc (position_or_len p xs) = omega arith in
      ap (λ b. take (cond (not b) (1 + position_or_len p xs) 0) (x ∷ xs)) fails
      ∙ ap (λ n. take n (x ∷ xs)) count

  after_at : (x : X) (xs : List X) → p x ≡ true → after_first p (x ∷ xs) ≡ xs
  after_at x xs passes =
      ap (λ b. drop (cond (not b) (1 + position_or_len p xs) 0 + 1) (x ∷ xs)) passes

  after_past : (x : X) (xs : List X) → p x ≡ false → after_first p (x ∷ xs) ≡ after_first p xs
  after_past x xs fails =
      let count : 1 + position_or_len p xs + 1 ≡ suc (position_or_len p xs + 1) = omega arith in
      ap (λ b. drop (cond (not b) (1 + position_or_len p xs) 0 + 1) (x ∷ xs)) fails
      ∙ ap (λ n. drop n (x ∷ xs)) count

  neither : (here more : Bool) → (here || more) ≡ false → (here ≡ false) × (more ≡ false)
  neither true more none = (cc, cc)
  neither false more none = (refl, none)

  -- no element of the first list passes
  before_none : (xs ys : List X) → list_any p xs ≡ false
      → before_first p (xs ++ ys) ≡ xs ++ before_first p ys
  before_none [] ys none = refl
  before_none (x ∷ xs) ys none =
      let parts = neither (p x) (list_any p xs) none in
      before_past x (xs ++ ys) parts.0 ∙ ap (λ rest. x ∷ rest) (before_none xs ys parts.1)

  after_none : (xs ys : List X) → list_any p xs ≡ false
      → after_first p (xs ++ ys) ≡ after_first p ys
  after_none [] ys none = refl
  after_none (x ∷ xs) ys none =
      let parts = neither (p x) (list_any p xs) none in
      after_past x (xs ++ ys) parts.0 ∙ after_none xs ys parts.1

  -- some element of the first list passes
  before_some : (xs ys : List X) → list_any p xs ≡ true
      → before_first p (xs ++ ys) ≡ before_first p xs
  before_some [] ys some = cc
  before_some (x ∷ xs) ys some = by (p x) refl some (λ more. before_some xs ys more)
    where
      by : (b : Bool) → p x ≡ b → (b || list_any p xs) ≡ true
          → (list_any p xs ≡ true → before_first p (xs ++ ys) ≡ before_first p xs)
          → before_first p (x ∷ (xs ++ ys)) ≡ before_first p (x ∷ xs)
      by true is here later = before_at x (xs ++ ys) is ∙ sym (before_at x xs is)
      by false is more later =
          before_past x (xs ++ ys) is ∙ ap (λ rest. x ∷ rest) (later more)
          ∙ sym (before_past x xs is)

  after_some : (xs ys : List X) → list_any p xs ≡ true
      → after_first p (xs ++ ys) ≡ after_first p xs ++ ys
  after_some [] ys some = cc
  after_some (x ∷ xs) ys some = by (p x) refl some (λ more. after_some xs ys more)
    where
      by : (b : Bool) → p x ≡ b → (b || list_any p xs) ≡ true
          → (list_any p xs ≡ true → after_first p (xs ++ ys) ≡ after_first p xs ++ ys)
          → after_first p (x ∷ (xs ++ ys)) ≡ after_first p (x ∷ xs) ++ ys
      by true is here later =
          after_at x (xs ++ ys) is ∙ ap (λ rest. rest ++ ys) (sym (after_at x xs is))
      by false is more later =
          after_past x (xs ++ ys) is ∙ later more
          ∙ ap (λ rest. rest ++ ys) (sym (after_past x xs is))

-- ---- the next word

abbrev is_place : Placed → Bool
is_place word = not (is_option word)

any_more : (words : List Placed) (word : Placed) (had is : Bool)
    → list_any is_dashes words ≡ had → is_dashes word ≡ is
    → list_any is_dashes (words ++ word ∷ []) ≡ (had || is)
any_more words word had is before this =
    list_any-append is_dashes words (word ∷ [])
    ∙ ap (λ b. b || list_any is_dashes (word ∷ [])) before ∙ ap (λ b. had || (b || false)) this
    ∙ last had is
  where
    last : (had is : Bool) → (had || (is || false)) ≡ (had || is)
    last had true = refl
    last had false = refl

pub dashes_after : (words : List Placed) (word : Placed) → list_any is_dashes words ≡ true
    → list_any is_dashes (words ++ word ∷ []) ≡ true
dashes_after words word had =
    list_any-append is_dashes words (word ∷ [])
    ∙ ap (λ b. b || list_any is_dashes (word ∷ [])) had

pub dashes_at : (words : List Placed) (word : Placed) (is : Bool)
    → list_any is_dashes words ≡ false → is_dashes word ≡ is
    → list_any is_dashes (words ++ word ∷ []) ≡ is
dashes_at words word is none this = any_more words word false is none this

-- a word after the first `--` is a place
pub options_after : (words : List Placed) (word : Placed) → list_any is_dashes words ≡ true
    → options (words ++ word ∷ []) ≡ options words
options_after words word had = ap (filter is_option) (before_some is_dashes words (word ∷ []) had)

pub places_after : (words : List Placed) (word : Placed) → list_any is_dashes words ≡ true
    → places (words ++ word ∷ []) ≡ places words ++ word ∷ []
places_after words word had =
    let kept = filter is_place (before_first is_dashes words) in
    ap (λ xs. filter is_place xs ++ after_first is_dashes (words ++ word ∷ []))
    (before_some is_dashes words (word ∷ []) had)
    ∙ ap (λ xs. kept ++ xs) (after_some is_dashes words (word ∷ []) had)
    ∙ sym (append_assoc kept (after_first is_dashes words) (word ∷ []))

-- the words of which none is `--`
options_open : (words : List Placed) → list_any is_dashes words ≡ false
    → options words ≡ filter is_option words
options_open words none =
    let whole = append-nil words in
    ap options (sym whole)
    ∙ ap (filter is_option) (before_none is_dashes words [] none ∙ whole)

places_open : (words : List Placed) → list_any is_dashes words ≡ false
    → places words ≡ filter is_place words
places_open words none =
    let whole = append-nil words in
    ap places (sym whole)
    ∙ ap (λ xs. filter is_place xs ++ after_first is_dashes (words ++ []))
    (before_none is_dashes words [] none ∙ whole)
    ∙ ap (λ xs. filter is_place words ++ xs) (after_none is_dashes words [] none)
    ∙ append-nil (filter is_place words)

-- the first `--` is neither an option nor a place
pub options_at : (words : List Placed) (word : Placed) → list_any is_dashes words ≡ false
    → is_dashes word ≡ true → options (words ++ word ∷ []) ≡ options words
options_at words word none is =
    ap (filter is_option) (before_none is_dashes words (word ∷ []) none
    ∙ ap (λ xs. words ++ xs) (before_at is_dashes word [] is) ∙ append-nil words)
    ∙ sym (options_open words none)

pub places_at : (words : List Placed) (word : Placed) → list_any is_dashes words ≡ false
    → is_dashes word ≡ true → places (words ++ word ∷ []) ≡ places words
places_at words word none is =
    ap (λ xs. filter is_place xs ++ after_first is_dashes (words ++ word ∷ []))
    (before_none is_dashes words (word ∷ []) none
    ∙ ap (λ xs. words ++ xs) (before_at is_dashes word [] is) ∙ append-nil words)
    ∙ ap (λ xs. filter is_place words ++ xs)
    (after_none is_dashes words (word ∷ []) none ∙ after_at is_dashes word [] is)
    ∙ append-nil (filter is_place words)
    ∙ sym (places_open words none)

filter-more : (test : Placed → Bool) (words : List Placed) (word : Placed) (is : Bool)
    → test word ≡ is
    → filter test (words ++ word ∷ []) ≡ filter test words ++ cond is (word ∷ []) []
filter-more test words word is this =
    filter-append test words (word ∷ [])
    ∙ ap (λ b. filter test words ++ cond b (word ∷ []) []) this

open_before : (words : List Placed) (word : Placed) → list_any is_dashes words ≡ false
    → is_dashes word ≡ false → list_any is_dashes (words ++ word ∷ []) ≡ false
open_before words word none this = dashes_at words word false none this

-- a word before the first `--`
pub options_before : (words : List Placed) (word : Placed) (is : Bool)
    → list_any is_dashes words ≡ false → is_dashes word ≡ false → is_option word ≡ is
    → options (words ++ word ∷ []) ≡ options words ++ cond is (word ∷ []) []
options_before words word is none this looks =
    options_open (words ++ word ∷ []) (open_before words word none this)
    ∙ filter-more is_option words word is looks
    ∙ ap (λ xs. xs ++ cond is (word ∷ []) []) (sym (options_open words none))

pub places_before : (words : List Placed) (word : Placed) (is : Bool)
    → list_any is_dashes words ≡ false → is_dashes word ≡ false → is_option word ≡ is
    → places (words ++ word ∷ []) ≡ places words ++ cond (not is) (word ∷ []) []
places_before words word is none this looks =
    places_open (words ++ word ∷ []) (open_before words word none this)
    ∙ filter-more is_place words word (not is) (ap not looks)
    ∙ ap (λ xs. xs ++ cond (not is) (word ∷ []) []) (sym (places_open words none))

-- the words so far, after one more
pub next_word : {X : Type 0} (f : X → List ℕ) (words : List X) (i : ℕ) (x : X) (text : List ℕ)
    → i < length words → x ≡ get_or words i x → text ≡ f x
    → take (i + 1) (placed (map f words)) ≡ take i (placed (map f words)) ++ (i + 1, text) ∷ []
next_word f words i x text below is named =
    let count : i < length (map f words) = omega (arith, below, length-map words f) in
    let in_all : i < length (placed (map f words)) =
    omega (arith, count, length-enumerate_from 1 (map f words)) in
    let place : 1 + i ≡ i + 1 = omega arith in
    take_more (placed (map f words)) i (0, f x) in_all
    ∙ ap (λ word. take i (placed (map f words)) ++ word ∷ [])
    (get_or-enumerate_from 1 (map f words) i (0, f x) count
    ∙ ap₂ (λ at word. (at, word)) place
    (get_or-map f words i x (f x) below ∙ ap f (sym is) ∙ sym named))

-- the words so far, where they are all
pub all_words : {X : Type 0} (f : X → List ℕ) (words : List X) (i : ℕ) → length words ≤ i
    → take i (placed (map f words)) ≡ placed (map f words)
all_words f words i past =
    take_all i (placed (map f words))
    (omega (arith, past, length-map words f, length-enumerate_from 1 (map f words)))

-- ---- what is kept

-- the first elements, after one more was pushed where there was room
pub pushed : {A B U E : Type 0} (f : A → B) (most : ℕ) (result : Result U E) (old new : ArrayVec A)
    (x : A) (all : List B) → OnOk result (new.items ≡ old.items ++ x ∷ [])
    → OnErr result (new ≡ old) → (IsOk result ↔ length old.items < most)
    → OnErr result (length old.items ≡ most) → map f old.items ≡ take most all
    → map f new.items ≡ take most (all ++ f x ∷ [])
pushed f most (Ok u) old new x all more same room full kept =
    let count = sym (length-map old.items f) ∙ ap length kept ∙ length-take most all in
    let below = room.0 refl in
    let short : length all ≤ most = omega (arith, count, below) in
    let longer : length (all ++ f x ∷ []) ≤ most =
    omega (arith, count, below, length-append all (f x ∷ [])) in
    ap (map f) more ∙ map-append f old.items (x ∷ [])
    ∙ ap (λ xs. xs ++ f x ∷ []) (kept ∙ take_all most all short)
    ∙ sym (take_all most (all ++ f x ∷ []) longer)
pushed f most (Err e) old new x all more same room full kept =
    let count = sym (length-map old.items f) ∙ ap length kept ∙ length-take most all in
    let long : most ≤ length all = omega (arith, count, full) in
    ap (λ v. map f v.items) same ∙ kept ∙ sym (take-append-le most all (f x ∷ []) long)
