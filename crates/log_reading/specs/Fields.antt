-- How fields are taken one after another, and what is read of each.
use Rattle.std.specs.Prelude.{ℕ, zero, suc, ◌-◌, ◌^◌, ℤ, pos, neg_ℤ, nat_abs, int_le, List, [], ◌∷◌}
use Rattle.std.specs.Prelude.{Bool, true, false, ◌&&◌, ◌==◌, if◌then◌else◌, Option, Some, None, T}
use Rattle.std.specs.Borrow.{Bor}
use Rattle.std.specs.Fmt.{signed_decimal}
use Rattle.std.specs.Str.{bytes_eq}
use Rattle.std.specs.Str.Parse.{signed_digits_value}
use Rattle.telegram.specs.Telegrams.{fields_left}

infixl 10 ◌>>=◌
abbrev pub ◌>>=◌ : {A B : Type 0} → Option A → (A → Option B) → Option B
(Some x) >>= f = f x
None >>= f = None

-- this where the test passes, which it may use
abbrev pub when : {A : Type 0} (test : Bool) → (T test → Option A) → Option A
when true f = f tt
when false f = None

-- ---- texts

-- what stands before the first such byte, and what stands after it
abbrev pub cut : ℕ → List ℕ → Option (List ℕ × List ℕ)
cut mark [] = None
cut mark (b ∷ bs) =
    if b == mark then Some ([], bs) else (cut mark bs >>= λ parts. Some (b ∷ parts.0, parts.1))

-- two texts that a call gave
abbrev pub both_texts : Option (Bor (List ℕ) × Bor (List ℕ)) → Option (List ℕ × List ℕ)
both_texts None = None
both_texts (Some x) = Some (x.0.now, x.1.now)

abbrev pub one_text : Option (Bor (List ℕ)) → Option (List ℕ)
one_text None = None
one_text (Some x) = Some x.now

-- ---- fields

-- the first field, and those after it
abbrev pub next_field : List (List ℕ) → Option (List ℕ × List (List ℕ))
next_field [] = None
next_field (field ∷ rest) = Some (field, rest)

-- the field, where it is the only one
abbrev pub only_field : List (List ℕ) → Option (List ℕ)
only_field [] = None
only_field (field ∷ []) = Some field
only_field (field ∷ next ∷ more) = None

-- this, where no field is left
abbrev pub ended : {X : Type 0} → X → List (List ℕ) → Option X
ended x [] = Some x
ended x (field ∷ more) = None

-- what is read of the first field, and the fields after it
abbrev pub at_first : {X : Type 0} → (List ℕ → Option X) → List (List ℕ)
    → Option (X × List (List ℕ))
at_first read fields = do
  field ← next_field fields
  x ← read field.0
  Some (x, field.1)

-- what is read of the only field
abbrev pub at_only : {X : Type 0} → (List ℕ → Option X) → List (List ℕ) → Option X
at_only read fields = do
  field ← only_field fields
  read field

-- the first field that a call gave, with those after it
abbrev pub field_taken : Option (Bor (List ℕ) × Option (Bor (List ℕ)))
    → Option (List ℕ × List (List ℕ))
field_taken None = None
field_taken (Some x) = Some (x.0.now, fields_left x.1)

-- what a call read, with the fields that it left
abbrev pub taken : {X : Type 0} → Option (X × Option (Bor (List ℕ)))
    → Option (X × List (List ℕ))
taken None = None
taken (Some x) = Some (x.0, fields_left x.1)

-- items to the end, each of some fields: at most so many
abbrev pub all_of : {X : Type 0} → (List (List ℕ) → Option (X × List (List ℕ))) → ℕ
    → List (List ℕ) → Option (List X)
all_of read room [] = Some []
all_of read zero (field ∷ rest) = None
all_of read (suc room) (field ∷ rest) = do
  first ← read (field ∷ rest)
  more ← all_of read room first.1
  Some (first.0 ∷ more)

-- ---- kinds

-- what the fields after a first one of this kind say
pub record Form (X : Type 0) : Type 0 where
  pub kind : List ℕ
  pub read : List (List ℕ) → Option X

-- what the form with this kind reads
abbrev pub read_by : {X : Type 0} → List (Form X) → List ℕ → List (List ℕ) → Option X
read_by [] kind rest = None
read_by (form ∷ others) kind rest =
    if bytes_eq kind form.kind then form.read rest else read_by others kind rest

abbrev pub by_kind : {X : Type 0} → List (Form X) → List (List ℕ) → Option X
by_kind forms fields = do
  kind ← next_field fields
  read_by forms kind.0 kind.1

-- ---- numbers

-- the number from low to high that a field spells in the one spelling that it has
abbrev pub number_in : ℤ → ℤ → List ℕ → Option ℤ
number_in low high field =
    let z = signed_digits_value 10 field in
    if int_le low z && int_le z high && bytes_eq (signed_decimal z) field then Some z else None

abbrev pub u32_of : List ℕ → Option ℕ
u32_of field = number_in (pos 0) (pos (2 ^ 32 - 1)) field >>= λ z. Some (nat_abs z)

abbrev pub i32_of : List ℕ → Option ℤ
i32_of = number_in (neg_ℤ (pos (2 ^ 31))) (pos (2 ^ 31 - 1))

abbrev pub i64_of : List ℕ → Option ℤ
i64_of = number_in (neg_ℤ (pos (2 ^ 63))) (pos (2 ^ 63 - 1))

abbrev pub i128_of : List ℕ → Option ℤ
i128_of = number_in (neg_ℤ (pos (2 ^ 127))) (pos (2 ^ 127 - 1))

-- one of two words, of which the first says that it is so
abbrev pub word_of : List ℕ → List ℕ → List ℕ → Option Bool
word_of on off field =
    if bytes_eq field on then Some true else (if bytes_eq field off then Some false else None)
