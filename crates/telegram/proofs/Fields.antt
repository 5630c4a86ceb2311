-- The fields of a text, one by one.
use Rattle.std.proofs.Common.{◌≡◌, ℕ, ◌<◌, List, [], ◌∷◌, length, Bool, false, ◌==◌, Option, None}
use Rattle.std.proofs.Common.{Some, Result, Err, refl, arith}
use Rattle.std.proofs.lemmas.List.Elements.{All-from_get_or}
use Rattle.std.proofs.lemmas.List.Splits.{slice_split_first, slice_split_none, length-slice_split}
use Rattle.std.proofs.lemmas.List.Sums.{fails_before_first}
use Rattle.std.specs.Borrow.{Bor}
use Rattle.std.specs.List.{slice_split, position_or_len, before_first, after_first}
use Rattle.std.specs.Option.{MatchOption}
use Rattle.telegram.specs.Telegrams.{comma, fields, none}
use Rattle.telegram.specs.declared.telegram.Reject.{Reject}
use Rattle.telegram.specs.declared.telegram.Reject.TheVariants.{Count}
use Rattle.telegram.specs.declared.telegram.Telegram.{Telegram}

-- a text without the byte is one part
slice_split-none : (p : ℕ → Bool) (text : List ℕ) → position_or_len p text ≡ length text
    → slice_split p text ≡ text ∷ []
slice_split-none p text none =
    slice_split_none p text (All-from_get_or (λ b. p b ≡ false) text 0
    (λ i below. fails_before_first p text i 0 (omega arith)))

-- what `split_once` at the comma gives are the first field and the rest
pub fields-split : (text : List ℕ) (parts : Option (Bor (List ℕ) × Bor (List ℕ)))
    → MatchOption parts (position_or_len (λ b. b == comma) text ≡ length text)
    (λ x. (x.0.now ≡ before_first (λ b. b == comma) text)
    × (x.1.now ≡ after_first (λ b. b == comma) text)
    × (position_or_len (λ b. b == comma) text < length text))
    → MatchOption parts (fields text ≡ text ∷ []) (λ x. fields text ≡ x.0.now ∷ fields x.1.now)
fields-split text None none = slice_split-none (λ b. b == comma) text none
fields-split text (Some x) found =
    rw (found.0, found.1) (slice_split_first (λ b. b == comma) text 0 found.2)

-- a text has a field
pub fields-nonempty : (text : List ℕ) → 0 < length (fields text)
fields-nonempty text = omega (arith, length-slice_split (λ b. b == comma) text)

-- a text is a field too many where none is left
none-nonempty : (parts : List (List ℕ)) → 0 < length parts → (read : Result Telegram Reject)
    → none read parts ≡ Err Count
none-nonempty [] some read = absurd (omega arith)
none-nonempty (a ∷ more) some read = refl

pub none-text : (text : List ℕ) (read : Result Telegram Reject)
    → none read (fields text) ≡ Err Count
none-text text = none-nonempty (fields text) (fields-nonempty text)
