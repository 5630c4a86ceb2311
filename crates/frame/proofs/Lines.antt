-- What one more byte at the end of a stream does to its lines.
use Rattle.std.proofs.Common.{◌≡◌, ℕ, ◌<◌, List, [], ◌∷◌, ◌++◌, length, Bool, true, false, cond}
use Rattle.std.proofs.Common.{refl, ap, ◌∙◌, arith}
use Rattle.std.proofs.lemmas.List.Splits.{length-slice_split}
use Rattle.std.specs.List.{slice_split, onto_first}
use Rattle.frame.specs.Frames.{all_but_last, last_of}

-- the parts with one more byte at the end of the last of them
abbrev pub push_last : List (List ℕ) → ℕ → List (List ℕ)
push_last parts byte = all_but_last parts ++ (last_of parts ++ byte ∷ []) ∷ []

pub all_but_last-append : (parts : List (List ℕ)) (part : List ℕ)
    → all_but_last (parts ++ part ∷ []) ≡ parts
all_but_last-append [] part = refl
all_but_last-append (first ∷ []) part = refl
all_but_last-append (first ∷ second ∷ more) part =
    ap (λ (rest : List (List ℕ)). first ∷ rest) (all_but_last-append (second ∷ more) part)

pub last_of-append : (parts : List (List ℕ)) (part : List ℕ) → last_of (parts ++ part ∷ []) ≡ part
last_of-append [] part = refl
last_of-append (first ∷ []) part = refl
last_of-append (first ∷ second ∷ more) part = last_of-append (second ∷ more) part

-- parts, if there are some, are those before the last and the last
pub all_but_last-append-last_of : (parts : List (List ℕ)) → 0 < length parts
    → all_but_last parts ++ last_of parts ∷ [] ≡ parts
all_but_last-append-last_of [] some = absurd (omega arith)
all_but_last-append-last_of (first ∷ []) some = refl
all_but_last-append-last_of (first ∷ second ∷ more) some =
    ap (λ (rest : List (List ℕ)). first ∷ rest)
    (all_but_last-append-last_of (second ∷ more) (omega arith))

onto_first-append : (x : ℕ) (parts more : List (List ℕ)) → 0 < length parts
    → onto_first x (parts ++ more) ≡ onto_first x parts ++ more
onto_first-append x [] more some = absurd (omega arith)
onto_first-append x (first ∷ parts) more some = refl

push_last-cons : (part : List ℕ) (parts : List (List ℕ)) (byte : ℕ) → 0 < length parts
    → part ∷ push_last parts byte ≡ push_last (part ∷ parts) byte
push_last-cons part [] byte some = absurd (omega arith)
push_last-cons part (first ∷ more) byte some = refl

onto_first-push_last : (x : ℕ) (parts : List (List ℕ)) (byte : ℕ) → 0 < length parts
    → onto_first x (push_last parts byte) ≡ push_last (onto_first x parts) byte
onto_first-push_last x [] byte some = absurd (omega arith)
onto_first-push_last x (first ∷ []) byte some = refl
onto_first-push_last x (first ∷ second ∷ more) byte some = refl

pub some_parts : (p : ℕ → Bool) (bytes : List ℕ) → 0 < length (slice_split p bytes)
some_parts p bytes = omega (arith, length-slice_split p bytes)

slice_split-append_yes-step : (found : Bool) (x : ℕ) (parts pushed : List (List ℕ))
    → 0 < length parts → pushed ≡ parts ++ [] ∷ []
    → cond found ([] ∷ pushed) (onto_first x pushed) ≡ cond found ([] ∷ parts) (onto_first x parts)
    ++ [] ∷ []
slice_split-append_yes-step true x parts pushed some is =
    ap (λ (rest : List (List ℕ)). [] ∷ rest) is
slice_split-append_yes-step false x parts pushed some is =
    ap (onto_first x) is ∙ onto_first-append x parts ([] ∷ []) some

-- a byte that ends a part begins an empty one
pub slice_split-append_yes : (p : ℕ → Bool) (bytes : List ℕ) (byte : ℕ) → p byte ≡ true
    → slice_split p (bytes ++ byte ∷ []) ≡ slice_split p bytes ++ [] ∷ []
slice_split-append_yes p [] byte ends = ap (λ v. cond v ([] ∷ [] ∷ []) ((byte ∷ []) ∷ [])) ends
slice_split-append_yes p (x ∷ xs) byte ends =
    slice_split-append_yes-step (p x) x (slice_split p xs) (slice_split p (xs ++ byte ∷ []))
    (some_parts p xs) (slice_split-append_yes p xs byte ends)

slice_split-append_no-step : (found : Bool) (x byte : ℕ) (parts pushed : List (List ℕ))
    → 0 < length parts → pushed ≡ push_last parts byte
    → cond found ([] ∷ pushed) (onto_first x pushed) ≡ push_last
    (cond found ([] ∷ parts) (onto_first x parts)) byte
slice_split-append_no-step true x byte parts pushed some is =
    ap (λ (rest : List (List ℕ)). [] ∷ rest) is ∙ push_last-cons [] parts byte some
slice_split-append_no-step false x byte parts pushed some is =
    ap (onto_first x) is ∙ onto_first-push_last x parts byte some

-- another byte goes to the last part
pub slice_split-append_no : (p : ℕ → Bool) (bytes : List ℕ) (byte : ℕ) → p byte ≡ false
    → slice_split p (bytes ++ byte ∷ []) ≡ push_last (slice_split p bytes) byte
slice_split-append_no p [] byte goes_on = ap (λ v. cond v ([] ∷ [] ∷ []) ((byte ∷ []) ∷ [])) goes_on
slice_split-append_no p (x ∷ xs) byte goes_on =
    slice_split-append_no-step (p x) x byte (slice_split p xs) (slice_split p (xs ++ byte ∷ []))
    (some_parts p xs) (slice_split-append_no p xs byte goes_on)

-- the parts of a stream are those before the last and the last
pub slice_split-parts : (p : ℕ → Bool) (bytes : List ℕ)
    → all_but_last (slice_split p bytes) ++ last_of (slice_split p bytes) ∷ [] ≡ slice_split p bytes
slice_split-parts p bytes = all_but_last-append-last_of (slice_split p bytes) (some_parts p bytes)
