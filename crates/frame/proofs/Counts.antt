-- How many items a stream can have.
use Rattle.std.proofs.Common.{◌≡◌, ℕ, ◌+◌, ◌*◌, ◌<◌, ◌≤◌, List, [], ◌∷◌, ◌++◌, length, Bool, true}
use Rattle.std.proofs.Common.{false, cond, ◌==◌, Option, Some, None, sum_by, ap, arith}
use Rattle.std.proofs.lemmas.List.Sums.{sum_by-append, sum_by-cons}
use Rattle.std.specs.List.{slice_split, onto_first, filter_map, cons_option}
use Rattle.frame.specs.declared.item.Item.{Item}
use Rattle.frame.specs.Frames.{between_feeds, item_of_line, items, line_feed, open_line}
use Rattle.frame.specs.Frames.{whole_lines}
use Rattle.frame.proofs.Lines.{slice_split-parts, some_parts}

-- the bytes of the lines, each with a line feed
abbrev bytes_of : List (List ℕ) → ℕ
bytes_of lines = sum_by (λ line. length line + 1) lines

bytes_of-cons : (line : List ℕ) (lines : List (List ℕ))
    → bytes_of (line ∷ lines) ≡ length line + 1 + bytes_of lines
bytes_of-cons line lines = sum_by-cons (λ (line : List ℕ). length line + 1) line lines

bytes_of-onto_first : (x : ℕ) (parts : List (List ℕ)) → 0 < length parts
    → bytes_of (onto_first x parts) ≡ bytes_of parts + 1
bytes_of-onto_first x [] some = absurd (omega arith)
bytes_of-onto_first x (first ∷ more) some =
    omega (arith, bytes_of-cons first more, bytes_of-cons (x ∷ first) more)

bytes_of-step : (found : Bool) (x count : ℕ) (parts : List (List ℕ)) → 0 < length parts
    → bytes_of parts ≡ count → bytes_of (cond found ([] ∷ parts) (onto_first x parts)) ≡ count + 1
bytes_of-step true x count parts some is = omega (arith, bytes_of-cons [] parts)
bytes_of-step false x count parts some is = omega (arith, bytes_of-onto_first x parts some)

bytes_of-slice_split : (p : ℕ → Bool) (bytes : List ℕ)
    → bytes_of (slice_split p bytes) ≡ length bytes + 1
bytes_of-slice_split p [] = omega arith
bytes_of-slice_split p (x ∷ xs) =
    let step : bytes_of (slice_split p (x ∷ xs)) ≡ length xs + 1 + 1 =
    bytes_of-step (p x) x (length xs + 1) (slice_split p xs) (some_parts p xs)
    (bytes_of-slice_split p xs) in
    omega arith

length-cons_option : (item : Option Item) (rest : List Item)
    → length (cons_option item rest) ≤ length rest + 1
length-cons_option None rest = omega arith
length-cons_option (Some item) rest = omega arith

-- an item has a byte and a line feed
lines_few : (lines : List (List ℕ)) → 2 * length (filter_map item_of_line lines) ≤ bytes_of lines
lines_few [] = omega arith
lines_few ([] ∷ lines) = omega (arith, lines_few lines, bytes_of-cons [] lines)
lines_few ((x ∷ xs) ∷ lines) =
    omega (
      arith,
      lines_few lines,
      bytes_of-cons (x ∷ xs) lines,
      length-cons_option (item_of_line (x ∷ xs)) (filter_map item_of_line lines),
    )

-- each item of a whole line takes two bytes of the stream
pub items-few : (bytes : List ℕ) → 2 * length (items bytes)
    + length (open_line bytes) ≤ length bytes
items-few bytes =
    let all : bytes_of (between_feeds bytes) ≡ length bytes + 1 =
    bytes_of-slice_split (λ b. b == line_feed) bytes in
    let parts : bytes_of (whole_lines bytes ++ open_line bytes ∷ []) ≡ bytes_of
    (between_feeds bytes) =
    ap bytes_of (slice_split-parts (λ b. b == line_feed) bytes) in
    let split : bytes_of (whole_lines bytes ++ open_line bytes ∷ []) ≡ bytes_of (whole_lines bytes)
    + bytes_of (open_line bytes ∷ []) =
    sum_by-append (λ (line : List ℕ). length line + 1) (whole_lines bytes) (open_line bytes ∷ []) in
    omega (arith, lines_few (whole_lines bytes))
