-- The line that is written for a body is read as it.
use Rattle.std.proofs.Common.{◌≡◌, ℕ, ◌+◌, ◌-◌, ◌/◌, ◌%◌, ◌^◌, ◌<◌, List, [], ◌∷◌, ◌++◌}
use Rattle.std.proofs.Common.{length, true, false, ◌==◌, cond, get_or, Option, Some, None, bit_xor}
use Rattle.std.proofs.Common.{refl, ap, ◌∙◌, arith, append_assoc, length-append, lit<}
use Rattle.std.proofs.Math.Nat.{div-add-mod, div-lt_iff_lt-mul, mod-lt}
use Rattle.std.proofs.lemmas.Bool.Decides.{nat_tests}
use Rattle.std.proofs.lemmas.List.{get_or-append-add}
use Rattle.std.proofs.lemmas.List.Elements.{All-append, All-cons, All-nil}
use Rattle.std.proofs.lemmas.List.Splits.{slice_split_at}
use Rattle.std.proofs.lemmas.Nat.{xor_lt}
use Rattle.std.specs.List.{All, cons_option, filter_map, fold, list_all}
use Rattle.std.specs.Str.Lines.{strip_carriage_return}
use Rattle.frame.specs.Bodies.{dollar, is_body, is_body_byte, star}
use Rattle.frame.specs.declared.item.Item.{Item}
use Rattle.frame.specs.declared.item.Item.TheVariants.{Body}
use Rattle.frame.specs.Frames.{IsFrame, all_but_last, between_feeds, checksum, frame_text}
use Rattle.frame.specs.Frames.{hexadecimal_value, item_of_content, item_of_line, items, line_feed}
use Rattle.frame.specs.Frames.{upper_digit, whole_lines}
use Rattle.frame.proofs.Exact.{item_of_content-IsFrame}
use Rattle.frame.proofs.Lines.{some_parts}

-- ---- two digits spell the checksum

each_body_byte : (body : List ℕ) → is_body body ≡ true → list_all is_body_byte body ≡ true
each_body_byte body good = grind (arith, nat_tests)

fold-small : (bytes : List ℕ) (sum : ℕ) → sum < 2 ^ 8 → list_all is_body_byte bytes ≡ true
    → fold bit_xor sum bytes < 2 ^ 8
fold-small [] sum small good = small
fold-small (b ∷ bs) sum small good =
    let first : is_body_byte b ≡ true = grind (arith, nat_tests) in
    let others : list_all is_body_byte bs ≡ true = grind (arith, nat_tests) in
    let byte : b < 2 ^ 8 = grind (arith, nat_tests) in
    fold-small bs (bit_xor sum b) (xor_lt 8 sum b small byte) others

checksum-small : (body : List ℕ) → is_body body ≡ true → checksum body < 2 ^ 8
checksum-small body good = fold-small body 0 (lit< tt) (each_body_byte body good)

hexadecimal_value-upper_digit : (n : ℕ) → n < 16 → hexadecimal_value (upper_digit n) ≡ Some n
hexadecimal_value-upper_digit n small = grind (arith, nat_tests)

high_digit : (n : ℕ) → n < 2 ^ 8 → n / 16 < 16
high_digit n small = (div-lt_iff_lt-mul (lit< tt)).1 small

low_digit : (n : ℕ) → n % 16 < 16
low_digit n = mod-lt n (lit< tt)

-- ---- the line

-- the line of a body without its line feed
abbrev written : List ℕ → List ℕ
written body =
    dollar ∷ body ++ star ∷ upper_digit (checksum body / 16) ∷ upper_digit (checksum body % 16) ∷ []

written-IsFrame : (body : List ℕ) → is_body body ≡ true → IsFrame (written body) body
written-IsFrame body good =
    let sum = checksum body in
    let high : sum / 16 < 16 = high_digit sum (checksum-small body good) in
    record {
      high = upper_digit (sum / 16);
      low = upper_digit (sum % 16);
      spelled = refl;
      body_is = good;
      high_value = sum / 16;
      low_value = sum % 16;
      high_is = hexadecimal_value-upper_digit (sum / 16) high;
      low_is = hexadecimal_value-upper_digit (sum % 16) (low_digit sum);
      sum_is = div-add-mod sum 16;
    }

abbrev IsNoFeed : ℕ → Type 0
IsNoFeed b = (b == line_feed) ≡ false

no_feed-body : (bytes : List ℕ) → list_all is_body_byte bytes ≡ true → All IsNoFeed bytes
no_feed-body [] good = All-nil IsNoFeed
no_feed-body (b ∷ bs) good =
    let others : list_all is_body_byte bs ≡ true = grind (arith, nat_tests) in
    let no_feed : (b == line_feed) ≡ false = grind (arith, nat_tests) in
    All-cons IsNoFeed b bs no_feed (no_feed-body bs others)

no_feed-digit : (n : ℕ) → IsNoFeed (upper_digit n)
no_feed-digit n = grind (arith, nat_tests)

no_feed-written : (body : List ℕ) → is_body body ≡ true → All IsNoFeed (written body)
no_feed-written body good =
    let high = upper_digit (checksum body / 16) in
    let low = upper_digit (checksum body % 16) in
    let digits : All IsNoFeed (high ∷ low ∷ []) =
    All-cons IsNoFeed high (low ∷ []) (no_feed-digit (checksum body / 16))
    (All-cons IsNoFeed low [] (no_feed-digit (checksum body % 16)) (All-nil IsNoFeed)) in
    All-cons IsNoFeed dollar (body ++ star ∷ high ∷ low ∷ []) refl
    (All-append IsNoFeed body (star ∷ high ∷ low ∷ [])
    (no_feed-body body (each_body_byte body good))
    (All-cons IsNoFeed star (high ∷ low ∷ []) refl digits))

last_digit : (n : ℕ) → ¬ (upper_digit n ≡ 13)
last_digit n is = grind (arith, nat_tests)

strip-written : (body : List ℕ) → strip_carriage_return (written body) ≡ written body
strip-written body =
    let sum = checksum body in
    let back : List ℕ = star ∷ upper_digit (sum / 16) ∷ upper_digit (sum % 16) ∷ [] in
    let count : length (written body) - 1 ≡ length (dollar ∷ body) + 2 =
    omega (arith, length-append body back) in
    let last : get_or (written body) (length (written body) - 1) 0 ≡ upper_digit (sum % 16) =
    ap (λ i. get_or (written body) i 0) count ∙ get_or-append-add (dollar ∷ body) back 2 0 in
    let other : ¬ (upper_digit (sum % 16) ≡ 13) = last_digit (sum % 16) in
    grind (arith, nat_tests)

some_item : (content : List ℕ) (item : Item) → 0 < length content
    → cond (length content == 0) None (Some item) ≡ Some item
some_item content item some = grind (arith, nat_tests)

item_of_line-same : (line : List ℕ) → strip_carriage_return line ≡ line → 0 < length line
    → item_of_line line ≡ Some (item_of_content line)
item_of_line-same line same some =
    let item : List ℕ → Option Item =
    λ content. cond (length content == 0) None (Some (item_of_content content)) in
    ap item same ∙ some_item line (item_of_content line) some

item_of_line-written : (body : List ℕ) → is_body body ≡ true
    → item_of_line (written body) ≡ Some (Body body)
item_of_line-written body good =
    let item : item_of_content (written body) ≡ Body body =
    item_of_content-IsFrame (written body) body (written-IsFrame body good) in
    item_of_line-same (written body) (strip-written body) (omega arith)
    ∙ ap (λ (i : Item). Some i) item

-- ---- the stream

all_but_last-cons : (line : List ℕ) (lines : List (List ℕ)) → 0 < length lines
    → all_but_last (line ∷ lines) ≡ line ∷ all_but_last lines
all_but_last-cons line [] some = absurd (omega arith)
all_but_last-cons line (next ∷ more) some = refl

frame_text-written : (body more : List ℕ)
    → frame_text body ++ more ≡ written body ++ line_feed ∷ more
frame_text-written body more =
    let sum = checksum body in
    let digits : List ℕ = star ∷ upper_digit (sum / 16) ∷ upper_digit (sum % 16) ∷ [] in
    simp append_assoc

whole_lines-written : (body more : List ℕ) → is_body body ≡ true
    → whole_lines (frame_text body ++ more) ≡ written body ∷ whole_lines more
whole_lines-written body more good =
    ap whole_lines (frame_text-written body more)
    ∙ ap all_but_last (slice_split_at (λ b. b == line_feed) (written body) line_feed more
    (no_feed-written body good) refl)
    ∙ all_but_last-cons (written body) (between_feeds more)
    (some_parts (λ b. b == line_feed) more)

pub items-frame_text : (body more : List ℕ) → is_body body ≡ true
    → items (frame_text body ++ more) ≡ Body body ∷ items more
items-frame_text body more good =
    ap (filter_map item_of_line) (whole_lines-written body more good)
    ∙ ap (λ (item : Option Item). cons_option item (items more)) (item_of_line-written body good)
