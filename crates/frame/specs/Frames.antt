-- The items of a stream of bytes: the lines between its line feeds, and the frames among them.
use Rattle.std.specs.Prelude.{◌≡◌, ℕ, ◌+◌, ◌-◌, ◌*◌, ◌/◌, ◌%◌, ◌≤◌, List, [], ◌∷◌, ◌++◌, length}
use Rattle.std.specs.Prelude.{take, drop, ◌&&◌, ◌==◌, nat_le, slice_index, Option, Some, None}
use Rattle.std.specs.Prelude.{if◌then◌else◌, IsTrue, bit_xor}
use Rattle.std.specs.Option.{option_to_list}
use Rattle.std.specs.List.{slice_split, filter_map, fold}
use Rattle.std.specs.Str.Lines.{strip_carriage_return}
use Rattle.frame.specs.Bodies.{is_body, dollar, star}
use Rattle.frame.specs.declared.framer.TheConstants.{MOST_LINE_BYTES}
use Rattle.frame.specs.declared.item.TheConstants.{MOST_FRAME_BYTES}
use Rattle.frame.specs.declared.item.Damage.{Damage}
use Rattle.frame.specs.declared.item.Damage.TheVariants.{Shape, TooLong, Checksum, Cut}
use Rattle.frame.specs.declared.item.Item.{Item}
use Rattle.frame.specs.declared.item.Item.TheVariants.{Body, Damaged}

abbrev pub damage_number : Damage → ℕ
damage_number Shape = 1
damage_number TooLong = 2
damage_number Checksum = 3
damage_number Cut = 4

-- the exclusive or of the bytes
abbrev pub checksum : List ℕ → ℕ
checksum bytes = fold bit_xor 0 bytes

-- the first and the last hexadecimal digits of each kind: `0` to `9`, `A` to `F` and `a` to `f`
abbrev pub zero_digit : ℕ
zero_digit = 48

abbrev pub nine_digit : ℕ
nine_digit = 57

abbrev pub upper_a : ℕ
upper_a = 65

abbrev pub upper_f : ℕ
upper_f = 70

abbrev pub lower_a : ℕ
lower_a = 97

abbrev pub lower_f : ℕ
lower_f = 102

-- the value of a hexadecimal digit of either case
abbrev pub hexadecimal_value : ℕ → Option ℕ
hexadecimal_value digit =
    if nat_le zero_digit digit && nat_le digit nine_digit then Some (digit - zero_digit)
    else (if nat_le upper_a digit && nat_le digit upper_f then Some (digit - upper_a + 10)
    else (if nat_le lower_a digit && nat_le digit lower_f then Some (digit - lower_a + 10)
    else None))

-- the content is `$`, the body, `*`, and two hexadecimal digits of either case that spell the sum
pub record HasShape (content body : List ℕ) (sum : ℕ) : Type 0 where
  pub high : ℕ
  pub low : ℕ
  pub spelled : content ≡ dollar ∷ body ++ star ∷ high ∷ low ∷ []
  pub body_is : IsTrue (is_body body)
  pub high_value : ℕ
  pub low_value : ℕ
  pub high_is : hexadecimal_value high ≡ Some high_value
  pub low_is : hexadecimal_value low ≡ Some low_value
  pub sum_is : 16 * high_value + low_value ≡ sum

-- the content has the shape of a frame, and its digits spell the body's checksum
abbrev pub IsFrame : List ℕ → List ℕ → Type 0
IsFrame content body = HasShape content body (checksum body)

-- the content has the shape of a frame, but its digits spell another number
pub record HasOtherSum (content : List ℕ) : Type 0 where
  pub body : List ℕ
  pub sum : ℕ
  pub shape : HasShape content body sum
  pub other : ¬ (sum ≡ checksum body)

-- the content is short enough for a frame, but has not the shape of one
pub record HasNoShape (content : List ℕ) : Type 0 where
  pub short : length content ≤ MOST_FRAME_BYTES
  pub none : (body : List ℕ) (sum : ℕ) → ¬ (HasShape content body sum)

-- a body with the number that two digits spell
abbrev pub with_sum : List ℕ → Option ℕ → Option ℕ → Option (List ℕ × ℕ)
with_sum body (Some high) (Some low) = Some (body, 16 * high + low)
with_sum body (Some high) None = None
with_sum body None low = None

-- the body and the spelled sum of a content that has the shape of a frame
abbrev pub shape_of : List ℕ → Option (List ℕ × ℕ)
shape_of content =
    let count = length content in
    let body = take (count - 4) (drop 1 content) in
    if nat_le 4 count && slice_index content 0 == dollar && slice_index content (count - 3) == star
    && is_body body
    then with_sum body (hexadecimal_value (slice_index content (count - 2)))
    (hexadecimal_value (slice_index content (count - 1)))
    else None

abbrev pub item_of_shape : Option (List ℕ × ℕ) → Item
item_of_shape None = Damaged Shape
item_of_shape (Some (body, sum)) = if sum == checksum body then Body body else Damaged Checksum

-- the item of a content that is not empty, by the first rule that fits: it is too long, has not the
-- shape of a frame, spells another sum, or else is a body
abbrev pub item_of_content : List ℕ → Item
item_of_content content =
    if nat_le (length content) MOST_FRAME_BYTES then item_of_shape (shape_of content)
    else Damaged TooLong

-- the item of a line without its line feed: its content is the line without one carriage return at
-- its end, and an empty content is no item
abbrev pub item_of_line : List ℕ → Option Item
item_of_line line =
    let content = strip_carriage_return line in
    if length content == 0 then None else Some (item_of_content content)

abbrev pub line_feed : ℕ
line_feed = 10

-- what stands between line feeds, the last of it after the last line feed
abbrev pub between_feeds : List ℕ → List (List ℕ)
between_feeds bytes = slice_split (λ b. b == line_feed) bytes

abbrev pub all_but_last : List (List ℕ) → List (List ℕ)
all_but_last [] = []
all_but_last (line ∷ []) = []
all_but_last (line ∷ next ∷ more) = line ∷ all_but_last (next ∷ more)

abbrev pub last_of : List (List ℕ) → List ℕ
last_of [] = []
last_of (line ∷ []) = line
last_of (line ∷ next ∷ more) = last_of (next ∷ more)

-- the lines that a line feed ends, without it
abbrev pub whole_lines : List ℕ → List (List ℕ)
whole_lines bytes = all_but_last (between_feeds bytes)

-- the bytes after the last line feed
abbrev pub open_line : List ℕ → List ℕ
open_line bytes = last_of (between_feeds bytes)

-- the items of the whole lines, in order
abbrev pub items : List ℕ → List Item
items bytes = filter_map item_of_line (whole_lines bytes)

-- the same with the damage of a stream that ends within a line
abbrev pub items_end : List ℕ → List Item
items_end bytes = items bytes ++ (if length (open_line bytes) == 0 then [] else Damaged Cut ∷ [])

-- What is kept of a line: its bytes, or none where they are more than a frame and a carriage return
-- have.
abbrev pub kept : List ℕ → Option (List ℕ)
kept line = if nat_le (length line) MOST_LINE_BYTES then Some line else None

-- A framer that keeps this was fed these bytes, as far as what follows can tell.
abbrev pub StandsFor : Option (List ℕ) → List ℕ → Type 0
StandsFor framer fed = framer ≡ kept (open_line fed)

-- what is kept of a line that goes on with these bytes
abbrev pub kept_with : Option (List ℕ) → List ℕ → Option (List ℕ)
kept_with None bytes = None
kept_with (Some line) bytes = kept (line ++ bytes)

-- A framer was fed the bytes but for those that are left, which complete the item or none.
pub record FeedsFront (old new : Option (List ℕ)) (bytes : List ℕ) (item : Option Item)
    (left : List ℕ) : Type 0 where
  pub front : List ℕ
  pub split : bytes ≡ front ++ left
  pub gives : (fed : List ℕ) → StandsFor old fed
      → items (fed ++ front) ≡ items fed ++ option_to_list item
  pub stands : (fed : List ℕ) → StandsFor old fed → StandsFor new (fed ++ front)

-- the hexadecimal digit of a number below 16, in upper case
abbrev pub upper_digit : ℕ → ℕ
upper_digit n = if nat_le n 9 then zero_digit + n else upper_a + (n - 10)

-- the line that is written for a body
abbrev pub frame_text : List ℕ → List ℕ
frame_text body =
    let sum = checksum body in
    dollar ∷ body ++ star ∷ upper_digit (sum / 16) ∷ upper_digit (sum % 16) ∷ line_feed ∷ []
