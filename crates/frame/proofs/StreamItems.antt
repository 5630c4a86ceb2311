-- What one more byte of a stream does to its items and to what is kept of its open line.
use Rattle.std.proofs.Common.{◌≡◌, ℕ, suc, ◌+◌, ◌<◌, ◌≤◌, List, [], ◌∷◌, ◌++◌, length}
use Rattle.std.proofs.Common.{Bool, true, false, cond, ◌==◌, Option, Some, None, refl, ap, sym, ◌∙◌}
use Rattle.std.proofs.Common.{append_assoc, append-nil, arith, get_or, length-append, length-take}
use Rattle.std.proofs.lemmas.Bool.Decides.{nat_tests}
use Rattle.std.proofs.lemmas.List.Elements.{filter_map-append}
use Rattle.std.specs.List.{filter_map, cons_option}
use Rattle.std.specs.Option.{option_to_list}
use Rattle.std.specs.Str.Lines.{strip_carriage_return}
use Rattle.frame.specs.declared.framer.TheConstants.{MOST_LINE_BYTES}
use Rattle.frame.specs.declared.item.TheConstants.{MOST_FRAME_BYTES}
use Rattle.frame.specs.declared.item.Damage.TheVariants.{TooLong}
use Rattle.frame.specs.declared.item.Item.{Item}
use Rattle.frame.specs.declared.item.Item.TheVariants.{Damaged}
use Rattle.frame.specs.Frames.{StandsFor, all_but_last, between_feeds, item_of_line}
use Rattle.frame.specs.Frames.{items, kept, kept_with, last_of, line_feed, open_line, whole_lines}
use Rattle.frame.proofs.Lines.{all_but_last-append, last_of-append, slice_split-append_yes}
use Rattle.frame.proofs.Lines.{slice_split-append_no, slice_split-parts}

-- ---- a line feed

pub open_line-feed : (fed : List ℕ) → open_line (fed ++ line_feed ∷ []) ≡ []
open_line-feed fed = ap last_of (slice_split-append_yes (λ b. b == line_feed) fed line_feed refl)
    ∙ last_of-append (between_feeds fed) []

pub whole_lines-feed : (fed : List ℕ)
    → whole_lines (fed ++ line_feed ∷ []) ≡ whole_lines fed ++ open_line fed ∷ []
whole_lines-feed fed =
    ap all_but_last (slice_split-append_yes (λ b. b == line_feed) fed line_feed refl)
    ∙ all_but_last-append (between_feeds fed) []
    ∙ sym (slice_split-parts (λ b. b == line_feed) fed)

cons_option-nil : (item : Option Item) → cons_option item [] ≡ option_to_list item
cons_option-nil None = refl
cons_option-nil (Some item) = refl

pub items-feed : (fed : List ℕ) → items (fed ++ line_feed ∷ []) ≡ items fed
    ++ option_to_list (item_of_line (open_line fed))
items-feed fed =
    ap (filter_map item_of_line) (whole_lines-feed fed)
    ∙ filter_map-append item_of_line (whole_lines fed) (open_line fed ∷ [])
    ∙ ap (λ (more : List Item). items fed ++ more) (cons_option-nil (item_of_line (open_line fed)))

-- ---- another byte

other_is_no_feed : (byte : ℕ) → ¬ (byte ≡ line_feed) → (byte == line_feed) ≡ false
other_is_no_feed byte other = grind (arith, nat_tests)

pub open_line-other : (fed : List ℕ) (byte : ℕ) → ¬ (byte ≡ line_feed)
    → open_line (fed ++ byte ∷ []) ≡ open_line fed ++ byte ∷ []
open_line-other fed byte other =
    ap last_of (slice_split-append_no (λ b. b == line_feed) fed byte (other_is_no_feed byte other))
    ∙ last_of-append (all_but_last (between_feeds fed)) (open_line fed ++ byte ∷ [])

pub whole_lines-other : (fed : List ℕ) (byte : ℕ) → ¬ (byte ≡ line_feed)
    → whole_lines (fed ++ byte ∷ []) ≡ whole_lines fed
whole_lines-other fed byte other =
    ap all_but_last (slice_split-append_no (λ b. b == line_feed) fed byte
    (other_is_no_feed byte other))
    ∙ all_but_last-append (all_but_last (between_feeds fed)) (open_line fed ++ byte ∷ [])

pub items-other : (fed : List ℕ) (byte : ℕ) → ¬ (byte ≡ line_feed)
    → items (fed ++ byte ∷ []) ≡ items fed
items-other fed byte other = ap (filter_map item_of_line) (whole_lines-other fed byte other)

-- ---- a line that is too long

length-strip_carriage_return : (line : List ℕ)
    → length line ≤ length (strip_carriage_return line) + 1
length-strip_carriage_return line = grind (arith, nat_tests, length-take)

pub item_of_line-overlong : (line : List ℕ) → MOST_LINE_BYTES < length line
    → item_of_line line ≡ Some (Damaged TooLong)
item_of_line-overlong line long =
    let content : MOST_FRAME_BYTES < length (strip_carriage_return line) =
    omega (arith, length-strip_carriage_return line) in
    grind (arith, nat_tests)

-- ---- what is kept

kept-is : (line bytes : List ℕ) → Some bytes ≡ kept line → (bytes ≡ line)
    × (length line ≤ MOST_LINE_BYTES)
kept-is line bytes is = grind (arith, nat_tests)

kept-overlong : (line : List ℕ) → None ≡ kept line → MOST_LINE_BYTES < length line
kept-overlong line is = grind (arith, nat_tests)

kept-short : (line : List ℕ) → length line ≤ MOST_LINE_BYTES → Some line ≡ kept line
kept-short line short = grind (arith, nat_tests)

kept-long : (line : List ℕ) → MOST_LINE_BYTES < length line → None ≡ kept line
kept-long line long = grind (arith, nat_tests)

pub StandsFor-feed : (fed : List ℕ) → StandsFor (Some []) (fed ++ line_feed ∷ [])
StandsFor-feed fed = ap kept (sym (open_line-feed fed))

-- the item of a whole line comes from the bytes kept of it
pub items-kept : (bytes fed : List ℕ) → StandsFor (Some bytes) fed
    → items (fed ++ line_feed ∷ []) ≡ items fed ++ option_to_list (item_of_line bytes)
items-kept bytes fed stands =
    items-feed fed ∙ ap (λ (line : List ℕ). items fed ++ option_to_list (item_of_line line))
    (sym (kept-is (open_line fed) bytes stands).0)

-- and is a damage where none are kept
pub items-overlong : (fed : List ℕ) → StandsFor None fed
    → items (fed ++ line_feed ∷ []) ≡ items fed ++ Damaged TooLong ∷ []
items-overlong fed stands =
    items-feed fed
    ∙ ap (λ (item : Option Item). items fed ++ option_to_list item)
    (item_of_line-overlong (open_line fed) (kept-overlong (open_line fed) stands))

StandsFor-line : (kept_bytes : Option (List ℕ)) (fed : List ℕ) (byte : ℕ) → ¬ (byte ≡ line_feed)
    → kept_bytes ≡ kept (open_line fed ++ byte ∷ []) → StandsFor kept_bytes (fed ++ byte ∷ [])
StandsFor-line kept_bytes fed byte other is = is ∙ ap kept (sym (open_line-other fed byte other))

-- nothing is kept of a line that grows past what is kept
pub StandsFor-full : (overlong : Bool) (bytes fed : List ℕ) (byte : ℕ) → ¬ (byte ≡ line_feed)
    → length bytes ≡ MOST_LINE_BYTES
    → StandsFor (cond overlong None (Some bytes)) fed → StandsFor None (fed ++ byte ∷ [])
StandsFor-full true bytes fed byte other full stands =
    let long : MOST_LINE_BYTES < length (open_line fed) = kept-overlong (open_line fed) stands in
    StandsFor-line None fed byte other
    (kept-long (open_line fed ++ byte ∷ [])
    (omega (arith, length-append (open_line fed) (byte ∷ []))))
StandsFor-full false bytes fed byte other full stands =
    let same : length bytes ≡ length (open_line fed) =
    ap length (kept-is (open_line fed) bytes stands).0 in
    StandsFor-line None fed byte other
    (kept-long (open_line fed ++ byte ∷ [])
    (omega (arith, length-append (open_line fed) (byte ∷ []))))

-- a byte that finds room is kept
pub StandsFor-push : (overlong : Bool) (bytes fed : List ℕ) (byte : ℕ) → ¬ (byte ≡ line_feed)
    → length bytes < MOST_LINE_BYTES
    → StandsFor (cond overlong None (Some bytes)) fed
    → StandsFor (cond overlong None (Some (bytes ++ byte ∷ []))) (fed ++ byte ∷ [])
StandsFor-push true bytes fed byte other room stands =
    let long : MOST_LINE_BYTES < length (open_line fed) = kept-overlong (open_line fed) stands in
    StandsFor-line None fed byte other
    (kept-long (open_line fed ++ byte ∷ [])
    (omega (arith, length-append (open_line fed) (byte ∷ []))))
StandsFor-push false bytes fed byte other room stands =
    let same : bytes ≡ open_line fed = (kept-is (open_line fed) bytes stands).0 in
    let short : length (bytes ++ byte ∷ []) ≤ MOST_LINE_BYTES =
    omega (arith, length-append bytes (byte ∷ [])) in
    StandsFor-line (Some (bytes ++ byte ∷ [])) fed byte other
    (kept-short (bytes ++ byte ∷ []) short ∙ ap (λ (line : List ℕ). kept (line ++ byte ∷ [])) same)

-- ---- more bytes of a line

-- none of the bytes is a line feed
abbrev pub HasNoFeed : List ℕ → Type 0
HasNoFeed bytes = (k : ℕ) → k < length bytes → ¬ (get_or bytes k 0 ≡ line_feed)

no_feed-head : (byte : ℕ) (more : List ℕ) → HasNoFeed (byte ∷ more) → ¬ (byte ≡ line_feed)
no_feed-head byte more none = none 0 (omega arith)

no_feed-tail : (byte : ℕ) (more : List ℕ) → HasNoFeed (byte ∷ more) → HasNoFeed more
no_feed-tail byte more none = λ k less. none (suc k) (omega (arith, less))

pub open_line-others : (fed more : List ℕ) → HasNoFeed more
    → open_line (fed ++ more) ≡ open_line fed ++ more
open_line-others fed [] none = ap open_line (append-nil fed) ∙ sym (append-nil (open_line fed))
open_line-others fed (byte ∷ more) none =
    ap open_line (sym (append_assoc fed (byte ∷ []) more))
    ∙ open_line-others (fed ++ byte ∷ []) more (no_feed-tail byte more none)
    ∙ ap (λ (line : List ℕ). line ++ more) (open_line-other fed byte (no_feed-head byte more none))
    ∙ append_assoc (open_line fed) (byte ∷ []) more

pub items-others : (fed more : List ℕ) → HasNoFeed more → items (fed ++ more) ≡ items fed
items-others fed [] none = ap items (append-nil fed)
items-others fed (byte ∷ more) none =
    ap items (sym (append_assoc fed (byte ∷ []) more))
    ∙ items-others (fed ++ byte ∷ []) more (no_feed-tail byte more none)
    ∙ items-other fed byte (no_feed-head byte more none)

-- bytes without a line feed go on with the open line
pub StandsFor-with : (old : Option (List ℕ)) (fed more : List ℕ) → HasNoFeed more
    → StandsFor old fed → StandsFor (kept_with old more) (fed ++ more)
StandsFor-with None fed more none stands =
    let long : MOST_LINE_BYTES < length (open_line fed) = kept-overlong (open_line fed) stands in
    kept-long (open_line fed ++ more) (omega (arith, length-append (open_line fed) more))
    ∙ ap kept (sym (open_line-others fed more none))
StandsFor-with (Some line) fed more none stands =
    ap (λ (front : List ℕ). kept (front ++ more)) (kept-is (open_line fed) line stands).0
    ∙ ap kept (sym (open_line-others fed more none))
