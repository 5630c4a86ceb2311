-- Streams of frames are read as the bodies of these.
use Rattle.std.proofs.Common.{◌≡◌, ◌∙◌, ℕ, ◌+◌, ◌*◌, ◌/◌, ◌%◌, ◌≤◌, List, [], ◌∷◌, ◌++◌, length}
use Rattle.std.proofs.Common.{cond, ◌==◌, refl, ap, sym, arith, append_assoc, length-append}
use Rattle.std.proofs.lemmas.List.Elements.{All-head, All-tail}
use Rattle.std.proofs.lemmas.List.{append-nil}
use Rattle.std.specs.List.{All}
use Rattle.std.specs.Prelude.{map}
use Rattle.frame.specs.Bodies.{dollar, star}
use Rattle.frame.specs.Frames.{checksum, frame_text, items, items_end, line_feed, open_line, upper_digit}
use Rattle.frame.specs.declared.item.Item.{Item}
use Rattle.frame.specs.declared.item.Item.TheVariants.{Body, Damaged}
use Rattle.frame.specs.declared.item.Damage.TheVariants.{Cut}
use Rattle.frame.proofs.StreamItems.{open_line-feed}
use Rattle.frame.proofs.Written.{items-frame_text}
use Rattle.telegram.specs.Telegrams.{telegram_text}
use Rattle.telegram.specs.declared.telegram.Telegram.{Telegram}
use Rattle.drill_streams.specs.Streams.{frames_of}
use Rattle.drill_streams.proofs.Bodies.{IsShortBody}

-- a telegram's body is a body, and short
abbrev pub IsShort : Telegram → Type 0
IsShort t = IsShortBody (telegram_text t)

-- ---- items

items-frames : (telegrams : List Telegram) → All IsShort telegrams
    → items (frames_of telegrams) ≡ map (λ t. Body (telegram_text t)) telegrams
items-frames [] each = refl
items-frames (t ∷ ts) each =
    items-frame_text (telegram_text t) (frames_of ts) (All-head IsShort t ts each).body
    ∙ ap (λ (more : List Item). Body (telegram_text t) ∷ more)
    (items-frames ts (All-tail IsShort t ts each))

-- ---- what stands after the last line feed

-- bytes that end in a line feed
record EndsInFeed (bytes : List ℕ) : Type 0 where
  pub front : List ℕ
  pub is : bytes ≡ front ++ line_feed ∷ []

ends-frame : (body : List ℕ) → EndsInFeed (frame_text body)
ends-frame body =
    let sum = checksum body in
    let digits : List ℕ = star ∷ upper_digit (sum / 16) ∷ upper_digit (sum % 16) ∷ [] in
    record { front = dollar ∷ body ++ digits; is = simp append_assoc }

ends-append : (bytes more : List ℕ) → EndsInFeed more → EndsInFeed (bytes ++ more)
ends-append bytes more ends = record {
  front = bytes ++ ends.front;
  is = ap (λ (rest : List ℕ). bytes ++ rest) ends.is
      ∙ sym (append_assoc bytes ends.front (line_feed ∷ []));
}

ends-frames : (t : Telegram) (ts : List Telegram) → EndsInFeed (frames_of (t ∷ ts))
ends-frames t [] = let ends = ends-frame (telegram_text t) in
    record { front = ends.front; is = append-nil (frame_text (telegram_text t)) ∙ ends.is }
ends-frames t (next ∷ ts) =
    ends-append (frame_text (telegram_text t)) (frames_of (next ∷ ts)) (ends-frames next ts)

open_line-ends : (bytes : List ℕ) → EndsInFeed bytes → open_line bytes ≡ []
open_line-ends bytes ends = ap open_line ends.is ∙ open_line-feed ends.front

open_line-frames : (ts : List Telegram) → open_line (frames_of ts) ≡ []
open_line-frames [] = refl
open_line-frames (t ∷ ts) = open_line-ends (frames_of (t ∷ ts)) (ends-frames t ts)

pub items_end-frames : (ts : List Telegram) → All IsShort ts
    → items_end (frames_of ts) ≡ map (λ t. Body (telegram_text t)) ts
items_end-frames ts each =
    ap (λ (line : List ℕ). items (frames_of ts)
    ++ cond (length line == 0) [] (Damaged Cut ∷ [])) (open_line-frames ts)
    ∙ append-nil (items (frames_of ts)) ∙ items-frames ts each

-- ---- lengths

length-frame : (body : List ℕ) → length (frame_text body) ≡ length body + 5
length-frame body =
    let sum = checksum body in
    let digits : List ℕ = star ∷ upper_digit (sum / 16) ∷ upper_digit (sum % 16) ∷ line_feed ∷ [] in
    omega (arith, length-append body digits)

pub length-frames : (ts : List Telegram) → All IsShort ts
    → length (frames_of ts) ≤ 40 * length ts
length-frames [] each = omega arith
length-frames (t ∷ ts) each =
    let few = (All-head IsShort t ts each).few in
    let more = length-frames ts (All-tail IsShort t ts each) in
    omega (
      arith,
      length-append (frame_text (telegram_text t)) (frames_of ts),
      length-frame (telegram_text t),
    )
