-- Lists that begin others, and what the items of a stream begin with.
use Rattle.std.proofs.Common.{◌≡◌, ℕ, ◌<◌, ◌≤◌, List, [], ◌∷◌, ◌++◌, length, Bool, true, false}
use Rattle.std.proofs.Common.{◌==◌}
use Rattle.std.proofs.Common.{refl, sym, ◌∙◌, ap, subst, append_assoc, arith}
use Rattle.std.specs.Option.{option_to_list}
use Rattle.std.proofs.lemmas.Bool.Decides.{nat_tests}
use Rattle.std.proofs.lemmas.List.{append-nil, length-append}
use Rattle.frame.specs.Frames.{item_of_line, items, items_end, line_feed, open_line}
use Rattle.frame.specs.declared.item.Item.{Item}
use Rattle.frame.proofs.StreamItems.{items-feed, items-other}
use Rattle.dp_sessions.specs.Sessions.{IsBeginning, IsFront}

-- the items of the bytes so far stay, whatever byte comes next
items-byte-where : (fed : List ℕ) (byte : ℕ) (b : Bool) → (byte == line_feed) ≡ b
    → (more : List Item) × (items (fed ++ byte ∷ []) ≡ items fed ++ more)
items-byte-where fed byte true is =
    let feed : byte ≡ line_feed = grind (arith, nat_tests) in (
      option_to_list (item_of_line (open_line fed)),
      ap (λ (n : ℕ). items (fed ++ n ∷ [])) feed ∙ items-feed fed,
    )
items-byte-where fed byte false is =
    let other : ¬ (byte ≡ line_feed) = grind (arith, nat_tests) in
    ([], items-other fed byte other ∙ sym (append-nil (items fed)))

pub items-front : (front back : List ℕ)
    → (more : List Item) × (items (front ++ back) ≡ items front ++ more)
items-front front [] = ([], ap items (append-nil front) ∙ sym (append-nil (items front)))
items-front front (byte ∷ back) =
    let one = items-byte-where front byte (byte == line_feed) refl in
    let rest = items-front (front ++ byte ∷ []) back in (
      one.0 ++ rest.0,
      ap items (sym (append_assoc front (byte ∷ []) back)) ∙ rest.1
          ∙ ap (λ (xs : List Item). xs ++ rest.0) one.1 ∙ append_assoc (items front) one.0 rest.0,
    )

pub front-more : {A : Type 0} (front all more : List A) → IsFront front all
    → IsFront front (all ++ more)
front-more front all more is = (
  is.0,
  is.1 ++ more,
  ap (λ xs. xs ++ more) is.2 ∙ append_assoc front (is.0 ∷ is.1) more,
)

pub beginning-more : {A : Type 0} (front all more : List A) → IsBeginning front all
    → IsBeginning front (all ++ more)
beginning-more front all more is =
    (is.0 ++ more, ap (λ xs. xs ++ more) is.1 ∙ append_assoc front is.0 more)

-- a list begins itself
pub beginning-self : {A : Type 0} (all : List A) → IsBeginning all all
beginning-self all = ([], sym (append-nil all))

pub beginning-trans : {A : Type 0} (a b c : List A) → IsBeginning a b → IsBeginning b c
    → IsBeginning a c
beginning-trans a b c first second =
    let more = beginning-more a b second.0 first in (more.0, second.1 ∙ more.1)

pub front-begins : {A : Type 0} (front all : List A) → IsFront front all → IsBeginning front all
front-begins front all is = (is.0 ∷ is.1, is.2)

-- the items of whole lines begin those of a stream with its end
pub items-begin : (bytes : List ℕ) → IsBeginning (items bytes) (items_end bytes)
items-begin bytes = (_, refl)

-- the first items of a stream are those of a longer one
pub front-items : (answered : List Item) (front back bytes : List ℕ) → bytes ≡ front ++ back
    → IsFront answered (items front) → IsFront answered (items bytes)
front-items answered front back bytes is first =
    let all = items-front front back in
    subst (λ (xs : List Item). IsFront answered xs) (sym (ap items is ∙ all.1))
    (front-more answered (items front) all.0 first)

-- and of it with the damage of its end
pub front-end : (answered : List Item) (bytes : List ℕ) → IsFront answered (items bytes)
    → IsFront answered (items_end bytes)
front-end answered bytes first = front-more answered (items bytes) _ first

-- and so do the items that are the first of a stream's beginning
pub beginning-end : (answered : List Item) (front back bytes : List ℕ) → bytes ≡ front ++ back
    → IsBeginning answered (items front) → IsBeginning answered (items_end bytes)
beginning-end answered front back bytes is first =
    let all = items-front front back in
    let whole = beginning-more answered (items bytes) _ in
    whole (subst (λ (xs : List Item). IsBeginning answered xs) (sym (ap items is ∙ all.1))
    (beginning-more answered (items front) all.0 first))

pub front-short : {A : Type 0} (front all : List A) → IsFront front all → length front < length all
front-short front all is = omega (arith, ap length is.2, length-append front (is.0 ∷ is.1))

longer : {A : Type 0} (front back : List A) → length front ≤ length (front ++ back)
longer front back = omega (arith, length-append front back)

-- the items of a stream's beginning are no more than those of the stream
pub items-longer : (front back : List ℕ)
    → length (items front) ≤ length (items_end (front ++ back))
items-longer front back =
    let all = items-front front back in
    let bytes = front ++ back in
    let more : length (items bytes) ≤ length (items_end bytes) = longer (items bytes) _ in
    omega (arith, ap length all.1, length-append (items front) all.0, more)

-- the items of a stream's beginning begin those of the stream
pub split-begins : (front back bytes : List ℕ) → bytes ≡ front ++ back
    → IsBeginning (items front) (items_end bytes)
split-begins front back bytes is =
    subst (λ (t : List ℕ). IsBeginning (items front) (items_end t)) (sym is)
    (beginning-trans (items front) (items (front ++ back)) (items_end (front ++ back))
    (items-front front back) (items-begin (front ++ back)))
