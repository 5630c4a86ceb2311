-- The lines of a list of entries, taken one after another.
use Rattle.std.proofs.Common.{◌≡◌, ℕ, ◌+◌, ◌<◌, List, [], ◌∷◌, ◌++◌, length, take, drop, get_or}
use Rattle.std.proofs.Common.{Option, sym, ◌∙◌, ap, subst, append_assoc}
use Rattle.std.specs.List.{flat_map}
use Rattle.std.proofs.lemmas.Grind.{flat_map-append}
use Rattle.std.proofs.lemmas.List.{append-nil, take_more, take-append-drop}
use Rattle.dp_io.specs.Streams.{Grew}
use Rattle.dp_io.specs.Shown.{GrewInPart}
use Rattle.dp_io.proofs.Grown.{Grew-append}
use Rattle.dp_words.proofs.Parts.{part-back, part-front, part-whole}

-- the lines of one element more
pub flat_map-more : {A : Type 0} (f : A → List ℕ) (xs : List A) (i : ℕ) (x : A) → i < length xs
    → x ≡ get_or xs i x
    → flat_map f (take (i + 1) xs) ≡ flat_map f (take i xs) ++ f x
flat_map-more f xs i x h is =
    ap (flat_map f) (take_more xs i x h) ∙ flat_map-append f (take i xs) (get_or xs i x ∷ [])
    ∙ ap (λ (t : List ℕ). flat_map f (take i xs) ++ t)
    (append-nil (f (get_or xs i x)) ∙ ap f (sym is))

-- a line more was taken
pub lines-whole : {A : Type 0} (before middle after : Option (List ℕ)) (head : List ℕ)
    (f : A → List ℕ) (xs : List A) (i : ℕ) (x : A)
    → i < length xs → x ≡ get_or xs i x → Grew before middle (head ++ flat_map f (take i xs))
    → Grew middle after (f x)
    → Grew before after (head ++ flat_map f (take (i + 1) xs))
lines-whole before middle after head f xs i x h is so_far line =
    let text : head ++ flat_map f (take (i + 1) xs) ≡ (head ++ flat_map f (take i xs)) ++ f x =
    ap (λ (t : List ℕ). head ++ t) (flat_map-more f xs i x h is)
    ∙ sym (append_assoc head (flat_map f (take i xs)) (f x)) in
    subst (λ (t : List ℕ). Grew before after t) (sym text)
    (Grew-append before middle after (head ++ flat_map f (take i xs)) (f x) so_far line)

-- a line was taken in part
pub lines-part : {A : Type 0} (before middle after : Option (List ℕ)) (head : List ℕ)
    (f : A → List ℕ) (xs : List A) (i : ℕ) (x : A)
    → i < length xs → x ≡ get_or xs i x → Grew before middle (head ++ flat_map f (take i xs))
    → GrewInPart middle after (f x)
    → GrewInPart before after (head ++ flat_map f xs)
lines-part before middle after head f xs i x h is so_far line =
    let front = flat_map f (take i xs) in
    let rest = flat_map f (drop (i + 1) xs) in
    let all : flat_map f xs ≡ (front ++ f x) ++ rest =
    ap (flat_map f) (sym (take-append-drop (i + 1) xs))
    ∙ flat_map-append f (take (i + 1) xs) (drop (i + 1) xs)
    ∙ ap (λ (t : List ℕ). t ++ rest) (flat_map-more f xs i x h is) in
    let text : head ++ flat_map f xs ≡ ((head ++ front) ++ f x) ++ rest =
    ap (λ (t : List ℕ). head ++ t) all ∙ sym (append_assoc head (front ++ f x) rest)
    ∙ ap (λ (t : List ℕ). t ++ rest) (sym (append_assoc head front (f x))) in
    subst (λ (t : List ℕ). GrewInPart before after t) (sym text)
    (part-front before after ((head ++ front) ++ f x) rest
    (part-back before middle after (head ++ front) (f x) so_far line))

-- only lines before were taken
pub lines-front : {A : Type 0} (before after : Option (List ℕ)) (head : List ℕ) (f : A → List ℕ)
    (xs : List A) (i : ℕ) → Grew before after (head ++ flat_map f (take i xs))
    → GrewInPart before after (head ++ flat_map f xs)
lines-front before after head f xs i so_far =
    let front = flat_map f (take i xs) in
    let rest = flat_map f (drop i xs) in
    let text : head ++ flat_map f xs ≡ (head ++ front) ++ rest =
    ap (λ (t : List ℕ). head ++ t) (ap (flat_map f) (sym (take-append-drop i xs))
    ∙ flat_map-append f (take i xs) (drop i xs)) ∙ sym (append_assoc head front rest) in
    subst (λ (t : List ℕ). GrewInPart before after t) (sym text)
    (part-front before after (head ++ front) rest
    (part-whole before after (head ++ front) so_far))

-- a piece that is the text
pub part-as : (before after : Option (List ℕ)) (piece text : List ℕ) → piece ≡ text
    → ((n : ℕ) × (n < length piece) × Grew before after (take n piece))
    → GrewInPart before after text
part-as before after piece text same part =
    subst (λ (t : List ℕ). GrewInPart before after t) same (part.0, part.2)
