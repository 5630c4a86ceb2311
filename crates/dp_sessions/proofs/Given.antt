-- What a source gave in one call after another.
use Rattle.std.proofs.Common.{◌≡◌, ℕ, ◌+◌, ◌≤◌, List, ◌++◌, length, take, Option, Some}
use Rattle.std.proofs.Common.{None, Bool, true, false, not, refl, sym, ◌∙◌, ap, subst}
use Rattle.std.proofs.Common.{append_assoc}
use Rattle.std.proofs.Math.Seq.{take-append-add}
use Rattle.std.proofs.lemmas.List.{take-take}
use Rattle.dp_io.specs.Streams.{Gave}

pub gave-more : (before middle after : Option (List ℕ)) (xs ys : List ℕ) → Gave before middle xs
    → Gave middle after ys → Gave before after (xs ++ ys)
gave-more (Some bytes) middle after xs ys first second =
    let then : Gave (Some first.0) after ys = rw (first.1) at second in
    (then.0, then.1, first.2 ∙ ap (λ rest. xs ++ rest) then.2 ∙ sym (append_assoc xs ys then.0))
gave-more None middle after xs ys first second =
    let then : Gave None after ys = rw first at second in then

-- the bytes up to the limit, of those before a piece and the piece that passes it
pub take-limit : (most : ℕ) (fed piece : List ℕ) (room count : ℕ) → length fed + room ≡ most
    → room ≤ count
    → take most (fed ++ take count piece) ≡ fed ++ take room piece
take-limit most fed piece room count full less =
    let P : ℕ → Type 0 = λ n. take n (fed ++ take count piece) ≡ fed ++ take room piece in
    subst P full (take-append-add fed (take count piece) room
    ∙ ap (λ (t : List ℕ). fed ++ t) (take-take room count piece less))

-- a test that isn't denied
pub true_from_not : (b : Bool) → not b ≡ false → b ≡ true
true_from_not true denied = refl
true_from_not false denied = cc
