-- Bytes are moved from the front of what is left to the front of a buffer.
use Rattle.std.proofs.Common.{◌≡◌, ℕ, ◌+◌, ◌-◌, List, ◌++◌, length, take, drop, sym, ◌∙◌}
use Rattle.std.proofs.lemmas.List.{drop-drop, take_at, take_rest, take-append-drop}

-- what is left begins with the bytes that the buffer now begins with
pub left-moved : (bytes into copied : List ℕ) (given n : ℕ)
    → copied ≡ take n (take (length bytes - given) (drop given bytes))
    → length copied ≡ n
    → drop given bytes ≡ take n (copied ++ drop n into) ++ drop (given + n) bytes
left-moved bytes into copied given n is fits =
    let front : copied ≡ take n (drop given bytes) = rw take_rest at is in
    let buffer : take n (copied ++ drop n into) ≡ take n (drop given bytes) =
    take_at copied (drop n into) n fits ∙ front in
    rw buffer (rw (← drop-drop n given bytes) (sym (take-append-drop n (drop given bytes))))
