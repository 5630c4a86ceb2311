-- The members of a list.
use Rattle.std.proofs.Common.{◌≡◌, ◌⊎◌, inl, inr, ℕ, zero, suc, ◌<◌, List, [], ◌∷◌, length, arith}
use Rattle.std.proofs.Common.{sym, subst, ◌∙◌, ◌≤◌}
use Rattle.std.proofs.lemmas.List.{get_or_default}
use Rattle.std.specs.Prelude.{Any, slice_index_or}

-- y is a member of the list
abbrev pub Among : {X : Type 0} → List X → X → Type 0
Among [] y = ⊥
Among (x ∷ xs) y = (x ≡ y) ⊎ Among xs y

pub any_among : {X : Type 0} (P : X → Type 0) (xs : List X) (y : X) → Among xs y → P y → Any P xs
any_among P [] y among holds = absurd among
any_among P (x ∷ xs) y (inl same) holds = (0, y, omega arith, same, holds)
any_among P (x ∷ xs) y (inr later) holds =
    let found = any_among P xs y later holds in
    let below : found.0 < length xs = found.2 in
    (suc found.0, found.1, omega (arith, below), found.3, found.4)

pub among_at : {X : Type 0} (xs : List X) (k : ℕ) (y : X) → k < length xs →
    slice_index_or xs k y ≡ y → Among xs y
among_at [] k y below is = absurd (omega arith)
among_at (x ∷ xs) zero y below is = inl is
among_at (x ∷ xs) (suc k) y below is = inr (among_at xs k y (omega arith) is)

-- the element at a place is a member that some element is
pub any_at : {X : Type 0} (P : X → Type 0) (xs : List X) (k : ℕ) (d : X) → k < length xs →
    P (slice_index_or xs k d) → Any P xs
any_at P xs k d below holds =
    (k, slice_index_or xs k d, below, get_or_default xs k (slice_index_or xs k d) d below, holds)

-- where no element is, none of the list is
pub none_of : {X : Type 0} (P : X → Type 0) (xs : List X) (n : ℕ) (d : X) → length xs ≤ n →
    ((k : ℕ) → k < n → P (slice_index_or xs k d) → ⊥) → Any P xs → ⊥
none_of P xs n d all none some =
    let below : some.0 < length xs = some.2 in
    none some.0 (omega arith) (subst P (sym some.3 ∙ get_or_default xs some.0 some.1 d below)
    some.4)
