-- A list of tests, place by place.
use Rattle.std.proofs.Common.{◌≡◌, ℕ, ◌+◌, ◌<◌, Bool, false, List, length, get_or, set, subst, sym}
use Rattle.std.proofs.lemmas.List.Edits.{fill_by_more}

-- the first so many places of the list have their values
pub record AreFilled (count : ℕ) (value : ℕ → Bool) (filled : ℕ) (list : List Bool) : Type 0 where
  pub long : length list ≡ count
  pub is : (k : ℕ) → k < filled → get_or list k false ≡ value k

pub filled_more : (value : ℕ → Bool) (list : List Bool) (i : ℕ) (b : Bool) → i < length list →
    b ≡ value i → ((k : ℕ) → k < i → get_or list k false ≡ value k) → (k : ℕ) → k < i + 1 →
    get_or (set list i b) k false ≡ value k
filled_more value list i b within is before =
    subst (λ (x : Bool). (k : ℕ) → k < i + 1 → get_or (set list i x) k false ≡ value k) (sym is)
    (fill_by_more value list i false within before)
