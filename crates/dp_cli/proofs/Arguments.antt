-- What is left of a list after its first element was taken.
use Rattle.std.proofs.Common.{◌≡◌, List, [], ◌∷◌, ◌++◌, drop, length, Option, None, Some, refl}
use Rattle.std.proofs.Common.{ap, sym, ◌∙◌, arith}
use Rattle.std.specs.Option.{option_to_list}

empty : {A : Type 0} (xs : List A) → length xs ≡ 0 → drop 1 xs ≡ xs
empty [] none = refl
empty (x ∷ xs) none = absurd (omega arith)

pub rest-next : {A : Type 0} (next : Option A) (old new : List A) → old ≡ option_to_list next ++ new
    → (next ≡ None → length old ≡ 0) → new ≡ drop 1 old
rest-next None old new is none = sym is ∙ sym (empty old (none refl))
rest-next (Some x) old new is none = sym (ap (drop 1) is)
