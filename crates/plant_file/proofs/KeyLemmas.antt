-- The keys of a table, as its map has them.
use Rattle.std.proofs.Common.{◌≡◌, ℕ, List, [], ◌∷◌, map, Bool, ◌&&◌, ◌||◌, String, Global}
use Rattle.std.proofs.Common.{string_bytes, refl, ap}
use Rattle.std.specs.List.{list_all, list_any}
use Rattle.toml.proofs.Views.{Entry}
use Rattle.toml.specs.View.{members_view}
use Rattle.plant_file.specs.Documents.{keys}

pub list_all-keys : (p : List ℕ → Bool) (es : List Entry)
    → list_all p (keys (members_view es)) ≡ list_all (λ (key : String Global). p (string_bytes key))
    (map (λ e. e.0) es)
list_all-keys p [] = refl
list_all-keys p (e ∷ es) = ap (λ b. p (string_bytes e.0) && b) (list_all-keys p es)

pub list_any-map : {A B : Type 0} (p : B → Bool) (f : A → B) (xs : List A)
    → list_any p (map f xs) ≡ list_any (λ x. p (f x)) xs
list_any-map p f [] = refl
list_any-map p f (x ∷ xs) = ap (λ b. p (f x) || b) (list_any-map p f xs)
