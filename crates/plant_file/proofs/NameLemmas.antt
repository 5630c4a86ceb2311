-- Names in lists of names, and names that stand twice.
use Rattle.std.proofs.Common.{◌≡◌, ℕ, ◌+◌, ◌<◌, ◌≤◌, List, [], ◌∷◌, ◌++◌, length, map, take, drop}
use Rattle.std.proofs.Common.{get_or, Bool, true, false, if◌then◌else◌, ◌||◌, Ok, Err, refl, ap}
use Rattle.std.proofs.Common.{ap₂, sym, ◌∙◌, arith}
use Rattle.std.proofs.lemmas.List.{append_assoc, append-nil, at_drop_more, drop_all, length-map}
use Rattle.std.proofs.lemmas.List.{map-append, take_more}
use Rattle.std.proofs.lemmas.List.Folds.{list_any-append}
use Rattle.std.proofs.Math.ListN.{get_or-map}
use Rattle.std.specs.List.{enumerate_from, flat_map, list_any}
use Rattle.std.specs.Str.{bytes_eq}
use Rattle.toml.specs.Data.{Data, Members}
use Rattle.plant_file.specs.Described.{all_names, names_of, names_of_parts, text_at}
use Rattle.plant_file.specs.Faults.{elements_at, judged, path_to}
use Rattle.plant_file.specs.PlantText.{named, named_from, twice_after}
use Rattle.plant_file.specs.declared.fault.Key.TheVariants.{Name}
use Rattle.plant_file.specs.declared.fault.Part.{Part}
use Rattle.plant_file.specs.declared.fault.Part.TheVariants.{Section, Tie, Generator, Thruster}
use Rattle.plant_file.specs.declared.fault.Path.{Path}
use Rattle.plant_file.specs.declared.fault.PlantFault.TheVariants.{NameTwice}
use Rattle.plant_file.proofs.ArrayLemmas.{get_or-placed, length-placed}

-- a test of the names of some lists
pub list_any-flat_map : {A B : Type 0} (p : B → Bool) (f : A → List B) (xs : List A)
    → list_any p (flat_map f xs) ≡ list_any (λ x. list_any p (f x)) xs
list_any-flat_map p f [] = refl
list_any-flat_map p f (x ∷ xs) =
    list_any-append p (f x) (flat_map f xs)
    ∙ ap (λ b. list_any p (f x) || b) (list_any-flat_map p f xs)

-- names that follow others are judged after these
pub twice_after-append : (earlier : List (List ℕ)) (a b : List (Path × List ℕ))
    → twice_after earlier (a ++ b) ≡ twice_after earlier a
    ++ twice_after (earlier ++ map (λ n. n.1) a) b
twice_after-append earlier [] b = ap (λ e. twice_after e b) (sym (append-nil earlier))
twice_after-append earlier (n ∷ ns) b =
    let own = if list_any (bytes_eq n.1) earlier then NameTwice n.0 ∷ [] else [] in
    ap (λ fs. own ++ fs) (twice_after-append (earlier ++ n.1 ∷ []) ns b
    ∙ ap (λ e. twice_after (earlier ++ n.1 ∷ []) ns ++ twice_after e b)
    (append_assoc earlier (n.1 ∷ []) (map (λ m. m.1) ns)))
    ∙ sym (append_assoc own (twice_after (earlier ++ n.1 ∷ []) ns)
    (twice_after (earlier ++ n.1 ∷ map (λ m. m.1) ns) b))

-- four lists of names, one after the other
pub twice_after-four : (a b c d : List (Path × List ℕ)) (x y z : List (List ℕ))
    → map {A = Path × List ℕ} (λ n. n.1) a ≡ x → map (λ n. n.1) b ≡ y → map (λ n. n.1) c ≡ z
    → twice_after [] (a ++ b ++ c ++ d) ≡ twice_after [] a ++ twice_after (x ++ []) b
    ++ twice_after (x ++ (y ++ [])) c ++ twice_after (x ++ (y ++ (z ++ []))) d
twice_after-four a b c d x y z is-x is-y is-z =
    let two = map-append (λ n. n.1) a b ∙ ap₂ (λ p q. p ++ q) is-x is-y in
    let three = map-append (λ n. n.1) (a ++ b) c ∙ ap₂ (λ p q. p ++ q) two is-z in
    let one-nil : map (λ n. n.1) a ≡ x ++ [] = is-x ∙ sym (append-nil x) in
    let two-nil : map (λ n. n.1) (a ++ b) ≡ x ++ (y ++ []) =
    two ∙ ap (λ q. x ++ q) (sym (append-nil y)) in
    let three-nil : map (λ n. n.1) (a ++ b ++ c) ≡ x ++ (y ++ (z ++ [])) =
    three ∙ append_assoc x y z ∙ ap (λ q. x ++ (y ++ q)) (sym (append-nil z)) in
    twice_after-append [] (a ++ b ++ c) d
    ∙ ap₂ (λ p e. p ++ twice_after e d)
    (twice_after-append [] (a ++ b) c
    ∙ ap₂ (λ p e. p ++ twice_after e c)
    (twice_after-append [] a b ∙ ap (λ e. twice_after [] a ++ twice_after e b) one-nil)
    two-nil)
    three-nil

-- all names are those of the four parts
pub all_names-parts : (doc : Members)
    → names_of_parts (Section ∷ Tie ∷ Generator ∷ Thruster ∷ []) doc ≡ all_names doc
all_names-parts doc =
    let s = names_of Section doc in
    let t = names_of Tie doc in
    let g = names_of Generator doc in
    let h = names_of Thruster doc in
    ap (λ r. s ++ (t ++ (g ++ r))) (append-nil h)
    ∙ sym (append_assoc s t (g ++ h))
    ∙ sym (append_assoc (s ++ t) g h)

abbrev path_of : Part → ℕ × Data → Path × List ℕ
path_of part e = (path_to part e.0 Name, text_at Name e.1)

names_from : (part : Part) (i : ℕ) (ds : List Data)
    → map {A = Path × List ℕ} (λ n. n.1) (named_from part i ds) ≡ map (text_at Name) ds
names_from part i [] = refl
names_from part i (d ∷ ds) = ap (λ ns. text_at Name d ∷ ns) (names_from part (i + 1) ds)

-- the names of a part's elements, with and without their paths
pub names-named : (part : Part) (doc : Members)
    → map {A = Path × List ℕ} (λ n. n.1) (named part doc) ≡ names_of part doc
names-named part doc = names_from part 0 (elements_at part doc)

module _ (ns : List (Path × List ℕ)) (i : ℕ) (d n : Path × List ℕ) (within : i < length ns)
    (is : get_or ns i d ≡ n) (earlier : List (List ℕ)) where
  -- the fault of a name that stands earlier
  pub twice_after-stop : list_any (bytes_eq n.1) earlier ≡ true
      → judged (twice_after earlier (drop i ns)) ≡ Err (NameTwice n.0)
  twice_after-stop found =
      at_drop_more (λ rest. judged (twice_after earlier rest)) ns i d within
      ∙ ap (λ m. judged (twice_after earlier (m ∷ drop (i + 1) ns))) is
      ∙ rw found refl

  -- and a step past one that doesn't
  pub twice_after-more : list_any (bytes_eq n.1) earlier ≡ false
      → judged (twice_after earlier (drop i ns))
      ≡ judged (twice_after (earlier ++ n.1 ∷ []) (drop (i + 1) ns))
  twice_after-more none =
      at_drop_more (λ rest. judged (twice_after earlier rest)) ns i d within
      ∙ ap (λ m. judged (twice_after earlier (m ∷ drop (i + 1) ns))) is
      ∙ rw none refl

module _ {A : Type 0} (f : A → Data) (part : Part) (xs : List A) (earlier : List (List ℕ)) (i : ℕ)
    (x : A) (within : i < length xs) (is : get_or xs i x ≡ x) where
  name_is : get_or (named_from part 0 (map f xs)) i (path_of part (0, f x)) ≡ path_of part (i, f x)
  name_is =
      get_or-map (path_of part) (enumerate_from 0 (map f xs)) i (0, f x)
      ∙ ap (path_of part) (get_or-placed f xs i x within ∙ ap (λ y. (i, f y)) is)

  name_within : i < length (named_from part 0 (map f xs))
  name_within =
      omega (arith, length-map (enumerate_from 0 (map f xs)) (path_of part), length-placed f xs)

  -- the fault of an element whose name stands earlier
  pub names_stop : list_any (bytes_eq (text_at Name (f x)))
      (earlier ++ map (text_at Name) (map f (take i xs))) ≡ true
      → judged (twice_after (earlier ++ map (text_at Name) (map f (take i xs)))
      (drop i (named_from part 0 (map f xs)))) ≡ Err (NameTwice (path_to part i Name))
  names_stop found =
      twice_after-stop (named_from part 0 (map f xs)) i (path_of part (0, f x))
      (path_of part (i, f x)) name_within name_is _ found

  -- and a step past one whose name doesn't
  pub names_more : list_any (bytes_eq (text_at Name (f x)))
      (earlier ++ map (text_at Name) (map f (take i xs))) ≡ false
      → judged (twice_after (earlier ++ map (text_at Name) (map f (take i xs)))
      (drop i (named_from part 0 (map f xs))))
      ≡ judged (twice_after (earlier ++ map (text_at Name) (map f (take (i + 1) xs)))
      (drop (i + 1) (named_from part 0 (map f xs))))
  names_more none =
      let taken : take (i + 1) xs ≡ take i xs ++ x ∷ [] =
      take_more xs i x within ∙ ap (λ y. take i xs ++ y ∷ []) is in
      let longer : earlier ++ map (text_at Name) (map f (take i xs)) ++ text_at Name (f x) ∷ []
      ≡ earlier ++ map (text_at Name) (map f (take (i + 1) xs)) =
      append_assoc earlier (map (text_at Name) (map f (take i xs))) (text_at Name (f x) ∷ [])
      ∙ ap (λ r. earlier ++ r)
      (sym (ap (λ r. map (text_at Name) (map f r)) taken
      ∙ ap (map (text_at Name)) (map-append f (take i xs) (x ∷ []))
      ∙ map-append (text_at Name) (map f (take i xs)) (f x ∷ []))) in
      twice_after-more (named_from part 0 (map f xs)) i (path_of part (0, f x))
      (path_of part (i, f x)) name_within name_is _ none
      ∙ ap (λ e. judged (twice_after e (drop (i + 1) (named_from part 0 (map f xs))))) longer

-- the end of a walk over elements
pub names_over : {A : Type 0} (f : A → Data) (part : Part) (xs : List A) (earlier : List (List ℕ))
    (i : ℕ) → length xs ≤ i
    → judged (twice_after earlier (drop i (named_from part 0 (map f xs)))) ≡ Ok tt
names_over f part xs earlier i over =
    let long : length (named_from part 0 (map f xs)) ≤ i =
    omega (
      arith,
      length-map (enumerate_from 0 (map f xs)) (path_of part),
      length-placed f xs,
    ) in
    ap (λ rest. judged (twice_after earlier rest)) (drop_all i (named_from part 0 (map f xs)) long)
