-- How the parts of a document without faults stand when a session opens, and the whole plant.
use Rattle.std.proofs.Common.{◌≡◌, ℕ, zero, suc, ◌+◌, ◌-◌, ◌^◌, ◌<◌, ◌≤◌, ◌==◌, List, [], ◌∷◌, ◌++◌}
use Rattle.std.proofs.Common.{length, map, replicate, Bool, true, false, not, ◌||◌, Ok}
use Rattle.std.proofs.Common.{refl, ap, sym, ◌∙◌, arith, eqb-true}
use Rattle.std.specs.Prelude.{cond, nat_le, nat_lt, IsTrue}
use Rattle.std.specs.List.{enumerate_from, flat_map, list_all, list_any}
use Rattle.std.proofs.Math.Nat.{pow-suc}
use Rattle.std.proofs.lemmas.Bool.{and_from, and_parts}
use Rattle.std.proofs.lemmas.Bool.Decides.{nat_tests}
use Rattle.std.proofs.lemmas.List.{length-map}
use Rattle.std.proofs.lemmas.List.Sums.{sum_by-cons}
use Rattle.toml.specs.Data.{Data, Members}
use Rattle.plant_model.specs.declared.limits.TheConstants.{MOST_CHOICES, MOST_GENERATORS}
use Rattle.plant_model.specs.declared.limits.TheConstants.{MOST_THRUSTERS, MOST_TIES}
use Rattle.plant_model.specs.Plants.{are_connected, are_distinct, are_masks, are_named_apart}
use Rattle.plant_model.specs.Plants.{choices_of, is_false_from, is_group, is_plant, is_status}
use Rattle.plant_file.specs.declared.fault.Key.TheVariants as key
use Rattle.plant_file.specs.declared.fault.Part.TheVariants as part
use Rattle.plant_file.specs.declared.fault.PlantFault.TheVariants.{TooManyChoices}
use Rattle.plant_file.specs.Described.{filled, generator_in, mask_of, naturals_at, opening_in}
use Rattle.plant_file.specs.Described.{parts_in, piece_of, pieces_in, thruster_in, tie_in}
use Rattle.plant_file.specs.Described.{truth_at}
use Rattle.plant_file.specs.Faults.{elements_at, judged}
use Rattle.plant_file.specs.PlantText.{faults_of_names, faults_of_references}
use Rattle.plant_file.specs.PlantText.{faults_of_thrusters, other_faults_of, placed}
use Rattle.plant_file.specs.PlantText.{thruster_faults, unless}
use Rattle.plant_file.specs.RightKeys.{HasRightKeys}
use Rattle.plant_file.proofs.Controls.{control, powers}
use Rattle.plant_file.proofs.JudgedLemmas.{judged_both}
use Rattle.plant_file.proofs.ThrustersRight.{thruster_good, thrusters_right, unless_good}

none_are : (n : ℕ) → is_false_from 0 (replicate n false) ≡ true
none_are zero = refl
none_are (suc n) = none_are n

-- places past a list's end are false where it is made longer by that
false_behind : (n : ℕ) (xs : List Bool) → is_false_from (length xs) (xs ++ replicate n false) ≡ true
false_behind n [] = none_are n
false_behind n (x ∷ xs) =
    let some : nat_le 1 (suc (length xs)) ≡ true = grind (arith, nat_tests) in
    let one_less : suc (length xs) - 1 ≡ length xs = omega arith in
    and_from _ _ (ap (λ b. b || not x) some)
    (ap (λ m. is_false_from m (xs ++ replicate n false)) one_less ∙ false_behind n xs)

false_past : {A B : Type 0} (n : ℕ) (f : A → Bool) (g : A → B) (ds : List A)
    → is_false_from (length (map g ds)) (filled n false (map f ds)) ≡ true
false_past n f g ds =
    let long : length (map g ds) ≡ length (map f ds) = length-map ds g ∙ sym (length-map ds f) in
    ap (λ m. is_false_from m (filled n false (map f ds))) long
    ∙ false_behind (n - length (map f ds)) (map f ds)

-- a list without the first of its elements that is this number
abbrev without : ℕ → List ℕ → List ℕ
without n [] = []
without n (p ∷ ps) = cond (p == n) ps (p ∷ without n ps)

neither : (a b : Bool) → (a || b) ≡ false → (a ≡ false) × (b ≡ false)
neither false false is = (refl, refl)
neither false true is = absurd cc
neither true b is = absurd cc

both_false : (a b : Bool) → a ≡ false → b ≡ false → (a || b) ≡ false
both_false false false one two = refl
both_false false true one two = absurd cc
both_false true b one two = absurd cc

not_so : (a : Bool) → not a ≡ true → a ≡ false
not_so false is = refl
not_so true is = absurd cc

not_false : (a : Bool) → a ≡ false → not a ≡ true
not_false false is = refl
not_false true is = absurd cc

abbrev is_same : ℕ → ℕ → Bool
is_same a b = a == b

abbrev are_below : ℕ → List ℕ → Bool
are_below n ps = list_all (λ p. nat_lt p n) ps

below_last : (n p q : ℕ) → (p == q) ≡ false → p ≡ n → nat_lt q (suc n) ≡ true → nat_lt q n ≡ true
below_last n p q differ is below = grind (arith, nat_tests)

-- numbers up to one that isn't among them are below it
below_one : (n p : ℕ) (ps : List ℕ) → p ≡ n → list_any (is_same p) ps ≡ false
    → are_below (suc n) ps ≡ true → are_below n ps ≡ true
below_one n p [] is none all = refl
below_one n p (q ∷ ps) is none all =
    let none_of = neither (p == q) (list_any (is_same p) ps) none in
    let both = and_parts (nat_lt q (suc n)) (are_below (suc n) ps) all in
    and_from _ _ (below_last n p q none_of.0 is both.0) (below_one n p ps is none_of.1 both.1)

below_if : (n p : ℕ) (ps : List ℕ) (b : Bool) → (p == n) ≡ b → list_any (is_same p) ps ≡ false
    → nat_lt p (suc n) ≡ true → are_below (suc n) ps ≡ true → are_below n (without n ps) ≡ true
    → are_below n (cond b ps (p ∷ without n ps)) ≡ true
below_if n p ps true is none first all rest = below_one n p ps (eqb-true p n is) none all
below_if n p ps false is none first all rest =
    let here : nat_lt p n ≡ true = grind (arith, nat_tests) in
    and_from _ _ here rest

-- different numbers up to one are below it without it
below_without : (n : ℕ) (ps : List ℕ) → are_below (suc n) ps ≡ true → are_distinct is_same ps ≡ true
    → are_below n (without n ps) ≡ true
below_without n [] all distinct = refl
below_without n (p ∷ ps) all distinct =
    let belows = and_parts (nat_lt p (suc n)) (are_below (suc n) ps) all in
    let apart = and_parts (not (list_any (is_same p) ps)) (are_distinct is_same ps) distinct in
    below_if n p ps (p == n) refl (not_so _ apart.0) belows.0 belows.1
    (below_without n ps belows.1 apart.1)

none_if : (n p q : ℕ) (ps : List ℕ) (b : Bool) → (p == q) ≡ false → list_any (is_same p) ps ≡ false
    → list_any (is_same p) (without n ps) ≡ false
    → list_any (is_same p) (cond b ps (q ∷ without n ps)) ≡ false
none_if n p q ps true differ none rest = none
none_if n p q ps false differ none rest = both_false (p == q) _ differ rest

none_without : (n p : ℕ) (ps : List ℕ) → list_any (is_same p) ps ≡ false
    → list_any (is_same p) (without n ps) ≡ false
none_without n p [] none = refl
none_without n p (q ∷ ps) none =
    let none_of = neither (p == q) (list_any (is_same p) ps) none in
    none_if n p q ps (q == n) none_of.0 none_of.1 (none_without n p ps none_of.1)

distinct_if : (n p : ℕ) (ps : List ℕ) (b : Bool) → list_any (is_same p) ps ≡ false
    → are_distinct is_same ps ≡ true → are_distinct is_same (without n ps) ≡ true
    → are_distinct is_same (cond b ps (p ∷ without n ps)) ≡ true
distinct_if n p ps true none apart rest = apart
distinct_if n p ps false none apart rest =
    and_from _ _ (not_false _ (none_without n p ps none)) rest

distinct_without : (n : ℕ) (ps : List ℕ) → are_distinct is_same ps ≡ true
    → are_distinct is_same (without n ps) ≡ true
distinct_without n [] distinct = refl
distinct_without n (p ∷ ps) distinct =
    let apart = and_parts (not (list_any (is_same p) ps)) (are_distinct is_same ps) distinct in
    distinct_if n p ps (p == n) (not_so _ apart.0) apart.1 (distinct_without n ps apart.1)

mask_more : (p : ℕ) (ps : List ℕ) → mask_of (p ∷ ps) ≡ 2 ^ p + mask_of ps
mask_more p ps = sum_by-cons (λ n. n) (2 ^ p) (map (λ place. 2 ^ place) ps)

mask_if : (n p : ℕ) (ps : List ℕ) (b : Bool) → (p == n) ≡ b
    → mask_of ps ≤ mask_of (without n ps) + 2 ^ n
    → mask_of (p ∷ ps) ≤ mask_of (cond b ps (p ∷ without n ps)) + 2 ^ n
mask_if n p ps true is more =
    let same : 2 ^ p ≡ 2 ^ n = ap (λ k. 2 ^ k) (eqb-true p n is) in
    let front : mask_of (p ∷ ps) ≡ 2 ^ p + mask_of ps = mask_more p ps in
    let most : mask_of (p ∷ ps) ≤ mask_of ps + 2 ^ n = omega arith in
    most
mask_if n p ps false is more =
    let front : mask_of (p ∷ ps) ≡ 2 ^ p + mask_of ps = mask_more p ps in
    let kept = mask_more p (without n ps) in
    let most : mask_of (p ∷ ps) ≤ mask_of (p ∷ without n ps) + 2 ^ n = omega arith in
    most

-- a mask is at most the one without a bit, and that bit
mask_without : (n : ℕ) (ps : List ℕ) → mask_of ps ≤ mask_of (without n ps) + 2 ^ n
mask_without n [] = omega arith
mask_without n (p ∷ ps) = mask_if n p ps (p == n) refl (mask_without n ps)

-- the mask of different places below a count has no bit past it
pub mask_below : (n : ℕ) (ps : List ℕ) → list_all (λ p. nat_lt p n) ps ≡ true
    → are_distinct (λ a b. a == b) ps ≡ true → mask_of ps < 2 ^ n
mask_below zero [] all distinct = omega arith
mask_below zero (p ∷ ps) all distinct =
    let first = (and_parts (nat_lt p 0) (are_below 0 ps) all).0 in
    absurd (grind (arith, nat_tests))
mask_below (suc n) ps all distinct =
    let belows = below_without n ps all distinct in
    let less = mask_below n (without n ps) belows (distinct_without n ps distinct) in
    let more = mask_without n ps in
    let double = pow-suc 2 n in
    omega arith

below_test : (a b : ℕ) → a < b → nat_lt a b ≡ true
below_test a b is = grind (arith, nat_tests)

mask_right : (index : ℕ) (d : Data) → judged (thruster_faults (index, d)) ≡ Ok tt
    → nat_lt (mask_of (naturals_at key.Barred d)) (2 ^ length (map piece_of (pieces_in d))) ≡ true
mask_right index d none =
    let places = naturals_at key.Barred d in
    let count = length (pieces_in d) in
    let barred = (thruster_good index d none).2 in
    let both = and_parts (are_below count places) (are_distinct is_same places) barred in
    ap (λ k. nat_lt (mask_of places) (2 ^ k)) (length-map (pieces_in d) piece_of)
    ∙ below_test _ _ (mask_below count places both.0 both.1)

zeros : (n : ℕ) → list_all (λ mask. mask == 0) (replicate n 0) ≡ true
zeros zero = refl
zeros (suc n) = zeros n

masks_from : (doc : Members) (index : ℕ) (ds : List Data) (n : ℕ)
    → judged (flat_map thruster_faults (enumerate_from index ds)) ≡ Ok tt
    → are_masks (map (thruster_in doc) ds)
    (map (λ d. mask_of (naturals_at key.Barred d)) ds ++ replicate n 0) ≡ true
masks_from doc index [] n none = zeros n
masks_from doc index (d ∷ ds) n none =
    let rest = flat_map thruster_faults (enumerate_from (index + 1) ds) in
    let faults = judged_both (thruster_faults (index, d)) rest none in
    and_from _ _ (mask_right index d faults.0) (masks_from doc (index + 1) ds n faults.1)

-- how the parts stand when a session opens
pub status_right : (doc : Members)
    → judged (flat_map thruster_faults (placed part.Thruster doc)) ≡ Ok tt
    → IsTrue (is_status (parts_in doc) (opening_in doc))
status_right doc none =
    let thrusters = elements_at part.Thruster doc in
    let generators = elements_at part.Generator doc in
    let ties = elements_at part.Tie doc in
    let masks = map (λ d. mask_of (naturals_at key.Barred d)) thrusters in
    and_from _ _
    (and_from _ _
    (and_from _ _
    (false_past MOST_THRUSTERS (truth_at key.Selected) (thruster_in doc) thrusters)
    (false_past MOST_GENERATORS (truth_at key.Running) (generator_in doc) generators))
    (false_past MOST_TIES (truth_at key.Closed) (tie_in doc) ties))
    (masks_from doc 0 thrusters (MOST_THRUSTERS - length masks) none)

-- the whole plant, where its names and references are right
pub whole : (doc : Members) → HasRightKeys doc → judged (other_faults_of doc) ≡ Ok tt
    → IsTrue (are_named_apart (parts_in doc)) → IsTrue (are_connected (parts_in doc))
    → IsTrue (list_all (is_group (parts_in doc)) (parts_in doc).groups.items)
    → IsTrue (is_plant (parts_in doc))
whole doc right none apart connected groups =
    let front = faults_of_names doc ++ faults_of_references doc in
    let faults = judged_both front (faults_of_thrusters doc) none in
    let few = nat_le (choices_of (parts_in doc).thrusters.items) MOST_CHOICES in
    let each = flat_map thruster_faults (placed part.Thruster doc) in
    let thrusters = judged_both each (unless few TooManyChoices) faults.1 in
    and_from _ _
    (and_from _ _
    (and_from _ _
    (and_from _ _
    (and_from _ _
    (and_from _ _
    (and_from _ _ (control doc right) apart)
    connected)
    (powers doc right))
    (thrusters_right doc right thrusters.0))
    (unless_good few TooManyChoices thrusters.1))
    groups)
    (status_right doc thrusters.0)
