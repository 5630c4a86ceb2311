-- The parts that a document describes are named apart where no name stands twice.
use Rattle.std.proofs.Common.{◌≡◌, ℕ, List, [], ◌∷◌, ◌++◌, length, map, refl, ap, ap₂}
use Rattle.std.proofs.Common.{Bool, true, false, not, ◌||◌, Ok, sym, ◌∙◌, arith}
use Rattle.std.specs.Prelude.{if◌then◌else◌, nat_le, IsTrue}
use Rattle.std.specs.List.{flat_map, list_any}
use Rattle.std.specs.Str.{bytes_eq}
use Rattle.std.proofs.lemmas.Bool.{and_from, and_parts}
use Rattle.std.proofs.lemmas.Bool.Decides.{nat_tests}
use Rattle.std.proofs.lemmas.Cmp.{nat_list_eq_equiv}
use Rattle.std.proofs.lemmas.List.{append_assoc, append-nil, length-map, map-append}
use Rattle.std.proofs.lemmas.List.Folds.{list_any-append}
use Rattle.toml.specs.Data.{Members}
use Rattle.plant_model.specs.Plants.{are_distinct, are_named_apart, part_names}
use Rattle.plant_file.specs.declared.fault.Key.TheVariants as key
use Rattle.plant_file.specs.declared.fault.Part.TheVariants.{Generator, Group, Section, Thruster}
use Rattle.plant_file.specs.declared.fault.Part.TheVariants.{Tie}
use Rattle.plant_file.specs.declared.fault.Path.{Path}
use Rattle.plant_file.specs.declared.fault.PlantFault.{PlantFault}
use Rattle.plant_file.specs.declared.fault.PlantFault.TheVariants.{NameTwice}
use Rattle.plant_file.specs.Described.{all_names, generator_in, group_in, names_of, parts_in}
use Rattle.plant_file.specs.Described.{thruster_in, tie_in}
use Rattle.plant_file.specs.Faults.{elements_at, judged}
use Rattle.plant_file.specs.PlantText.{faults_of_names, faults_of_part_names, named, placed}
use Rattle.plant_file.specs.PlantText.{repeated, twice_after}
use Rattle.plant_file.specs.RightKeys.{HasRightKeys}
use Rattle.plant_file.proofs.BuiltLemmas.{map_twice}
use Rattle.plant_file.proofs.JudgedLemmas.{judged_both}
use Rattle.plant_file.proofs.NameLemmas.{names-named}
use Rattle.plant_file.proofs.RightLemmas.{some_groups, some_sections, some_thrusters}

-- neither of two tests passed
pub neither : (a b : Bool) → (a || b) ≡ false → (a ≡ false) × (b ≡ false)
neither true b none = absurd cc
neither false b none = (refl, none)

pub not_false : {a : Bool} → a ≡ false → not a ≡ true
not_false none = ap not none

pub false_if_not : (a : Bool) → not a ≡ true → a ≡ false
false_if_not true is = absurd cc
false_if_not false is = refl

-- one text more, which is none of the others
pub distinct_with : (ts : List (List ℕ)) (t : List ℕ) → are_distinct bytes_eq ts ≡ true
    → list_any (bytes_eq t) ts ≡ false → are_distinct bytes_eq (ts ++ t ∷ []) ≡ true
distinct_with [] t apart none = refl
distinct_with (x ∷ xs) t apart none =
    let each = and_parts (not (list_any (bytes_eq x) xs)) (are_distinct bytes_eq xs) apart in
    let other = neither (bytes_eq t x) (list_any (bytes_eq t) xs) none in
    let back : bytes_eq x t ≡ false = nat_list_eq_equiv.symm x t ∙ other.0 in
    let before = false_if_not (list_any (bytes_eq x) xs) each.0 in
    let here : list_any (bytes_eq x) (xs ++ t ∷ []) ≡ false =
    list_any-append (bytes_eq x) xs (t ∷ []) ∙ ap₂ (λ a b. a || (b || false)) before back in
    and_from _ _ (not_false here) (distinct_with xs t each.1 other.1)

-- a test that is no fault didn't pass
pub none_if : (b : Bool) (fault : PlantFault)
    → judged (if b then fault ∷ [] else []) ≡ Ok tt → b ≡ false
none_if true fault none = absurd cc
none_if false fault none = refl

-- names without a fault are apart, from the earlier ones too
pub distinct_after : (earlier : List (List ℕ)) (ns : List (Path × List ℕ))
    → are_distinct bytes_eq earlier ≡ true → judged (twice_after earlier ns) ≡ Ok tt
    → are_distinct bytes_eq (earlier ++ map (λ n. n.1) ns) ≡ true
distinct_after earlier [] apart none = ap (are_distinct bytes_eq) (append-nil earlier) ∙ apart
distinct_after earlier (n ∷ ns) apart none =
    let both = judged_both _ (twice_after (earlier ++ n.1 ∷ []) ns) none in
    let new = none_if (list_any (bytes_eq n.1) earlier) (NameTwice n.0) both.0 in
    ap (are_distinct bytes_eq) (sym (append_assoc earlier (n.1 ∷ []) (map (λ m. m.1) ns)))
    ∙ distinct_after (earlier ++ n.1 ∷ []) ns (distinct_with earlier n.1 apart new) both.1

-- the names of the elements that stand in four lists, each with its path
names_in_four : (a b c d : List (Path × List ℕ)) (w x y z : List (List ℕ))
    → map {A = Path × List ℕ} (λ n. n.1) a ≡ w → map (λ n. n.1) b ≡ x
    → map (λ n. n.1) c ≡ y → map (λ n. n.1) d ≡ z
    → map (λ n. n.1) (a ++ b ++ c ++ d) ≡ w ++ x ++ y ++ z
names_in_four a b c d w x y z is-w is-x is-y is-z =
    map-append (λ n. n.1) (a ++ b ++ c) d
    ∙ ap₂ (λ p q. p ++ q)
    (map-append (λ n. n.1) (a ++ b) c
    ∙ ap₂ (λ p q. p ++ q) (map-append (λ n. n.1) a b ∙ ap₂ (λ p q. p ++ q) is-w is-x) is-y)
    is-z

module _ (doc : Members) where
  -- the names of the described parts are those of the elements
  pub part_names-parts_in : part_names (parts_in doc) ≡ all_names doc
  part_names-parts_in =
      let ties = map_twice (λ t. t.name) (tie_in doc) (elements_at Tie doc) in
      let generators = map_twice (λ g. g.name) (generator_in doc) (elements_at Generator doc) in
      let thrusters = map_twice (λ t. t.name) (thruster_in doc) (elements_at Thruster doc) in
      ap₂ (λ p q. p ++ q)
      (ap₂ (λ p q. p ++ q) (ap (λ q. names_of Section doc ++ q) ties) generators)
      thrusters

  pub group_names-parts_in : map (λ g. g.name) (parts_in doc).groups.items ≡ names_of Group doc
  group_names-parts_in = map_twice (λ g. g.name) (group_in doc) (elements_at Group doc)

  module _ (names : judged (faults_of_names doc) ≡ Ok tt) where
    names_and_ends : judged (faults_of_part_names doc ++ twice_after [] (named Group doc)
        ++ flat_map (repeated Tie key.Ends) (placed Tie doc)) ≡ Ok tt
    names_and_ends =
        (judged_both _ (flat_map (repeated Group key.Members) (placed Group doc)) names).0

    both_names : judged (faults_of_part_names doc ++ twice_after [] (named Group doc)) ≡ Ok tt
    both_names =
        (judged_both _ (flat_map (repeated Tie key.Ends) (placed Tie doc)) names_and_ends).0

    -- no tie has one section at both ends
    pub no_end_twice : judged (flat_map (repeated Tie key.Ends) (placed Tie doc)) ≡ Ok tt
    no_end_twice =
        (judged_both _ (flat_map (repeated Tie key.Ends) (placed Tie doc)) names_and_ends).1

    -- no group has a member twice
    pub no_member_twice
        : judged (flat_map (repeated Group key.Members) (placed Group doc)) ≡ Ok tt
    no_member_twice =
        (judged_both _ (flat_map (repeated Group key.Members) (placed Group doc)) names).1

    pub part_names_apart : are_distinct bytes_eq (part_names (parts_in doc)) ≡ true
    part_names_apart =
        let ns = named Section doc ++ named Tie doc ++ named Generator doc ++ named Thruster doc in
        let is = names_in_four (named Section doc) (named Tie doc) (named Generator doc)
        (named Thruster doc) _ _ _ _ (names-named Section doc) (names-named Tie doc)
        (names-named Generator doc) (names-named Thruster doc) in
        ap (are_distinct bytes_eq) (part_names-parts_in ∙ sym is)
        ∙ distinct_after [] ns refl
        (judged_both (faults_of_part_names doc) (twice_after [] (named Group doc)) both_names).0

    pub group_names_apart
        : are_distinct bytes_eq (map (λ g. g.name) (parts_in doc).groups.items) ≡ true
    group_names_apart =
        ap (are_distinct bytes_eq) (group_names-parts_in ∙ sym (names-named Group doc))
        ∙ distinct_after [] (named Group doc) refl
        (judged_both (faults_of_part_names doc) (twice_after [] (named Group doc)) both_names).1

-- there is a section, a thruster and a group, and no name stands twice
pub named_apart : (doc : Members) → HasRightKeys doc → judged (faults_of_names doc) ≡ Ok tt
    → IsTrue (are_named_apart (parts_in doc))
named_apart doc right names =
    let sections : nat_le 1 (length (names_of Section doc)) ≡ true =
    simp length-map (let few = some_sections doc right in grind (arith, nat_tests)) in
    let thrusters : nat_le 1 (length (parts_in doc).thrusters.items) ≡ true =
    simp length-map (let few = some_thrusters doc right in grind (arith, nat_tests)) in
    let groups : nat_le 1 (length (parts_in doc).groups.items) ≡ true =
    simp length-map (let few = some_groups doc right in grind (arith, nat_tests)) in
    and_from _ _
    (and_from _ _ (and_from _ _ (and_from _ _ sections thrusters) groups)
    (part_names_apart doc names))
    (group_names_apart doc names)
