-- The parts that a document describes are connected where each name that they cite is known.
use Rattle.std.proofs.Common.{◌≡◌, ℕ, suc, ◌+◌, ◌-◌, ◌<◌, ◌≤◌, ◌==◌, List, [], ◌∷◌, ◌++◌}
use Rattle.std.proofs.Common.{length, map, get_or, refl, ap, ap₂, sym, ◌∙◌, arith}
use Rattle.std.proofs.Common.{Bool, true, false, not, ◌||◌, ◌&&◌, cond, Ok}
use Rattle.std.specs.Prelude.{if◌then◌else◌, nat_lt, nat_le, IsTrue, option_map, slice_get}
use Rattle.std.specs.Prelude.{unwrap_or}
use Rattle.std.specs.List.{enumerate_from, flat_map, list_all, list_any}
use Rattle.std.specs.Str.{bytes_eq}
use Rattle.std.proofs.lemmas.Bool.{and_from, and_parts}
use Rattle.std.proofs.lemmas.Bool.Decides.{Decides-eqb, nat_tests}
use Rattle.std.proofs.lemmas.List.{length-append, length-map}
use Rattle.std.proofs.lemmas.List.Folds.{list_all-map}
use Rattle.std.proofs.lemmas.List.Sums.{prefix_len_stops}
use Rattle.std.proofs.lemmas.Slice.Eq.{bytes_eq-Decides}
use Rattle.toml.specs.Data.{Data, Members}
use Rattle.plant_model.specs.Plants.{are_connected, are_distinct, is_group, is_there, joins_two}
use Rattle.plant_model.specs.Plants.{member_eq}
use Rattle.plant_model.specs.declared.limits.TheConstants.{MOST_MEMBERS}
use Rattle.plant_model.specs.declared.parts.Member.{Member}
use Rattle.plant_model.specs.declared.parts.Member.TheVariants as member
use Rattle.plant_model.specs.declared.plant.Parts.{Parts}
use Rattle.plant_file.specs.declared.fault.Key.{Key}
use Rattle.plant_file.specs.declared.fault.Key.TheVariants as key
use Rattle.plant_file.specs.declared.fault.Part.{Part}
use Rattle.plant_file.specs.declared.fault.Part.TheVariants.{Generator, Group, Section, Thruster}
use Rattle.plant_file.specs.declared.fault.Part.TheVariants.{Tie}
use Rattle.plant_file.specs.declared.fault.PlantFault.{PlantFault}
use Rattle.plant_file.specs.declared.fault.PlantFault.TheVariants.{NameTwice, UnknownName}
use Rattle.plant_file.specs.declared.kind.Kind.TheVariants as kind
use Rattle.plant_file.specs.Described.{all_names, generator_in, group_in, held, list_at}
use Rattle.plant_file.specs.Described.{member_at, member_named, names_of, number_of, parts_in}
use Rattle.plant_file.specs.Described.{section_of, text_at, texts_at, thruster_in, tie_in}
use Rattle.plant_file.specs.Documents.{text_in}
use Rattle.plant_file.specs.Faults.{elements_at, judged, path_to}
use Rattle.plant_file.specs.Keys.{group_rows, needed, tie_rows}
use Rattle.plant_file.specs.Kinds.{exactly, from_to}
use Rattle.plant_file.specs.PlantText.{are_known, faults_of_names, faults_of_references, placed}
use Rattle.plant_file.specs.PlantText.{repeated, unfed, unknown, unless}
use Rattle.plant_file.specs.RightKeys.{HasRightKeys, has_right_keys}
use Rattle.plant_file.proofs.JudgedLemmas.{judged_both}
use Rattle.plant_file.proofs.KindLemmas.{right_at, texts_right}
use Rattle.plant_file.proofs.NamedApart.{false_if_not, neither, no_end_twice, no_member_twice}
use Rattle.plant_file.proofs.NamedApart.{not_false}
use Rattle.plant_file.proofs.RightLemmas.{groups_right as group_keys, ties_right}

-- a test without a fault passed
pub good_if : (good : Bool) (fault : PlantFault) → judged (unless good fault) ≡ Ok tt → good ≡ true
good_if true fault none = refl
good_if false fault none = absurd cc

-- elements without faults pass a test that has none where they pass
pub all_without : (faults : ℕ × Data → List PlantFault) (good : Data → Bool)
    → ((i : ℕ) (d : Data) → judged (faults (i, d)) ≡ Ok tt → good d ≡ true)
    → (i : ℕ) (ds : List Data) → judged (flat_map faults (enumerate_from i ds)) ≡ Ok tt
    → list_all good ds ≡ true
all_without faults good each i [] none = refl
all_without faults good each i (d ∷ ds) none =
    let both = judged_both (faults (i, d)) (flat_map faults (enumerate_from (i + 1) ds)) none in
    and_from _ _ (each i d both.0) (all_without faults good each (i + 1) ds both.1)

-- three tests that all pass make a fourth pass
pub all_by_three : {A : Type 0} (p q r s : A → Bool) (xs : List A)
    → ((x : A) → p x ≡ true → q x ≡ true → r x ≡ true → s x ≡ true)
    → list_all p xs ≡ true → list_all q xs ≡ true → list_all r xs ≡ true → list_all s xs ≡ true
all_by_three p q r s [] each ps qs rs = refl
all_by_three p q r s (x ∷ xs) each ps qs rs =
    let of_p = and_parts (p x) (list_all p xs) ps in
    let of_q = and_parts (q x) (list_all q xs) qs in
    let of_r = and_parts (r x) (list_all r xs) rs in
    and_from _ _ (each x of_p.0 of_q.0 of_r.0) (all_by_three p q r s xs each of_p.1 of_q.1 of_r.1)

-- a test fails where it would make one pass that fails
pub false_by : (r s : Bool) → (r ≡ true → s ≡ true) → s ≡ false → r ≡ false
false_by true s makes none = let passes = makes refl in absurd cc
false_by false s makes none = refl

true_if_not : (a : Bool) → not a ≡ false → a ≡ true
true_if_not true is = refl
true_if_not false is = absurd cc

known_if : (here more : Bool) (k n : ℕ) → (here || more) ≡ true → (more ≡ true → k < n)
    → cond (not here) (1 + k) 0 < suc n
known_if true more k n known later = omega arith
known_if false more k n known later = let there = later known in omega arith

-- a name that is known has a place
pub known_place : (name : List ℕ) (names : List (List ℕ))
    → list_any (bytes_eq name) names ≡ true → number_of name names < length names
known_place name [] known = absurd cc
known_place name (n ∷ ns) known =
    known_if (bytes_eq name n) (list_any (bytes_eq name) ns) (number_of name ns) (length ns) known
    (known_place name ns)

pub is_placed : (name : List ℕ) (names : List (List ℕ))
    → list_any (bytes_eq name) names ≡ true → nat_lt (number_of name names) (length names) ≡ true
is_placed name names known =
    let within = known_place name names known in
    grind (arith, nat_tests)

-- and it stands there
pub name_there : (name : List ℕ) (names : List (List ℕ))
    → number_of name names < length names → name ≡ get_or names (number_of name names) []
name_there name names within =
    let there = get_or names (number_of name names) [] in
    (bytes_eq-Decides name there).0
    (true_if_not (bytes_eq name there)
    (prefix_len_stops (λ y. not (bytes_eq name y)) names [] within))

module _ (names : List (List ℕ)) (a b : List ℕ) where
  module _ (known-a : list_any (bytes_eq a) names ≡ true)
      (known-b : list_any (bytes_eq b) names ≡ true) where
    -- names at one place are one
    pub same_name : number_of a names ≡ number_of b names → a ≡ b
    same_name same =
        name_there a names (known_place a names known-a)
        ∙ ap (λ place. get_or names place []) same
        ∙ sym (name_there b names (known_place b names known-b))

    -- so the places of two that differ do so too
    pub places_apart : bytes_eq a b ≡ false → (number_of a names == number_of b names) ≡ false
    places_apart other =
        false_by (number_of a names == number_of b names) (bytes_eq a b)
        (λ same. (bytes_eq-Decides a b).1
        (same_name ((Decides-eqb (number_of a names) (number_of b names)).0 same)))
        other

-- the place of the section that one of two texts is
abbrev pub place_at : ℕ → List (List ℕ) → List (List ℕ) → ℕ
place_at i names texts = unwrap_or (option_map (λ text. number_of text names) (slice_get texts i)) 0

-- two texts that differ and are known have two places
pub two_places : (names texts : List (List ℕ)) → length texts ≡ 2
    → are_known names texts ≡ true → are_distinct bytes_eq texts ≡ true
    → (nat_lt (place_at 0 names texts) (length names)
    && nat_lt (place_at 1 names texts) (length names)
    && not (place_at 0 names texts == place_at 1 names texts)) ≡ true
two_places names [] two known apart = absurd (omega arith)
two_places names (a ∷ []) two known apart = absurd (omega arith)
two_places names (a ∷ b ∷ []) two known apart =
    let first = and_parts (list_any (bytes_eq a) names) (are_known names (b ∷ [])) known in
    let second = and_parts (list_any (bytes_eq b) names) true first.1 in
    let other = and_parts (not (bytes_eq a b || false)) true apart in
    let differ = neither (bytes_eq a b) false (false_if_not (bytes_eq a b || false) other.0) in
    and_from _ _
    (and_from _ _ (is_placed a names first.0) (is_placed b names second.0))
    (not_false (places_apart names a b first.0 second.0 differ.0))
two_places names (a ∷ b ∷ c ∷ more) two known apart = absurd (omega arith)

-- a right tie has two ends
pub two_ends : (d : Data) → has_right_keys tie_rows d ≡ true → length (texts_at key.Ends d) ≡ 2
two_ends d right =
    let row = needed key.Ends (kind.Texts (exactly 2)) in
    let few = texts_right key.Ends (exactly 2) (held key.Ends d)
    (right_at tie_rows 1 row d (omega arith) right) in
    omega (arith, length-map (list_at key.Ends d) text_in)

-- a right group has a member
pub some_members : (d : Data) → has_right_keys group_rows d ≡ true
    → 1 ≤ length (texts_at key.Members d)
some_members d right =
    let row = needed key.Members (kind.Texts (from_to 1 MOST_MEMBERS)) in
    let few = texts_right key.Members (from_to 1 MOST_MEMBERS) (held key.Members d)
    (right_at group_rows 1 row d (omega arith) right) in
    omega (arith, length-map (list_at key.Members d) text_in)

-- a section that is known
fed : (names : List (List ℕ)) (text : List ℕ) → are_known names (text ∷ []) ≡ true
    → nat_lt (number_of text names) (length names) ≡ true
fed names text known =
    is_placed text names (and_parts (list_any (bytes_eq text) names) true known).0

module _ (doc : Members) (references : judged (faults_of_references doc) ≡ Ok tt) where
  no_unfed : judged (flat_map (unknown (names_of Section doc) Tie key.Ends) (placed Tie doc)
      ++ flat_map (unfed (names_of Section doc) Generator) (placed Generator doc)
      ++ flat_map (unfed (names_of Section doc) Thruster) (placed Thruster doc)) ≡ Ok tt
  no_unfed = (judged_both _
      (flat_map (unknown (all_names doc) Group key.Members) (placed Group doc)) references).0

  no_unfed_generator
      : judged (flat_map (unknown (names_of Section doc) Tie key.Ends) (placed Tie doc)
      ++ flat_map (unfed (names_of Section doc) Generator) (placed Generator doc)) ≡ Ok tt
  no_unfed_generator = (judged_both _
      (flat_map (unfed (names_of Section doc) Thruster) (placed Thruster doc)) no_unfed).0

  pub ends_known
      : list_all (λ d. are_known (names_of Section doc) (texts_at key.Ends d)) (elements_at Tie doc)
      ≡ true
  ends_known =
      let names = names_of Section doc in
      all_without (unknown names Tie key.Ends) (λ d. are_known names (texts_at key.Ends d))
      (λ i d none. good_if (are_known names (texts_at key.Ends d))
      (UnknownName (path_to Tie i key.Ends)) none) 0 (elements_at Tie doc)
      (judged_both _ (flat_map (unfed names Generator) (placed Generator doc)) no_unfed_generator).0

  pub members_known
      : list_all (λ d. are_known (all_names doc) (texts_at key.Members d)) (elements_at Group doc)
      ≡ true
  members_known =
      let names = all_names doc in
      all_without (unknown names Group key.Members) (λ d. are_known names (texts_at key.Members d))
      (λ i d none. good_if (are_known names (texts_at key.Members d))
      (UnknownName (path_to Group i key.Members)) none) 0 (elements_at Group doc)
      (judged_both _ (flat_map (unknown names Group key.Members) (placed Group doc)) references).1

  fed_from : (part : Part)
      → judged (flat_map (unfed (names_of Section doc) part) (placed part doc)) ≡ Ok tt
      → list_all (λ d. is_there (parts_in doc) (member.Section (section_of doc d)))
      (elements_at part doc) ≡ true
  fed_from part none =
      let names = names_of Section doc in
      all_without (unfed names part)
      (λ d. is_there (parts_in doc) (member.Section (section_of doc d)))
      (λ i d none. fed names (text_at key.Section d)
      (good_if (are_known names (text_at key.Section d ∷ []))
      (UnknownName (path_to part i key.Section)) none)) 0 (elements_at part doc) none

  generators_fed
      : list_all (λ g. is_there (parts_in doc) (member.Section g.section))
      (parts_in doc).generators.items ≡ true
  generators_fed =
      list_all-map (λ g. is_there (parts_in doc) (member.Section g.section)) (generator_in doc)
      (elements_at Generator doc)
      ∙ fed_from Generator (judged_both _
      (flat_map (unfed (names_of Section doc) Generator) (placed Generator doc))
      no_unfed_generator).1

  thrusters_fed
      : list_all (λ t. is_there (parts_in doc) (member.Section t.section))
      (parts_in doc).thrusters.items ≡ true
  thrusters_fed =
      list_all-map (λ t. is_there (parts_in doc) (member.Section t.section)) (thruster_in doc)
      (elements_at Thruster doc)
      ∙ fed_from Thruster (judged_both _
      (flat_map (unfed (names_of Section doc) Thruster) (placed Thruster doc)) no_unfed).1

module _ (doc : Members) (names : judged (faults_of_names doc) ≡ Ok tt) where
  pub texts_apart : (part : Part) (key : Key)
      → judged (flat_map (repeated part key) (placed part doc)) ≡ Ok tt
      → list_all (λ d. are_distinct bytes_eq (texts_at key d)) (elements_at part doc) ≡ true
  texts_apart part key none =
      all_without (repeated part key) (λ d. are_distinct bytes_eq (texts_at key d))
      (λ i d none. good_if (are_distinct bytes_eq (texts_at key d))
      (NameTwice (path_to part i key)) none) 0 (elements_at part doc) none

  module _ (right : HasRightKeys doc) (references : judged (faults_of_references doc) ≡ Ok tt) where
    ties_join : list_all (joins_two (parts_in doc)) (parts_in doc).ties.items ≡ true
    ties_join =
        list_all-map (joins_two (parts_in doc)) (tie_in doc) (elements_at Tie doc)
        ∙ all_by_three (has_right_keys tie_rows)
        (λ d. are_known (names_of Section doc) (texts_at key.Ends d))
        (λ d. are_distinct bytes_eq (texts_at key.Ends d))
        (λ d. joins_two (parts_in doc) (tie_in doc d)) (elements_at Tie doc)
        (λ d keys known apart.
        two_places (names_of Section doc) (texts_at key.Ends d) (two_ends d keys) known apart)
        (ties_right doc right) (ends_known doc references)
        (texts_apart Tie key.Ends (no_end_twice doc names))

-- a tie has two different ends, and each part is fed by a section that is there
pub connected : (doc : Members) → HasRightKeys doc → judged (faults_of_names doc) ≡ Ok tt
    → judged (faults_of_references doc) ≡ Ok tt → IsTrue (are_connected (parts_in doc))
connected doc right names references =
    and_from _ _
    (and_from _ _ (ties_join doc names right references) (generators_fed doc references))
    (thrusters_fed doc references)

-- where a part stands among all, where there are so many sections, ties and generators
abbrev pub place_of : ℕ → ℕ → ℕ → Member → ℕ
place_of s t g (member.Section n) = n
place_of s t g (member.Tie n) = s + n
place_of s t g (member.Generator n) = s + t + n
place_of s t g (member.Thruster n) = s + t + g + n

-- parts that are one stand at one place
same_place : (s t g : ℕ) (a b : Member) → member_eq a b ≡ true → place_of s t g a ≡ place_of s t g b
same_place s t g (member.Section m) (member.Section n) same = (Decides-eqb m n).0 same
same_place s t g (member.Tie m) (member.Tie n) same =
    ap (λ k. s + k) ((Decides-eqb m n).0 same)
same_place s t g (member.Generator m) (member.Generator n) same =
    ap (λ k. s + t + k) ((Decides-eqb m n).0 same)
same_place s t g (member.Thruster m) (member.Thruster n) same =
    ap (λ k. s + t + g + k) ((Decides-eqb m n).0 same)
same_place s t g a b same = absurd cc

module _ (s t g place : ℕ) where
  place_if : (a b c : Bool) → nat_lt place s ≡ a → nat_lt place (s + t) ≡ b
      → nat_lt place (s + t + g) ≡ c
      → place_of s t g (if a then member.Section place
      else (if b then member.Tie (place - s)
      else (if c then member.Generator (place - (s + t))
      else member.Thruster (place - (s + t + g))))) ≡ place
  place_if true b c first second third = refl
  place_if false true c first second third = grind (arith, nat_tests)
  place_if false false true first second third = grind (arith, nat_tests)
  place_if false false false first second third = grind (arith, nat_tests)

  -- the part at a place stands there
  pub place_of-member_at : place_of s t g (member_at s t g place) ≡ place
  place_of-member_at =
      place_if (nat_lt place s) (nat_lt place (s + t)) (nat_lt place (s + t + g)) refl refl refl

module _ (p : Parts) (place : ℕ) where
  there_if : (a b c : Bool) → (s t g : ℕ) → length p.sections.items ≡ s
      → length p.ties.items ≡ t → length p.generators.items ≡ g
      → nat_lt place s ≡ a → nat_lt place (s + t) ≡ b → nat_lt place (s + t + g) ≡ c
      → place < s + t + g + length p.thrusters.items
      → is_there p (if a then member.Section place
      else (if b then member.Tie (place - s)
      else (if c then member.Generator (place - (s + t))
      else member.Thruster (place - (s + t + g))))) ≡ true
  there_if true b c s t g is-s is-t is-g first second third within = grind (arith, nat_tests)
  there_if false true c s t g is-s is-t is-g first second third within = grind (arith, nat_tests)
  there_if false false true s t g is-s is-t is-g first second third within =
      grind (arith, nat_tests)
  there_if false false false s t g is-s is-t is-g first second third within =
      grind (arith, nat_tests)

  -- the part at a place below the number of parts is there
  pub member_there : (s t g : ℕ) → length p.sections.items ≡ s
      → length p.ties.items ≡ t → length p.generators.items ≡ g
      → place < s + t + g + length p.thrusters.items
      → is_there p (member_at s t g place) ≡ true
  member_there s t g is-s is-t is-g within =
      there_if (nat_lt place s) (nat_lt place (s + t)) (nat_lt place (s + t + g)) s t g
      is-s is-t is-g refl refl refl within

module _ {A B : Type 0} (same : A → A → Bool) (other : B → B → Bool) (f : A → B) (good : A → Bool)
    (apart : (a b : A) → good a ≡ true → good b ≡ true → same a b ≡ false
    → other (f a) (f b) ≡ false) where
  none_of : (a : A) (xs : List A) → good a ≡ true → list_all good xs ≡ true
      → list_any (same a) xs ≡ false → list_any (other (f a)) (map f xs) ≡ false
  none_of a [] is all none = refl
  none_of a (x ∷ xs) is all none =
      let each = and_parts (good x) (list_all good xs) all in
      let both = neither (same a x) (list_any (same a) xs) none in
      ap₂ (λ y z. y || z) (apart a x is each.0 both.0) (none_of a xs is each.1 both.1)

  -- what is made of elements that differ differs
  pub distinct_of : (xs : List A) → list_all good xs ≡ true → are_distinct same xs ≡ true
      → are_distinct other (map f xs) ≡ true
  distinct_of [] all distinct = refl
  distinct_of (x ∷ xs) all distinct =
      let each = and_parts (good x) (list_all good xs) all in
      let both = and_parts (not (list_any (same x) xs)) (are_distinct same xs) distinct in
      let none = false_if_not (list_any (same x) xs) both.0 in
      and_from _ _ (not_false (none_of x xs each.0 each.1 none)) (distinct_of xs each.1 both.1)

-- what holds of what is made of each good element holds of all
pub all_of : {A B : Type 0} (f : A → B) (good : A → Bool) (p : B → Bool)
    → ((a : A) → good a ≡ true → p (f a) ≡ true) → (xs : List A)
    → list_all good xs ≡ true → list_all p (map f xs) ≡ true
all_of f good p each [] all = refl
all_of f good p each (x ∷ xs) all =
    let both = and_parts (good x) (list_all good xs) all in
    and_from _ _ (each x both.0) (all_of f good p each xs both.1)

module _ (doc : Members) where
  -- known names that differ are different parts
  members_apart : (a b : List ℕ) → list_any (bytes_eq a) (all_names doc) ≡ true
      → list_any (bytes_eq b) (all_names doc) ≡ true → bytes_eq a b ≡ false
      → member_eq (member_named doc a) (member_named doc b) ≡ false
  members_apart a b known-a known-b other =
      let s = length (names_of Section doc) in
      let t = length (names_of Tie doc) in
      let g = length (names_of Generator doc) in
      false_by (member_eq (member_named doc a) (member_named doc b)) (bytes_eq a b)
      (λ same. (bytes_eq-Decides a b).1 (same_name (all_names doc) a b known-a known-b
      (sym (place_of-member_at s t g (number_of a (all_names doc)))
      ∙ same_place s t g (member_named doc a) (member_named doc b) same
      ∙ place_of-member_at s t g (number_of b (all_names doc)))))
      other

  -- a known name is a part that is there
  member_is_there : (a : List ℕ) → list_any (bytes_eq a) (all_names doc) ≡ true
      → is_there (parts_in doc) (member_named doc a) ≡ true
  member_is_there a known =
      let sections = names_of Section doc in
      let ties = names_of Tie doc in
      let generators = names_of Generator doc in
      let thrusters = names_of Thruster doc in
      let long_ties : length (parts_in doc).ties.items ≡ length ties =
      length-map (elements_at Tie doc) (tie_in doc)
      ∙ sym (length-map (elements_at Tie doc) (text_at key.Name)) in
      let long_generators : length (parts_in doc).generators.items ≡ length generators =
      length-map (elements_at Generator doc) (generator_in doc)
      ∙ sym (length-map (elements_at Generator doc) (text_at key.Name)) in
      let long_thrusters : length (parts_in doc).thrusters.items ≡ length thrusters =
      length-map (elements_at Thruster doc) (thruster_in doc)
      ∙ sym (length-map (elements_at Thruster doc) (text_at key.Name)) in
      let place = number_of a (all_names doc) in
      let before : place < length (sections ++ ties ++ generators ++ thrusters) =
      known_place a (all_names doc) known in
      let within : place < length sections + length ties + length generators
      + length (parts_in doc).thrusters.items =
      omega (
        arith,
        length-append sections ties,
        length-append (sections ++ ties) generators,
        length-append (sections ++ ties ++ generators) thrusters,
      ) in
      member_there (parts_in doc) place (length sections) (length ties) (length generators)
      refl long_ties long_generators within

  group_right : (d : Data) → has_right_keys group_rows d ≡ true
      → are_known (all_names doc) (texts_at key.Members d) ≡ true
      → are_distinct bytes_eq (texts_at key.Members d) ≡ true
      → is_group (parts_in doc) (group_in doc d) ≡ true
  group_right d keys known apart =
      let texts = texts_at key.Members d in
      let is_known = λ (a : List ℕ). list_any (bytes_eq a) (all_names doc) in
      let some : nat_le 1 (length (map (member_named doc) texts)) ≡ true =
      simp length-map (let few = some_members d keys in grind (arith, nat_tests)) in
      and_from _ _
      (and_from _ _ some
      (distinct_of bytes_eq member_eq (member_named doc) is_known members_apart texts known apart))
      (all_of (member_named doc) is_known (is_there (parts_in doc)) member_is_there texts known)

-- a group has members, no part twice, and each is there
pub groups_right : (doc : Members) → HasRightKeys doc → judged (faults_of_names doc) ≡ Ok tt
    → judged (faults_of_references doc) ≡ Ok tt
    → IsTrue (list_all (is_group (parts_in doc)) (parts_in doc).groups.items)
groups_right doc right names references =
    list_all-map (is_group (parts_in doc)) (group_in doc) (elements_at Group doc)
    ∙ all_by_three (has_right_keys group_rows)
    (λ d. are_known (all_names doc) (texts_at key.Members d))
    (λ d. are_distinct bytes_eq (texts_at key.Members d))
    (λ d. is_group (parts_in doc) (group_in doc d)) (elements_at Group doc)
    (group_right doc) (group_keys doc right) (members_known doc references)
    (texts_apart doc names Group key.Members (no_member_twice doc names))
