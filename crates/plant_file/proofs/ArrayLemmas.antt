-- Arrays of tables: how many elements one without faults has, and the elements with their places.
use Rattle.std.proofs.lemmas.List.{length-map}
use Rattle.std.proofs.Common.{◌≡◌, ℕ, ◌<◌, ◌≤◌, List, [], ◌∷◌, length, map, get_or, Bool, true}
use Rattle.std.proofs.Common.{false, Option, Some, None, Ok, cond, ◌^◌, ap, ◌∙◌, arith}
use Rattle.std.proofs.lemmas.Bool.Decides.{nat_tests}
use Rattle.std.proofs.lemmas.List.FromFn.{length-enumerate_from, get_or-enumerate_from}
use Rattle.std.proofs.Math.ListN.{get_or-map}
use Rattle.std.proofs.Math.Nat.{zero-add}
use Rattle.std.specs.List.{enumerate_from}
use Rattle.toml.specs.Data.{Data, Members, get_member}
use Rattle.plant_file.specs.declared.fault.Part.{Part}
use Rattle.plant_file.specs.declared.fault.Part.TheVariants.{Top, Controller, Section, Tie}
use Rattle.plant_file.specs.declared.fault.Part.TheVariants.{Generator, Thruster, Group}
use Rattle.plant_file.specs.declared.key.Format.{Format}
use Rattle.plant_file.specs.declared.key.Format.TheVariants.{One, Two}
use Rattle.plant_file.specs.declared.kind.Count.{Count}
use Rattle.plant_file.specs.Documents.{list_in}
use Rattle.plant_file.specs.declared.fault.Key.TheVariants.{Whole}
use Rattle.plant_file.specs.declared.fault.PlantFault.TheVariants.{WrongKind}
use Rattle.plant_file.specs.Faults.{array_faults, count_faults, elements_at, elements_in}
use Rattle.plant_file.specs.Faults.{faults_of_keys, is_array_of_tables, judged, part_faults}
use Rattle.plant_file.specs.Faults.{path_to, HasShortArrays}
use Rattle.plant_file.specs.Texts.{part_text}
use Rattle.plant_file.proofs.JudgedLemmas.{judged_both}
use Rattle.plant_file.specs.Keys.{count_of}

counted : (part : Part) (count : Count) (n : ℕ) → judged (count_faults part count n) ≡ Ok tt
    → n ≤ count.most
counted part count n none = grind (arith, nat_tests)

counted_if : (good : Bool) (part : Part) (count : Count) (d : Data)
    → judged (cond good (count_faults part count (length (list_in d)))
    (WrongKind (path_to part 0 Whole) ∷ [])) ≡ Ok tt → length (list_in d) ≤ count.most
counted_if true part count d none = counted part count (length (list_in d)) none
counted_if false part count d none = absurd cc

-- an array of tables without a fault has at most as many as its limit says
pub length-elements_in : (part : Part) (count : Count) (held : Option Data)
    → judged (array_faults part count held) ≡ Ok tt → length (elements_in held) ≤ count.most
length-elements_in part count None none = omega arith
length-elements_in part count (Some d) none = counted_if (is_array_of_tables d) part count d none

-- so the places of its elements fit a path
pub length-elements_at : (format : Format) (part : Part) (doc : Members)
    → judged (array_faults part (count_of format part) (get_member (part_text part) doc)) ≡ Ok tt
    → length (elements_at part doc) < 2 ^ 32
length-elements_at format Top doc none = omega arith
length-elements_at format Controller doc none = omega arith
length-elements_at format Section doc none =
    omega (
      arith,
      length-elements_in Section (count_of format Section)
          (get_member (part_text Section) doc) none,
    )
length-elements_at format Tie doc none =
    omega (
      arith,
      length-elements_in Tie (count_of format Tie) (get_member (part_text Tie) doc) none,
    )
length-elements_at format Generator doc none =
    omega (
      arith,
      length-elements_in Generator (count_of format Generator)
          (get_member (part_text Generator) doc) none,
    )
length-elements_at format Thruster doc none =
    omega (
      arith,
      length-elements_in Thruster (count_of format Thruster) (get_member (part_text Thruster) doc)
          none,
    )
length-elements_at One Group doc none =
    omega (
      arith,
      length-elements_in Group (count_of One Group) (get_member (part_text Group) doc) none,
    )
length-elements_at Two Group doc none =
    omega (
      arith,
      length-elements_in Group (count_of Two Group) (get_member (part_text Group) doc) none,
    )

without_part : (format : Format) (part : Part) (doc : Members)
    → judged (part_faults format doc part) ≡ Ok tt → length (elements_at part doc) < 2 ^ 32
without_part format part doc none = length-elements_at format part doc (judged_both _ _ none).0

each : (format : Format) (doc : Members)
    → judged (part_faults format doc Section) ≡ Ok tt → judged (part_faults format doc Tie) ≡ Ok tt
    → judged (part_faults format doc Generator) ≡ Ok tt
    → judged (part_faults format doc Thruster) ≡ Ok tt
    → judged (part_faults format doc Group) ≡ Ok tt → (part : Part)
    → length (elements_at part doc) < 2 ^ 32
each format doc s t g h r Top = omega arith
each format doc s t g h r Controller = omega arith
each format doc s t g h r Section = without_part format Section doc s
each format doc s t g h r Tie = without_part format Tie doc t
each format doc s t g h r Generator = without_part format Generator doc g
each format doc s t g h r Thruster = without_part format Thruster doc h
each format doc s t g h r Group = without_part format Group doc r

-- all arrays of a document whose keys have no faults are short
pub HasShortArrays-from_judged : (format : Format) (doc : Members)
    → judged (faults_of_keys format doc) ≡ Ok tt → HasShortArrays doc
HasShortArrays-from_judged format doc none =
    let sections = judged_both _ _ (judged_both _ _ none).1 in
    let ties = judged_both _ _ sections.1 in
    let generators = judged_both _ _ ties.1 in
    let thrusters = judged_both _ _ generators.1 in
    let groups = judged_both _ _ thrusters.1 in
    record { short = each format doc sections.0 ties.0 generators.0 thrusters.0 groups.0 }

module _ {A B : Type 0} (f : A → B) (xs : List A) where
  pub length-placed : length (enumerate_from 0 (map f xs)) ≡ length xs
  length-placed = length-enumerate_from 0 (map f xs) ∙ length-map xs f

  -- an element with its place
  pub get_or-placed : (i : ℕ) (d : A) → i < length xs
      → get_or (enumerate_from 0 (map f xs)) i (0, f d) ≡ (i, f (get_or xs i d))
  get_or-placed i d within =
      let long : i < length (map f xs) = omega (arith, length-map xs f) in
      get_or-enumerate_from 0 (map f xs) i (0, f d) long
      ∙ ap (λ n. (n, get_or (map f xs) i (f d))) (zero-add i)
      ∙ ap (λ y. (i, y)) (get_or-map f xs i d)
