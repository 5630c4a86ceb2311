-- The first fault of four lists of faults, one after the other.
use Rattle.std.proofs.Common.{◌≡◌, List, ◌++◌, Result, Ok, Err, ap, sym, ◌∙◌}
use Rattle.std.proofs.lemmas.Result.{err_from_is_err_and}
use Rattle.std.specs.Prelude.{IsErrAnd}
use Rattle.plant_file.specs.declared.fault.PlantFault.{PlantFault}
use Rattle.plant_file.specs.Faults.{judged}
use Rattle.plant_file.proofs.JudgedLemmas.{judged_at, judged_past}

-- what the exit of a `?` returns, where the answer is the call's fault
pub failed_with : (r answer : Result (Unit {0}) PlantFault) (fault : PlantFault)
    → IsErrAnd r (λ y. y ≡ fault) → answer ≡ Err fault → r ≡ answer
failed_with r answer fault failed is =
    let out = err_from_is_err_and r failed in
    out.1 ∙ ap Err out.2 ∙ sym is

module _ (a b c d : List PlantFault) where
  pub first_of_four : (fault : PlantFault) → judged a ≡ Err fault
      → judged (a ++ b ++ c ++ d) ≡ Err fault
  first_of_four fault found =
      judged_at (a ++ b ++ c) d fault (judged_at (a ++ b) c fault (judged_at a b fault found))

  pub second_of_four : (fault : PlantFault) → judged a ≡ Ok tt → judged b ≡ Err fault
      → judged (a ++ b ++ c ++ d) ≡ Err fault
  second_of_four fault one found =
      judged_at (a ++ b ++ c) d fault (judged_at (a ++ b) c fault (judged_past a b one ∙ found))

  pub third_of_four : (fault : PlantFault) → judged a ≡ Ok tt → judged b ≡ Ok tt
      → judged c ≡ Err fault → judged (a ++ b ++ c ++ d) ≡ Err fault
  third_of_four fault one two found =
      judged_at (a ++ b ++ c) d fault (judged_past (a ++ b) c (judged_past a b one ∙ two) ∙ found)

  pub last_of_four : judged a ≡ Ok tt → judged b ≡ Ok tt → judged c ≡ Ok tt
      → judged (a ++ b ++ c ++ d) ≡ judged d
  last_of_four one two three =
      judged_past (a ++ b ++ c) d (judged_past (a ++ b) c (judged_past a b one ∙ two) ∙ three)
