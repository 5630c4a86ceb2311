-- What a call answers, where memory may run out.
use Rattle.std.specs.Prelude.{◌≡◌, ◌⊎◌, Result, Ok, Err, MatchResult}
use Rattle.plant_file.specs.declared.fault.PlantFault.{PlantFault}
use Rattle.plant_file.specs.declared.fault.PlantFault.TheVariants.{NoMemory}

-- the result, seen by view, is the answer, or memory ran out
abbrev pub IsAnswer : {X Y : Type 0} → (X → Y) → Result X PlantFault → Result Y PlantFault → Type 0
IsAnswer view result answer =
    MatchResult result (λ x. answer ≡ Ok (view x)) (λ e. (e ≡ NoMemory) ⊎ (answer ≡ Err e))
