-- Each entry of a legal history has an answer, and its call is within its ranges.
use Rattle.std.proofs.Common.{ℕ, ◌<◌, List, [], ◌∷◌, length, get_or, arith, IsTrue, zero, suc}
use Rattle.plant_model.specs.declared.plant.Parts.{Parts}
use Rattle.plant_core.specs.Machine.{IsCall, IsLegalFrom, Stand, is_answer, next}
use Rattle.plant_core.specs.declared.call.Entry.{Entry}

pub answer-at : (plant : Parts) (limit : ℕ) (stand : Stand) (history : List Entry)
    → IsLegalFrom plant limit stand history → (i : ℕ) → i < length history → (default : Entry)
    → IsTrue (is_answer (get_or history i default).reply)
answer-at plant limit stand [] legal i within default = absurd (omega arith)
answer-at plant limit stand (entry ∷ history) legal zero within default = legal.0.answered
answer-at plant limit stand (entry ∷ history) legal (suc i) within default =
    answer-at plant limit (next plant stand entry) history legal.1 i (omega arith) default

pub call-at : (plant : Parts) (limit : ℕ) (stand : Stand) (history : List Entry)
    → IsLegalFrom plant limit stand history → (i : ℕ) → i < length history → (default : Entry)
    → IsCall plant (get_or history i default).call
call-at plant limit stand [] legal i within default = absurd (omega arith)
call-at plant limit stand (entry ∷ history) legal zero within default = legal.0.call
call-at plant limit stand (entry ∷ history) legal (suc i) within default =
    call-at plant limit (next plant stand entry) history legal.1 i (omega arith) default
