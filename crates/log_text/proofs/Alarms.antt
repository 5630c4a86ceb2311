-- The lines of the alarms that are told, one alarm after another.
use Rattle.std.proofs.Common.{◌≡◌, ◌∙◌, ℕ, ◌+◌, List, [], ◌∷◌, ◌++◌, take, Some, ap}
use Rattle.std.proofs.Common.{sym, append_assoc}
use Rattle.std.specs.List.{filter, flat_map}
use Rattle.std.specs.Prelude.{slice_get}
use Rattle.std.proofs.lemmas.Grind.{flat_map-append}
use Rattle.std.proofs.lemmas.List.{take_more}
use Rattle.std.proofs.lemmas.List.Elements.{filter-append}
use Rattle.std.proofs.lemmas.Option.{get_or_from_slice_get, slice_get_within}
use Rattle.alarm_log.specs.declared.alarm.Alarm.{Alarm}
use Rattle.plant_model.specs.declared.plant.Parts.{Parts}
use Rattle.log_text.specs.Texts.{alarm_text, alarms_text, is_told}

alarms_text-append : (plant : Parts) (first second : List Alarm)
    → alarms_text plant (first ++ second) ≡ alarms_text plant first ++ alarms_text plant second
alarms_text-append plant first second =
    ap (flat_map (alarm_text plant)) (filter-append is_told first second)
    ∙ flat_map-append (alarm_text plant) (filter is_told first) (filter is_told second)

-- the text of one alarm more
pub alarms_text-more : (plant : Parts) (ring : List Alarm) (place : ℕ) (alarm : Alarm)
    (old new begin : List ℕ) → slice_get ring place ≡ Some alarm
    → old ≡ begin ++ alarms_text plant (take place ring)
    → new ≡ old ++ alarms_text plant (alarm ∷ [])
    → new ≡ begin ++ alarms_text plant (take (place + 1) ring)
alarms_text-more plant ring place alarm old new begin there so_far more =
    let next : take (place + 1) ring ≡ take place ring ++ alarm ∷ [] =
    take_more ring place alarm (slice_get_within ring place alarm there)
    ∙ ap (λ (a : Alarm). take place ring ++ a ∷ [])
    (get_or_from_slice_get ring place alarm alarm there) in
    more
    ∙ ap (λ (t : List ℕ). t ++ alarms_text plant (alarm ∷ [])) so_far
    ∙ append_assoc begin (alarms_text plant (take place ring)) (alarms_text plant (alarm ∷ []))
    ∙ ap (λ (t : List ℕ). begin ++ t)
    (sym (ap (alarms_text plant) next ∙ alarms_text-append plant (take place ring) (alarm ∷ [])))
