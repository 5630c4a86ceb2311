use Rattle.std.proofs.Common.{◌≡◌, ◌∙◌, ◌+◌, ◌*◌, ◌%◌, ◌<◌, ◌^◌, map, true, ap, ap₂, sym}
use Rattle.std.proofs.Common.{rules, arith}
use Rattle.std.proofs.lemmas.Nat.{one_shl}
use Rattle.toml.specs.View.{view}
use Rattle.plant_model.specs.declared.limits.TheConstants.{MOST_PIECES}
use Rattle.plant_file.specs.PlantText.{are_barred}
use Rattle.plant_file.proofs.MaskBounds.{mask_step, place_there, step_bound}
use Rattle.plant_file.proofs.MaskLemmas.{places_of}
use Rattle.plant_file.proofs.thruster.mask.Goals as goal

pub overflow_cast-mask : goal.overflow_cast-mask
overflow_cast-mask c =
    let xs = c.list_at-value-items.result.now in
    let barred : are_barred MOST_PIECES (places_of (map view xs)) ≡ true =
    ap (λ ds. are_barred MOST_PIECES (places_of ds)) c.list_at-value-items.ensures ∙ c.requires in
    let there = place_there view xs c.loop-value.value-index c.value-item.result
    c.loop-value-test.true c.value-item.is MOST_PIECES barred in
    let small : c.natural.result < 2 ^ 16 = omega (arith, there, c.natural.ensures) in
    search rules

pub overflow_shl-mask : goal.overflow_shl-mask
overflow_shl-mask c =
    let xs = c.list_at-value-items.result.now in
    let barred : are_barred MOST_PIECES (places_of (map view xs)) ≡ true =
    ap (λ ds. are_barred MOST_PIECES (places_of ds)) c.list_at-value-items.ensures ∙ c.requires in
    let there = place_there view xs c.loop-value.value-index c.value-item.result
    c.loop-value-test.true c.value-item.is MOST_PIECES barred in
    omega (arith, there, c.natural.ensures)

pub overflow_add-mask : goal.overflow_add-mask
overflow_add-mask c =
    let xs = c.list_at-value-items.result.now in
    let i = c.loop-value.value-index in
    let x = c.value-item.result in
    let barred : are_barred MOST_PIECES (places_of (map view xs)) ≡ true =
    ap (λ ds. are_barred MOST_PIECES (places_of ds)) c.list_at-value-items.ensures ∙ c.requires in
    let there = place_there view xs i x c.loop-value-test.true c.value-item.is MOST_PIECES barred in
    let bound = step_bound view xs i x c.loop-value-test.true c.value-item.is MOST_PIECES barred in
    let place : c.natural.result < 16 = omega (arith, there, c.natural.ensures) in
    let bit = one_shl c.natural.result 16 place in
    let same = ap (λ p. 2 ^ p) c.natural.ensures in
    let small : c.loop-value.mask + 1 * 2 ^ c.natural.result % 65536 < 2 ^ 16 =
    omega (arith, bit, same, bound, c.loop-value.invariant) in
    search rules

pub loop-value-preserved : goal.loop-value-preserved
loop-value-preserved c =
    let xs = c.list_at-value-items.result.now in
    let i = c.loop-value.value-index in
    let x = c.value-item.result in
    let barred : are_barred MOST_PIECES (places_of (map view xs)) ≡ true =
    ap (λ ds. are_barred MOST_PIECES (places_of ds)) c.list_at-value-items.ensures ∙ c.requires in
    let there = place_there view xs i x c.loop-value-test.true c.value-item.is MOST_PIECES barred in
    let place : c.natural.result < 16 = omega (arith, there, c.natural.ensures) in
    ap₂ (λ a b. a + b) c.loop-value.invariant
    (one_shl c.natural.result 16 place ∙ ap (λ p. 2 ^ p) c.natural.ensures)
    ∙ sym (mask_step view xs i x c.loop-value-test.true c.value-item.is)
