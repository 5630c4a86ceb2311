use Rattle.std.proofs.Common.{◌≡◌, ◌∙◌, ◌==◌, ◌<◌, ◌+◌, ℕ, Bool, false, length, slice_index_or, inl}
use Rattle.std.proofs.Common.{inr, ap, subst, sym, rules, arith}
use Rattle.std.proofs.lemmas.Bool.Decides.{Decides-eqb, nat_tests}
use Rattle.plant_model.specs.declared.parts.Generator.{Generator}
use Rattle.bus_topology.specs.declared.map.TheConstants.{NO_ISLAND}
use Rattle.bus_topology.specs.Islands.{has_number}
use Rattle.bus_topology.proofs.Plants.{power_within}
use Rattle.bus_topology.proofs.Totals.{IsTotalSoFar, counted_more, left_more, total_when_taken}
use Rattle.bus_topology.proofs.power.power.Goals as goal
use Rattle.bus_topology.proofs.power.power.Goals.{then-standing-place+then-number-island}
use Rattle.bus_topology.proofs.power.power.Goals.{else-standing-place}
use Rattle.bus_topology.proofs.power.power.Goals.{else-standing-place-via-then-standing-place+else-number-island}
use Rattle.bus_topology.proofs.power.power.Goals.{else-standing-place-via-else-standing-place}

pub overflow_add-power : goal.overflow_add-power
overflow_add-power c =
    let items : c.deref-generator-items.result.now ≡ c.args.parts.now.generators.items =
    c.deref-generator-items.ensures.0 in
    let long = ap length items in
    let small =
    power_within c.args.parts.now c.requires c.loop-place.place c.generator-item.result
    (omega arith) (rw items at c.generator-item.is) in
    let most = c.loop-place.invariant.most in
    let short : c.loop-place.place < 8 = search rules in
    search rules

pub loop-place-preserved : goal.loop-place-preserved
loop-place-preserved c =
    let items : c.deref-generator-items.result.now ≡ c.args.parts.now.generators.items =
    c.deref-generator-items.ensures.0 in
    let long = ap length items in
    let is_part = rw items at c.generator-item.is in
    let here : c.loop-place.place < length c.args.parts.now.generators.items = omega arith in
    let within : c.loop-place.place < length c.args.standing.now.running = search rules in
    let small =
    power_within c.args.parts.now c.requires c.loop-place.place c.generator-item.result here
    is_part in
    let on_island : Generator → Bool =
    λ g. has_number c.args.islands.now.of c.args.island g.section in
    let value : Generator → ℕ = λ g. g.power in
    let after =
    IsTotalSoFar on_island value c.args.parts.now.generators.items c.args.standing.now.running
    (c.loop-place.place + 1) in
    elim c.if-standing-place.branch [
      | then-standing-place+then-number-island w ↦
          (let there =
          Decides-eqb
          (slice_index_or c.args.islands.now.of c.generator-item.result.section NO_ISLAND)
          c.args.island in
          subst after (sym w.power-is)
          (counted_more on_island value c.args.parts.now.generators.items
          c.args.standing.now.running c.loop-place.place c.loop-place.power
          c.generator-item.result here within is_part c.loop-place.invariant
          w.if-standing-place.true (there.1 (sym w.number.ensures ∙ w.if-number-island.true))
          small))
      | else-standing-place w ↦
          subst after (sym w.power-is)
          (left_more on_island value c.args.parts.now.generators.items c.args.standing.now.running
          c.loop-place.place c.loop-place.power c.generator-item.result here within is_part
          c.loop-place.invariant
          (elim w.else-standing-place.branch [
            | else-standing-place-via-then-standing-place+else-number-island w' ↦
                inr (let elsewhere : (slice_index_or c.args.islands.now.of
                c.generator-item.result.section NO_ISLAND == c.args.island) ≡ false =
                grind (arith, nat_tests) in elsewhere)
            | else-standing-place-via-else-standing-place w' ↦ inl w'.if-standing-place.false
          ]))
    ]

pub returns-clause-value : goal.returns-clause-value
returns-clause-value c =
    let items : c.deref-generator-items.result.now ≡ c.args.parts.now.generators.items =
    c.deref-generator-items.ensures.0 in
    let all = ap length items in
    total_when_taken (λ (g : Generator). has_number c.args.islands.now.of c.args.island g.section)
    (λ (g : Generator). g.power) c.args.parts.now.generators.items c.args.standing.now.running
    c.loop-place.place c.loop-place.power (omega arith) c.loop-place.invariant
