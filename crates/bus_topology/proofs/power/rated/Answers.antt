use Rattle.std.proofs.Common.{◌≡◌, ◌∙◌, ◌==◌, ◌<◌, ◌+◌, ℕ, Bool, false, length, slice_index_or, inl}
use Rattle.std.proofs.Common.{inr, ap, subst, sym, rules, arith}
use Rattle.std.proofs.lemmas.Bool.Decides.{Decides-eqb, nat_tests}
use Rattle.plant_model.specs.declared.parts.Thruster.{Thruster}
use Rattle.bus_topology.specs.declared.map.TheConstants.{NO_ISLAND}
use Rattle.bus_topology.specs.Islands.{has_number}
use Rattle.bus_topology.proofs.Plants.{rated_within}
use Rattle.bus_topology.proofs.Totals.{IsTotalSoFar, counted_more, left_more, total_when_taken}
use Rattle.bus_topology.proofs.power.rated.Goals as goal
use Rattle.bus_topology.proofs.power.rated.Goals.{then-standing-place+then-number-island}
use Rattle.bus_topology.proofs.power.rated.Goals.{else-standing-place}
use Rattle.bus_topology.proofs.power.rated.Goals.{else-standing-place-via-then-standing-place+else-number-island}
use Rattle.bus_topology.proofs.power.rated.Goals.{else-standing-place-via-else-standing-place}

pub overflow_add-rated : goal.overflow_add-rated
overflow_add-rated c =
    let items : c.deref-thruster-items.result.now ≡ c.args.parts.now.thrusters.items =
    c.deref-thruster-items.ensures.0 in
    let long = ap length items in
    let small =
    rated_within c.args.parts.now c.requires c.loop-place.place c.thruster-item.result
    (omega arith) (rw items at c.thruster-item.is) in
    let most = c.loop-place.invariant.most in
    let short : c.loop-place.place < 12 = search rules in
    search rules

pub loop-place-preserved : goal.loop-place-preserved
loop-place-preserved c =
    let items : c.deref-thruster-items.result.now ≡ c.args.parts.now.thrusters.items =
    c.deref-thruster-items.ensures.0 in
    let long = ap length items in
    let is_part = rw items at c.thruster-item.is in
    let here : c.loop-place.place < length c.args.parts.now.thrusters.items = omega arith in
    let within : c.loop-place.place < length c.args.standing.now.selected = search rules in
    let small =
    rated_within c.args.parts.now c.requires c.loop-place.place c.thruster-item.result here
    is_part in
    let on_island : Thruster → Bool =
    λ t. has_number c.args.islands.now.of c.args.island t.section in
    let value : Thruster → ℕ = λ t. t.rated in
    let after =
    IsTotalSoFar on_island value c.args.parts.now.thrusters.items c.args.standing.now.selected
    (c.loop-place.place + 1) in
    elim c.if-standing-place.branch [
      | then-standing-place+then-number-island w ↦
          (let there =
          Decides-eqb
          (slice_index_or c.args.islands.now.of c.thruster-item.result.section NO_ISLAND)
          c.args.island in
          subst after (sym w.rated-is)
          (counted_more on_island value c.args.parts.now.thrusters.items
          c.args.standing.now.selected c.loop-place.place c.loop-place.rated
          c.thruster-item.result here within is_part c.loop-place.invariant
          w.if-standing-place.true (there.1 (sym w.number.ensures ∙ w.if-number-island.true))
          small))
      | else-standing-place w ↦
          subst after (sym w.rated-is)
          (left_more on_island value c.args.parts.now.thrusters.items c.args.standing.now.selected
          c.loop-place.place c.loop-place.rated c.thruster-item.result here within is_part
          c.loop-place.invariant
          (elim w.else-standing-place.branch [
            | else-standing-place-via-then-standing-place+else-number-island w' ↦
                inr (let elsewhere : (slice_index_or c.args.islands.now.of
                c.thruster-item.result.section NO_ISLAND == c.args.island) ≡ false =
                grind (arith, nat_tests) in elsewhere)
            | else-standing-place-via-else-standing-place w' ↦ inl w'.if-standing-place.false
          ]))
    ]

pub returns-clause-value : goal.returns-clause-value
returns-clause-value c =
    let items : c.deref-thruster-items.result.now ≡ c.args.parts.now.thrusters.items =
    c.deref-thruster-items.ensures.0 in
    let all = ap length items in
    total_when_taken (λ (t : Thruster). has_number c.args.islands.now.of c.args.island t.section)
    (λ (t : Thruster). t.rated) c.args.parts.now.thrusters.items c.args.standing.now.selected
    c.loop-place.place c.loop-place.rated (omega arith) c.loop-place.invariant
