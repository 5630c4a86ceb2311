use Rattle.std.proofs.Common.{◌≡◌, ◌≢◌, ◌+◌, ◌<◌, length, slice_get, Some, true, arith, rules}
use Rattle.std.proofs.Common.{subst, sym}
use Rattle.std.proofs.lemmas.Grind.{common_steps}
use Rattle.std.proofs.lemmas.Option.{gets}
use Rattle.bus_topology.proofs.Apart.{IsApart, kept_more, lost_more, map_apart}
use Rattle.bus_topology.proofs.map.apart.Goals as goal
use Rattle.bus_topology.proofs.map.apart.Goals.{then-standing-section, else-standing-section}

pub loop-section-preserved : goal.loop-section-preserved
loop-section-preserved c =
    let long : length c.args.standing.now.live ≡ 8 = search rules in
    let within : c.loop-section.section < 8 = search rules in
    elim c.if-standing-section.branch [
      | then-standing-section w ↦
          (let kept : slice_get c.args.standing.now.live c.loop-section.section ≡ Some true =
          grind (arith, common_steps, gets) in
          subst (IsApart c.args.standing.now.live (c.loop-section.section + 1)) (sym w.of-is)
          (kept_more c.args.standing.now.live c.loop-section.section c.loop-section.of within kept
          c.loop-section.invariant))
      | else-standing-section w ↦
          (let lost : slice_get c.args.standing.now.live c.loop-section.section ≢ Some true =
          grind (arith, common_steps, gets) in
          subst (IsApart c.args.standing.now.live (c.loop-section.section + 1)) (sym w.of-is)
          (lost_more c.args.standing.now.live c.loop-section.section c.loop-section.of within lost
          c.loop-section.invariant))
    ]

pub returns : goal.returns
returns c =
    let all : c.loop-section.section ≡ length c.args.plant.now.sections.items =
    grind (arith, common_steps) in
    map_apart c.args.plant.now c.args.standing.now c.loop-section.of (search rules)
    (subst (λ taken. IsApart c.args.standing.now.live taken c.loop-section.of) all
    c.loop-section.invariant)
