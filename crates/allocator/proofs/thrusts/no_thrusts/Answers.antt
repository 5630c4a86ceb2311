use Rattle.std.proofs.Common.{ap, length, rules, arith}
use Rattle.plant_model.specs.declared.plant.Parts.{Parts}
use Rattle.allocator.proofs.Resting.{all_rests, length-rests, rests_more}
use Rattle.allocator.proofs.thrusts.no_thrusts.Goals as goal

pub push-requires : goal.push-requires
push-requires c =
    let i = c.loop-thruster._thruster-index in (
      search rules,
      omega (
        arith,
        ap length c.loop-thruster.invariant,
        length-rests i,
        c.loop-thruster-test.true,
        c.as_slice-thruster-items.ensures.fits,
      ),
    )

pub loop-thruster-preserved : goal.loop-thruster-preserved
loop-thruster-preserved c =
    rests_more c.loop-thruster._thruster-index c.loop-thruster.thrusts.list.items
    c.push.new.self.items c.default.result (search rules)
    c.push.ensures.items c.loop-thruster.invariant

pub returns : goal.returns
returns c =
    all_rests c.args.plant.now c.loop-thruster._thruster-index c.loop-thruster.thrusts.list.items
    (omega (
      arith,
      ap length c.as_slice-thruster-items.ensures.value,
      ap (λ (p : Parts). length p.thrusters.items) c.parts.ensures.parts,
      c.loop-thruster-test.false,
      c.loop-thruster.auto._thruster-index-end,
    )) c.loop-thruster.invariant
