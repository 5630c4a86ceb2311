-- The rest by a whole turn is the number less as many whole turns as its floor.
use Rattle.std.proofs.Common.{◌≡◌, ℤ, pos, negsuc, ◌+ℤ◌, ◌-ℤ◌, ◌*ℤ◌, arith, to_z, of_z}
use mir.Syntax.{w128}
use Rattle.int_ring.proofs.Machine.{strip, machine}
use Rattle.std.proofs.lemmas.Int.{ints}
use Rattle.std.specs.Int.{int_rem_euclid}
use Rattle.dp_num.specs.Quotients.{floor_quotient}
use Rattle.plant_model.specs.declared.limits.TheConstants.{HALF_TURN, WHOLE_TURN}
use Rattle.pid.proofs.position.turned.Goals as goal

in_turns : (z : ℤ) → z ≡ int_rem_euclid z (pos WHOLE_TURN)
    +ℤ floor_quotient z (pos WHOLE_TURN) *ℤ pos WHOLE_TURN
in_turns (pos n) = omega (arith, ints)
in_turns (negsuc n) = omega (arith, ints)

pub returns-clause-law : goal.returns-clause-law
returns-clause-law c =
    let apart = in_turns (c.args.angle +ℤ pos HALF_TURN) in
    let is : to_z w128 (of_z w128 (to_z w128 (of_z w128 c.rem_euclid.result)
    -ℤ pos HALF_TURN)) ≡ int_rem_euclid (c.args.angle +ℤ pos HALF_TURN) (pos WHOLE_TURN)
    -ℤ pos HALF_TURN =
    strip (search machine depth 40 fits 5000) tt in
    record {
      low = omega (arith, ints);
      high = omega (arith, ints);
      turns =
          (floor_quotient (c.args.angle +ℤ pos HALF_TURN) (pos WHOLE_TURN), omega (arith, ints));
    }
