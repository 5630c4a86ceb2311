use Rattle.std.proofs.Common.{◌≡◌, pos, ◌*ℤ◌, neg_ℤ, to_z, of_z, w64, arith}
use Rattle.std.specs.Int.{w128}
use Rattle.int_ring.proofs.Laws.{linear}
use Rattle.int_ring.proofs.Machine.{strip, machine}
use Rattle.certificate.proofs.Reach.{passed, passes}
use Rattle.certificate.proofs.hull.is_near_along.Goals as goal

pub returns-then-most-z-clause-near : goal.returns-then-most-z-clause-near
returns-then-most-z-clause-near c =
    let from = c.if-most-z.true in
    let most : to_z w128
    (of_z w128 (pos 2147483648 *ℤ to_z w128 (of_z w128 (to_z w64 (of_z w64 c.args.q)))))
    ≡ pos 2147483648 *ℤ c.args.q = strip (search machine depth 40 fits 5000) tt in
    let least : to_z w128
    (of_z w128
    (neg_ℤ
    (to_z w128
    (of_z w128 (pos 2147483648 *ℤ to_z w128 (of_z w128 (to_z w64 (of_z w64 c.args.q)))))))) ≡ neg_ℤ
    (pos 2147483648 *ℤ c.args.q) = strip (search machine depth 40 fits 5000) tt in
    let z : to_z w128 (of_z w128 c.args.z) ≡ c.args.z =
    strip (search machine depth 40 fits 5000) tt in (
      λ t. record {
        low = omega (arith, linear);
        high =
            passed z most t;
      },
      λ within. passes z most within.high,
    )
