use Rattle.std.proofs.Common.{◌≡◌, ◌∙◌, ap, sym, ◌*ℤ◌, to_z, of_z, w64, eq-eqb}
use Rattle.std.specs.Int.{w128}
use Rattle.std.proofs.lemmas.Bool.{eqb-true}
use Rattle.int_ring.proofs.Machine.{strip, machine}
use Rattle.certificate.proofs.totals.is_times.Goals as goal

pub returns : goal.returns
returns c =
    let plain : to_z w128 (of_z w128 (to_z w64 (of_z w64 c.args.q)))
    *ℤ to_z w128 (of_z w128 (to_z w64 (of_z w64 c.args.component)))
    ≡ c.args.q *ℤ c.args.component = strip (search machine depth 40 fits 5000) tt in
    let product : to_z w128 (of_z w128 (c.args.q *ℤ c.args.component))
    ≡ c.args.q *ℤ c.args.component = strip (search machine depth 40 fits 5000) tt in
    let z : to_z w128 (of_z w128 c.args.z) ≡ c.args.z =
    strip (search machine depth 40 fits 5000) tt in (
      λ t. sym z ∙ ap (to_z w128) (eqb-true _ _ t ∙ ap (of_z w128) plain) ∙ product,
      λ e. eq-eqb _ _ (ap (of_z w128) (e ∙ sym plain)),
    )
