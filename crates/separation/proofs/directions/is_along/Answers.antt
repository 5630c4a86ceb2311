use Rattle.std.proofs.Common.{◌≡◌, ◌∙◌, ℤ, pos, ◌<ℤ◌, IsTrue, sym, arith, to_z, of_z, w64, rules}
use Rattle.std.proofs.lemmas.Int.{ints, to_z-of_z}
use lib.Signed.{lt_z}
use Rattle.wrench_geometry.specs.Vectors.{dot_of, zero_vector}
use Rattle.wrench_geometry.proofs.Bounds.{same_vector}
use Rattle.separation.proofs.directions.is_along.Goals as goal

above : {z p : ℤ} → z ≡ p → IsTrue (lt_z (pos 0) z) → pos 0 <ℤ p
above {z} {p} e t = omega (arith, ints)

test : {z p : ℤ} → z ≡ p → pos 0 <ℤ p → IsTrue (lt_z (pos 0) z)
test {z} {p} e g = grind (arith, ints)

pub returns-then-normal-eq0-3 : goal.returns-then-normal-eq0-3
returns-then-normal-eq0-3 c =
    let square : to_z w64 (of_z w64 c.product.result) ≡ dot_of c.args.direction c.args.direction =
    to_z-of_z w64 _ (search rules) ∙ c.product.ensures in (
      λ t. record {
        normal = sym c.cross-normal.ensures
            ∙ same_vector {b = zero_vector} (omega (arith, ints)) (omega (arith, ints))
            (omega (arith, ints));
        not_zero = above square t;
      },
      λ along. test square along.not_zero,
    )
