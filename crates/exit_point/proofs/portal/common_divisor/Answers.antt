use Rattle.std.proofs.Common.{◌≡◌, pos, arith, rules, to_z, of_z, w64}
use Rattle.std.specs.Int.RustNames.{unsigned_abs}
use Rattle.std.proofs.lemmas.Int.{ints, to_z-of_z}
use Rattle.exit_point.proofs.Divided.{one_divided, three_divided, two_divided}
use Rattle.exit_point.proofs.portal.common_divisor.Goals as goal

pub returns-then-x-ne0-clause-divides : goal.returns-then-x-ne0-clause-divides
returns-then-x-ne0-clause-divides c =
    let x : to_z w64 (of_z w64 c.abs-x.result) ≡ pos (unsigned_abs c.args.w.x) =
    omega (arith, ints) in
    let y : to_z w64 (of_z w64 c.abs-y.result) ≡ pos (unsigned_abs c.args.w.y) =
    omega (arith, ints) in
    let z : to_z w64 (of_z w64 c.abs-z.result) ≡ pos (unsigned_abs c.args.w.z) =
    omega (arith, ints) in
    let inner : to_z w64 (of_z w64 c.gcd.result) ≡ c.gcd.result = to_z-of_z w64 _ (search rules) in
    let outer : to_z w64 (of_z w64 c.gcd-then-x-ne0.result) ≡ c.gcd-then-x-ne0.result =
    to_z-of_z w64 _ (search rules) in
    rw outer (three_divided _ _ _ _ _ c.args.w c.gcd.ensures.greatest
    (rw inner at c.gcd-then-x-ne0.ensures.greatest) x y z)

pub returns-then-y-ne0-clause-divides : goal.returns-then-y-ne0-clause-divides
returns-then-y-ne0-clause-divides c =
    let y : to_z w64 (of_z w64 c.abs-y.result) ≡ pos (unsigned_abs c.args.w.y) =
    omega (arith, ints) in
    let z : to_z w64 (of_z w64 c.abs-z.result) ≡ pos (unsigned_abs c.args.w.z) =
    omega (arith, ints) in
    let no_x : c.args.w.x ≡ pos 0 = omega (arith, ints, c.abs-x.ensures.value, c.if-x-ne0.false) in
    let outer : to_z w64 (of_z w64 c.gcd-then-y-ne0.result) ≡ c.gcd-then-y-ne0.result =
    to_z-of_z w64 _ (search rules) in
    rw outer (two_divided _ _ _ c.args.w c.gcd-then-y-ne0.ensures.greatest no_x y z)

pub returns-then-z-ne0-clause-divides : goal.returns-then-z-ne0-clause-divides
returns-then-z-ne0-clause-divides c =
    let z : to_z w64 (of_z w64 c.abs-z.result) ≡ pos (unsigned_abs c.args.w.z) =
    omega (arith, ints) in
    let no_x : c.args.w.x ≡ pos 0 = omega (arith, ints, c.abs-x.ensures.value, c.if-x-ne0.false) in
    let no_y : c.args.w.y ≡ pos 0 = omega (arith, ints, c.abs-y.ensures.value, c.if-y-ne0.false) in
    one_divided _ c.args.w no_x no_y z
