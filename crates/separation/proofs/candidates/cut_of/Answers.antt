use Rattle.std.proofs.Common.{◌≡◌, ◌∙◌, ◌≤◌, ◌≤ℤ◌, ◌<ℤ◌, ℤ, pos, ap, arith, to_z, of_z, w64, rules, SFits}
use Rattle.std.specs.Int.{w128}
use Rattle.std.specs.Prelude.{All}
use Rattle.std.proofs.Common.{List, length, subst}
use Rattle.std.proofs.lemmas.Int.{ints, to_z-of_z}
use Rattle.wrench_geometry.specs.declared.vector.Vec3.{Vec3}
use Rattle.wrench_geometry.specs.Vectors.{dot_of, support_of}
use Rattle.wrench_geometry.specs.Wrenches.{AreImages}
use Rattle.separation.specs.Candidates.{IsNormal}
use Rattle.separation.proofs.Bounds.{demand_product, support_below}
use Rattle.separation.proofs.Supports.{support_from_0}
use Rattle.separation.proofs.candidates.cut_of.Goals as goal

below : {z s : ℤ} → z ≡ s → s ≤ℤ pos 7372800000000000 → z <ℤ pos 7500000000000000
below {z} {s} e g = omega (arith, ints)

from_1 : {z s : ℤ} → z ≡ s → pos 1 ≤ℤ s → pos 1 ≤ℤ z
from_1 {z} {s} e g = omega (arith, ints)

stays_below : {z s : ℤ} → z ≡ s → s <ℤ pos 7500000000000000 → z <ℤ pos 7500000000000000
stays_below {z} {s} e g = omega (arith, ints)

same_wide : (z : ℤ) → pos 0 ≤ℤ z → z <ℤ pos 7500000000000000 → to_z w128 (of_z w128 z) ≡ z
same_wide z low high = to_z-of_z w128 z (omega (arith, ints))

fits_after : {z s : ℤ} → z ≡ s → pos 0 ≤ℤ s → s <ℤ pos 7500000000000000 →
    SFits w64 (to_z w128 (of_z w128 z))
fits_after {z} {s} e low high =
    let is : to_z w128 (of_z w128 z) ≡ z =
    same_wide z (omega (arith, ints)) (omega (arith, ints)) in
    rw is (omega (arith, ints))

same_cast : {z s : ℤ} → z ≡ s → pos 0 ≤ℤ s → s <ℤ pos 7500000000000000 →
    to_z w64 (of_z w64 (to_z w128 (of_z w128 z))) ≡ s
same_cast {z} {s} e low high =
    ap (λ (y : ℤ). to_z w64 (of_z w64 y)) (same_wide z (omega (arith, ints)) (omega (arith, ints)))
    ∙ to_z-of_z w64 z (omega (arith, ints)) ∙ e

high_of : (w : Vec3) (lists items : List (List Vec3)) → IsNormal w → items ≡ lists →
    All AreImages items → length items ≤ 12 → support_of lists w <ℤ pos 7500000000000000
high_of w lists items normal e images few =
    subst (λ (l : List (List Vec3)). support_of l w <ℤ pos 7500000000000000) e
    (support_below w items normal images few)

pub overflow_cast-result : goal.overflow_cast-result
overflow_cast-result g c =
    fits_after c.support_counted.ensures.value (support_from_0 c.args.sums.now c.args.w)
    (high_of c.args.w c.args.sums.now c.lists-lists.result.now c.requires.normal
    c.lists-lists.ensures.value c.lists-lists.ensures.images c.lists-lists.ensures.fits)

pub returns-clause-cut : goal.returns-clause-cut
returns-clause-cut g c =
    let high = high_of c.args.w c.args.sums.now c.lists-lists.result.now c.requires.normal
    c.lists-lists.ensures.value c.lists-lists.ensures.images c.lists-lists.ensures.fits in
    let top = same_cast c.support_counted.ensures.value
    (support_from_0 c.args.sums.now c.args.w) high in
    let product = demand_product c.args.w c.args.d c.requires.normal c.requires.demand in
    let bottom : to_z w64 (of_z w64 c.product.result) ≡ dot_of c.args.w c.args.d =
    to_z-of_z w64 _ (search rules) ∙ c.product.ensures in
    record {
      bottom = bottom;
      top = top;
      bottom_from_1 = from_1 bottom c.requires.ahead;
      bottom_below = below bottom product.high;
      top_below = stays_below top high;
    }
