-- By signs, without the wraps.
use Rattle.std.proofs.Common.{◌≡◌, ℤ, pos, ◌-ℤ◌, ◌*ℤ◌, ◌≤ℤ◌, ◌<ℤ◌, SFits, w32, w64, to_z, of_z, rules}
use Rattle.std.proofs.Common.{arith}
use Rattle.std.specs.Int.{w128}
use Rattle.int_ring.proofs.Laws.{linear}
use Rattle.int_ring.proofs.Machine.{Strips, fits, machine, strip}
use Rattle.wrench_geometry.proofs.Bounds.{bounded}
use Rattle.log_audit.proofs.Sums.{above_is, above_only, below_is, below_only, not_apart}
use Rattle.log_audit.proofs.Sums.{not_apart_back, said_of_equals}
use Rattle.log_audit.proofs.totals.is_share.Goals as goal

-- the part of the component, as it is computed
abbrev asked : ℤ → ℤ → ℤ
asked top component = to_z w128 (of_z w128 (to_z w128 (of_z w128 (to_z w64 (of_z w64 top)))
    *ℤ to_z w128 (of_z w128 (to_z w32 (of_z w32 component)))))

plain : (top component : ℤ) → SFits w64 top → SFits w32 component
    → asked top component ≡ top *ℤ component
plain top component first second = strip (search machine depth 40 fits 5000) tt

minus : (top component : ℤ) → SFits w64 top → SFits w32 component
    → to_z w128 (of_z w128 (pos 0 -ℤ asked top component)) ≡ pos 0 -ℤ top *ℤ component
minus top component first second = strip (search machine depth 40 fits 5000) tt

minus_fits : (top component : ℤ) → SFits w64 top → SFits w32 component
    → SFits w128 (pos 0 -ℤ asked top component)
minus_fits top component first second = fits (search machine depth 40 fits 5000) tt

wide : (z : ℤ) → SFits w64 z → to_z w128 (of_z w128 (to_z w64 (of_z w64 z))) ≡ z
wide z first = strip (search machine depth 40 fits 5000) tt

pub overflow_sub-asked : goal.overflow_sub-asked
overflow_sub-asked c =
    minus_fits c.args.part.top c.args.component (search rules) (search rules)

pub are_one-requires-clause-a_from_0 : goal.are_one-requires-clause-a_from_0
are_one-requires-clause-a_from_0 c =
    let sum : Strips c.args.sum = bounded c.requires.within in
    let is : to_z w128 (of_z w128 (pos 0 -ℤ to_z w128 (of_z w128 c.args.sum)))
    ≡ pos 0 -ℤ c.args.sum = strip (search machine depth 40 fits 5000) tt in
    omega (arith, linear, is)

pub are_one-requires-clause-c_from_0 : goal.are_one-requires-clause-c_from_0
are_one-requires-clause-c_from_0 c =
    let top : SFits w64 c.args.part.top = search rules in
    let component : SFits w32 c.args.component = search rules in
    let part = plain c.args.part.top c.args.component top component in
    let is = minus c.args.part.top c.args.component top component in
    omega (arith, linear, is, part)

pub returns-then-asked-lt0 : goal.returns-then-asked-lt0
returns-then-asked-lt0 c =
    let sum : Strips c.args.sum = bounded c.requires.within in
    let top = c.args.part.top in
    let component = c.args.component in
    let bottom = c.args.part.bottom in
    let first : to_z w128 (of_z w128 (pos 0 -ℤ to_z w128 (of_z w128 c.args.sum)))
    ≡ pos 0 -ℤ c.args.sum = strip (search machine depth 40 fits 5000) tt in
    let second = wide c.args.q (search rules) in
    let third = minus top component (search rules) (search rules) in
    let fourth = wide bottom (search rules) in
    let said = said_of_equals c.are_one.result first second third fourth c.are_one.ensures in (
      λ t. below_is c.args.sum c.args.q top bottom component (said.0 t),
      λ is. said.1 (below_only c.args.sum c.args.q top bottom component is),
    )

pub returns-else-asked-lt0 : goal.returns-else-asked-lt0
returns-else-asked-lt0 c =
    let top : SFits w64 c.args.part.top = search rules in
    let component : SFits w32 c.args.component = search rules in
    let is = plain c.args.part.top c.args.component top component in
    let some : pos 1 ≤ℤ c.args.part.bottom = c.args.part.bottom_from_1 in
    let below : c.args.sum <ℤ pos 0 = omega (arith, linear) in
    let above : pos 0 ≤ℤ (c.args.part.top *ℤ c.args.component) = omega (arith, linear, is) in (
      λ t. absurd (omega (arith, linear, t)),
      λ said. absurd (not_apart c.args.sum c.args.q c.args.part.top c.args.part.bottom
          c.args.component c.requires.from_1 some below above said),
    )

pub returns-then-asked-ge0 : goal.returns-then-asked-ge0
returns-then-asked-ge0 c =
    let top = c.args.part.top in
    let component = c.args.component in
    let bottom = c.args.part.bottom in
    let first : to_z w128 (of_z w128 c.args.sum) ≡ c.args.sum =
    strip (search machine depth 40 fits 5000) tt in
    let second = wide c.args.q (search rules) in
    let third = plain top component (search rules) (search rules) in
    let fourth = wide bottom (search rules) in
    let said = said_of_equals c.are_one-then-asked-ge0.result first second third fourth
    c.are_one-then-asked-ge0.ensures in (
      λ t. above_is c.args.sum c.args.q top bottom component (said.0 t),
      λ is. said.1 (above_only c.args.sum c.args.q top bottom component is),
    )

pub returns-else-asked-ge0 : goal.returns-else-asked-ge0
returns-else-asked-ge0 c =
    let top : SFits w64 c.args.part.top = search rules in
    let component : SFits w32 c.args.component = search rules in
    let is = plain c.args.part.top c.args.component top component in
    let some : pos 1 ≤ℤ c.args.part.bottom = c.args.part.bottom_from_1 in
    let above : pos 0 ≤ℤ c.args.sum = omega (arith, linear) in
    let below : (c.args.part.top *ℤ c.args.component) <ℤ pos 0 = omega (arith, linear, is) in (
      λ t. absurd (omega (arith, linear, t)),
      λ said. absurd (not_apart_back c.args.sum c.args.q c.args.part.top c.args.part.bottom
          c.args.component c.requires.from_1 some above below said),
    )
