use Rattle.std.proofs.Common.{◌≡◌, ◌∙◌, ℤ, SFits, rules, to_z, of_z, w64}
use Rattle.std.proofs.lemmas.Int.{to_z-of_z}
use Rattle.wrench_geometry.specs.declared.vertices.TheConstants.{MOST_DETERMINANT}
use Rattle.plant_model.specs.Numbers.{IsWithin}
use Rattle.exit_point.proofs.Ends.{cut_of_least}
use Rattle.exit_point.proofs.Least.{exit_between, shares_between}
use Rattle.exit_point.proofs.candidates.between_three.Goals as goal

plain : {z p : ℤ} → SFits w64 z → z ≡ p → to_z w64 (of_z w64 z) ≡ p
plain f e = to_z-of_z w64 _ f ∙ e

short : {z : ℤ} → SFits w64 z → IsWithin MOST_DETERMINANT z →
    IsWithin MOST_DETERMINANT (to_z w64 (of_z w64 z))
short f h = rw (to_z-of_z w64 _ f) h

pub total-requires : goal.total-requires
total-requires c =
    shares_between c.args.d c.args.cut.w _ _ _ c.args.cut.top _ c.requires.between
    (plain (search rules) c.determinant.ensures.value)
    (plain (search rules) c.determinant-2.ensures.value)
    (plain (search rules) c.determinant-3.ensures.value)
    (short (search rules) c.determinant.ensures.within)
    (short (search rules) c.determinant-2.ensures.within)
    (short (search rules) c.determinant-3.ensures.within)

pub weights-requires-clause-shares : goal.weights-requires-clause-shares
weights-requires-clause-shares c =
    shares_between c.args.d c.args.cut.w _ _ _ c.args.cut.top _ c.requires.between
    (plain (search rules) c.determinant.ensures.value)
    (plain (search rules) c.determinant-2.ensures.value)
    (plain (search rules) c.determinant-3.ensures.value)
    (short (search rules) c.determinant.ensures.within)
    (short (search rules) c.determinant-2.ensures.within)
    (short (search rules) c.determinant-3.ensures.within)

pub returns : goal.returns
returns c =
    exit_between c.args.sums.now c.args.d _ c.args.corners.now.first.point
    c.args.corners.now.second.point c.args.corners.now.third.point _
    (cut_of_least c.args.sums.now c.args.d c.args.cut c.requires.cut) c.requires.between
    (shares_between c.args.d c.args.cut.w _ _ _ c.args.cut.top _ c.requires.between
    (plain (search rules) c.determinant.ensures.value)
    (plain (search rules) c.determinant-2.ensures.value)
    (plain (search rules) c.determinant-3.ensures.value)
    (short (search rules) c.determinant.ensures.within)
    (short (search rules) c.determinant-2.ensures.within)
    (short (search rules) c.determinant-3.ensures.within))
    (plain (search rules) c.determinant.ensures.value)
    (plain (search rules) c.determinant-2.ensures.value)
    (plain (search rules) c.determinant-3.ensures.value)
    (plain (search rules) c.total.ensures) (plain (search rules) c.determinant-4.ensures.value)
    c.weights.ensures.weights c.weights.ensures.sum
