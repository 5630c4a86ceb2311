use Rattle.std.proofs.Common.{◌≡◌, ◌≤ℤ◌, ◌∙◌, ℤ, pos, SFits, refl, sym, subst, rules, to_z, of_z}
use Rattle.std.proofs.Common.{w64}
use Rattle.std.specs.Int.{w128}
use Rattle.std.proofs.lemmas.Int.{to_z-of_z}
use Rattle.wrench_geometry.specs.declared.vector.Vec3.{Vec3}
use Rattle.wrench_geometry.specs.declared.vertices.TheConstants.{MOST_DETERMINANT}
use Rattle.wrench_geometry.specs.Vectors.{dot_of}
use Rattle.wrench_geometry.proofs.Bounds.{same_vector}
use Rattle.plant_model.specs.Numbers.{IsWithin}
use Rattle.exit_point.proofs.Ends.{cut_of_least}
use Rattle.exit_point.proofs.Least.{exit_of_two, two_shares}
use Rattle.exit_point.proofs.candidates.between_two.Goals as goal

long : {x : ℤ} → SFits w128 (to_z w64 (of_z w64 x)) → SFits w64 x →
    to_z w128 (of_z w128 (to_z w64 (of_z w64 x))) ≡ x
long f g = to_z-of_z w128 _ f ∙ to_z-of_z w64 _ g

plain : {z p : ℤ} → SFits w64 z → z ≡ p → to_z w64 (of_z w64 z) ≡ p
plain f e = to_z-of_z w64 _ f ∙ e

short : {z : ℤ} → SFits w64 z → IsWithin MOST_DETERMINANT z →
    IsWithin MOST_DETERMINANT (to_z w64 (of_z w64 z))
short f h = rw (to_z-of_z w64 _ f) h

pub axis-axis-requires : goal.axis-axis-requires
axis-axis-requires c =
    let n = c.cross-normal.result in
    let is = same_vector (long {x = n.x} (search rules) (search rules))
    (long {x = n.y} (search rules) (search rules)) (long {x = n.z} (search rules) (search rules)) in
    record {
      not_zero = λ e. c.requires.between.apart (sym c.cross-normal.ensures ∙ sym is ∙ e);
    }

pub total-requires : goal.total-requires
total-requires c =
    let n = c.cross-normal.result in
    let is = same_vector (long {x = n.x} (search rules) (search rules))
    (long {x = n.y} (search rules) (search rules)) (long {x = n.z} (search rules) (search rules)) in
    let P : Vec3 → Type 0 = λ p. pos 1 ≤ℤ dot_of c.axis-axis.result p in
    two_shares c.args.cut c.axis-axis.result c.args.d c.args.first.now.point
    c.args.second.now.point _ c.requires.between
    (subst P (is ∙ c.cross-normal.ensures) c.axis-axis.ensures.ahead)
    (short (search rules) c.determinant.ensures.within)
    (short (search rules) c.determinant-2.ensures.within)
    (plain (search rules) c.determinant.ensures.value)
    (plain (search rules) c.determinant-2.ensures.value) refl

pub weights-requires-clause-shares : goal.weights-requires-clause-shares
weights-requires-clause-shares c =
    let n = c.cross-normal.result in
    let is = same_vector (long {x = n.x} (search rules) (search rules))
    (long {x = n.y} (search rules) (search rules)) (long {x = n.z} (search rules) (search rules)) in
    let P : Vec3 → Type 0 = λ p. pos 1 ≤ℤ dot_of c.axis-axis.result p in
    two_shares c.args.cut c.axis-axis.result c.args.d c.args.first.now.point
    c.args.second.now.point _ c.requires.between
    (subst P (is ∙ c.cross-normal.ensures) c.axis-axis.ensures.ahead)
    (short (search rules) c.determinant.ensures.within)
    (short (search rules) c.determinant-2.ensures.within)
    (plain (search rules) c.determinant.ensures.value)
    (plain (search rules) c.determinant-2.ensures.value) refl

pub returns : goal.returns
returns c =
    let n = c.cross-normal.result in
    let is = same_vector (long {x = n.x} (search rules) (search rules))
    (long {x = n.y} (search rules) (search rules)) (long {x = n.z} (search rules) (search rules)) in
    let P : Vec3 → Type 0 = λ p. pos 1 ≤ℤ dot_of c.axis-axis.result p in
    exit_of_two c.args.sums.now c.args.d _ c.axis-axis.result c.args.first.now.point
    c.args.second.now.point _ (cut_of_least c.args.sums.now c.args.d c.args.cut c.requires.cut)
    c.requires.between
    (subst P (is ∙ c.cross-normal.ensures) c.axis-axis.ensures.ahead)
    (short (search rules) c.determinant.ensures.within)
    (short (search rules) c.determinant-2.ensures.within)
    (plain (search rules) c.determinant.ensures.value)
    (plain (search rules) c.determinant-2.ensures.value) refl
    (plain (search rules) c.total.ensures) (plain (search rules) c.determinant-3.ensures.value)
    c.weights.ensures.weights c.weights.ensures.sum
