use Rattle.std.proofs.Common.{◌≡◌, ◌∙◌, ℤ, ap, rules, to_z, of_z, w64}
use Rattle.std.proofs.lemmas.Int.{to_z-of_z}
use Rattle.wrench_geometry.specs.Vectors.{scaled_by}
use Rattle.exit_point.proofs.Ends.{alone}
use Rattle.exit_point.proofs.candidates.at_corner.Goals as goal

pub returns-clause-sum : goal.returns-clause-sum
returns-clause-sum c =
    let p = c.args.corner.now.point in
    let q : to_z w64 (of_z w64 c.args.q) ≡ c.args.q = to_z-of_z w64 _ (search rules) in
    c.weights.ensures.sum ∙ alone (to_z w64 (of_z w64 c.args.q)) p
    ∙ ap (λ (k : ℤ). scaled_by k p) q
