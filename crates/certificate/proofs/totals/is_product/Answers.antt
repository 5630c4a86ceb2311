use Rattle.std.proofs.Common.{◌∙◌, ap, SFits, w64, rules}
use Rattle.std.specs.Int.{w128}
use Rattle.std.proofs.lemmas.Int.{to_z-of_z}
use Rattle.wrench_geometry.specs.declared.vector.Vec3.{Vec3}
use Rattle.wrench_geometry.proofs.Bounds.{same_vector}
use Rattle.certificate.proofs.totals.is_product.Goals as goal
use Rattle.certificate.proofs.totals.is_product.Goals.{then-is_times, else-is_times}

pub returns-then-is_times-2 : goal.returns-then-is_times-2
returns-then-is_times-2 c =
    let q : SFits w64 c.args.q = search rules in
    let x : SFits w128 c.args.total.x = search rules in
    let y : SFits w128 c.args.total.y = search rules in
    let z : SFits w128 c.args.total.z = search rules in
    let dx : SFits w64 c.args.demand.x = search rules in
    let dy : SFits w64 c.args.demand.y = search rules in
    let dz : SFits w64 c.args.demand.z = search rules in
    let along = simp to_z-of_z at c.is_times.ensures in
    let turning = simp to_z-of_z at c.is_times-then-is_times-2.ensures in
    elim c.if-is_times.branch [
      | then-is_times w ↦
          let across = simp to_z-of_z at w.is_times-then-is_times.ensures in (
            λ t. same_vector (along.0 w.if-is_times.true) (across.0 (cc)) (turning.0 t),
            λ e. turning.1 (ap (λ (v : Vec3). v.z) e),
          )
      | else-is_times w ↦ absurd (cc)
    ]

pub returns-else-is_times-2 : goal.returns-else-is_times-2
returns-else-is_times-2 c =
    let q : SFits w64 c.args.q = search rules in
    let x : SFits w128 c.args.total.x = search rules in
    let y : SFits w128 c.args.total.y = search rules in
    let dx : SFits w64 c.args.demand.x = search rules in
    let dy : SFits w64 c.args.demand.y = search rules in
    let along = simp to_z-of_z at c.is_times.ensures in (
      λ t. absurd (cc),
      λ e. elim c.if-is_times.branch [
        | then-is_times w ↦
            let across = simp to_z-of_z at w.is_times-then-is_times.ensures in
            w.value-is ∙ across.1 (ap (λ (v : Vec3). v.y) e)
        | else-is_times w ↦ let yes = along.1 (ap (λ (v : Vec3). v.x) e) in absurd (cc)
      ],
    )
