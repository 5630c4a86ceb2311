use Rattle.std.proofs.Common.{◌∙◌, ap, SFits, w32, w64, rules}
use Rattle.std.specs.Int.{w128}
use Rattle.std.proofs.lemmas.Int.{to_z-of_z}
use Rattle.wrench_geometry.specs.declared.vector.Vec3.{Vec3}
use Rattle.wrench_geometry.proofs.Bounds.{same_vector}
use Rattle.log_audit.proofs.totals.is_part.Goals as goal
use Rattle.log_audit.proofs.totals.is_part.Goals.{then-is_share, else-is_share}

pub returns-then-is_share-2 : goal.returns-then-is_share-2
returns-then-is_share-2 c =
    let q : SFits w64 c.args.q = search rules in
    let x : SFits w128 c.args.total.x = search rules in
    let y : SFits w128 c.args.total.y = search rules in
    let z : SFits w128 c.args.total.z = search rules in
    let dx : SFits w32 c.args.demand.x = search rules in
    let dy : SFits w32 c.args.demand.y = search rules in
    let dn : SFits w32 c.args.demand.n = search rules in
    let along = simp to_z-of_z at c.is_share.ensures in
    let turning = simp to_z-of_z at c.is_share-then-is_share-2.ensures in
    elim c.if-is_share.branch [
      | then-is_share w ↦
          let across = simp to_z-of_z at w.is_share-then-is_share.ensures in (
            λ t. same_vector (along.0 w.if-is_share.true) (across.0 (cc)) (turning.0 t),
            λ e. turning.1 (ap (λ (v : Vec3). v.z) e),
          )
      | else-is_share w ↦ absurd (cc)
    ]

pub returns-else-is_share-2 : goal.returns-else-is_share-2
returns-else-is_share-2 c =
    let q : SFits w64 c.args.q = search rules in
    let x : SFits w128 c.args.total.x = search rules in
    let y : SFits w128 c.args.total.y = search rules in
    let dx : SFits w32 c.args.demand.x = search rules in
    let dy : SFits w32 c.args.demand.y = search rules in
    let along = simp to_z-of_z at c.is_share.ensures in (
      λ t. absurd (cc),
      λ e. elim c.if-is_share.branch [
        | then-is_share w ↦
            let across = simp to_z-of_z at w.is_share-then-is_share.ensures in
            w.value-is ∙ across.1 (ap (λ (v : Vec3). v.y) e)
        | else-is_share w ↦ let yes = along.1 (ap (λ (v : Vec3). v.x) e) in absurd (cc)
      ],
    )
