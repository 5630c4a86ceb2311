use Rattle.std.proofs.Common.{◌≡◌, ◌∙◌, ℤ, ◌-ℤ◌, ◌*ℤ◌, SFits, rules, to_z, of_z, w64}
use Rattle.std.specs.Int.{w128}
use Rattle.std.proofs.lemmas.Int.{to_z-of_z}
use Rattle.wrench_geometry.proofs.Bounds.{same_vector}
use Rattle.exit_point.proofs.Tilts.{force_past, moment_past}
use Rattle.exit_point.proofs.face_cuts.rest_past.Goals as goal

whole : {z : ℤ} (top d bottom p : ℤ) → SFits w128 z → SFits w64 top → SFits w64 d →
    SFits w64 bottom → SFits w64 p →
    z ≡ to_z w64 (of_z w64 top) *ℤ to_z w64 (of_z w64 d) -ℤ
    to_z w64 (of_z w64 bottom) *ℤ to_z w64 (of_z w64 p) →
    to_z w128 (of_z w128 z) ≡ top *ℤ d -ℤ bottom *ℤ p
whole top d bottom p fit f g h k e =
    let a = to_z-of_z w64 top f in
    let b = to_z-of_z w64 d g in
    let r = to_z-of_z w64 bottom h in
    let s = to_z-of_z w64 p k in
    to_z-of_z w128 _ fit ∙ e ∙ (λ i. a i *ℤ b i -ℤ r i *ℤ s i)

pub returns-clause-value : goal.returns-clause-value
returns-clause-value c =
    let cut = c.args.cut.now in
    let d = c.args.d in
    let p = c.args.point in
    same_vector
    (whole cut.top d.x cut.bottom p.x (search rules) (search rules) (search rules)
    (search rules) (search rules) c.part_past.ensures)
    (whole cut.top d.y cut.bottom p.y (search rules) (search rules) (search rules)
    (search rules) (search rules) c.part_past-2.ensures)
    (whole cut.top d.z cut.bottom p.z (search rules) (search rules) (search rules)
    (search rules) (search rules) c.part_past-3.ensures)

pub returns-clause-within : goal.returns-clause-within
returns-clause-within c =
    let cut = c.args.cut.now in
    let d = c.args.d in
    let p = c.args.point in
    let top = c.requires.top in
    let bottom = c.requires.bottom in
    let demand = c.requires.demand in
    let at = c.requires.point in
    record {
      x = rw (whole cut.top d.x cut.bottom p.x (search rules) (search rules) (search rules)
          (search rules) (search rules) c.part_past.ensures)
          (force_past cut.top d.x cut.bottom p.x top demand.x bottom at.x);
      y = rw (whole cut.top d.y cut.bottom p.y (search rules) (search rules) (search rules)
          (search rules) (search rules) c.part_past-2.ensures)
          (force_past cut.top d.y cut.bottom p.y top demand.y bottom at.y);
      z = rw (whole cut.top d.z cut.bottom p.z (search rules) (search rules) (search rules)
          (search rules) (search rules) c.part_past-3.ensures)
          (moment_past cut.top d.z cut.bottom p.z top demand.z bottom at.z);
    }
