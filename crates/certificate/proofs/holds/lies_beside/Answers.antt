use Rattle.std.proofs.Common.{◌≡◌, ◌∙◌, ap, subst, sym, ℤ, ◌-ℤ◌, ◌*ℤ◌, SFits, w32, w64, rules}
use Rattle.std.specs.Prelude.{IsTrue}
use Rattle.std.proofs.lemmas.Int.{to_z-of_z}
use Rattle.plant_model.specs.Lies.{LiesIn}
use Rattle.plant_model.specs.declared.thrust.Thrust.{Thrust}
use Rattle.wrench_geometry.specs.Wrenches.{IsPointWithin}
use Rattle.certificate.specs.Outcomes.{without}
use Rattle.certificate.specs.Sides.{place_of}
use Rattle.certificate.specs.declared.holds.TheConstants.{FARTHEST_BESIDE}
use Rattle.certificate.proofs.Beside.{same_thrust, taken_together}
use Rattle.certificate.proofs.holds.lies_beside.Goals as goal

pub returns-then-is_taken-clause-lies : goal.returns-then-is_taken-clause-lies
returns-then-is_taken-clause-lies c =
    let q : SFits w64 c.args.q = search rules in
    let plain = to_z-of_z w64 c.args.q q in
    let lies = simp to_z-of_z at c.lies.ensures in
    let x : c.rest_of.result.x ≡ (without c.args.q c.args.fixed c.args.thrust).x =
    c.rest_of.ensures.x ∙ ap (λ (z : ℤ). c.args.thrust.x -ℤ z *ℤ c.args.fixed.x) plain in
    let y : c.rest_of.result.y ≡ (without c.args.q c.args.fixed c.args.thrust).y =
    c.rest_of.ensures.y ∙ ap (λ (z : ℤ). c.args.thrust.y -ℤ z *ℤ c.args.fixed.y) plain in
    let is : c.rest_of.result ≡ without c.args.q c.args.fixed c.args.thrust = same_thrust x y in
    subst (λ (a : Thrust). (IsTrue c.lies.result →
    LiesIn c.args.piece.now.points.items a c.args.q)
    × (LiesIn c.args.piece.now.points.items a c.args.q → IsTrue c.lies.result)) is lies

pub returns-else-is_taken-clause-lies : goal.returns-else-is_taken-clause-lies
returns-else-is_taken-clause-lies c =
    let q : SFits w64 c.args.q = search rules in
    let fx : SFits w32 c.args.fixed.x = search rules in
    let fy : SFits w32 c.args.fixed.y = search rules in
    let plain = to_z-of_z w64 c.args.q q in (
      λ t. absurd (cc),
      λ lies. c.is_taken.ensures.taken.1
          (subst (λ (z : ℤ). IsPointWithin (FARTHEST_BESIDE *ℤ z) (place_of c.args.thrust))
          (sym plain)
          (taken_together c.args.piece.now.points.items c.args.fixed c.args.thrust c.args.q
          c.requires.from_1 fx fy c.requires.points lies)),
    )
