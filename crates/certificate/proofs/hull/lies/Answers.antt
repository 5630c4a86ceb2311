use Rattle.std.proofs.Common.{◌≡◌, ◌⊎◌, inl, inr, ℤ, pos, ◌≤ℤ◌, List, Bool, false, refl, subst}
use Rattle.std.proofs.Common.{SFits, w64, rules}
use Rattle.std.specs.Prelude.{IsTrue, Any}
use Rattle.std.proofs.lemmas.Int.{to_z-of_z}
use Rattle.plant_model.specs.Lies.{LiesIn}
use Rattle.plant_model.specs.declared.thrust.Point.{Point}
use Rattle.plant_model.specs.declared.thrust.Thrust.{Thrust}
use Rattle.certificate.specs.Sides.{IsNextTo}
use Rattle.certificate.proofs.Lines.{Crosses}
use Rattle.certificate.proofs.Hulls.{IsBeside, lies_next_to, lies_of_zero, next_to_some, splits}
use Rattle.certificate.proofs.hull.lies.Goals as goal

pub returns-then-is_zero : goal.returns-then-is_zero
returns-then-is_zero c =
    let zero = c.if-is_zero.ensures.0 refl in (
      λ t. lies_of_zero c.args.piece.now.points.items c.args.thrust c.args.q c.requires zero.0
          zero.1,
      λ lies. c.if-is_zero.true,
    )

-- a thrust that isn't zero lies in the hull of the points exactly where it is next to some of them
decided : (points : List Point) (a : Thrust) (q : ℤ) (b : Bool) → pos 1 ≤ℤ q →
    ((a.x ≡ pos 0) × (a.y ≡ pos 0) → IsTrue false) → (IsTrue b → Any (IsNextTo points a q) points)
    × (Any (IsNextTo points a q) points → IsTrue b) →
    (IsTrue b → LiesIn points a q) × (LiesIn points a q → IsTrue b)
decided points a q b from_1 apart says =
    (λ t. lies_next_to points a q from_1 (says.0 t), λ lies. holds (splits points a q from_1 lies))
  where
    holds : ((a.x ≡ pos 0) × (a.y ≡ pos 0)) ⊎ Crosses (IsBeside a q) points → IsTrue b
    holds (inl zero) = let no = apart zero in absurd (cc)
    holds (inr crosses) = says.1 (next_to_some points a q crosses)

pub returns-else-is_zero : goal.returns-else-is_zero
returns-else-is_zero c =
    let q : SFits w64 c.args.q = search rules in
    let some = simp to_z-of_z at c.is_next_to_some.ensures in
    let as_points =
    subst (λ (points : List Point). (IsTrue c.is_next_to_some.result →
    Any (IsNextTo points c.args.thrust c.args.q) points)
    × (Any (IsNextTo points c.args.thrust c.args.q) points →
    IsTrue c.is_next_to_some.result)) c.as_slice.ensures.value some in
    decided c.args.piece.now.points.items c.args.thrust c.args.q c.is_next_to_some.result
    c.requires c.if-is_zero.ensures.1 as_points
