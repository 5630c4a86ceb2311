use Rattle.std.proofs.Common.{SFits, w64, refl, rules, below_more}
use Rattle.std.proofs.lemmas.Int.{to_z-of_z}
use Rattle.plant_model.specs.Rings.{origin}
use Rattle.certificate.specs.Sides.{IsNextTo}
use Rattle.certificate.proofs.Among.{any_at, none_of}
use Rattle.certificate.proofs.hull.is_next_to_some.Goals as goal

pub returns-then-is_next_to : goal.returns-then-is_next_to
returns-then-is_next_to c =
    let q : SFits w64 c.args.q = search rules in
    let is = simp to_z-of_z at c.if-is_next_to.ensures in (
      λ t. any_at (IsNextTo c.args.points.now c.args.thrust c.args.q) c.args.points.now
          c.loop-point.point-index origin c.loop-point-test.true (is.0 refl),
      λ some. refl,
    )

pub loop-point-preserved : goal.loop-point-preserved
loop-point-preserved c = below_more _ _ c.loop-point.invariant (λ next. let no =
    c.if-is_next_to.ensures.1 next in cc)

pub returns : goal.returns
returns c =
    let q : SFits w64 c.args.q = search rules in
    let none = simp to_z-of_z at c.loop-point.invariant in (
      λ t. absurd (cc),
      λ some. absurd (none_of (IsNextTo c.args.points.now c.args.thrust c.args.q)
          c.args.points.now c.loop-point.point-index origin c.loop-point-test.false none some),
    )
