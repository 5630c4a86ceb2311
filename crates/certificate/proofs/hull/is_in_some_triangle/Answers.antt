use Rattle.std.proofs.Common.{SFits, w64, rules, below_more}
use Rattle.std.proofs.lemmas.Int.{to_z-of_z}
use Rattle.plant_model.specs.Rings.{origin}
use Rattle.certificate.specs.Sides.{IsInTriangle}
use Rattle.certificate.proofs.Among.{none_of}
use Rattle.certificate.proofs.hull.is_in_some_triangle.Goals as goal

pub loop-second-preserved : goal.loop-second-preserved
loop-second-preserved c = below_more _ _ c.loop-second.invariant (λ within. let no =
    c.if-is_in_triangle.ensures.1 within in cc)

pub returns : goal.returns
returns c =
    let q : SFits w64 c.args.q = search rules in
    let none = simp to_z-of_z at c.loop-second.invariant in (
      λ t. absurd (cc),
      λ some. absurd
          (none_of (λ p. IsInTriangle c.args.first p c.args.thrust c.args.q) c.args.points.now
          c.loop-second.second-index origin c.loop-second-test.false none some),
    )
