use Rattle.std.proofs.Common.{◌≡◌, ℤ, ◌+ℤ◌, ◌*ℤ◌, to_z, of_z, w32, w64, SFits, ap, ap₂, refl, sym}
use Rattle.std.proofs.Common.{◌∙◌, rules}
use Rattle.std.specs.Int.{w128}
use Rattle.std.proofs.lemmas.Int.{to_z-of_z}
use Rattle.plant_model.specs.Rings.{dot}
use Rattle.int_ring.proofs.Machine.{Strips, fits, strip, strip_same, machine}
use Rattle.certificate.proofs.Reach.{near_of_way, passed, passed_below, passes}
use Rattle.certificate.proofs.hull.is_on_way.Goals as goal

pub returns-then-not-is_near : goal.returns-then-not-is_near
returns-then-not-is_near c =
    let px : SFits w32 c.args.point.x = search rules in
    let py : SFits w32 c.args.point.y = search rules in
    let q : SFits w64 c.args.q = search rules in
    let x : SFits w128 c.args.thrust.x = search rules in
    let y : SFits w128 c.args.thrust.y = search rules in
    let near = simp to_z-of_z at c.if-not-is_near.ensures.near in (
      λ t. absurd (cc),
      λ way. near.1 (near_of_way c.args.point c.args.thrust c.args.q px py
          c.requires way),
    )

pub overflow_mul-result : goal.overflow_mul-result
overflow_mul-result c =
    let p = c.args.point in
    let px : SFits w32 c.args.point.x = search rules in
    let py : SFits w32 c.args.point.y = search rules in
    let is : c.along-square.result ≡ dot p p =
    c.along-square.ensures
    ∙ ap₂ (λ (x y : ℤ). p.x *ℤ x +ℤ p.y *ℤ y) c.thrust_of.ensures.x c.thrust_of.ensures.y in
    let square : Strips (dot p p) = search machine depth 40 fits 5000 in
    let s : Strips c.along-square.result = strip_same c.along-square.result (dot p p) is square in
    fits (search machine depth 40 fits 5000) tt

pub returns-then-ahead-gt0 : goal.returns-then-ahead-gt0
returns-then-ahead-gt0 c =
    let p = c.args.point in
    let px : SFits w32 c.args.point.x = search rules in
    let py : SFits w32 c.args.point.y = search rules in
    let is : c.along-square.result ≡ dot p p =
    c.along-square.ensures
    ∙ ap₂ (λ (x y : ℤ). p.x *ℤ x +ℤ p.y *ℤ y) c.thrust_of.ensures.x c.thrust_of.ensures.y in
    let square : Strips (dot p p) = search machine depth 40 fits 5000 in
    let s : Strips c.along-square.result = strip_same c.along-square.result (dot p p) is square in
    let past : to_z w128
    (of_z w128 (to_z w128 (of_z w128 c.along-square.result) *ℤ to_z w128
    (of_z w128 (to_z w64 (of_z w64 c.args.q))))) ≡ dot p p *ℤ c.args.q =
    strip (search machine depth 40 fits 5000) tt in
    let fa : SFits w128 c.along-ahead.result = search rules in
    let ft : SFits w128 c.turn.result = search rules in
    let ahead = to_z-of_z w128 c.along-ahead.result fa ∙ c.along-ahead.ensures in
    let aside = to_z-of_z w128 c.turn.result ft ∙ c.turn.ensures in
    let along = c.if-turn-ne0.false in
    let forward = c.if-ahead-gt0.true in (
      λ t. record {
        along = sym aside ∙ ap (to_z w128) along;
        ahead =
            passed_below refl ahead forward;
        not_past =
            passed ahead past t;
      },
      λ way. passes ahead past way.not_past,
    )
