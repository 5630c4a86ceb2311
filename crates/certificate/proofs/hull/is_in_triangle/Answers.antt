use Rattle.std.proofs.Common.{◌≡◌, ℤ, ◌-ℤ◌, ◌*ℤ◌, to_z, of_z, w32, w64, SFits, ap₂, refl, ◌∙◌}
use Rattle.std.proofs.Common.{rules}
use Rattle.std.specs.Int.{w128}
use Rattle.std.proofs.lemmas.Int.{to_z-of_z}
use Rattle.plant_model.specs.Rings.{cross}
use Rattle.int_ring.proofs.Machine.{Strips, fits, strip, strip_same, machine}
use Rattle.certificate.specs.Sides.{place_of}
use Rattle.certificate.proofs.Reach.{bounded, failed, failed_below, near_of_triangle, not_both}
use Rattle.certificate.proofs.Reach.{passed, passed_below, passes}
use Rattle.certificate.proofs.hull.is_in_triangle.Goals as goal
use Rattle.certificate.proofs.hull.is_in_triangle.Goals.{then-after-lt0-via-then-after-lt0}
use Rattle.certificate.proofs.hull.is_in_triangle.Goals.{then-after-lt0-via-else-after-lt0+then-before-gt0}

pub returns-then-not-is_near : goal.returns-then-not-is_near
returns-then-not-is_near c =
    let px : SFits w32 c.args.first.x = search rules in
    let py : SFits w32 c.args.first.y = search rules in
    let rx : SFits w32 c.args.second.x = search rules in
    let ry : SFits w32 c.args.second.y = search rules in
    let q : SFits w64 c.args.q = search rules in
    let x : SFits w128 c.args.thrust.x = search rules in
    let y : SFits w128 c.args.thrust.y = search rules in
    let near = simp to_z-of_z at c.if-not-is_near.ensures.near in (
      λ t. absurd (cc),
      λ within. near.1 (near_of_triangle c.args.first c.args.second c.args.thrust
          c.args.q px py rx ry within),
    )

pub returns-then-after-lt0 : goal.returns-then-after-lt0
returns-then-after-lt0 c =
    let fa : SFits w128 c.turn-after.result = search rules in
    let fb : SFits w128 c.turn-before.result = search rules in
    let after = to_z-of_z w128 c.turn-after.result fa ∙ c.turn-after.ensures in
    let before = to_z-of_z w128 c.turn-before.result fb ∙ c.turn-before.ensures in
    elim c.then-after-lt0.branch [
      | then-after-lt0-via-then-after-lt0 w ↦ (
        λ t. absurd (cc),
        λ within. not_both (passed_below after refl w.if-after-lt0.true)
            within.after,
      )
      | then-after-lt0-via-else-after-lt0+then-before-gt0 w ↦ (
        λ t. absurd (cc),
        λ within. not_both (passed_below refl before w.if-before-gt0.true)
            within.before,
      )
    ]

pub overflow_sub-result : goal.overflow_sub-result
overflow_sub-result c =
    let p = c.args.first in
    let r = c.args.second in
    let a = c.args.thrust in
    let px : SFits w32 c.args.first.x = search rules in
    let py : SFits w32 c.args.first.y = search rules in
    let rx : SFits w32 c.args.second.x = search rules in
    let ry : SFits w32 c.args.second.y = search rules in
    let reached = c.if-not-is_near.ensures.reached in
    let x : Strips c.args.thrust.x = bounded reached.x in
    let y : Strips c.args.thrust.y = bounded reached.y in
    let after : Strips (cross p (place_of a)) = search machine depth 40 fits 5000 in
    let before : Strips (cross r (place_of a)) = search machine depth 40 fits 5000 in
    let s : Strips c.turn-after.result =
    strip_same c.turn-after.result (cross p (place_of a)) c.turn-after.ensures after in
    let t : Strips c.turn-before.result =
    strip_same c.turn-before.result (cross r (place_of a)) c.turn-before.ensures before in
    fits (search machine depth 40 fits 5000) tt

pub overflow_mul-result : goal.overflow_mul-result
overflow_mul-result c =
    let p = c.args.first in
    let r = c.args.second in
    let px : SFits w32 c.args.first.x = search rules in
    let py : SFits w32 c.args.first.y = search rules in
    let rx : SFits w32 c.args.second.x = search rules in
    let ry : SFits w32 c.args.second.y = search rules in
    let is : c.turn-area.result ≡ cross p r =
    c.turn-area.ensures
    ∙ ap₂ (λ (x y : ℤ). p.x *ℤ y -ℤ p.y *ℤ x) c.thrust_of.ensures.x c.thrust_of.ensures.y in
    let area : Strips (cross p r) = search machine depth 40 fits 5000 in
    let s : Strips c.turn-area.result = strip_same c.turn-area.result (cross p r) is area in
    fits (search machine depth 40 fits 5000) tt

pub returns : goal.returns
returns c =
    let p = c.args.first in
    let r = c.args.second in
    let a = c.args.thrust in
    let px : SFits w32 c.args.first.x = search rules in
    let py : SFits w32 c.args.first.y = search rules in
    let rx : SFits w32 c.args.second.x = search rules in
    let ry : SFits w32 c.args.second.y = search rules in
    let reached = c.if-not-is_near.ensures.reached in
    let x : Strips c.args.thrust.x = bounded reached.x in
    let y : Strips c.args.thrust.y = bounded reached.y in
    let after : Strips (cross p (place_of a)) = search machine depth 40 fits 5000 in
    let before : Strips (cross r (place_of a)) = search machine depth 40 fits 5000 in
    let s : Strips c.turn-after.result =
    strip_same c.turn-after.result (cross p (place_of a)) c.turn-after.ensures after in
    let t : Strips c.turn-before.result =
    strip_same c.turn-before.result (cross r (place_of a)) c.turn-before.ensures before in
    let is : c.turn-area.result ≡ cross p r =
    c.turn-area.ensures
    ∙ ap₂ (λ (x y : ℤ). p.x *ℤ y -ℤ p.y *ℤ x) c.thrust_of.ensures.x c.thrust_of.ensures.y in
    let area : Strips (cross p r) = search machine depth 40 fits 5000 in
    let u : Strips c.turn-area.result = strip_same c.turn-area.result (cross p r) is area in
    let wide : to_z w128
    (of_z w128 (to_z w128 (of_z w128 c.turn-after.result) -ℤ to_z w128
    (of_z w128 c.turn-before.result))) ≡ cross p (place_of a) -ℤ cross r (place_of a) =
    strip (search machine depth 40 fits 5000) tt in
    let most : to_z w128
    (of_z w128 (to_z w128 (of_z w128 c.turn-area.result) *ℤ to_z w128
    (of_z w128 (to_z w64 (of_z w64 c.args.q))))) ≡ cross p r *ℤ c.args.q =
    strip (search machine depth 40 fits 5000) tt in
    let fa : SFits w128 c.turn-after.result = search rules in
    let fb : SFits w128 c.turn-before.result = search rules in
    let fr : SFits w128 c.turn-area.result = search rules in (
      λ t. record {
        turns = failed (to_z-of_z w128 c.turn-area.result fr ∙ is) refl c.if-area-le0.false;
        after =
            failed_below (to_z-of_z w128 c.turn-after.result fa ∙ c.turn-after.ensures) refl
            c.if-after-lt0.false;
        before =
            failed_below refl (to_z-of_z w128 c.turn-before.result fb ∙ c.turn-before.ensures)
            c.if-before-gt0.false;
        within = passed wide most t;
      },
      λ within. passes wide most within.within,
    )
