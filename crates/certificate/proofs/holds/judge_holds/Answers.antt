use Rattle.std.proofs.Common.{◌≡◌, ◌∙◌, ℤ, List, SFits, ap, sym, refl, length, map, w64, rules}
use Rattle.std.proofs.Common.{arith}
use Rattle.std.proofs.lemmas.Int.{ints, to_z-of_z}
use Rattle.std.proofs.lemmas.List.{length-map}
use Rattle.plant_model.specs.declared.parts.Thruster.{Thruster}
use Rattle.plant_model.specs.declared.plant.Parts.{Parts}
use Rattle.plant_model.specs.declared.thrust.Thrust.{Thrust}
use Rattle.wrench_geometry.specs.Chosen.{levers_of}
use Rattle.wrench_geometry.specs.Vectors.{scaled_by}
use Rattle.certificate.specs.Beside.{IsFirstAstray, LieBelow}
use Rattle.certificate.specs.Outcomes.{question_of, total_of}
use Rattle.certificate.specs.Sides.{place_of}
use Rattle.certificate.specs.Totals.{vector_of}
use Rattle.certificate.proofs.Held.{IsCounted, fails_at_sum, fails_at_thruster, holds_valid}
use Rattle.certificate.proofs.Held.{said_of_equals}
use Rattle.certificate.proofs.holds.judge_holds.Goals as goal
use Rattle.certificate.proofs.holds.judge_holds.Goals.{After-sum_at_levers, Else-list-len}

-- what holds where the thrusts are looked at
counted : (c : Else-list-len) →
    IsCounted (question_of c.args.plant.now c.args.regions.now c.args.demand) c.args.number
    c.args.q c.args.thrusts.now
counted c =
    let q : SFits w64 c.args.q = search rules in
    let plain = to_z-of_z w64 c.args.q q in
    record {
      from_1 = omega (arith, ints, plain);
      there = omega (arith, c.choices.ensures.product);
      one_each = omega (
        arith,
        ap length c.as_slice-list.ensures.value,
        c.len.ensures.value,
        ap (λ (p : Parts). length p.thrusters.items) c.parts.ensures.parts,
        length-map c.args.plant.now.thrusters.items (λ (t : Thruster). t.lever),
      );
    }

-- the sum is that of the thrusts
total : (c : After-sum_at_levers) →
    total_of (levers_of c.args.plant.now) (map place_of c.args.thrusts.now.list.items)
    ≡ vector_of c.sum_at_levers.result
total c =
    ap (λ (l : List Thrust). total_of (levers_of c.args.plant.now) (map place_of l))
    (sym c.as_slice-list.ensures.value)
    ∙ sym c.sum_at_levers.ensures

pub returns-in-Some-clause-err : goal.returns-in-Some-clause-err
returns-in-Some-clause-err c =
    let q : SFits w64 c.args.q = search rules in
    fails_at_thruster (question_of c.args.plant.now c.args.regions.now c.args.demand) c.args.number
    c.args.q c.args.thrusts.now c.in-Some.i
    (counted (goal.at.returns-in-Some-clause-err c).Else-list-len)
    (said_of_equals (λ p f t r. IsFirstAstray p f t r c.in-Some.i) c.choice.ensures.pieces
    c.as_slice.ensures.value c.as_slice-list.ensures.value (to_z-of_z w64 c.args.q q)
    c.in-Some.ensures.some)

pub returns-then-not-is_product-clause-err : goal.returns-then-not-is_product-clause-err
returns-then-not-is_product-clause-err c =
    let q : SFits w64 c.args.q = search rules in
    let plain = to_z-of_z w64 c.args.q q in
    fails_at_sum (question_of c.args.plant.now c.args.regions.now c.args.demand) c.args.number
    c.args.q c.args.thrusts.now
    (counted (goal.at.returns-then-not-is_product-clause-err c).Else-list-len)
    (said_of_equals (λ p f t r. LieBelow p f t r (length t)) c.choice.ensures.pieces
    c.as_slice.ensures.value c.as_slice-list.ensures.value plain
    c.in_default.ensures.none)
    (λ sum. let yes =
    c.if-not-is_product.ensures.1
    (sym (total (goal.at.returns-then-not-is_product-clause-err c).After-sum_at_levers) ∙ sum
    ∙ ap (λ (z : ℤ). scaled_by z c.args.demand) (sym plain)) in cc)

pub returns-clause-ok : goal.returns-clause-ok
returns-clause-ok c =
    let q : SFits w64 c.args.q = search rules in
    let plain = to_z-of_z w64 c.args.q q in
    holds_valid (question_of c.args.plant.now c.args.regions.now c.args.demand) c.args.number
    c.args.q c.args.thrusts.now (counted (goal.at.returns-clause-ok c).Else-list-len)
    (said_of_equals (λ p f t r. LieBelow p f t r (length t)) c.choice.ensures.pieces
    c.as_slice.ensures.value c.as_slice-list.ensures.value plain
    c.in_default.ensures.none)
    (total (goal.at.returns-clause-ok c).After-sum_at_levers ∙ c.if-not-is_product.ensures.0 refl
    ∙ ap (λ (z : ℤ). scaled_by z c.args.demand) plain)
