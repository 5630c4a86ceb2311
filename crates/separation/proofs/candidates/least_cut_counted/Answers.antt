use Rattle.std.proofs.Common.{◌≡◌, ◌∙◌, ℕ, zero, suc, ◌+◌, ◌-◌, ◌*◌, ◌≤◌, get_or, take, length}
use Rattle.std.proofs.Common.{ap, sym, subst, arith, List}
use Rattle.std.proofs.Math.Nat.{mul-le-mul}
use Rattle.std.proofs.lemmas.List.{length-take-le}
use Rattle.std.proofs.lemmas.List.{take_all, take_more}
use Rattle.wrench_geometry.specs.declared.vector.Vec3.{Vec3}
use Rattle.wrench_geometry.specs.Directions.{directions_of}
use Rattle.wrench_geometry.specs.Vectors.{zero_vector}
use Rattle.separation.proofs.DirectionLists.{directions_from_3}
use Rattle.separation.proofs.LeastCuts.{IsAtMostPairs, directions_that_keep, least_of_pairs}
use Rattle.separation.proofs.LeastCuts.{pairs_more, pairs_none}
use Rattle.separation.proofs.candidates.least_cut_counted.Goals as goal

-- a place more has as many pairs more as there are places before it
steps_more : (now start p after k : ℕ) → 2 * now + p ≤ 2 * start + p * p → after ≤ now + k → k ≡ p →
    2 * after + (p + 1) ≤ 2 * start + (p + 1) * (p + 1)
steps_more now start p after k h e f = omega arith

-- n directions have n·(n - 1)/2 pairs
steps_at_end : (now start first p n : ℕ) → 2 * now + p ≤ 2 * first + p * p → first ≡ start + 1 →
    p ≤ n → 3 ≤ n → now ≤ start + n * (n - 1)
steps_at_end now start first p n h e few from_3 =
    let product : n * (n - 1) ≡ (n - 1) * (n - 1) + (n - 1) = times (n - 1) n (omega arith) in
    let two : 2 ≤ n - 1 = omega arith in
    let more : 2 * 2 ≤ (n - 1) * (n - 1) = mul-le-mul two two in
    let pairs : p * p ≤ n * (n - 1) + p = squares p n few (omega arith) in
    omega arith
  where
    times : (m n : ℕ) → n ≡ m + 1 → n * m ≡ m * m + m
    times m n e = rw e (omega arith)

    squares : (p n : ℕ) → p ≤ n → 1 ≤ n → p * p ≤ n * (n - 1) + p
    squares zero n h k = omega arith
    squares (suc q) n h k =
        let g : q ≤ n - 1 = omega arith in
        let f : suc q * q ≤ n * (n - 1) = mul-le-mul h g in
        omega arith

pub loop-place-init : goal.loop-place-init
loop-place-init g c =
    record {
      parts = c.axis_cut-least.ensures.cut;
      pairs = pairs_none c.args.sums.now c.args.d c.axis_cut-least.result;
      steps = omega arith;
    }

pub loop-place-preserved : goal.loop-place-preserved
loop-place-preserved g c =
    let sums = c.args.sums.now in
    let d = c.args.d in
    let i = c.loop-place.place in
    let members = c.as_slice-members.result.now in
    let before = c.loop-place.invariant in
    let after = c.least_with-least.ensures in
    let P : List Vec3 → Type 0 = IsAtMostPairs sums d c.least_with-least.result in
    record {
      parts = after.cut;
      pairs =
          subst P (sym (take_more members i zero_vector (omega arith)))
          (pairs_more sums d c.loop-place.least c.least_with-least.result (take i members)
          (get_or members i zero_vector)
          after.cut.bottom_from_1 before.parts.bottom_from_1 after.at_most before.pairs
          after.at_most_others);
      steps = steps_more c.loop-place.steps c.axis_cut-least.new.steps i c.least_with-least.new.steps
          (length (take i members)) before.steps after.few_steps (length-take-le i members (omega arith));
    }

pub returns-clause-least : goal.returns-clause-least
returns-clause-least g c =
    let sums = c.args.sums.now in
    let d = c.args.d in
    let P : List Vec3 → Type 0 = IsAtMostPairs sums d c.loop-place.least in
    let all = take_all c.loop-place.place c.as_slice-members.result.now c.loop-place-test.false
    ∙ c.as_slice-members.ensures.value in
    let directions = c.directions_of-directions.ensures in
    least_of_pairs sums d c.loop-place.least c.directions_of-directions.result
    (directions_that_keep sums c.directions_of-directions.result directions.span
    directions.greatest)
    c.loop-place.invariant.parts (subst P all c.loop-place.invariant.pairs)

pub returns-clause-few_steps : goal.returns-clause-few_steps
returns-clause-few_steps g c =
    let members = c.as_slice-members.result.now in
    let all : c.loop-place.place ≡ length members = omega arith in
    steps_at_end c.loop-place.steps c.args.steps.now c.axis_cut-least.new.steps (length members)
    (directions_of c.args.sums.now)
    (subst (λ (p : ℕ). 2 * c.loop-place.steps + p ≤ 2 * c.axis_cut-least.new.steps + p * p) all
    c.loop-place.invariant.steps) c.axis_cut-least.ensures.one_step
    (omega (
      arith,
      all,
      ap length c.as_slice-members.ensures.value,
      c.directions_of-directions.ensures.few,
    )) (directions_from_3 c.args.sums.now)
