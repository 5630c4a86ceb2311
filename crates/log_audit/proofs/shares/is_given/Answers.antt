-- Place by place, and by the total.
use Rattle.std.proofs.Common.{◌≡◌, ◌∙◌, ℤ, pos, ◌*ℤ◌, ◌≤ℤ◌, List, SFits, ap, sym, refl, length, map, w64, rules}
use Rattle.std.proofs.Common.{arith}
use Rattle.std.proofs.lemmas.Int.{ints, to_z-of_z}
use Rattle.std.proofs.lemmas.List.{length-map}
use Rattle.plant_model.specs.declared.parts.Thruster.{Thruster}
use Rattle.plant_model.specs.declared.plant.Parts.{Parts}
use Rattle.plant_model.specs.declared.thrust.Thrust.{Thrust}
use Rattle.thrust_region.specs.Choices.{choice_of}
use Rattle.thrust_region.specs.Pieces.{points_of}
use Rattle.wrench_geometry.specs.Chosen.{levers_of}
use Rattle.wrench_geometry.specs.Vectors.{scaled_by}
use Rattle.wrench_geometry.specs.declared.vector.Vec3.{Vec3}
use Rattle.certificate.specs.Beside.{LieBelow}
use Rattle.certificate.specs.Losses.{demand_of}
use Rattle.certificate.specs.Outcomes.{question_of, total_of}
use Rattle.certificate.specs.Sides.{place_of}
use Rattle.certificate.proofs.Held.{said_of_equals}
use Rattle.log_audit.specs.Totals.{vector_of}
use Rattle.log_audit.proofs.Standing.{all_from_below, below_from_all}
use Rattle.log_audit.proofs.shares.is_given.Goals as goal

pub returns-then-not-lie : goal.returns-then-not-lie
returns-then-not-lie c =
    let given = c.args.given.now in
    let question = question_of c.args.plant.now c.args.regions.now (demand_of c.args.demand) in
    let q : SFits w64 given.q = search rules in (
      λ t. absurd (cc),
      λ gives. c.if-not-lie.ensures.lie.1
          (said_of_equals (λ p f t r. LieBelow p f t r (length t)) (sym c.choice.ensures.pieces)
          (sym c.as_slice.ensures.value) (sym c.as_slice-thrusts.ensures.value)
          (sym (to_z-of_z w64 given.q q))
          (below_from_all given.q (choice_of question.regions given.choice) question.fixed
          given.thrusts.list.items gives.lie)),
    )

pub returns : goal.returns
returns c =
    let plant = c.args.plant.now in
    let given = c.args.given.now in
    let thrusts = given.thrusts.list.items in
    let question = question_of plant c.args.regions.now (demand_of c.args.demand) in
    let q : SFits w64 given.q = search rules in
    let plain = to_z-of_z w64 given.q q in
    let levers = length-map plant.thrusters.items (λ (t : Thruster). t.lever) in
    let one_each : length thrusts ≡ length question.levers =
    omega (
      arith,
      ap length c.as_slice-thrusts.ensures.value,
      c.len.ensures.value,
      ap (λ (p : Parts). length p.thrusters.items) c.parts.ensures.parts,
      levers,
    ) in
    let pieces : length (choice_of question.regions given.choice) ≡ length thrusts =
    omega (
      arith,
      ap length c.choice.ensures.pieces,
      length-map c.choice.result.pieces.items points_of,
      c.choice.ensures.one_each,
      c.requires.region_each,
      one_each,
      levers,
    ) in
    let fixed : length question.fixed ≡ length thrusts =
    omega (arith, c.requires.fixed_each, one_each, levers) in
    let below = said_of_equals (λ p f t r. LieBelow p f t r (length t)) c.choice.ensures.pieces
    c.as_slice.ensures.value c.as_slice-thrusts.ensures.value plain
    (c.if-not-lie.ensures.lie.0 refl) in
    let total : vector_of c.sum_at_levers.result ≡ total_of (levers_of plant) (map place_of thrusts) =
    c.sum_at_levers.ensures.value
    ∙ ap (λ (l : List Thrust). total_of (levers_of plant) (map place_of l))
    c.as_slice-thrusts.ensures.value in
    let scaled = ap (λ (v : Vec3). scaled_by given.fraction.bottom v) total in
    let over = ap (λ (z : ℤ). scaled_by (z *ℤ given.fraction.top) (demand_of c.args.demand)) plain in
    let from_1 : pos 1 ≤ℤ given.q = omega (arith, ints, plain) in (
      λ t. record {
        from_1 = from_1;
        one_each = one_each;
        lie = all_from_below given.q (choice_of question.regions given.choice) question.fixed thrusts
            pieces fixed below;
        sum = sym scaled ∙ c.is_part.ensures.0 t ∙ over;
      },
      λ gives. c.is_part.ensures.1 (scaled ∙ gives.sum ∙ sym over),
    )
