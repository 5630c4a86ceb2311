use Rattle.std.proofs.Common.{◌≡◌, ◌∙◌, ap, subst, sym, refl, ◌<ℤ◌, List, length, map, get_or}
use Rattle.std.proofs.Common.{below_more, arith}
use Rattle.thrust_region.specs.Choices.{choice_of}
use Rattle.thrust_region.specs.Pieces.{all_points}
use Rattle.wrench_geometry.specs.Chosen.{images_of, levers_of}
use Rattle.wrench_geometry.specs.Vectors.{dot_of, support_of, zero_vector}
use Rattle.wrench_geometry.specs.declared.vector.Vec3.{Vec3}
use Rattle.certificate.specs.Outcomes.{question_of}
use Rattle.certificate.proofs.Places.{FallShort, fails_at_cut, lost_valid, separate_below}
use Rattle.certificate.proofs.lost.judge_lost.Goals as goal

pub loop-k-preserved : goal.loop-k-preserved
loop-k-preserved c =
    let levers = levers_of c.args.plant.now in
    let w = get_or c.as_slice-directions.result.now c.loop-k.k zero_vector in
    let sums : c.sums_of-sums.result
    ≡ images_of levers (choice_of (map all_points c.args.regions.now.list.items) c.loop-k.k) =
    c.sums_of-sums.ensures ∙ ap (images_of levers) c.choice.ensures.pieces in
    below_more _ _ c.loop-k.invariant
    (subst (λ (l : List (List Vec3)). support_of l w <ℤ dot_of w c.args.ahead) sums
    (c.if-not-check_cut.ensures.0 refl))

pub returns-then-not-check_cut-clause-err : goal.returns-then-not-check_cut-clause-err
returns-then-not-check_cut-clause-err c demand is =
    let levers = levers_of c.args.plant.now in
    let regions = map all_points c.args.regions.now.list.items in
    let cuts = c.args.cuts.now in
    let k = c.loop-k.k in
    let question = question_of c.args.plant.now c.args.regions.now demand in
    let value = c.as_slice-directions.ensures.value in
    let w = get_or cuts.list.items k zero_vector in
    let sums : c.sums_of-sums.result ≡ images_of levers (choice_of regions k) =
    c.sums_of-sums.ensures ∙ ap (images_of levers) c.choice.ensures.pieces in
    let count = sym (ap length value) ∙ c.if-directions-count.false
    ∙ c.choices-count.ensures.product in
    let short : FallShort levers regions c.args.ahead cuts.list.items k =
    subst (λ (l : List Vec3). FallShort levers regions c.args.ahead l k) value c.loop-k.invariant in
    fails_at_cut question cuts k count (omega (arith, c.choices-count.ensures.product))
    (separate_below question cuts c.args.ahead k is short)
    (λ separates.
    let farther : support_of (images_of levers (choice_of regions k)) w <ℤ dot_of w c.args.ahead =
    subst (λ (v : Vec3). support_of (images_of levers (choice_of regions k)) w <ℤ dot_of w v)
    (sym is) separates in
    let here : support_of c.sums_of-sums.result w <ℤ dot_of w c.args.ahead =
    subst (λ (l : List (List Vec3)). support_of l w <ℤ dot_of w c.args.ahead) (sym sums) farther in
    let taken =
    subst (λ (l : List Vec3). support_of c.sums_of-sums.result (get_or l k zero_vector) <ℤ dot_of
    (get_or l k zero_vector) c.args.ahead) (sym value) here in
    let no = c.if-not-check_cut.ensures.1 taken in cc)

pub returns-clause-ok : goal.returns-clause-ok
returns-clause-ok c demand is =
    let levers = levers_of c.args.plant.now in
    let regions = map all_points c.args.regions.now.list.items in
    let cuts = c.args.cuts.now in
    let question = question_of c.args.plant.now c.args.regions.now demand in
    let value = c.as_slice-directions.ensures.value in
    let count = sym (ap length value) ∙ c.if-directions-count.false
    ∙ c.choices-count.ensures.product in
    let short : FallShort levers regions c.args.ahead cuts.list.items c.loop-k.k =
    subst (λ (l : List Vec3). FallShort levers regions c.args.ahead l c.loop-k.k) value
    c.loop-k.invariant in
    lost_valid question cuts count (separate_below question cuts c.args.ahead _ is
    (λ i below. short i (omega (arith, c.choices-count.ensures.product))))
