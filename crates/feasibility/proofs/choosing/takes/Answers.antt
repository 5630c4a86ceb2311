use Rattle.std.proofs.Common.{◌≡◌, ◌∙◌, ◌+◌, ◌<ℤ◌, ℕ, inr, subst, arith, length, refl}
use Rattle.std.proofs.Common.{map, rules, to_z, of_z, ℤ}
use Rattle.std.specs.Int.{w128}
use Rattle.std.proofs.lemmas.Int.{ints, to_z-of_z}
use Rattle.thrust_region.specs.Choices.{choice_of}
use Rattle.thrust_region.specs.Pieces.{all_points}
use Rattle.wrench_geometry.specs.Chosen.{images_of, levers_of}
use Rattle.wrench_geometry.specs.Vectors.{support_of}
use Rattle.wrench_geometry.specs.declared.vector.TheConstants.{MOST_PLAIN}
use Rattle.wrench_geometry.proofs.Bounds.{wider}
use Rattle.feasibility.specs.Steps.{CutOffBelow, FallsShort}
use Rattle.feasibility.proofs.Steps.{one_more_cut_off}
use Rattle.feasibility.proofs.choosing.takes.Goals as goal

pub dot-requires : goal.dot-requires
dot-requires c =
    inr (wider MOST_PLAIN MOST_PLAIN (omega (arith, ints)) (omega (arith, ints)) c.requires.ahead)

pub loop-init : goal.loop-init
loop-init c =
    let list = c.args.cuts.now.items in
    let same : length list ≡ length list + 0 = omega arith in
    record {
      cut = subst (λ (n : ℕ). CutOffBelow c.args.plant.now c.args.regions.now c.args.ahead n list)
          same c.requires.cut.cut;
      none = λ h. refl;
    }

pub loop-preserved : goal.loop-preserved
loop-preserved c =
    let plant = c.args.plant.now in
    let regions = c.args.regions.now in
    let ahead = c.args.ahead in
    let w = c.args.w in
    let list = c.args.cuts.now.items in
    let m = c.loop.counter in
    let k = length list + m in
    let next : c.len-next.result ≡ length list = c.len-next.ensures.value in
    let along : to_z w128 (of_z w128 c.dot.result) ≡ c.dot.result =
    to_z-of_z w128 _ (search rules) in
    let at = c.cut_off_from-size.ensures.short m c.loop-test.true in
    let short : FallsShort plant regions ahead k w =
    subst (λ (n : ℕ). FallsShort plant regions ahead (n + m) w) next
    (subst (λ (z : ℤ). support_of (images_of (levers_of plant)
    (choice_of (map all_points regions.list.items) (c.len-next.result + m))) w <ℤ z)
    (along ∙ c.dot.ensures) at) in
    let more : k + 1 ≡ length list + (m + 1) = omega arith in
    record {
      cut = subst (λ (n : ℕ). CutOffBelow plant regions ahead n c.push.new.self.items) more
          (one_more_cut_off plant regions ahead k c.loop.cuts.items c.push.new.self.items w
          c.push.ensures.items short c.requires.primitive c.loop.invariant.cut);
      none = λ h. absurd (omega (arith, h));
    }
