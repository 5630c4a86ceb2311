use Rattle.std.proofs.Common.{◌≡◌, ◌∙◌, sym, true, false, arith}
use Rattle.std.specs.Prelude.{nat_le}
use Rattle.std.specs.List.{count_by}
use Rattle.std.proofs.lemmas.Bool.Decides.{nat_tests}
use Rattle.plant_model.specs.Rings.{is_covered_by}
use Rattle.plant_file.proofs.RangeLemmas.{all_more, all_over, all_stop}
use Rattle.plant_file.proofs.rings.are_apart.Goals as goal

pub returns-then-covers-gt1 : goal.returns-then-covers-gt1
returns-then-covers-gt1 c =
    let twice : nat_le (count_by (is_covered_by c.args.points c.loop-edge.edge) c.args.sectors.now)
    1 ≡ false = rw (← c.covers.ensures) (grind (arith, nat_tests)) in
    sym (all_stop
    (λ edge. nat_le (count_by (is_covered_by c.args.points edge) c.args.sectors.now) 1)
    c.args.points c.loop-edge.edge c.loop-edge-test.true twice) ∙ c.loop-edge.invariant

pub loop-edge-preserved : goal.loop-edge-preserved
loop-edge-preserved c =
    let once : nat_le (count_by (is_covered_by c.args.points c.loop-edge.edge) c.args.sectors.now) 1
    ≡ true = rw (← c.covers.ensures) (grind (arith, nat_tests)) in
    sym (all_more
    (λ edge. nat_le (count_by (is_covered_by c.args.points edge) c.args.sectors.now) 1)
    c.args.points c.loop-edge.edge c.loop-edge-test.true once) ∙ c.loop-edge.invariant

pub returns : goal.returns
returns c =
    sym (all_over
    (λ edge. nat_le (count_by (is_covered_by c.args.points edge) c.args.sectors.now) 1)
    c.args.points c.loop-edge.edge c.loop-edge-test.false) ∙ c.loop-edge.invariant
