use Rattle.std.proofs.Common.{◌≡◌, ◌∙◌, sym, true, length, arith}
use Rattle.std.specs.Prelude.{nat_le}
use Rattle.std.proofs.lemmas.Bool.Decides.{nat_tests}
use Rattle.plant_model.specs.Rings.{is_border}
use Rattle.plant_file.proofs.RangeLemmas.{all_more, all_over, all_stop, and_true}
use Rattle.plant_file.proofs.rings.is_round.Goals as goal

pub returns-then-not-is_border : goal.returns-then-not-is_border
returns-then-not-is_border c =
    let ring = c.args.ring.now in
    let long : nat_le 3 (length ring) ≡ true = grind (arith, nat_tests) in
    sym (and_true long (sym c.loop-edge.invariant
    ∙ all_stop (is_border ring) (length ring) c.loop-edge.edge c.loop-edge-test.true
    (sym c.is_border.ensures ∙ c.if-not-is_border.true)))

pub loop-edge-preserved : goal.loop-edge-preserved
loop-edge-preserved c =
    let ring = c.args.ring.now in
    sym (all_more (is_border ring) (length ring) c.loop-edge.edge c.loop-edge-test.true
    (sym c.is_border.ensures ∙ c.if-not-is_border.false)) ∙ c.loop-edge.invariant

pub returns : goal.returns
returns c =
    let ring = c.args.ring.now in
    let long : nat_le 3 (length ring) ≡ true = grind (arith, nat_tests) in
    sym (and_true long (sym c.loop-edge.invariant
    ∙ all_over (is_border ring) (length ring) c.loop-edge.edge c.loop-edge-test.false))
