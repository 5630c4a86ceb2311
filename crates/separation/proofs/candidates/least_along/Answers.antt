use Rattle.separation.proofs.CutOrder.{at_most_normal, none_ahead}
use Rattle.separation.proofs.candidates.least_along.Goals as goal

pub returns-in-Some-clause-at_most_normal : goal.returns-in-Some-clause-at_most_normal
returns-in-Some-clause-at_most_normal g c =
    at_most_normal c.args.sums.now c.args.d c.args.normal c.in-Some.w c.lesser.result
    c.cut_of.result c.in-Some.ensures.either c.cut_of.ensures.direction c.cut_of.ensures.cut
    c.lesser.ensures.at_most_second

pub returns-in-None-clause-at_most_normal : goal.returns-in-None-clause-at_most_normal
returns-in-None-clause-at_most_normal g c =
    λ w either ahead. absurd
    (none_ahead c.args.normal c.args.d w c.in-None.ensures.none either ahead)
