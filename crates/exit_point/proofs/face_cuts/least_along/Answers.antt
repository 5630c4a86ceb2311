use Rattle.exit_point.proofs.NoMore.{no_more_flat, no_more_normal}
use Rattle.exit_point.proofs.face_cuts.least_along.Goals as goal

pub returns-in-Some-clause-at_most_normal : goal.returns-in-Some-clause-at_most_normal
returns-in-Some-clause-at_most_normal c =
    no_more_normal c.args.sums.now c.args.face.now c.args.normal c.in-Some.u c.lesser.result
    c.cut_of.result c.in-Some.ensures.either c.cut_of.ensures.direction c.cut_of.ensures.cut
    c.lesser.ensures.at_most_second

pub returns-in-None-clause-at_most_normal : goal.returns-in-None-clause-at_most_normal
returns-in-None-clause-at_most_normal c =
    no_more_flat c.args.sums.now c.args.face.now c.args.normal c.args.cut c.in-None.ensures.none
