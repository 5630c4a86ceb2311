use Rattle.std.proofs.Common.{◌≡◌, length, rules}
use Rattle.bus_topology.proofs.Shares.{no_share, some_share}
use Rattle.bus_topology.proofs.power.share.Goals as goal

pub returns-then-rated-eq0 : goal.returns-then-rated-eq0
returns-then-rated-eq0 c =
    let long : length c.args.islands.now.of ≡ 8 = search rules in
    no_share c.args.plant.now c.args.standing.now c.args.islands.now.of long c.requires.islands
    c.args.section c.requires.live
    c.parts-parts.result.now c.number-island.result c.rated-rated.result c.parts-parts.ensures.parts
    c.number-island.ensures c.rated-rated.ensures.value c.if-rated-eq0.true

pub returns : goal.returns
returns c =
    let long : length c.args.islands.now.of ≡ 8 = search rules in
    some_share c.args.plant.now c.args.standing.now c.args.islands.now.of long c.requires.islands
    c.args.section c.requires.live
    c.parts-parts.result.now c.number-island.result c.rated-rated.result c.parts-parts.ensures.parts
    c.number-island.ensures c.rated-rated.ensures.value
    c.power.result c.power.ensures.value c.if-rated-eq0.false
