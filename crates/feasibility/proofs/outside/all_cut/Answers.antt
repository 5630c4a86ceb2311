use Rattle.feasibility.proofs.Steps.{all_primitive, one_more_cut_off}
use Rattle.feasibility.proofs.outside.all_cut.Goals as goal

pub loop-k-preserved : goal.loop-k-preserved
loop-k-preserved c =
    one_more_cut_off c.args.plant.now c.args.regions.now c.args.ahead c.loop-k.k c.loop-k.list.items
    c.push.new.self.items _ c.push.ensures.items c.cut_beyond.ensures.short
    c.cut_beyond.ensures.primitive c.loop-k.invariant

pub returns-clause-lowest : goal.returns-clause-lowest
returns-clause-lowest c =
    all_primitive c.args.plant.now c.args.regions.now c.args.ahead c.loop-k.k c.loop-k.list.items
    c.loop-k.invariant
