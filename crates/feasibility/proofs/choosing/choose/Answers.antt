use Rattle.std.proofs.Common.{◌≡◌, ℕ, arith, length, subst}
use Rattle.feasibility.specs.Steps.{CutOffBelow}
use Rattle.feasibility.proofs.First.{first_after}
use Rattle.feasibility.proofs.Steps.{all_primitive}
use Rattle.feasibility.proofs.choosing.choose.Goals as goal

pub returns-clause-lowest : goal.returns-clause-lowest
returns-clause-lowest c =
    all_primitive c.args.plant.now c.args.regions.now c.args.ahead (length c.loop-k.list.items)
    c.loop-k.list.items c.loop-k.invariant.cut.cut

pub returns-in-Met-clause-first : goal.returns-in-Met-clause-first
returns-in-Met-clause-first c =
    let list = c.loop-k.list.items in
    let same : length list ≡ c.loop-k.k =
    omega (arith, c.loop-k.invariant.enough, c.if-k-len.false, c.len.ensures.value) in
    first_after c.args.plant.now c.args.regions.now c.args.ahead c.loop-k.k list
    c.in-Met.outcome c.requires.region_each c.requires.fixed_each
    (subst (λ (n : ℕ). CutOffBelow c.args.plant.now c.args.regions.now c.args.ahead n list) same
    c.loop-k.invariant.cut.cut) c.in-Met.ensures.2
