use Rattle.std.proofs.Common.{◌≡◌, ◌∙◌, ap, sym, ℕ, ◌∷◌, [], get_or, if◌then◌else◌}
use Rattle.std.proofs.Common.{Bool}
use Rattle.bus_topology.specs.Shares.{quarter_of}
use Rattle.redundancy_groups.specs.Surviving.{left_at, quarter_at}
use Rattle.redundancy_groups.proofs.Plants.{whole_pieces}
use Rattle.redundancy_groups.proofs.Ways.{share_is}
use Rattle.redundancy_groups.proofs.regions.pieces_at.Goals as goal

pub of-requires-clause-points : goal.of-requires-clause-points
of-requires-clause-points c = whole_pieces c.args.thruster.now c.requires.thruster

pub returns-clause-value : goal.returns-clause-value
returns-clause-value c =
    let t = c.args.thruster.now in
    let p = c.args.plant.now in
    let s = c.args.standing.now in
    let mask = get_or c.args.status.now.barred c.args.place 0 in
    let share = share_is p s t.section c.share-share.result c.share-share.ensures in
    let quarter : c.quarter-quarter.result ≡ quarter_at p s t = c.quarter-quarter.ensures.quarter
    ∙ ap (λ (n : ℕ). quarter_of n t.thresholds) share in
    c.of.ensures.left ∙ ap (λ (n : ℕ). left_at n mask t) quarter
    ∙ ap (λ (b : Bool). if b then left_at (quarter_at p s t) mask t else [] ∷ [])
    (sym c.if-not-standing-place.false)
