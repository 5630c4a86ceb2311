use Rattle.std.proofs.Common.{◌≡◌, ◌∙◌, SFits, w64, ap, subst, sym, rules}
use Rattle.std.proofs.lemmas.Int.{to_z-of_z}
use Rattle.wrench_geometry.specs.Chosen.{levers_of}
use Rattle.wrench_geometry.specs.Vectors.{IsVectorWithin, difference_of}
use Rattle.wrench_geometry.specs.declared.vector.TheConstants.{MOST_PLAIN}
use Rattle.wrench_geometry.proofs.Bounds.{same_vector}
use Rattle.certificate.specs.Losses.{vector_of_load}
use Rattle.certificate.proofs.Loads.{load_is_total, plain_beside}
use Rattle.certificate.proofs.demand.ahead.Goals as goal
use Rattle.certificate.proofs.demand.ahead.Goals.{After-difference}

less : (c : After-difference) →
    c.difference.result ≡ difference_of c.args.demand (vector_of_load c.fixed_load-load.result)
less c =
    let load = c.fixed_load-load.result in
    let x : SFits w64 load.x = search rules in
    let y : SFits w64 load.y = search rules in
    let n : SFits w64 load.n = search rules in
    c.difference.ensures
    ∙ ap (difference_of c.args.demand)
    (same_vector (to_z-of_z w64 load.x x) (to_z-of_z w64 load.y y) (to_z-of_z w64 load.n n))

pub returns-clause-ahead : goal.returns-clause-ahead
returns-clause-ahead c =
    less c
    ∙ ap (difference_of c.args.demand) (ap vector_of_load c.fixed_load-load.ensures.value
    ∙ load_is_total (levers_of c.args.plant.now) c.args.regions.now.fixed.items)

pub returns-clause-within : goal.returns-clause-within
returns-clause-within c =
    subst (IsVectorWithin MOST_PLAIN MOST_PLAIN) (sym (less c))
    (plain_beside c.args.demand c.fixed_load-load.result c.requires.demand
    c.fixed_load-load.ensures.within)
