use Rattle.std.proofs.Common.{SFits, w64, refl, rules}
use Rattle.std.specs.Int.{w128}
use Rattle.std.proofs.lemmas.Int.{to_z-of_z}
use Rattle.certificate.proofs.holds.is_taken.Goals as goal

pub returns-then-is_taken_along-clause-taken : goal.returns-then-is_taken_along-clause-taken
returns-then-is_taken_along-clause-taken c =
    let q : SFits w64 c.args.q = search rules in
    let x : SFits w128 c.args.thrust.x = search rules in
    let y : SFits w128 c.args.thrust.y = search rules in
    let along_x = simp to_z-of_z at c.if-is_taken_along.ensures.taken in
    let along_y = simp to_z-of_z at c.is_taken_along-then-is_taken_along.ensures.taken in
    (λ t. record { x = along_x.0 refl; y = along_y.0 t }, λ taken. along_y.1 taken.y)
