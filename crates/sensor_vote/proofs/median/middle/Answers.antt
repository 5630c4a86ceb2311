-- The middle one is the greater of the two lesser ones.
use Rattle.std.proofs.Common.{◌≡◌, ◌∙◌, rules, w32, FitsSigned}
use Rattle.std.proofs.lemmas.Int.{to_z-of_z}
use Rattle.std.specs.Int.{int_max, int_min}
use Rattle.sensor_vote.proofs.Headings.{middle-is}
use Rattle.sensor_vote.proofs.median.middle.Goals as goal

pub returns : goal.returns
returns c =
    let a_fits : FitsSigned w32 c.args.a = search rules in
    let b_fits : FitsSigned w32 c.args.b = search rules in
    let c_fits : FitsSigned w32 c.args.c = search rules in
    let lesser : c.min.result ≡ int_min c.args.a c.args.b =
    simp to_z-of_z at c.min.ensures.value in
    let greater : c.max.result ≡ int_max c.args.a c.args.b =
    simp to_z-of_z at c.max.ensures.value in
    let lesser_fits : FitsSigned w32 c.min.result = search rules in
    let greater_fits : FitsSigned w32 c.max.result = search rules in
    let inner : c.min-2.result ≡ int_min c.max.result c.args.c =
    simp to_z-of_z at c.min-2.ensures.value in
    let inner_fits : FitsSigned w32 c.min-2.result = search rules in
    let outer : c.max-2.result ≡ int_max c.min.result c.min-2.result =
    simp to_z-of_z at c.max-2.ensures.value in
    to_z-of_z w32 c.max-2.result (search rules) ∙ rw (outer, inner, greater, lesser)
    (middle-is c.args.a c.args.b c.args.c)
