use Rattle.std.proofs.Common.{◌≡◌, ◌∙◌, List, subst, sym}
use Rattle.plant_model.specs.declared.thrust.Point.{Point}
use Rattle.wrench_geometry.specs.Vectors.{zero_vector}
use Rattle.wrench_geometry.proofs.Bounds.{same_vector}
use Rattle.exit_point.proofs.Compared.{same_from_test}
use Rattle.certificate.specs.Outcomes.{question_of}
use Rattle.feasibility.specs.Beyond.{IsStill}
use Rattle.feasibility.proofs.Beyond.{still_valid}
use Rattle.feasibility.proofs.Steps.{one_each}
use Rattle.feasibility.proofs.analysis.judged.Goals as goal

pub returns-then-eq-clause-valid : goal.returns-then-eq-clause-valid
returns-then-eq-clause-valid c demand is_ahead =
    let plant = c.args.plant.now in
    let regions = c.args.regions.now in
    let none = c.default.ensures in
    let same : c.args.ahead ≡ zero_vector =
    same_from_test c.args.ahead c.default.result c.if-eq.ensures
    ∙ same_vector {b = zero_vector} none.0 none.1.0 none.1.1 in
    still_valid (question_of plant regions demand)
    (one_each plant regions demand c.requires.region_each c.requires.fixed_each) regions.some
    (sym same ∙ is_ahead) c.still.result
    (subst (λ (l : List Point). IsStill l c.still.result) c.as_slice.ensures.value
    c.still.ensures.still)
