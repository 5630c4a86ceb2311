use Rattle.std.proofs.Common.{◌∙◌, sym, subst}
use mathlib.Core.Bool.{true≢false}
use Rattle.wrench_geometry.specs.Vectors.{zero_vector}
use Rattle.wrench_geometry.proofs.Bounds.{same_vector}
use Rattle.exit_point.proofs.Compared.{apart_from_test}
use Rattle.capability.specs.Reserves.{AreAtRest}
use Rattle.capability.proofs.Resting.{at_rest, at_rest_tests}
use Rattle.capability.proofs.parts.margin_of.Goals as goal

pub returns-then-not-are_at_rest : goal.returns-then-not-are_at_rest
returns-then-not-are_at_rest c =
    let none = c.default.ensures in (
      (λ is_zero. apart_from_test c.args.demand c.default.result c.if-eq.ensures
          (is_zero ∙ sym (same_vector {b = zero_vector} none.0 none.1.0 none.1.1))),
      (λ rest. true≢false
          (sym (at_rest_tests c.as_slice.result.now
          (subst AreAtRest (sym c.as_slice.ensures.value) rest))
          ∙ sym c.if-not-are_at_rest.ensures)),
    )

pub greatest_part-requires-clause-rest : goal.greatest_part-requires-clause-rest
greatest_part-requires-clause-rest c =
    subst AreAtRest c.as_slice.ensures.value
    (at_rest c.as_slice.result.now (sym c.if-not-are_at_rest.ensures))

pub returns : goal.returns
returns c =
    let none = c.default.ensures in (
      (λ is_zero. apart_from_test c.args.demand c.default.result c.if-eq.ensures
          (is_zero ∙ sym (same_vector {b = zero_vector} none.0 none.1.0 none.1.1))),
      subst AreAtRest c.as_slice.ensures.value
          (at_rest c.as_slice.result.now (sym c.if-not-are_at_rest.ensures)),
      c.greatest_part.ensures,
    )
