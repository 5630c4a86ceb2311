use Rattle.std.proofs.Common.{◌≡◌, ◌∙◌, ◌-◌, ℤ, pos, ◌+ℤ◌, ◌-ℤ◌, ◌*ℤ◌, ap, arith}
use Rattle.std.proofs.lemmas.Int.{ints}
use Rattle.dp_num.specs.Quotients.{floor_quotient}
use Rattle.int_ring.proofs.Machine.{fits, strip, machine}
use Rattle.wind_axes.specs.Wind.{component_of}
use Rattle.wind_axes.specs.declared.wind.TheConstants.{ROW_SPACING}
use Rattle.wind_axes.proofs.wind.component.Goals as goal

pub overflow_add-sum : goal.overflow_add-sum
overflow_add-sum c = fits (search machine depth 40 fits 5000) tt

pub overflow_mul-coefficient : goal.overflow_mul-coefficient
overflow_mul-coefficient c = fits (search machine depth 40 fits 5000) tt

pub overflow_cast-result : goal.overflow_cast-result
overflow_cast-result c = fits (search machine depth 40 fits 5000) tt

pub returns : goal.returns
returns c =
    let before : pos ROW_SPACING -ℤ pos c.args.rest ≡ pos (ROW_SPACING - c.args.rest) =
    omega (arith, ints) in
    strip (search machine depth 40 fits 5000) tt
    ∙ ap (λ (weight : ℤ). component_of
    (floor_quotient (c.args.here *ℤ weight +ℤ c.args.next *ℤ pos c.args.rest) (pos ROW_SPACING))
    c.args.speed) before
