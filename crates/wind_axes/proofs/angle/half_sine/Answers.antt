use Rattle.std.proofs.Common.{arith}
use Rattle.std.proofs.lemmas.Int.{ints}
use Rattle.wind_axes.proofs.Sines.{sine_at_most}
use Rattle.wind_axes.proofs.angle.half_sine.Goals as goal

pub returns-clause-high : goal.returns-clause-high
returns-clause-high c =
    omega (arith, ints, sine_at_most c.from.result c.from-2.result (omega arith))
