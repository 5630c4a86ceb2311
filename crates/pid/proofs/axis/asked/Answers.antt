use Rattle.std.proofs.Common.{ℤ, pos, neg_ℤ, ◌-ℤ◌, ◌≡◌, ◌∙◌, ap, arith}
use Rattle.std.proofs.lemmas.Int.{ints}
use Rattle.dp_num.specs.Quotients.{clamped}
use Rattle.int_ring.proofs.Machine.{strip, machine}
use Rattle.pid.proofs.axis.asked.Goals as goal

pub returns : goal.returns
returns c =
    let minus : pos 0 -ℤ c.args.most ≡ neg_ℤ c.args.most = omega (arith, ints) in
    strip (search machine depth 40 fits 5000) tt
    ∙ ap (λ (low : ℤ). clamped (c.args.output -ℤ c.args.wind) low c.args.most) minus
