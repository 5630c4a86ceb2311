use Rattle.std.proofs.Common.{rules, Fits, w64, ℤ, pos, neg_ℤ, ◌+ℤ◌, ◌-ℤ◌, ◌*ℤ◌, ◌≡◌, ◌∙◌, ap}
use Rattle.std.proofs.Common.{arith}
use Rattle.std.proofs.lemmas.Int.{ints}
use Rattle.dp_num.specs.Quotients.{clamped}
use Rattle.int_ring.proofs.Machine.{strip, machine}
use Rattle.pid.proofs.axis.sum_after.Goals as goal

pub returns-clause-value : goal.returns-clause-value
returns-clause-value c =
    let limit : Fits w64 c.args.gains.limit = search rules in
    let minus : pos 0 -ℤ pos c.args.gains.limit ≡ neg_ℤ (pos c.args.gains.limit) =
    omega (arith, ints) in
    strip (search machine depth 40 fits 5000) tt
    ∙ ap (λ (low : ℤ). clamped (c.args.sum +ℤ c.args.error *ℤ pos c.args.elapsed) low
    (pos c.args.gains.limit)) minus
