use Rattle.std.proofs.Common.{rules, ◌≡◌, pos, ◌+ℤ◌, ◌-ℤ◌, ◌*ℤ◌, neg_ℤ, ℤ, ap, ◌∙◌, arith, to_z}
use Rattle.std.proofs.Common.{of_z, w32, w64}
use Rattle.std.proofs.lemmas.Int.{ints, to_z-of_z}
use Rattle.int_ring.proofs.Laws.{neg_mul}
use Rattle.wind_axes.specs.Wind.{sine_of, cosine_of}
use Rattle.wind_axes.specs.declared.angle.TheConstants.{WHOLE_SINE}
use Rattle.dp_num.specs.Quotients.{floor_quotient}
use Rattle.wind_axes.proofs.angle.rotate.Goals as goal

-- the sum that the call forms, with the number to the north turned round, is the clause's
-- difference
turned_round : {east' minus_north cosine' sine' : ℤ} (east north cosine sine : ℤ) → east' ≡ east
    → cosine' ≡ cosine → minus_north ≡ neg_ℤ north → sine' ≡ sine
    → east' *ℤ cosine' +ℤ minus_north *ℤ sine' ≡ east *ℤ cosine -ℤ north *ℤ sine
turned_round east north cosine sine is_east is_cosine is_minus is_sine =
    rw (is_east, is_cosine, is_minus, is_sine, neg_mul north sine)

pub returns-clause-starboard : goal.returns-clause-starboard
returns-clause-starboard c =
    let is_east : to_z w64 (of_z w64 c.args.east) ≡ c.args.east = omega (arith, ints) in
    let is_cosine : to_z w32 (of_z w32 c.cosine-cosine.result) ≡ cosine_of c.args.heading =
    omega (arith, ints, c.cosine-cosine.ensures.value) in
    let is_sine : to_z w32 (of_z w32 c.sine-sine.result) ≡ sine_of c.args.heading =
    omega (arith, ints, c.sine-sine.ensures.value) in
    let is_minus : to_z w64 (of_z w64 (pos 0 -ℤ to_z w64 (of_z w64 c.args.north))) ≡ neg_ℤ
    c.args.north = omega (arith, ints) in
    let same = turned_round c.args.east c.args.north _ _ is_east is_cosine is_minus is_sine in
    to_z-of_z w64 _ (search rules) ∙ c.weighted-2.ensures
    ∙ ap (λ (z : ℤ). floor_quotient z WHOLE_SINE) same
