-- A position is the telegram of a step whose kind is no wind.
use Rattle.std.proofs.Common.{◌≡◌, ◌∙◌, ℕ, false, cond, ◌==◌, ap, sym}
use Rattle.std.proofs.Common.{arith}
use Rattle.std.proofs.lemmas.Bool.Decides.{nat_tests}
use Rattle.telegram.specs.declared.telegram.Telegram.{Telegram}
use Rattle.telegram.specs.declared.telegram.Telegram.TheVariants.{Position, Wind}
use Rattle.drill_streams.specs.Draws.{drawn, next_number}
use Rattle.drill_streams.specs.Steps.{moment_of, offset_of, sensor_at}
use Rattle.drill_streams.proofs.steps.sensor.Goals as goal

not_zero : (n : ℕ) → ¬ (n ≡ 0) → (n == 0) ≡ false
not_zero n other = grind (arith, nat_tests)

-- the numbers are those of the kind and of the moment
position-at : (step number one two kind moment : ℕ) (made : Telegram) → one ≡ next_number number
    → kind ≡ drawn 10 one → ¬ (kind ≡ 0) → two ≡ next_number one
    → moment ≡ moment_of step two
    → made ≡ Position moment (offset_of (next_number two)) (offset_of (next_number (next_number two))) 0
    → made ≡ sensor_at step number
position-at step number one two kind moment made one_is kind_is no_wind two_is moment_is made_is =
    let at : ℕ → Telegram =
    λ n. Position (moment_of step n) (offset_of (next_number n)) (offset_of (next_number (next_number n)))
    0 in
    let second = next_number (next_number number) in
    let test : (drawn 10 (next_number number) == 0) ≡ false =
    ap (λ (n : ℕ). drawn 10 n == 0) (sym one_is) ∙ ap (λ (d : ℕ). d == 0) (sym kind_is) ∙ not_zero kind no_wind in
    let moved : two ≡ second = two_is ∙ ap next_number one_is in
    made_is
    ∙ ap (λ (m : ℕ). Position m (offset_of (next_number two)) (offset_of (next_number (next_number two)))
    0) moment_is
    ∙ ap at moved
    ∙ ap (λ b. cond b (Wind (moment_of step second) (drawn 300 (next_number second))
    (drawn 36000 (next_number (next_number second)))) (at second)) (sym test)

pub returns-else-is_wind-clause-value : goal.returns-else-is_wind-clause-value
returns-else-is_wind-clause-value c =
    position-at c.args.step c.args.draws.now.number c.below-is_wind.new.self.number
    c.moment-moment.new.draws.number c.below-is_wind.result c.moment-moment.result c.position.result
    c.below-is_wind.ensures.number c.below-is_wind.ensures.drawn c.if-is_wind.false
    c.moment-moment.ensures.number c.moment-moment.ensures.value c.position.ensures.value
