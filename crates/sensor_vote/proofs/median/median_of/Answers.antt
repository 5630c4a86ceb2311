-- Each axis has the middle one of its three numbers.
use Rattle.std.proofs.Common.{◌≡◌, ◌∙◌, ℕ, ℤ, refl, rules, w32, to_z, of_z}
use Rattle.std.proofs.lemmas.Int.{to_z-of_z}
use Rattle.sensor_vote.specs.Medians.{middle}
use Rattle.sensor_vote.specs.declared.median.Median.{Median}
use Rattle.sensor_vote.proofs.median.median_of.Goals as goal

same_middle : {a b c a' b' c' : ℤ} → a' ≡ a → b' ≡ b → c' ≡ c → middle a' b' c' ≡ middle a b c
same_middle is_a is_b is_c = rw (is_a, is_b, is_c) refl

same_median : (x y x' y' : ℤ) (heading heading' : ℕ) → x ≡ x' → y ≡ y' → heading ≡ heading'
    → ◌≡◌ {A = Median} (record { x = x; y = y; heading = heading })
    (record { x = x'; y = y'; heading = heading' })
same_median x y x' y' heading heading' is_x is_y is_heading = rw (is_x, is_y, is_heading) refl

pub returns-clause-value : goal.returns-clause-value
returns-clause-value c =
    let a = c.args.a.now in
    let b = c.args.b.now in
    let d = c.args.c.now in
    let x : to_z w32 (of_z w32 c.middle.result) ≡ middle a.x b.x d.x =
    to_z-of_z w32 c.middle.result (search rules) ∙ c.middle.ensures
    ∙ same_middle (to_z-of_z w32 a.x (search rules)) (to_z-of_z w32 b.x (search rules))
    (to_z-of_z w32 d.x (search rules)) in
    let y : to_z w32 (of_z w32 c.middle-2.result) ≡ middle a.y b.y d.y =
    to_z-of_z w32 c.middle-2.result (search rules) ∙ c.middle-2.ensures
    ∙ same_middle (to_z-of_z w32 a.y (search rules)) (to_z-of_z w32 b.y (search rules))
    (to_z-of_z w32 d.y (search rules)) in
    same_median _ _ _ _ _ _ x y c.heading.ensures.value
