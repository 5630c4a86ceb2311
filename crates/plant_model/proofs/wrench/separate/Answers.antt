-- The components are read as they stand, so one that differs by more decides.
use Rattle.std.proofs.Common.{rules, ◌≡◌, ◌∙◌, sym, ap₂, ℕ, ℤ, Bool, true, false, ◌||◌, to_z, of_z}
use Rattle.std.proofs.Common.{w32, FitsSigned, arith}
use Rattle.std.proofs.lemmas.Int.{to_z-of_z}
use Rattle.plant_model.specs.Versions.{differ_by_more}
use Rattle.plant_model.proofs.wrench.separate.Goals as goal
use Rattle.plant_model.proofs.wrench.separate.Goals.{then-differ_by_more-via-then-differ_by_more}
use Rattle.plant_model.proofs.wrench.separate.Goals.{then-differ_by_more-via-else-differ_by_more+then-differ_by_more-2}

is_read : {result : Bool} (a b : ℤ) (band : ℕ)
    → result ≡ differ_by_more (to_z w32 (of_z w32 a)) (to_z w32 (of_z w32 b)) band
    → FitsSigned w32 a → FitsSigned w32 b → differ_by_more a b band ≡ result
is_read a b band is a_fits b_fits =
    sym (is ∙ ap₂ (λ (p : ℤ) (q : ℤ). differ_by_more p q band) (to_z-of_z w32 a a_fits)
    (to_z-of_z w32 b b_fits))

first_decides : (a b c : Bool) → a ≡ true → true ≡ (a || b || c)
first_decides true b c is = grind arith
first_decides false b c is = grind arith

second_decides : (a b c : Bool) → b ≡ true → true ≡ (a || b || c)
second_decides true b c is = grind arith
second_decides false true c is = grind arith
second_decides false false c is = grind arith

pub returns-then-differ_by_more : goal.returns-then-differ_by_more
returns-then-differ_by_more c =
    let w = c.args.wrench in
    let o = c.args.other in
    elim c.then-differ_by_more.branch [
      | then-differ_by_more-via-then-differ_by_more b ↦ first_decides
          (differ_by_more w.x o.x _) (differ_by_more w.y o.y _) (differ_by_more w.n o.n _)
          (is_read w.x o.x _ c.differ_by_more.ensures (search rules) (search rules)
          ∙ b.if-differ_by_more.true)
      | then-differ_by_more-via-else-differ_by_more+then-differ_by_more-2 b ↦ second_decides
          (differ_by_more w.x o.x _) (differ_by_more w.y o.y _) (differ_by_more w.n o.n _)
          (is_read w.y o.y _ b.differ_by_more-else-differ_by_more.ensures (search rules)
          (search rules) ∙ b.if-differ_by_more-2.true)
    ]
