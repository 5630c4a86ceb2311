use Rattle.std.proofs.Common.{rules, ◌≡◌, ◌∙◌, ap, ap₂, ℕ, ℤ, ◌/◌, ◌%◌, ◌+◌, to_z, of_z, w32, w64}
use Rattle.std.proofs.Common.{FitsSigned}
use Rattle.std.proofs.lemmas.Int.{to_z-of_z}
use Rattle.wind_axes.specs.Wind.{row_at, coefficient_between, component_of}
use Rattle.wind_axes.specs.declared.wind.TheConstants.{ROW_SPACING}
use Rattle.wind_axes.proofs.wind.wind_force.Goals as goal

-- what the call of `component` gives is the clause's component between the two rows
component_is : {result : ℤ} (here next here_row next_row : ℤ) (rest speed : ℕ)
    → result ≡ component_of (coefficient_between (to_z w32 (of_z w32 here))
    (to_z w32 (of_z w32 next)) rest) speed → FitsSigned w64 result → FitsSigned w32 here
    → FitsSigned w32 next → here ≡ here_row → next ≡ next_row
    → to_z w64 (of_z w64 result) ≡ component_of (coefficient_between here_row next_row rest) speed
component_is here next here_row next_row rest speed is fits here_fits next_fits is_here is_next =
    to_z-of_z w64 _ fits ∙ is
    ∙ ap₂ (λ (a : ℤ) (b : ℤ). component_of (coefficient_between a b rest) speed)
    (to_z-of_z w32 here here_fits ∙ is_here) (to_z-of_z w32 next next_fits ∙ is_next)

pub returns : goal.returns
returns c =
    let here = row_at c.args.table.now (c.args.angle / ROW_SPACING) in
    let next = row_at c.args.table.now (c.args.angle / ROW_SPACING + 1) in
    let rest = c.args.angle % ROW_SPACING in
    let x = component_is c.row-here.result.x c.row-next.result.x here.x next.x rest c.args.speed
    c.component.ensures (search rules) (search rules) (search rules)
    (ap (λ r. r.x) c.row-here.ensures) (ap (λ r. r.x) c.row-next.ensures) in
    let y = component_is c.row-here.result.y c.row-next.result.y here.y next.y rest c.args.speed
    c.component-2.ensures (search rules) (search rules) (search rules)
    (ap (λ r. r.y) c.row-here.ensures) (ap (λ r. r.y) c.row-next.ensures) in
    let n = component_is c.row-here.result.n c.row-next.result.n here.n next.n rest c.args.speed
    c.component-3.ensures (search rules) (search rules) (search rules)
    (ap (λ r. r.n) c.row-here.ensures) (ap (λ r. r.n) c.row-next.ensures) in
    rw (x, y, n)
