-- Cells that the test of equality can't tell apart are the same.
use Rattle.std.proofs.Common.{◌≡◌, ℕ, List, [], ◌∷◌, Bool, true, false, ◌&&◌, refl, ap₂}
use Rattle.std.proofs.Common.{nat_eq, arith}
use Rattle.std.proofs.lemmas.Bool.Decides.{nat_tests}
use Rattle.std.specs.Bool.{beq}
use Rattle.std.specs.Cmp.Lexicographic.{pointwise}
use Rattle.plant_model.specs.declared.board.Cell.{Cell}
use Rattle.plant_model.specs.declared.board.Cell.TheVariants.{Pending, Seen}
use Rattle.plant_model.specs.declared.board.Cells.{Cells}
use Rattle.plant_model.specs.contracts.board.CellPartialEq.TheImpl.{ghosts as cell_ghosts}
use Rattle.plant_model.specs.contracts.board.CellsPartialEq.TheImpl.{ghosts}

abbrev cell_eq : Cell → Cell → Bool
cell_eq cell other = cell_ghosts.eq cell other

abbrev pub cells_eq : Cells → Cells → Bool
cells_eq own other = ghosts.eq own other

both_true : (a b : Bool) → (a && b) ≡ true → (a ≡ true) × (b ≡ true)
both_true true b both = (refl, both)
both_true false b both = absurd (cc)

same_number : (m n : ℕ) → nat_eq m n ≡ true → m ≡ n
same_number m n is = grind (arith, nat_tests)

same_bool : (a b : Bool) → beq a b ≡ true → a ≡ b
same_bool true true is = refl
same_bool true false is = absurd (cc)
same_bool false true is = absurd (cc)
same_bool false false is = refl

same_cell : (cell other : Cell) → cell_eq cell other ≡ true → cell ≡ other
same_cell Pending Pending is = refl
same_cell Pending (Seen version holds current) is = absurd (cc)
same_cell (Seen version holds current) Pending is = absurd (cc)
same_cell (Seen version holds current) (Seen number held latest) is =
    let parts = both_true _ _ is in
    let rest = both_true _ _ parts.1 in
    let numbers = same_number version number parts.0 in
    let verdicts = same_bool holds held rest.0 in
    let times = same_bool current latest rest.1 in
    λ i. Seen (numbers i) (verdicts i) (times i)

same_list : (xs ys : List Cell) → pointwise cell_eq xs ys ≡ true → xs ≡ ys
same_list [] [] is = refl
same_list [] (y ∷ ys) is = absurd (cc)
same_list (x ∷ xs) [] is = absurd (cc)
same_list (x ∷ xs) (y ∷ ys) is =
    let parts = both_true _ _ is in
    ap₂ (λ (first : Cell) (more : List Cell). first ∷ more) (same_cell x y parts.0)
    (same_list xs ys parts.1)

pub same_cells : (own other : Cells) → cells_eq own other ≡ true → own ≡ other
same_cells own other is =
    let parts = both_true _ _ is in
    let latest = same_number own.latest other.latest parts.0 in
    let list = same_list own.list.items other.list.items parts.1 in
    λ i. record { latest = latest i; list = record { items = list i } }
