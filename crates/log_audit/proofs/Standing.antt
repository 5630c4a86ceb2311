-- Thrusts in pieces beside fixed thrusts, place by place and one after another.
use Rattle.std.proofs.Common.{◌≡◌, zero, suc, ℤ, List, [], ◌∷◌, length, arith}
use Rattle.plant_model.specs.Lies.{LiesIn}
use Rattle.plant_model.specs.declared.thrust.Point.{Point}
use Rattle.plant_model.specs.declared.thrust.Thrust.{Thrust}
use Rattle.certificate.specs.Beside.{LieBelow}
use Rattle.certificate.specs.Outcomes.{EachStands}

-- each thrust lies in the piece at its place
abbrev pub LieAll : List (List Point) → List Point → List Thrust → ℤ → Type 0
LieAll pieces fixed thrusts q = EachStands (λ piece thrust. LiesIn piece thrust q) q pieces fixed thrusts

pub all_from_below : (q : ℤ) (pieces : List (List Point)) (fixed : List Point)
    (thrusts : List Thrust) → length pieces ≡ length thrusts → length fixed ≡ length thrusts
    → LieBelow pieces fixed thrusts q (length thrusts) → LieAll pieces fixed thrusts q
all_from_below q [] [] [] p f lie = tt
all_from_below q [] [] (a ∷ thrusts) p f lie = absurd (omega (arith, p))
all_from_below q [] (x ∷ fixed) [] p f lie = absurd (omega (arith, f))
all_from_below q [] (x ∷ fixed) (a ∷ thrusts) p f lie = absurd (omega (arith, p))
all_from_below q (piece ∷ pieces) [] [] p f lie = absurd (omega (arith, p))
all_from_below q (piece ∷ pieces) [] (a ∷ thrusts) p f lie = absurd (omega (arith, f))
all_from_below q (piece ∷ pieces) (x ∷ fixed) [] p f lie = absurd (omega (arith, p))
all_from_below q (piece ∷ pieces) (x ∷ fixed) (a ∷ thrusts) p f lie = (
  lie 0 (omega arith),
  all_from_below q pieces fixed thrusts (omega (arith, p)) (omega (arith, f))
      (λ i below. lie (suc i) (omega (arith, below))),
)

pub below_from_all : (q : ℤ) (pieces : List (List Point)) (fixed : List Point)
    (thrusts : List Thrust) → LieAll pieces fixed thrusts q
    → LieBelow pieces fixed thrusts q (length thrusts)
below_from_all q [] [] [] all i below = absurd (omega (arith, below))
below_from_all q [] [] (a ∷ thrusts) all i below = absurd all
below_from_all q [] (x ∷ fixed) thrusts all i below = absurd all
below_from_all q (piece ∷ pieces) [] thrusts all i below = absurd all
below_from_all q (piece ∷ pieces) (x ∷ fixed) [] all i below = absurd all
below_from_all q (piece ∷ pieces) (x ∷ fixed) (a ∷ thrusts) all zero below = all.0
below_from_all q (piece ∷ pieces) (x ∷ fixed) (a ∷ thrusts) all (suc i) below =
    below_from_all q pieces fixed thrusts all.1 i (omega (arith, below))
