-- How many wedges a run has.
use Rattle.std.proofs.Common.{◌≡◌, refl, ℕ, zero, suc, ◌+◌, ◌-◌, ◌<◌, ◌≤◌, pos, int_le, List, []}
use Rattle.std.proofs.Common.{◌∷◌, length, drop, Bool, true, false, cond, arith}
use Rattle.std.proofs.Math.Dec.{ltb}
use Rattle.std.proofs.lemmas.Bool.{ltb-true}
use Rattle.std.proofs.lemmas.List.{length-drop}
use Rattle.plant_model.specs.declared.thrust.Point.{Point}
use Rattle.plant_model.specs.Rings.{cross, first_wedge, wedges}
use Rattle.thrust_region.proofs.Wedges.{front_more, turns_from_itself}

-- each point turns by no more than half a turn to the next one
abbrev pub TurnsTo : Point → List Point → Type 0
TurnsTo p [] = Unit {0}
TurnsTo p (q ∷ qs) = int_le (pos 0) (cross p q) ≡ true

abbrev pub AreTurning : List Point → Type 0
AreTurning [] = Unit {0}
AreTurning (p ∷ ps) = TurnsTo p ps × AreTurning ps

pub AreTurning-drop : (k : ℕ) (run : List Point) → AreTurning run → AreTurning (drop k run)
AreTurning-drop zero run turning = turning
AreTurning-drop (suc k) [] turning = tt
AreTurning-drop (suc k) (p ∷ ps) turning = AreTurning-drop k ps turning.1

pub wedge_has_two : (p q : Point) (rest : List Point) → int_le (pos 0) (cross p q) ≡ true
    → 2 ≤ length (first_wedge (p ∷ q ∷ rest))
wedge_has_two p q rest turning =
    rw (
      front_more (λ r. int_le (pos 0) (cross p r)) 7 p (q ∷ rest) (turns_from_itself p),
      front_more (λ r. int_le (pos 0) (cross p r)) 6 q rest turning,
    ) (omega arith)

-- a run of two points and more has fewer wedges than points
wedges_fewer : (most : ℕ) (run : List Point) → AreTurning run → 2 ≤ length run
    → length (wedges most run) + 1 ≤ length run
wedges_fewer zero run turning two = omega arith
wedges_fewer (suc most) [] turning two = absurd (omega arith)
wedges_fewer (suc most) (p ∷ []) turning two = absurd (omega arith)
wedges_fewer (suc most) (p ∷ q ∷ rest) turning two =
    by_test (ltb (length (first_wedge (p ∷ q ∷ rest))) (length (p ∷ q ∷ rest))) refl
    (wedge_has_two p q rest turning.0)
    (wedges_fewer most (drop (length (first_wedge (p ∷ q ∷ rest)) - 1) (p ∷ q ∷ rest))
    (AreTurning-drop (length (first_wedge (p ∷ q ∷ rest)) - 1) (p ∷ q ∷ rest) turning))
  where
    by_test : (b : Bool) → ltb (length (first_wedge (p ∷ q ∷ rest))) (length (p ∷ q ∷ rest)) ≡ b
        → 2 ≤ length (first_wedge (p ∷ q ∷ rest)) →
        (2 ≤ length (drop (length (first_wedge (p ∷ q ∷ rest)) - 1) (p ∷ q ∷ rest)) →
        length (wedges most (drop (length (first_wedge (p ∷ q ∷ rest)) - 1) (p ∷ q ∷ rest))) + 1 ≤
        length (drop (length (first_wedge (p ∷ q ∷ rest)) - 1) (p ∷ q ∷ rest))) →
        length (cond b (first_wedge (p ∷ q ∷ rest) ∷ wedges most
        (drop (length (first_wedge (p ∷ q ∷ rest)) - 1) (p ∷ q ∷ rest)))
        (first_wedge (p ∷ q ∷ rest) ∷ [])) + 1 ≤ length (p ∷ q ∷ rest)
    by_test true longer wide fewer =
        let below = ltb-true (length (first_wedge (p ∷ q ∷ rest))) (length (p ∷ q ∷ rest)) longer in
        let left = length-drop (length (first_wedge (p ∷ q ∷ rest)) - 1) (p ∷ q ∷ rest) in
        let others = fewer (omega arith) in
        omega arith
    by_test false shorter wide fewer = omega arith

pub wedges_few : (most : ℕ) (run : List Point) → AreTurning run → 0 < length run
    → length (wedges most run) ≤ length run
wedges_few zero run turning some = omega arith
wedges_few (suc most) [] turning some = absurd (omega arith)
wedges_few (suc most) (p ∷ []) turning some =
    let one : length (first_wedge (p ∷ []))
    ≡ 1 = rw (front_more (λ r. int_le (pos 0) (cross p r)) 7 p [] (turns_from_itself p)) refl in
    rw one (omega arith)
wedges_few (suc most) (p ∷ q ∷ rest) turning some =
    omega (arith, wedges_fewer (suc most) (p ∷ q ∷ rest) turning (omega arith))

pub wedges_below : (most : ℕ) (run : List Point) → AreTurning run → 2 ≤ length run
    → length (wedges most run) < length run
wedges_below most run turning two = omega (arith, wedges_fewer most run turning two)
