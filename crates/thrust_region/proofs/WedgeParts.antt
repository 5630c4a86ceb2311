-- A point of a run, and two points next to each other in it, are in one of its wedges.
use Rattle.std.proofs.Common.{◌≡◌, ◌∙◌, ap, sym, refl, inl, inr, ℕ, zero, suc, ◌+◌, ◌-◌, ◌<◌, ◌≤◌}
use Rattle.std.proofs.Common.{pos, int_le, List, [], ◌∷◌, length, take, drop, subst, Bool, true}
use Rattle.std.proofs.Common.{false, cond, arith}
use Rattle.std.proofs.Math.Dec.{leb, ltb}
use Rattle.std.proofs.lemmas.Bool.{ltb-true}
use Rattle.std.proofs.lemmas.Bool.Decides.{nat_tests}
use Rattle.std.proofs.lemmas.List.{drop-drop, drop-take, length-drop, length-take, take-take}
use Rattle.std.specs.List.{prefix_len}
use Rattle.plant_model.specs.declared.thrust.Point.{Point}
use Rattle.plant_model.specs.Rings.{cross, first_wedge, wedges}
use Rattle.thrust_region.proofs.Lists.{HasPart, SomeOf}
use Rattle.thrust_region.proofs.WedgeCounts.{wedge_has_two, AreTurning, AreTurning-drop}
use Rattle.thrust_region.proofs.Wedges.{wedge_has_some}

-- two fronts of a list are one front
fronts : {A : Type 0} (n m : ℕ) (list : List A) → take n (take m list)
    ≡ take (length (take n (take m list))) list
fronts zero m list = refl
fronts (suc n) zero list = refl
fronts (suc n) (suc m) [] = refl
fronts (suc n) (suc m) (x ∷ xs) = ap (λ (l : List _). x ∷ l) (fronts n m xs)

wedge_is_front : (run : List Point) → first_wedge run ≡ take (length (first_wedge run)) run
wedge_is_front [] = refl
wedge_is_front (p ∷ ps) = fronts 8 (prefix_len (λ r. int_le (pos 0) (cross p r)) (p ∷ ps)) (p ∷ ps)

-- a part that a front holds is in the front
in_front : (part run : List Point) (from count : ℕ) → length part + from ≤ count
    → take (length part) (drop from run) ≡ part → take (length part) (drop from (take count run))
    ≡ part
in_front part run from count fits is =
    let sum : count ≡ from + (count - from) = omega arith in
    rw (sum, drop-take from (count - from) run)
    (take-take (length part) (count - from) (drop from run) (omega arith) ∙ is)

-- a part is no longer than the list that holds it
part_fits : (part list : List Point) (from : ℕ) → 1 ≤ length part
    → take (length part) (drop from list) ≡ part → length part + from ≤ length list
part_fits part list from some is =
    omega (arith, ap length is, length-take (length part) (drop from list), length-drop from list)

pub wedges_part : (part : List Point) → 1 ≤ length part → length part ≤ 2
    → (most : ℕ) (run : List Point) (from : ℕ) → AreTurning run → length run ≤ most
    → take (length part) (drop from run) ≡ part → SomeOf (HasPart part) (wedges most run)
wedges_part part some few zero run from turning fits is =
    absurd (let fit = part_fits part run from some is in omega arith)
wedges_part part some few (suc most) [] from turning fits is =
    absurd (let fit = part_fits part [] from some is in omega arith)
wedges_part part some few (suc most) (p ∷ ps) from turning fits is =
    by_test (ltb (length (first_wedge (p ∷ ps))) (length (p ∷ ps))) refl
    (wedge_has_some (p ∷ ps) (omega arith)) (two ps turning)
    (wedges_part part some few most (drop (length (first_wedge (p ∷ ps)) - 1) (p ∷ ps))
    (from - (length (first_wedge (p ∷ ps)) - 1))
    (AreTurning-drop (length (first_wedge (p ∷ ps)) - 1) (p ∷ ps) turning))
  where
    in_run : length part + from ≤ length (p ∷ ps)
    in_run = part_fits part (p ∷ ps) from some is

    two : (qs : List Point) → AreTurning (p ∷ qs) → 2 ≤ length (p ∷ qs)
        → 2 ≤ length (first_wedge (p ∷ qs))
    two [] turns more = absurd (omega arith)
    two (q ∷ qs) turns more = wedge_has_two p q qs turns.0

    here : length part + from ≤ length (first_wedge (p ∷ ps)) → HasPart part (first_wedge (p ∷ ps))
    here fit = record {
      from = from;
      is =
          subst (λ (w : List Point). take (length part) (drop from w) ≡ part)
          (sym (wedge_is_front (p ∷ ps)))
          (in_front part (p ∷ ps) from (length (first_wedge (p ∷ ps))) fit is);
    }

    by_test : (b : Bool) → ltb (length (first_wedge (p ∷ ps))) (length (p ∷ ps)) ≡ b
        → 0 < length (first_wedge (p ∷ ps))
        → (2 ≤ length (p ∷ ps) → 2 ≤ length (first_wedge (p ∷ ps))) →
        (length (drop (length (first_wedge (p ∷ ps)) - 1) (p ∷ ps)) ≤ most
        → take (length part) (drop (from - (length (first_wedge (p ∷ ps)) - 1))
        (drop (length (first_wedge (p ∷ ps)) - 1) (p ∷ ps))) ≡ part →
        SomeOf (HasPart part) (wedges most (drop (length (first_wedge (p ∷ ps)) - 1) (p ∷ ps)))) →
        SomeOf (HasPart part) (cond b (first_wedge (p ∷ ps) ∷ wedges most
        (drop (length (first_wedge (p ∷ ps)) - 1) (p ∷ ps))) (first_wedge (p ∷ ps) ∷ []))
    by_test true longer filled more others =
        by_place (leb (length part + from) (length (first_wedge (p ∷ ps)))) refl
      where
        by_place : (b : Bool) → leb (length part + from) (length (first_wedge (p ∷ ps))) ≡ b
            → SomeOf (HasPart part) (first_wedge (p ∷ ps) ∷ wedges most
            (drop (length (first_wedge (p ∷ ps)) - 1) (p ∷ ps)))
        by_place true h = inl (here (grind (arith, nat_tests)))
        by_place false h =
            let shorter = ltb-true (length (first_wedge (p ∷ ps))) (length (p ∷ ps)) longer in
            let wide : 2 ≤ length (first_wedge (p ∷ ps)) = more (omega arith) in
            let past : length (first_wedge (p ∷ ps)) < length part + from = grind (arith, nat_tests)
            in
            let left = length-drop (length (first_wedge (p ∷ ps)) - 1) (p ∷ ps) in
            let place : length (first_wedge (p ∷ ps)) - 1 +
            (from - (length (first_wedge (p ∷ ps)) - 1)) ≡ from = omega arith in
            inr (others (omega arith) (rw (
              drop-drop (from - (length (first_wedge (p ∷ ps)) - 1))
                  (length (first_wedge (p ∷ ps)) - 1) (p ∷ ps),
              place,
            ) is))
    by_test false shorter filled more others =
        let all : length (p ∷ ps) ≤ length (first_wedge (p ∷ ps)) = grind (arith, nat_tests) in
        let inside = in_run in
        inl (here (omega arith))
