-- Wedges, one point more.
use Rattle.std.proofs.Common.{◌≡◌, ◌∙◌, ap, sym, refl, ℕ, suc, ◌+◌, ◌-◌, ◌<◌, ◌≤◌, pos, int_le}
use Rattle.std.proofs.Common.{◌++◌, List, [], ◌∷◌, length, take, drop, get_or, Bool, true, false}
use Rattle.std.proofs.Common.{cond, append_assoc, drop-cons, add-one, arith}
use Rattle.std.proofs.Math.Dec.{ltb}
use Rattle.std.proofs.lemmas.Bool.{lt-ltb}
use Rattle.std.proofs.lemmas.Bool.Decides.{nat_tests}
use Rattle.int_ring.proofs.Ring.{ring, reads}
use Rattle.plant_model.specs.declared.thrust.Point.{Point}
use Rattle.plant_model.specs.Rings.{cross, first_wedge, wedges}
use Rattle.std.specs.List.{take_while}
use Rattle.std.proofs.lemmas.Grind.{common_steps}

-- the front of a list whose first element passes
pub front_more : {A : Type 0} (f : A → Bool) (m : ℕ) (x : A) (rest : List A) → f x ≡ true
    → take (m + 1) (take_while f (x ∷ rest)) ≡ x ∷ take m (take_while f rest)
front_more f m x rest h = rw h (grind (arith, common_steps))

-- an element that passes goes over from what follows
pub passed : {A : Type 0} (f : A → Bool) (most i : ℕ) (front list whole : List A) (d : A)
    → i < length list → i < most → f (get_or list i d) ≡ true →
    front ++ take (most - i) (take_while f (drop i list)) ≡ whole →
    (front ++ get_or list i d ∷ []) ++ take (most - (i + 1)) (take_while f (drop (i + 1) list))
    ≡ whole
passed {A} f most i front list whole d in_list below h e =
    append_assoc front (get_or list i d ∷ [])
    (take (most - (i + 1)) (take_while f (drop (i + 1) list)))
    ∙ ap (λ (l : List A). front ++ l) (sym step)
    ∙ e
  where
    step : take (most - i) (take_while f (drop i list))
        ≡ get_or list i d ∷ take (most - (i + 1)) (take_while f (drop (i + 1) list))
    step =
        let m : most - i ≡ most - (i + 1) + 1 = omega arith in
        let split : drop i list ≡ get_or list i d ∷ drop (i + 1) list =
        rw (add-one, drop-cons list i d) refl in
        rw (m, split) (front_more f (most - (i + 1)) (get_or list i d) (drop (i + 1) list) h)

-- a point turns by no more than half a turn from itself
pub turns_from_itself : (p : Point) → int_le (pos 0) (cross p p) ≡ true
turns_from_itself p = rw none refl
  where
    none : cross p p ≡ pos 0
    none = ring (p.x ∷ p.y ∷ []) (search reads depth 40) refl

pub wedge_has_some : (run : List Point) → 0 < length run → 0 < length (first_wedge run)
wedge_has_some [] some = absurd (omega arith)
wedge_has_some (p ∷ ps) some =
    rw (front_more (λ r. int_le (pos 0) (cross p r)) 7 p ps (turns_from_itself p)) (omega arith)

-- a run longer than its first wedge goes on from the wedge's last point
pub wedges_go_on : (all i : ℕ) (run : List Point) → i < all → length (first_wedge run) < length run
    →
    wedges (all - i) run ≡ first_wedge run ∷ wedges (all - (i + 1))
    (drop (length (first_wedge run) - 1) run)
wedges_go_on all i run more longer =
    let m : all - i ≡ suc (all - (i + 1)) = omega arith in
    let test : ltb (length (first_wedge run)) (length run)
    ≡ true = lt-ltb (length (first_wedge run)) (length run) longer in
    rw (m, test) refl

pub wedges_end : (all i : ℕ) (run : List Point) → i < all → length run ≤ length (first_wedge run)
    → wedges (all - i) run ≡ first_wedge run ∷ []
wedges_end all i run more shorter =
    let m : all - i ≡ suc (all - (i + 1)) = omega arith in
    let test : ltb (length (first_wedge run)) (length run) ≡ false = grind (arith, nat_tests) in
    rw (m, test) refl

wedges_have_some : (most : ℕ) (run : List Point) → 0 < length (wedges (suc most) run)
wedges_have_some most run = by_test (ltb (length (first_wedge run)) (length run))
  where
    by_test : (b : Bool) → 0 < length
        (cond b (first_wedge run ∷ wedges most (drop (length (first_wedge run) - 1) run))
        (first_wedge run ∷ []))
    by_test true = omega arith
    by_test false = omega arith

pub wedges_left : (all i : ℕ) (run : List Point) → i < all → 0 < length (wedges (all - i) run)
wedges_left all i run more =
    let m : all - i ≡ suc (all - (i + 1)) = omega arith in
    rw m (wedges_have_some (all - (i + 1)) run)
