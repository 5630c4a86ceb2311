-- The test of fixed thrusts.
use Rattle.std.proofs.Common.{◌≡◌, pos, List, [], ◌∷◌, true, refl, ap}
use Rattle.std.specs.List.{list_all}
use Rattle.std.specs.Ordering.{int_eq}
use Rattle.std.proofs.lemmas.Bool.{and_from, and_parts}
use Rattle.std.proofs.lemmas.Bool.Decides.{Decides-int_eq}
use Rattle.plant_model.specs.declared.thrust.Point.{Point}
use Rattle.feasibility.proofs.Beyond.{same_point}
use Rattle.capability.specs.Reserves.{AreAtRest, is_at_rest}

pub at_rest : (fixed : List Point) → list_all is_at_rest fixed ≡ true → AreAtRest fixed
at_rest [] all = tt
at_rest (p ∷ fixed) all =
    let parts = and_parts (is_at_rest p) (list_all is_at_rest fixed) all in
    let both = and_parts (int_eq p.x (pos 0)) (int_eq p.y (pos 0)) parts.0 in (
      same_point ((Decides-int_eq p.x (pos 0)).0 both.0) ((Decides-int_eq p.y (pos 0)).0 both.1),
      at_rest fixed parts.1,
    )

pub at_rest_tests : (fixed : List Point) → AreAtRest fixed → list_all is_at_rest fixed ≡ true
at_rest_tests [] rest = refl
at_rest_tests (p ∷ fixed) rest =
    and_from (is_at_rest p) (list_all is_at_rest fixed)
    (and_from (int_eq p.x (pos 0)) (int_eq p.y (pos 0))
    ((Decides-int_eq p.x (pos 0)).1 (ap (λ (v : Point). v.x) rest.0))
    ((Decides-int_eq p.y (pos 0)).1 (ap (λ (v : Point). v.y) rest.0)))
    (at_rest_tests fixed rest.1)
