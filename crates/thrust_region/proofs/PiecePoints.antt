-- The points of pieces are points of their ring.
use Rattle.std.proofs.Common.{◌≡◌, ◌∙◌, ap, sym, refl, ◌≢◌, List, [], ◌∷◌, length, Bool, true}
use Rattle.std.proofs.Common.{false, arith}
use Rattle.std.specs.List.{list_all}
use Rattle.std.proofs.Math.Dec.{eqb}
use Rattle.std.proofs.lemmas.Bool.{and_from}
use Rattle.std.proofs.lemmas.Bool.Decides.{nat_tests}
use Rattle.plant_model.specs.declared.thrust.Point.{Point}
use Rattle.plant_model.specs.declared.thrust.Sector.{Sector}
use Rattle.plant_model.specs.Rings.{are_sectors, cut, is_ring, is_ring_point, origin, point_at}
use Rattle.thrust_region.specs.Scaling.{are_whole_points}
use Rattle.thrust_region.proofs.Avoid.{pieces_are_wedges}
use Rattle.thrust_region.proofs.Lists.{all_at, Each}
use Rattle.thrust_region.proofs.Parts.{AreLinked, IsWedge}
use Rattle.thrust_region.proofs.Runs.{point_at-get_or}

ring_points : (ring : List Point) → is_ring ring ≡ true → list_all is_ring_point ring ≡ true
ring_points ring is = grind (arith, nat_tests)

module _ (ring : List Point) (sectors : List Sector) (is : is_ring ring ≡ true) where
  linked_points : (ps : List Point) → AreLinked ring sectors ps → list_all is_ring_point ps ≡ true
  linked_points [] linked = refl
  linked_points (p ∷ ps) linked =
      let free = linked.0 in
      let same : p ≡ point_at ring free.place = free.is in
      let whole : is_ring_point (point_at ring free.place) ≡ true =
      ap is_ring_point (sym (point_at-get_or ring free.place origin free.there))
      ∙ all_at is_ring_point ring free.place origin free.there (ring_points ring is) in
      and_from (is_ring_point p) (list_all is_ring_point ps) (ap is_ring_point same ∙ whole)
      (linked_points ps linked.2)

  wedge_points : (piece : List Point) → IsWedge ring sectors piece → list_all is_ring_point piece
      ≡ true
  wedge_points [] wedge = absurd wedge
  wedge_points (p ∷ ps) wedge = linked_points (p ∷ ps) wedge.0

  all_wedge_points : (pieces : List (List Point)) → Each (IsWedge ring sectors) pieces
      → are_whole_points pieces ≡ true
  all_wedge_points [] each = refl
  all_wedge_points (piece ∷ pieces) each =
      and_from (list_all is_ring_point piece) (are_whole_points pieces) (wedge_points piece each.0)
      (all_wedge_points pieces each.1)

-- so the pieces of a ring can be scaled
pub pieces_are_whole : (ring : List Point) (sectors : List Sector) → is_ring ring ≡ true
    → are_sectors (length ring) sectors ≡ true → are_whole_points (cut ring sectors) ≡ true
pieces_are_whole ring sectors is valid = by_test (eqb (length ring) 2) refl
  where
    by_test : (b : Bool) → eqb (length ring) 2 ≡ b → are_whole_points (cut ring sectors) ≡ true
    by_test true two = rw two (and_from (list_all is_ring_point ring) true (ring_points ring is)
        refl)
    by_test false many =
        let longer : length ring ≢ 2 = grind (arith, nat_tests) in
        all_wedge_points ring sectors is (cut ring sectors)
        (pieces_are_wedges ring sectors is valid longer)
