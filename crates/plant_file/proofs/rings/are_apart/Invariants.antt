-- No edge so far is covered twice.
use Rattle.std.proofs.Common.{◌≡◌, ◌-◌}
use Rattle.std.specs.Prelude.{nat_le}
use Rattle.std.specs.List.{count_by, list_all, range_with_len}
use Rattle.plant_model.specs.Rings.{is_covered_by, places}
use Rattle.plant_file.proofs.rings.are_apart.Given as goal

abbrev pub invariant-loop-edge : goal.invariant-loop-edge
invariant-loop-edge l =
    list_all
    (λ edge. nat_le (count_by (is_covered_by l.points edge) l.sectors) 1)
    (range_with_len l.edge (l.points - l.edge))
    ≡ list_all
    (λ edge. nat_le (count_by (is_covered_by l.points edge) l.sectors) 1)
    (places l.points)
