-- Each edge so far is a border.
use Rattle.std.proofs.Common.{◌≡◌, ◌-◌, length}
use Rattle.std.specs.List.{list_all, range_with_len}
use Rattle.plant_model.specs.Rings.{is_border, places}
use Rattle.plant_file.proofs.rings.is_round.Given as goal

abbrev pub invariant-loop-edge : goal.invariant-loop-edge
invariant-loop-edge l =
    list_all (is_border l.ring) (range_with_len l.edge (length l.ring - l.edge))
    ≡ list_all (is_border l.ring) (places (length l.ring))
