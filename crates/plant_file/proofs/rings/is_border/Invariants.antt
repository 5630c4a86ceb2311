-- Each place so far is inside.
use Rattle.std.proofs.Common.{◌≡◌, ◌-◌, length}
use Rattle.std.specs.List.{list_all, range_with_len}
use Rattle.plant_model.specs.Rings.{places}
use Rattle.plant_file.proofs.RangeLemmas.{is_in}
use Rattle.plant_file.proofs.rings.is_border.Given as goal

abbrev pub invariant-loop-place : goal.invariant-loop-place
invariant-loop-place l =
    list_all (is_in l.ring l.edge l.after) (range_with_len l.place (length l.ring - l.place))
    ≡ list_all (is_in l.ring l.edge l.after) (places (length l.ring))
