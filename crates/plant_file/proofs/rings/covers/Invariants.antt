-- The sectors so far that cover the edge.
use Rattle.std.proofs.Common.{◌≡◌, ◌≤◌, take}
use Rattle.std.specs.List.{count_by}
use Rattle.plant_model.specs.Rings.{is_covered_by}
use Rattle.plant_file.proofs.rings.covers.Given as goal

abbrev pub invariant-loop-sector : goal.invariant-loop-sector
invariant-loop-sector l =
    record {
      counted : l.covers ≡ count_by (is_covered_by l.points l.edge) (take l.sector-index l.sectors);
      few : l.covers ≤ l.sector-index;
    }
