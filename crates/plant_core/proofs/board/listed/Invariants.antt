use Rattle.std.proofs.Common.{◌≡◌, map, take}
use Rattle.plant_core.specs.Board.{cell_of}
use Rattle.plant_core.proofs.board.listed.Given as goal

abbrev pub invariant-loop-verdict : goal.invariant-loop-verdict
invariant-loop-verdict l =
    l.list.items ≡ map (cell_of l.latest) (take l.verdict-index l.verdicts)
