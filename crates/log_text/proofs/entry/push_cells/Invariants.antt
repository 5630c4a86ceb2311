-- The text so far has the latest version's number and the cells so far.
use Rattle.std.proofs.Common.{◌≡◌, ◌++◌, string_bytes, take, codes}
use Rattle.std.specs.Fmt.{decimal}
use Rattle.std.specs.List.{flat_map}
use Rattle.log_text.specs.Texts.{cell_text}
use Rattle.log_text.proofs.entry.push_cells.Given as goal

abbrev pub invariant-loop-cell : goal.invariant-loop-cell
invariant-loop-cell l = string_bytes l.text ≡ string_bytes l.fn.text
    ++ (codes "CELLS," ++ decimal l.cells.latest
    ++ flat_map cell_text (take l.cell-index l.cell-items))
