-- The elements so far.
use Rattle.std.proofs.Common.{◌≡◌, map, take}
use Rattle.toml.specs.View.{view}
use Rattle.plant_file.specs.declared.fault.Key.TheVariants.{Name}
use Rattle.plant_file.specs.Described.{text_at}
use Rattle.plant_file.proofs.parts.sections.Given as goal

abbrev pub invariant-loop-element : goal.invariant-loop-element
invariant-loop-element l =
    l.sections.items ≡ map (text_at Name) (map view (take l.element-index l.element-items))
