use Rattle.std.proofs.Common.{rules, tests}
use Rattle.std.proofs.lemmas.Iterator.{YieldsList-from_slice}
use Rattle.std.proofs.lemmas.Iterator.Search.{all_from_yields_List}
use Rattle.plant_model.specs.Rings.{is_ring_point}
use Rattle.plant_file.proofs.rings.are_ring_points.Goals as goal

pub returns : goal.returns
returns c =
    all_from_yields_List is_ring_point _ _ c.all.result c.all.ensures.ran
    (YieldsList-from_slice c.args.points.now cc) (λ x b q k. search (rules, tests))
