use Rattle.std.proofs.Common.{rules, tests}
use Rattle.std.proofs.lemmas.Iterator.{YieldsList-from_slice}
use Rattle.std.proofs.lemmas.Iterator.Search.{all_from_yields_List}
use Rattle.plant_model.specs.Rings.{is_sector}
use Rattle.plant_file.proofs.rings.are_on_ring.Goals as goal

pub returns : goal.returns
returns c =
    all_from_yields_List (is_sector c.args.points) _ _ c.all.result c.all.ensures.ran
    (YieldsList-from_slice c.args.sectors.now cc) (λ x b q k. search (rules, tests))
