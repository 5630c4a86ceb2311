use Rattle.std.proofs.Common.{sym, subst}
use Rattle.std.proofs.lemmas.List.Elements.{All-nil}
use Rattle.wrench_geometry.specs.Fans.{AreAtLever}
use Rattle.wrench_geometry.specs.Wrenches.{IsImage}
use Rattle.wrench_geometry.proofs.Levers.{none_have_lever}
use Rattle.wrench_geometry.proofs.sums.ImagesDefault.default.Goals as goal

pub invariant_of-result : goal.invariant_of-result
invariant_of-result c =
    subst AreAtLever (sym c.new.ensures)
    (record { images = All-nil IsImage; one_lever = none_have_lever })
