use Rattle.std.proofs.Common.{ap, sym, ◌∙◌}
use Rattle.std.proofs.lemmas.Bool.{OnTrue_from}
use Rattle.glance.proofs.SameCells.{same_cells}
use Rattle.glance.proofs.shot.Shot.shows_as.Goals as goal

pub returns : goal.returns
returns g c =
    rw (← ap (λ s. s.cells) c.self.view_is, ← ap (λ s. s.cells) c.other.view_is)
    (OnTrue_from _ _ (λ is. same_cells c.self.inside.cells c.other.inside.cells
    (sym c.eq.ensures ∙ is)))
