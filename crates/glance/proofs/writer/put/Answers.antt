use Rattle.std.proofs.Common.{ap, subst, refl, ◌∙◌, Some}
use Rattle.glance.specs.Readers.{Writes}
use Rattle.glance.proofs.Places.{put_writes}
use Rattle.glance.proofs.writer.put.Goals as goal

pub returns : goal.returns
returns g c =
    let glance = c.args.shot.glance in
    let writes : Writes glance (Some c.in-Some.writer) =
    subst (Writes glance) c.in-Some.is c.requires in (
      ap (λ d. d.shown.value.glance) c.append.ensures.desk ∙ writes.0,
      put_writes glance c.args.shot _ _ c.append.result writes.1 refl c.append.ensures.pending,
    )
