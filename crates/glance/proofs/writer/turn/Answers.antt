use Rattle.std.proofs.Common.{ap, subst, sym, ◌∙◌, Some}
use Rattle.glance.specs.Readers.{Writes}
use Rattle.glance.proofs.Places.{publishes, published_of, turned_writes, turned_knows}
use Rattle.glance.proofs.writer.turn.Goals as goal

pub publish_as-turned-requires : goal.publish_as-turned-requires
publish_as-turned-requires g c next is =
    let glance = c.requires.0 in
    let taken = c.in-Some.taken in
    let writes : Writes glance (Some taken) =
    subst (Writes glance) (sym c.take.ensures.value ∙ c.in-Some.is) c.requires.1 in
    publishes _ _ taken.desk.shown.value next
    (ap (λ s. s.glance) is ∙ (published_of glance _ _ writes.1 writes.0 ∙ sym writes.0))

pub returns-clause-writes : goal.returns-clause-writes
returns-clause-writes g c glance before =
    let turned = c.publish_as-turned.result.0 in
    let writes : Writes glance (Some c.in-Some.taken) =
    subst (Writes glance) (sym c.take.ensures.value ∙ c.in-Some.is) before in
    let after : Writes glance (Some turned) = turned_writes glance _ _ _ _
    c.publish_as-turned.result.1 writes.0 writes.1 c.publish_as-turned.ensures.values in
    subst (Writes glance) (sym c.replace-left.ensures.after) after

pub returns-clause-knows : goal.returns-clause-knows
returns-clause-knows g c glance before =
    let turned = c.publish_as-turned.result.0 in
    let writes : Writes glance (Some c.in-Some.taken) =
    subst (Writes glance) (sym c.take.ensures.value ∙ c.in-Some.is) before in
    let after : Writes glance (Some turned) = turned_writes glance _ _ _ _
    c.publish_as-turned.result.1 writes.0 writes.1 c.publish_as-turned.ensures.values in
    let knows = turned_knows glance turned.desk.shown.value _ _ c.publish_as-turned.result.1
    (c.publish_as-turned.ensures.succeeds tt) c.publish_as-turned.ensures.rule after.0 in
    rw c.replace-left.ensures.after knows
