use Rattle.std.proofs.Common.{◌≡◌, ◌∙◌, map, ap, ap₂, sym}
use Rattle.toml.specs.View.{table_view, view}
use Rattle.plant_file.specs.declared.fault.Key.TheVariants as key
use Rattle.plant_file.specs.Documents.{text_in}
use Rattle.plant_file.specs.Described.{list_at, member_named, texts_at}
use Rattle.plant_file.proofs.BuiltLemmas.{built_all, built_more, map_twice}
use Rattle.plant_file.proofs.parts.group.Goals as goal

pub loop-value-preserved : goal.loop-value-preserved
loop-value-preserved c =
    let doc = table_view c.args.document.now in
    c.push.ensures.items
    ∙ built_more (λ d. member_named doc (text_in d)) view c.list_at-value-items.result.now
    c.loop-value.value-index c.value-item.result c.loop-value.members.items c.member_named.result
    c.loop-value-test.true c.value-item.is c.loop-value.invariant (c.member_named.ensures
    ∙ ap (member_named doc) c.text.ensures)

pub returns : goal.returns
returns c =
    let doc = table_view c.args.document.now in
    let d = view c.args.element.now in
    let members : c.loop-value.members.items ≡ map (member_named doc) (texts_at key.Members d) =
    built_all (λ e. member_named doc (text_in e)) view c.list_at-value-items.result.now
    c.loop-value.value-index c.loop-value.members.items _ c.loop-value-test.false
    c.loop-value.invariant
    (map_twice (member_named doc) text_in (list_at key.Members d)
    ∙ ap (map (λ e. member_named doc (text_in e))) (sym c.list_at-value-items.ensures)) in
    ap₂ (λ n m. record { name = n; members = record { items = m } }) (c.name.ensures
    ∙ c.text_at.ensures) members
