use Rattle.std.proofs.Common.{◌≡◌, ◌∙◌, map, ap, ap₂}
use Rattle.toml.specs.View.{view}
use Rattle.plant_model.specs.Rings.{cut}
use Rattle.plant_file.specs.declared.fault.Key.TheVariants as key
use Rattle.plant_file.specs.Described.{piece_of, pieces_in, points_at, sectors_at}
use Rattle.plant_file.proofs.RightThrusters.{pieces_from}
use Rattle.plant_file.proofs.thruster.thruster.Goals as goal

pub returns : goal.returns
returns c =
    let d = view c.args.element.now in
    let ring : c.ring-ring.result ≡ record { points = record { items = points_at key.Ring d } } =
    ap (λ points. record { points = record { items = points } }) c.ring-ring.ensures in
    let sectors : c.sectors-sectors.result ≡ record { items = sectors_at key.Forbid d } =
    ap (λ items. record { items = items }) c.sectors-sectors.ensures in
    let cut_is = c.cut_ring-pieces.ensures
    ∙ ap₂ cut c.ring-ring.ensures (c.deref.ensures.0 ∙ c.sectors-sectors.ensures) in
    let pieces : c.cut_ring-pieces.result
    ≡ record { list = record { items = map piece_of (pieces_in d) } } =
    ap (λ list. record { list = record { items = list } })
    (pieces_from c.cut_ring-pieces.result.list.items (pieces_in d) cut_is) in
    cc
