use Rattle.std.proofs.Common.{◌≡◌, ◌∙◌, length, true, false, ap, ap₂, sym}
use Rattle.std.proofs.lemmas.List.{length-map}
use Rattle.toml.specs.View.{view}
use Rattle.plant_model.specs.Rings.{are_sectors, cut, is_ring}
use Rattle.thrust_region.specs.Pieces.{points_of}
use Rattle.plant_file.specs.declared.fault.Key.TheVariants as key
use Rattle.plant_file.specs.Described.{naturals_at, pieces_in, points_at, sectors_at}
use Rattle.plant_file.specs.PlantText.{are_barred}
use Rattle.plant_file.proofs.MaskLemmas.{places_of}
use Rattle.plant_file.proofs.ThrusterLemmas.{thruster_judged}
use Rattle.plant_file.proofs.thruster.judge_thruster.Goals as goal

pub returns-then-are_barred : goal.returns-then-are_barred
returns-then-are_barred c =
    let d = view c.args.element.now in
    let ringed : is_ring (points_at key.Ring d) ≡ true =
    ap is_ring (sym (c.deref.ensures.0 ∙ c.ring-ring.ensures)) ∙ sym c.is_ring.ensures
    ∙ c.if-not-is_ring.false in
    let sectored : are_sectors (length (points_at key.Ring d)) (sectors_at key.Forbid d) ≡ true =
    ap₂ are_sectors (sym (c.len.ensures.value ∙ ap length c.ring-ring.ensures))
    (sym (c.deref-2.ensures.0 ∙ c.sectors-sectors.ensures))
    ∙ sym c.are_sectors.ensures ∙ c.if-not-are_sectors.false in
    let pieces : c.len-2.result ≡ length (pieces_in d) =
    c.len-2.ensures.value ∙ sym (length-map c.cut_ring-pieces.result.list.items points_of)
    ∙ ap length (c.cut_ring-pieces.ensures
    ∙ ap₂ cut c.ring-ring.ensures (c.deref-3.ensures.0 ∙ c.sectors-sectors.ensures)) in
    let barred : are_barred (length (pieces_in d)) (naturals_at key.Barred d) ≡ true =
    ap₂ are_barred (sym pieces) (sym (ap places_of c.list_at.ensures)) ∙ sym c.are_barred.ensures
    ∙ c.if-are_barred.true in
    sym (thruster_judged c.args.index d true true true ringed sectored barred)

pub returns-else-are_barred : goal.returns-else-are_barred
returns-else-are_barred c =
    let d = view c.args.element.now in
    let ringed : is_ring (points_at key.Ring d) ≡ true =
    ap is_ring (sym (c.deref.ensures.0 ∙ c.ring-ring.ensures)) ∙ sym c.is_ring.ensures
    ∙ c.if-not-is_ring.false in
    let sectored : are_sectors (length (points_at key.Ring d)) (sectors_at key.Forbid d) ≡ true =
    ap₂ are_sectors (sym (c.len.ensures.value ∙ ap length c.ring-ring.ensures))
    (sym (c.deref-2.ensures.0 ∙ c.sectors-sectors.ensures))
    ∙ sym c.are_sectors.ensures ∙ c.if-not-are_sectors.false in
    let pieces : c.len-2.result ≡ length (pieces_in d) =
    c.len-2.ensures.value ∙ sym (length-map c.cut_ring-pieces.result.list.items points_of)
    ∙ ap length (c.cut_ring-pieces.ensures
    ∙ ap₂ cut c.ring-ring.ensures (c.deref-3.ensures.0 ∙ c.sectors-sectors.ensures)) in
    let barred : are_barred (length (pieces_in d)) (naturals_at key.Barred d) ≡ false =
    ap₂ are_barred (sym pieces) (sym (ap places_of c.list_at.ensures)) ∙ sym c.are_barred.ensures
    ∙ c.if-are_barred.false in
    sym (thruster_judged c.args.index d true true false ringed sectored barred)
