-- The wedges of a run go over from what is left to the pieces.
use Rattle.std.proofs.Common.{◌≡◌, ◌∙◌, ap, sym, ◌+◌, ◌-◌, List, ◌++◌, length, map, append_assoc}
use Rattle.std.proofs.Common.{length-append, eqb-true, arith}
use Rattle.std.proofs.lemmas.List.{length-map}
use Rattle.plant_model.specs.declared.thrust.Point.{Point}
use Rattle.plant_model.specs.Rings.{cut, wedges}
use Rattle.thrust_region.specs.Pieces.{all_points, points_of}
use Rattle.thrust_region.proofs.Cuts.{cut_fits, cut_whole, pieces_from, pieces_skip, pieces_take}
use Rattle.thrust_region.proofs.Cuts.{run_has_some}
use Rattle.thrust_region.proofs.cutting.cut_round.Goals as goal
use Rattle.thrust_region.proofs.cutting.cut_round.Goals.{then-ends, else-ends}

pub cut_run-requires-clause-room : goal.cut_run-requires-clause-room
cut_run-requires-clause-room c =
    let ring = c.args.ring.now in
    let sectors = c.args.sectors.now in
    let run = c.deref.result.now in
    let none : length sectors ≡ 0 =
    eqb-true (length sectors) 0 (sym c.is_empty.ensures ∙ c.if-is_empty.true) in
    let whole : cut ring sectors ≡ wedges (length run) run =
    cut_whole ring run sectors none c.requires.longer (c.deref.ensures.0 ∙ c.whole_run.ensures)
    in
    omega (
      arith,
      ap length whole,
      cut_fits ring sectors c.requires.ring c.requires.sectors c.requires.longer,
      ap length c.requires.empty,
    )

pub returns-then-is_empty : goal.returns-then-is_empty
returns-then-is_empty c =
    let sectors = c.args.sectors.now in
    let run = c.deref.result.now in
    let none : length sectors ≡ 0 =
    eqb-true (length sectors) 0 (sym c.is_empty.ensures ∙ c.if-is_empty.true) in
    c.cut_run.ensures
    ∙ ap (λ (l : List _). map points_of l ++ wedges (length run) run) c.requires.empty
    ∙ sym (cut_whole c.args.ring.now run sectors none c.requires.longer
    (c.deref.ensures.0 ∙ c.whole_run.ensures))

pub cut_run-requires-then-ends-clause-points : goal.cut_run-requires-then-ends-clause-points
cut_run-requires-then-ends-clause-points c =
    run_has_some c.args.ring.now c.args.sectors.now c.loop-place.place (omega arith)
    c.deref-then-ends.result.now (c.deref-then-ends.ensures.0 ∙ c.run_from.ensures)

pub cut_run-requires-then-ends-clause-room : goal.cut_run-requires-then-ends-clause-room
cut_run-requires-then-ends-clause-room c =
    let ring = c.args.ring.now in
    let sectors = c.args.sectors.now in
    let place = c.loop-place.place in
    let run = c.deref-then-ends.result.now in
    let take : pieces_from ring sectors place (length ring - place) ≡ wedges (length run) run
    ++ pieces_from ring sectors (place + 1) (length ring - (place + 1)) =
    pieces_take ring sectors place (omega arith) run
    (c.deref-then-ends.ensures.0 ∙ c.run_from.ensures) (sym c.ends.ensures ∙ c.if-ends.true) in
    omega (
      arith,
      ap length c.loop-place.invariant,
      ap length take,
      length-append (all_points c.loop-place.pieces)
          (pieces_from ring sectors place (length ring - place)),
      length-append (wedges (length run) run)
          (pieces_from ring sectors (place + 1) (length ring - (place + 1))),
      length-map c.loop-place.pieces.list.items points_of,
      cut_fits ring sectors c.requires.ring c.requires.sectors c.requires.longer,
    )

pub loop-place-preserved : goal.loop-place-preserved
loop-place-preserved c =
    let ring = c.args.ring.now in
    let sectors = c.args.sectors.now in
    let place = c.loop-place.place in
    let others = pieces_from ring sectors (place + 1) (length ring - (place + 1)) in
    elim c.if-ends.branch [
      | then-ends w ↦
          let run = w.deref-then-ends.result.now in
          let take : pieces_from ring sectors place (length ring - place) ≡ wedges (length run) run
          ++ others =
          pieces_take ring sectors place (omega arith) run
          (w.deref-then-ends.ensures.0 ∙ w.run_from.ensures)
          (sym c.ends.ensures ∙ w.if-ends.true) in
          ap (λ (p : _). all_points p ++ others) w.pieces-is
          ∙ ap (λ (l : List (List Point)). l ++ others) w.cut_run-then-ends.ensures
          ∙ append_assoc (all_points c.loop-place.pieces) (wedges (length run) run) others
          ∙ ap (λ (l : List (List Point)). all_points c.loop-place.pieces ++ l) (sym take)
          ∙ c.loop-place.invariant
      | else-ends w ↦
          ap (λ (p : _). all_points p ++ others) w.pieces-is
          ∙ ap (λ (l : List (List Point)). all_points c.loop-place.pieces ++ l)
          (sym (pieces_skip ring sectors place (omega arith)
          (sym c.ends.ensures ∙ w.if-ends.false)))
          ∙ c.loop-place.invariant
    ]
