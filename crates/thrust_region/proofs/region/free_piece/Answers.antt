use Rattle.std.proofs.Common.{◌≡◌, ◌∙◌, ap, sym, ℕ, ◌+◌, ◌<◌, List, [], ◌∷◌, length, map, drop, get_or}
use Rattle.std.proofs.Common.{suc, arith}
use Rattle.std.proofs.lemmas.List.{length-map}
use Rattle.std.proofs.Math.ListN.{get_or-map}
use Rattle.std.specs.List.{list_all}
use Rattle.plant_model.specs.declared.thrust.Point.{Point}
use Rattle.plant_model.specs.Rings.{is_ring_point}
use Rattle.thrust_region.specs.Pieces.{points_of}
use Rattle.thrust_region.proofs.Free.{barred_next, free_from, free_next}
use Rattle.thrust_region.proofs.Lists.{all_at}
use Rattle.thrust_region.proofs.region.free_piece.Goals as goal
use Rattle.thrust_region.proofs.region.free_piece.Goals.{then-is_free+else-left-eq0, else-is_free}

pub returns-then-left-eq0-clause-some : goal.returns-then-left-eq0-clause-some
returns-then-left-eq0-clause-some c =
    let pieces = map points_of c.args.pieces.now in
    let i = c.loop-k.k in
    let there : i < length pieces = omega (arith, length-map c.args.pieces.now points_of) in
    let d = points_of c.index-pieces-k.result in
    let next = free_next c.args.barred pieces i d there
    (sym c.is_free.ensures ∙ c.if-is_free.true) in
    let is : points_of c.index-pieces-k.result ≡ get_or pieces i d =
    ap points_of c.index-pieces-k.is
    ∙ sym (get_or-map points_of c.args.pieces.now i c.index-pieces-k.result) in
    is ∙ ap (λ (l : List (List Point)). get_or l 0 []) (sym next)
    ∙ ap (λ (n : ℕ). get_or (free_from c.args.barred i (drop i pieces)) n [])
    (sym c.if-left-eq0.true)
    ∙ c.loop-k.invariant

pub returns-then-left-eq0-clause-whole : goal.returns-then-left-eq0-clause-whole
returns-then-left-eq0-clause-whole c =
    let pieces = map points_of c.args.pieces.now in
    let i = c.loop-k.k in
    let there : i < length pieces = omega (arith, length-map c.args.pieces.now points_of) in
    ap (λ p. list_all is_ring_point (points_of p)) c.index-pieces-k.is
    ∙ ap (list_all is_ring_point)
    (sym (get_or-map points_of c.args.pieces.now i c.index-pieces-k.result))
    ∙ all_at (list_all is_ring_point) pieces i (points_of c.index-pieces-k.result) there
    c.requires.whole

pub loop-k-preserved : goal.loop-k-preserved
loop-k-preserved c =
    let pieces = map points_of c.args.pieces.now in
    let i = c.loop-k.k in
    let there : i < length pieces = omega (arith, length-map c.args.pieces.now points_of) in
    elim c.if-is_free.branch [
      | then-is_free+else-left-eq0 w ↦
          (let next = free_next c.args.barred pieces i [] there
          (sym c.is_free.ensures ∙ w.if-is_free.true) in
          let left : c.loop-k.left ≡ suc c.if-is_free.left = omega (arith, w.left-is) in
          ap (λ (n : ℕ). get_or (get_or pieces i [] ∷ free_from c.args.barred (i + 1)
          (drop (i + 1) pieces)) n []) (sym left)
          ∙ ap (λ (l : List (List Point)). get_or l c.loop-k.left []) (sym next)
          ∙ c.loop-k.invariant)
      | else-is_free w ↦
          (let next = barred_next c.args.barred pieces i [] there
          (sym c.is_free.ensures ∙ w.if-is_free.false) in
          ap (λ (n : ℕ). get_or (free_from c.args.barred (i + 1) (drop (i + 1) pieces)) n [])
          w.left-is
          ∙ ap (λ (l : List (List Point)). get_or l c.loop-k.left []) (sym next)
          ∙ c.loop-k.invariant)
    ]
