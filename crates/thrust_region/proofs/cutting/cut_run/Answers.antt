-- A wedge goes over from the rest of the run to the pieces.
use Rattle.std.proofs.Common.{◌≡◌, ◌∙◌, ap, ap₂, refl, rules, arith, List, length, ◌-◌, ◌+◌, ◌<◌}
use Rattle.std.proofs.Common.{◌≤◌, [], ◌∷◌, ◌++◌, take, drop}
use Rattle.std.proofs.lemmas.List.{take_rest, length-drop}
use Rattle.plant_model.specs.declared.limits.TheConstants.{MOST_PIECES}
use Rattle.plant_model.specs.declared.thrust.Point.{Point}
use Rattle.plant_model.specs.Rings.{first_wedge, wedges}
use Rattle.thrust_region.specs.Pieces.{points_of}
use Rattle.thrust_region.proofs.Lists.{goes_over, map_more, nothing_left, room_for_more}
use Rattle.thrust_region.proofs.Wedges.{wedge_has_some, wedges_end, wedges_go_on, wedges_left}
use Rattle.thrust_region.proofs.cutting.cut_run.Goals as goal

pub push-requires : goal.push-requires
push-requires c = (
  search rules,
  room_for_more points_of c.loop.pieces.list.items c.args.pieces.now.list.items _ _
      MOST_PIECES c.loop.invariant.whole
      (wedges_left (length c.args.run.now) c.loop.counter c.loop.rest.now (omega arith))
      c.requires.room,
)

pub loop-preserved : goal.loop-preserved
loop-preserved c =
    let all = length c.args.run.now in
    let rest = c.loop.rest.now in
    let taken = c.len-taken.result in
    let counted : taken ≡ length (first_wedge rest) = c.len-taken.ensures.value
    ∙ ap length c.first_wedge-wedge.ensures in
    let some : 0 < taken = rw counted (wedge_has_some rest c.loop.invariant.some) in
    let shorter : length (first_wedge rest) < length rest = omega arith in
    let follow : take (length rest - (taken - 1)) (drop (taken - 1) rest)
    ≡ drop (taken - 1) rest = take_rest rest (taken - 1) in
    let left : 0 < length (take (length rest - (taken - 1)) (drop (taken - 1) rest)) =
    rw (follow, length-drop) (omega arith) in
    let going : wedges (all - c.loop.counter) rest
    ≡ points_of c.first_wedge-wedge.result ∷ wedges (all - (c.loop.counter + 1))
    (drop (taken - 1) rest) =
    rw (c.first_wedge-wedge.ensures, counted)
    (wedges_go_on all c.loop.counter rest (omega arith) shorter) in
    record {
      some = left;
      whole = ap₂ (λ (front : List (List Point)) (more : List Point). front
          ++ wedges (all - (c.loop.counter + 1)) more)
          (map_more points_of _ _ _ c.push.ensures.items) follow
          ∙ goes_over _ _ _ _ _ going c.loop.invariant.whole;
    }

pub returns-then-taken-rest : goal.returns-then-taken-rest
returns-then-taken-rest c =
    let all = length c.args.run.now in
    let rest = c.loop.rest.now in
    let shorter : length rest ≤ length (first_wedge rest) =
    omega (arith, c.len-taken.ensures.value, ap length c.first_wedge-wedge.ensures) in
    let ending : wedges (all - c.loop.counter) rest ≡ points_of c.first_wedge-wedge.result ∷ [] =
    rw c.first_wedge-wedge.ensures (wedges_end all c.loop.counter rest (omega arith) shorter) in
    map_more points_of _ _ _ c.push.ensures.items
    ∙ nothing_left _ [] _ refl (goes_over _ _ [] _ _ ending c.loop.invariant.whole)
