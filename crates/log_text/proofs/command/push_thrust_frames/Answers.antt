-- No thruster is left.
use Rattle.std.proofs.Common.{◌≡◌, ◌++◌, List, ℕ, ℤ, string_bytes, subst, of_z, to_z, w64}
use Rattle.std.specs.Iterator.Adapters.{zip_first, zip_second}
use Rattle.std.specs.List.{flat_map, zip}
use Rattle.std.specs.Slice.Iter.{iter_rest}
use Rattle.std.proofs.lemmas.Int.{to_z-of_z}
use Rattle.std.proofs.lemmas.Slice.Zip.{either_empty_from_Zip}
use Rattle.frame.specs.Frames.{frame_text}
use Rattle.plant_model.specs.declared.parts.Thruster.{Thruster}
use Rattle.plant_model.specs.declared.thrust.Thrust.{Thrust}
use Rattle.log_text.specs.Commands.{thrust_body}
use Rattle.log_text.proofs.Pairs.{pairs_told}
use Rattle.log_text.proofs.command.push_thrust_frames.Goals as goal

pub returns : goal.returns
returns c =
    let frame : ℤ → Thruster × Thrust → List ℕ = λ q given. frame_text (thrust_body q given) in
    let given = zip c.args.thrusters.now c.args.thrusts.now in
    let old = string_bytes c.args.text.now in
    let new = string_bytes c.loop-thruster.text in
    let rest = c.loop-thruster.thruster-iterator in
    let ended = either_empty_from_Zip rest c.next.new.self _ c.in-None.is c.next.ensures.steps in
    let over = to_z w64 (of_z w64 c.args.q) in
    subst (λ (q : ℤ). new ≡ old ++ flat_map (frame q) given)
    (to_z-of_z w64 c.args.q c.ranges.q)
    (pairs_told (frame over) new new (old ++ flat_map (frame over) given) (iter_rest (zip_first rest))
    (iter_rest (zip_first c.next.new.self)) (iter_rest (zip_second rest))
    (iter_rest (zip_second c.next.new.self)) ended c.loop-thruster.invariant)
