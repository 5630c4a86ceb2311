-- The text so far and the frames of the thrusters that are left are all frames.
use Rattle.std.proofs.Common.{◌≡◌, ◌++◌, string_bytes}
use Rattle.std.specs.Iterator.Adapters.{zip_first, zip_second}
use Rattle.std.specs.List.{flat_map, zip}
use Rattle.std.specs.Slice.Iter.{iter_rest}
use Rattle.frame.specs.Frames.{frame_text}
use Rattle.log_text.specs.Commands.{thrust_body}
use Rattle.log_text.proofs.command.push_thrust_frames.Given as goal

abbrev pub invariant-loop-thruster : goal.invariant-loop-thruster
invariant-loop-thruster l =
    let thrusters = iter_rest (zip_first l.thruster-iterator) in
    let thrusts = iter_rest (zip_second l.thruster-iterator) in
    string_bytes l.text
    ++ flat_map (λ given. frame_text (thrust_body l.q given)) (zip thrusters thrusts)
    ≡ string_bytes l.fn.text
    ++ flat_map (λ given. frame_text (thrust_body l.q given)) (zip l.thrusters l.thrusts)
