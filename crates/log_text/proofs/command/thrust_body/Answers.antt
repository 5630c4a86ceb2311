-- The fields of the body are short, whatever they are.
use Rattle.std.proofs.Common.{◌≡◌, arith, string_bytes}
use Rattle.std.proofs.lemmas.Grind.{common_steps}
use Rattle.log_text.specs.Commands.{thrust_body}
use Rattle.log_text.proofs.CommandBodies.{is_body-thrust}
use Rattle.log_text.proofs.command.thrust_body.Goals as goal

pub returns-clause-body : goal.returns-clause-body
returns-clause-body c =
    let value : string_bytes c.write.new.self
    ≡ thrust_body c.args.q (c.args.thruster.now, c.args.thrust.now) = grind (arith, common_steps) in
    rw value
    (is_body-thrust c.args.q c.args.thruster.now c.args.thrust.now c.as_str-name.ensures.named
    c.ranges.q c.push_thrust.ensures.short)
