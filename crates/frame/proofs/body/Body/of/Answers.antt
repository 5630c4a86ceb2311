-- The bytes of a body are ASCII.
use Rattle.std.proofs.Common.{lit<}
use Rattle.frame.proofs.BodyBytes.{is_ascii-is_body_byte}
use Rattle.frame.proofs.body.Body.of.Goals as goal

pub short_text-requires : goal.short_text-requires
short_text-requires c = (lit< tt, is_ascii-is_body_byte)
