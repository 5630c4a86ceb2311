-- Bytes of a body are ASCII.
use Rattle.std.proofs.Common.{arith}
use Rattle.std.proofs.lemmas.Bool.Decides.{nat_tests}
use Rattle.short_text.specs.ShortTexts.{IsAsciiAlphabet}
use Rattle.frame.specs.Bodies.{is_body_byte}

pub is_ascii-is_body_byte : IsAsciiAlphabet is_body_byte
is_ascii-is_body_byte b good = grind (arith, nat_tests)
