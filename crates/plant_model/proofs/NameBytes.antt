-- Bytes of a name are ASCII.
use Rattle.std.proofs.Common.{arith}
use Rattle.std.proofs.lemmas.Bool.Decides.{nat_tests}
use Rattle.short_text.specs.ShortTexts.{IsAsciiAlphabet}
use Rattle.plant_model.specs.Names.{is_name_byte}

pub is_ascii-is_name_byte : IsAsciiAlphabet is_name_byte
is_ascii-is_name_byte b named = grind (arith, nat_tests)
