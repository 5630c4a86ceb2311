-- The bytes are ASCII, so they are read as text.
use Rattle.std.proofs.Common.{◌≡◌, true, arith}
use Rattle.std.proofs.lemmas.Grind.{common_steps}
use Rattle.std.specs.Str.{IsUtf8}
use Rattle.short_text.specs.ShortTexts.{is_short_text}
use Rattle.short_text.proofs.AsciiBytes.{IsUtf8-from_is_short_text}
use Rattle.short_text.proofs.short_text.Goals as goal

pub returns-in_err-content-clause-found : goal.returns-in_err-content-clause-found
returns-in_err-content-clause-found g c =
    let has = g.A.Alphabet.has in
    let good : is_short_text has g.row.MOST c.args.bytes.now ≡ true = grind (arith, common_steps) in
    let text : IsUtf8 c.args.bytes.now =
    IsUtf8-from_is_short_text has g.row.MOST c.args.bytes.now c.requires good in
    absurd (grind (arith, common_steps, text))
