-- The bytes are few enough and there are some, so the test of each byte decides.
use Rattle.std.proofs.Common.{rules, ◌≡◌, ◌≤◌, length, arith, tests}
use Rattle.std.proofs.lemmas.Bool.Decides.{nat_tests}
use Rattle.std.proofs.lemmas.Iterator.{YieldsList-from_slice}
use Rattle.std.proofs.lemmas.Iterator.Search.{all_from_yields_List}
use Rattle.std.specs.List.{list_all}
use Rattle.short_text.proofs.AsciiBytes.{is_short_text-from_list_all}
use Rattle.short_text.proofs.is_short_text.Goals as goal

pub returns-then-bytes-most : goal.returns-then-bytes-most
returns-then-bytes-most g c =
    let has = g.A.Alphabet.has in
    let each : c.all.result ≡ list_all has c.args.bytes.now =
    all_from_yields_List has _ _ c.all.result c.all.ensures.ran
    (YieldsList-from_slice c.args.bytes.now cc) (λ x b q k. search (rules, tests)) in
    let some : 1 ≤ length c.args.bytes.now = grind (arith, nat_tests) in
    is_short_text-from_list_all has c.args.most c.args.bytes.now c.all.result some
    c.if-bytes-most.true.1 each
