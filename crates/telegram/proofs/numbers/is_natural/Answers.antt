-- There is a byte, and the first one is right, so the test of each byte decides.
use Rattle.std.proofs.Common.{rules, ◌≡◌, ◌≤◌, length, sym, ◌∙◌, arith, tests}
use Rattle.std.proofs.lemmas.Bool.Decides.{nat_tests}
use Rattle.std.proofs.lemmas.Iterator.{YieldsList-from_slice}
use Rattle.std.proofs.lemmas.Iterator.Search.{all_from_yields_List}
use Rattle.std.specs.List.{list_all}
use Rattle.telegram.specs.Numbers.{is_digit}
use Rattle.telegram.proofs.NumberTexts.{is_natural-from_list_all}
use Rattle.telegram.proofs.numbers.is_natural.Goals as goal
use Rattle.telegram.proofs.numbers.is_natural.Goals.{then-not-is_empty, else-not-is_empty}

pub returns-then-is_led_well : goal.returns-then-is_led_well
returns-then-is_led_well c =
    let each : c.all.result ≡ list_all is_digit c.args.digits.now =
    all_from_yields_List is_digit _ _ c.all.result c.all.ensures.ran
    (YieldsList-from_slice c.args.digits.now cc) (λ x b q k. search (rules, tests)) in
    elim c.if-not-is_empty.branch [
      | then-not-is_empty w ↦ (let some : 1 ≤ length c.args.digits.now = grind (arith, nat_tests) in
          is_natural-from_list_all c.args.digits.now c.all.result some
          (sym w.is_led_well.ensures ∙ sym w.value-is ∙ c.if-is_led_well.true) each)
      | else-not-is_empty w ↦ absurd (cc)
    ]
