-- The greatest part that some choice can give, while choices are taken in turn.
use Rattle.std.proofs.Common.{◌≡◌, inl, inr, ℕ, ◌+◌, ◌<◌, ℤ, pos, ◌*ℤ◌, ◌≤ℤ◌, ◌<ℤ◌, sym, subst}
use Rattle.std.proofs.Common.{below_more, arith}
use Rattle.int_ring.proofs.Laws.{linear}
use Rattle.int_ring.proofs.Order.{fraction_le_lt_trans}
use Rattle.dp_num.specs.declared.fractions.Fraction.{Fraction}
use Rattle.certificate.specs.Outcomes.{Question}
use Rattle.capability.specs.Reserves.{IsGreater, IsGreatestBelow, IsGreatestOf, IsMostIn}

above_0 : (z : ℤ) → pos 1 ≤ℤ z → pos 0 <ℤ z
above_0 z h = omega (arith, linear)

-- what is the most in a choice, a part that is as great is too
most_beyond : (question : Question) (choice : ℕ) (a b : Fraction) →
    (a.top *ℤ b.bottom) ≤ℤ (b.top *ℤ a.bottom) → IsMostIn question choice a.top a.bottom →
    IsMostIn question choice b.top b.bottom
most_beyond question choice a b as_great most more rest some less =
    most more rest some
    (fraction_le_lt_trans a.top a.bottom b.top b.bottom more rest (above_0 a.bottom a.bottom_from_1)
    (above_0 b.bottom b.bottom_from_1) (above_0 rest some) as_great less)

pub first_greatest : (question : Question) (part : Fraction) → IsGreatestOf question 0 part →
    IsGreatestBelow question 1 part
first_greatest question part greatest = record {
  lowest = greatest.lowest;
  choice = 0;
  below = omega arith;
  gives = greatest.gives;
  most = λ other below. subst (λ (k : ℕ). IsMostIn question k part.top part.bottom)
      (only other below) greatest.most;
}
  where
    only : (other : ℕ) → other < 1 → 0 ≡ other
    only other below = omega arith

module _ (question : Question) (k : ℕ) (best new : Fraction)
    (greatest : IsGreatestBelow question k best) (of_next : IsGreatestOf question k new) where
  old_stays : (new.top *ℤ best.bottom) ≤ℤ (best.top *ℤ new.bottom) →
      IsGreatestBelow question (k + 1) best
  old_stays most =
      let below = greatest.below in
      record {
        lowest = greatest.lowest;
        choice = greatest.choice;
        below = omega (arith, below);
        gives = greatest.gives;
        most = below_more (λ choice. IsMostIn question choice best.top best.bottom) k greatest.most
            (most_beyond question k new best most of_next.most);
      }

  new_stands : (best.top *ℤ new.bottom) <ℤ (new.top *ℤ best.bottom) →
      IsGreatestBelow question (k + 1) new
  new_stands more = record {
    lowest = of_next.lowest;
    choice = k;
    below = omega arith;
    gives = of_next.gives;
    most = below_more (λ choice. IsMostIn question choice new.top new.bottom) k
        (λ choice below. most_beyond question choice best new (omega (arith, linear))
        (greatest.most choice below)) of_next.most;
  }

  pub greatest_more : (more : Fraction) → IsGreater best new more →
      IsGreatestBelow question (k + 1) more
  greatest_more more (inl second) =
      subst (IsGreatestBelow question (k + 1)) (sym second.0) (new_stands second.1)
  greatest_more more (inr first) =
      subst (IsGreatestBelow question (k + 1)) (sym first.0) (old_stays first.1)
