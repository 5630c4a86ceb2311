use Rattle.std.proofs.Common.{◌≡◌, ℤ, ◌*ℤ◌, SFits, inl, refl, sym, ◌∙◌, arith, rules, to_z, of_z}
use Rattle.std.specs.Int.{w128}
use Rattle.std.specs.Ordering.{int_cmp}
use Rattle.std.proofs.lemmas.Int.{to_z-of_z}
use Rattle.dp_num.specs.Fractions.{order_of_quotients}
use Rattle.int_ring.proofs.Laws.{linear}
use Rattle.exit_point.proofs.Compared.{from_not_less, less_from_cmp}
use Rattle.exit_point.proofs.NoMore.{no_more_itself}
use Rattle.exit_point.proofs.face_cuts.lesser.Goals as goal

plain : (a b c d : ℤ) → SFits w128 a → SFits w128 b → SFits w128 c → SFits w128 d →
    order_of_quotients (to_z w128 (of_z w128 a)) (to_z w128 (of_z w128 b))
    (to_z w128 (of_z w128 c)) (to_z w128 (of_z w128 d)) ≡ int_cmp (a *ℤ d) (c *ℤ b)
plain a b c d f g h k =
    let p = to_z-of_z w128 a f in
    let q = to_z-of_z w128 b g in
    let r = to_z-of_z w128 c h in
    let s = to_z-of_z w128 d k in
    λ i. order_of_quotients (p i) (q i) (r i) (s i)

pub returns-in-Less-clause-at_most_first : goal.returns-in-Less-clause-at_most_first
returns-in-Less-clause-at_most_first c =
    let below = less_from_cmp (c.args.second.top *ℤ c.args.first.bottom)
    (c.args.first.top *ℤ c.args.second.bottom)
    (c.in-Less.ensures.order
    ∙ plain c.args.second.top c.args.second.bottom c.args.first.top c.args.first.bottom
    (search rules) (search rules) (search rules) (search rules)) in
    omega (arith, linear, below)

pub returns-in_default : goal.returns-in_default
returns-in_default c = record {
  one = inl refl;
  at_most_first = no_more_itself c.args.first;
  at_most_second =
      from_not_less (c.args.second.top *ℤ c.args.first.bottom)
      (c.args.first.top *ℤ c.args.second.bottom)
      (λ e. c.in_default.not-Less
      (c.compare_wide.ensures.order
      ∙ plain c.args.second.top c.args.second.bottom c.args.first.top c.args.first.bottom
      (search rules) (search rules) (search rules) (search rules)
      ∙ sym e));
}
