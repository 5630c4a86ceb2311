use Rattle.std.proofs.Common.{◌≡◌, ◌∙◌, ℤ, pos, ◌+ℤ◌, ◌-ℤ◌, ◌≤ℤ◌, SFits, w64, to_z, of_z, sym, ap₂}
use Rattle.std.proofs.Common.{subst, arith, rules}
use Rattle.std.specs.Int.{w128}
use Rattle.std.proofs.lemmas.Int.{ints, to_z-of_z}
use Rattle.wrench_geometry.specs.Vectors.{dot_of}
use Rattle.exit_point.proofs.tents.Tent.covers.Goals as goal

left_is : (h f H F : ℤ) → to_z w128 (of_z w128 H) ≡ h → to_z w128 (of_z w128 F) ≡ f →
    pos 0 ≤ℤ f → f ≤ℤ h → SFits w64 h →
    to_z w128 (of_z w128 (to_z w128 (of_z w128 H) -ℤ to_z w128 (of_z w128 F))) ≡ h -ℤ f
left_is h f H F e g low high fits =
    to_z-of_z w128 _ (subst (SFits w128) (sym (ap₂ ◌-ℤ◌ e g)) (omega (arith, ints)))
    ∙ ap₂ ◌-ℤ◌ e g

pub returns-then-not-is_share : goal.returns-then-not-is_share
returns-then-not-is_share c =
    let height : to_z w128 (of_z w128 c.from-height.result) ≡ c.args.self.now.height =
    to_z-of_z w128 _ (search rules) ∙ c.from-height.ensures ∙ to_z-of_z w64 _ (search rules) in
    let first : to_z w128 (of_z w128 c.dot-first.result) ≡ dot_of c.args.self.now.first c.args.d =
    to_z-of_z w128 _ (search rules) ∙ c.dot-first.ensures in (
      λ no. absurd (cc),
      λ covers. sym c.if-not-is_share.true ∙ c.is_share.ensures.1 (
        omega (arith, ints, first, covers.first),
        omega (arith, ints, height, first, covers.second, covers.third, covers.within),
      ),
    )

pub returns-then-not-is_share-2 : goal.returns-then-not-is_share-2
returns-then-not-is_share-2 c =
    let height : to_z w128 (of_z w128 c.from-height.result) ≡ c.args.self.now.height =
    to_z-of_z w128 _ (search rules) ∙ c.from-height.ensures ∙ to_z-of_z w64 _ (search rules) in
    let first : to_z w128 (of_z w128 c.dot-first.result) ≡ dot_of c.args.self.now.first c.args.d =
    to_z-of_z w128 _ (search rules) ∙ c.dot-first.ensures in
    let second : to_z w128 (of_z w128 c.dot-second.result) ≡ dot_of c.args.self.now.second c.args.d
    = to_z-of_z w128 _ (search rules) ∙ c.dot-second.ensures in
    let share = c.is_share.ensures.0 c.if-not-is_share.false in
    let left = left_is _ _ c.from-height.result c.dot-first.result height first
    (omega (arith, ints, first, share.0)) (omega (arith, ints, height, first, share.1)) (search rules) in (
      λ no. absurd (cc),
      λ covers. sym c.if-not-is_share-2.true ∙ c.is_share-2.ensures.1 (
        omega (arith, ints, second, covers.second),
        omega (arith, ints, left, second, covers.third, covers.within),
      ),
    )

pub overflow_sub-left-2 : goal.overflow_sub-left-2
overflow_sub-left-2 c =
    let height : to_z w128 (of_z w128 c.from-height.result) ≡ c.args.self.now.height =
    to_z-of_z w128 _ (search rules) ∙ c.from-height.ensures ∙ to_z-of_z w64 _ (search rules) in
    let first : to_z w128 (of_z w128 c.dot-first.result) ≡ dot_of c.args.self.now.first c.args.d =
    to_z-of_z w128 _ (search rules) ∙ c.dot-first.ensures in
    let share = c.is_share.ensures.0 c.if-not-is_share.false in
    let left = left_is _ _ c.from-height.result c.dot-first.result height first
    (omega (arith, ints, first, share.0)) (omega (arith, ints, height, first, share.1)) (search rules) in
    let share_2 = c.is_share-2.ensures.0 c.if-not-is_share-2.false in
    let fits : SFits w64 c.args.self.now.height = search rules in
    omega (arith, ints, height, first, left, share.0, share_2.0, share_2.1)

pub returns : goal.returns
returns c =
    let height : to_z w128 (of_z w128 c.from-height.result) ≡ c.args.self.now.height =
    to_z-of_z w128 _ (search rules) ∙ c.from-height.ensures ∙ to_z-of_z w64 _ (search rules) in
    let first : to_z w128 (of_z w128 c.dot-first.result) ≡ dot_of c.args.self.now.first c.args.d =
    to_z-of_z w128 _ (search rules) ∙ c.dot-first.ensures in
    let second : to_z w128 (of_z w128 c.dot-second.result) ≡ dot_of c.args.self.now.second c.args.d
    = to_z-of_z w128 _ (search rules) ∙ c.dot-second.ensures in
    let third : to_z w128 (of_z w128 c.dot.result) ≡ dot_of c.args.self.now.third c.args.d =
    to_z-of_z w128 _ (search rules) ∙ c.dot.ensures in
    let fits : SFits w64 c.args.self.now.height = search rules in
    let share = c.is_share.ensures.0 c.if-not-is_share.false in
    let left = left_is _ _ c.from-height.result c.dot-first.result height first
    (omega (arith, ints, first, share.0)) (omega (arith, ints, height, first, share.1)) fits in
    let share_2 = c.is_share-2.ensures.0 c.if-not-is_share-2.false in
    let rest = left_is (c.args.self.now.height -ℤ dot_of c.args.self.now.first c.args.d)
    (dot_of c.args.self.now.second c.args.d)
    (to_z w128 (of_z w128 c.from-height.result) -ℤ to_z w128 (of_z w128 c.dot-first.result))
    c.dot-second.result left second
    (omega (arith, ints, second, share_2.0)) (omega (arith, ints, left, second, share_2.1))
    (omega (arith, ints, height, first, share.0, share.1)) in (
      λ yes.
          let share_3 = c.is_share-3.ensures.0 yes in
          record {
            height = omega (arith, ints, height, c.if-height-lt1.false);
            first = omega (arith, ints, first, share.0);
            second = omega (arith, ints, second, share_2.0);
            third = omega (arith, ints, third, share_3.0);
            within = omega (arith, ints, rest, third, share_3.1);
          },
      λ covers. c.is_share-3.ensures.1 (
        omega (arith, ints, third, covers.third),
        omega (arith, ints, rest, third, covers.within),
      ),
    )
