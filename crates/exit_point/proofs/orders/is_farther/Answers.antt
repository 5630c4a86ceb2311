use Rattle.std.proofs.Common.{◌≡◌, ◌≢◌, ◌∙◌, ◌<ℤ◌, IsFalse, inr, ap, sym, ℤ, SFits, to_z, of_z}
use Rattle.std.proofs.Common.{rules}
use lib.Signed.{lt_z}
use Rattle.std.specs.Int.{w128}
use Rattle.std.proofs.lemmas.Int.{to_z-of_z}
use Rattle.wrench_geometry.specs.Vectors.{dot_of}
use Rattle.exit_point.proofs.Farthest.{at_most, greater, less, no_farther_first, no_farther_second}
use Rattle.exit_point.proofs.Farthest.{no_farther_third, not_less}
use Rattle.exit_point.proofs.Tilts.{plain_of_image, plain_of_turned}
use Rattle.exit_point.proofs.orders.is_farther.Goals as goal

whole : {z p : ℤ} → SFits w128 z → z ≡ p → to_z w128 (of_z w128 z) ≡ p
whole f e = to_z-of_z w128 _ f ∙ e

level_bits : {r s x y : ℤ} → r ≡ x → s ≡ y → SFits w128 r → SFits w128 s →
    of_z w128 r ≡ of_z w128 s → x ≡ y
level_bits {r} {s} e f fit fit_2 same =
    sym (to_z-of_z w128 r fit ∙ e) ∙ ap (to_z w128) same ∙ to_z-of_z w128 s fit_2 ∙ f

greater_bits : {r s x y : ℤ} → r ≡ x → s ≡ y → SFits w128 r → SFits w128 s →
    of_z w128 r ≢ of_z w128 s →
    IsFalse (lt_z (to_z w128 (of_z w128 r)) (to_z w128 (of_z w128 s))) → y <ℤ x
greater_bits {r} {s} e f fit fit_2 n t =
    let plain = to_z-of_z w128 r fit in
    let plain_2 = to_z-of_z w128 s fit_2 in
    greater (plain ∙ e) (plain_2 ∙ f)
    (λ same. n (ap (of_z w128) (sym plain ∙ same ∙ plain_2))) t

pub dot-a-requires : goal.dot-a-requires
dot-a-requires c = inr (plain_of_image c.requires.first)

pub dot-b-requires : goal.dot-b-requires
dot-b-requires c = inr (plain_of_image c.requires.second)

pub dot-a-requires-2 : goal.dot-a-requires-2
dot-a-requires-2 c = inr (plain_of_image c.requires.first)

pub dot-b-requires-2 : goal.dot-b-requires-2
dot-b-requires-2 c = inr (plain_of_image c.requires.second)

pub dot-requires : goal.dot-requires
dot-requires c = inr (rw c.cross.ensures (plain_of_turned c.args.order.t c.args.first
    c.requires.tilt c.requires.first))

pub dot-requires-2 : goal.dot-requires-2
dot-requires-2 c = inr (rw c.cross-2.ensures (plain_of_turned c.args.order.t c.args.second
    c.requires.tilt c.requires.second))

pub returns-then-a-b-clause-farther : goal.returns-then-a-b-clause-farther
returns-then-a-b-clause-farther c =
    let a = whole (search rules) c.dot-a.ensures in
    let b = whole (search rules) c.dot-b.ensures in
    λ t. no_farther_first c.args.order c.args.first c.args.second (less a b t)

pub returns-then-a-b-clause-no_farther : goal.returns-then-a-b-clause-no_farther
returns-then-a-b-clause-no_farther c =
    λ t. no_farther_first c.args.order c.args.second c.args.first
    (greater_bits c.dot-a.ensures c.dot-b.ensures (search rules) (search rules) c.if-a-b.true t)

pub returns-then-a-b-2-clause-farther : goal.returns-then-a-b-2-clause-farther
returns-then-a-b-2-clause-farther c =
    let a_2 = whole (search rules) c.dot-a-2.ensures in
    let b_2 = whole (search rules) c.dot-b-2.ensures in
    λ t. no_farther_second c.args.order c.args.first c.args.second
    (level_bits c.dot-a.ensures c.dot-b.ensures (search rules) (search rules) c.if-a-b.false)
    (less a_2 b_2 t)

pub returns-then-a-b-2-clause-no_farther : goal.returns-then-a-b-2-clause-no_farther
returns-then-a-b-2-clause-no_farther c =
    λ t. no_farther_second c.args.order c.args.second c.args.first
    (sym (level_bits c.dot-a.ensures c.dot-b.ensures (search rules) (search rules) c.if-a-b.false))
    (greater_bits c.dot-a-2.ensures c.dot-b-2.ensures (search rules) (search rules)
    c.if-a-b-2.true t)

pub returns-clause-farther : goal.returns-clause-farther
returns-clause-farther c =
    let a_3 = whole (search rules) (c.dot.ensures ∙ ap (dot_of c.args.order.w) c.cross.ensures) in
    let b_3 = whole (search rules)
    (c.dot-2.ensures ∙ ap (dot_of c.args.order.w) c.cross-2.ensures) in
    λ t. no_farther_third c.args.order c.args.first c.args.second
    (level_bits c.dot-a.ensures c.dot-b.ensures (search rules) (search rules) c.if-a-b.false)
    (level_bits c.dot-a-2.ensures c.dot-b-2.ensures (search rules) (search rules) c.if-a-b-2.false)
    (at_most (less a_3 b_3 t))

pub returns-clause-no_farther : goal.returns-clause-no_farther
returns-clause-no_farther c =
    let a_3 = whole (search rules) (c.dot.ensures ∙ ap (dot_of c.args.order.w) c.cross.ensures) in
    let b_3 = whole (search rules)
    (c.dot-2.ensures ∙ ap (dot_of c.args.order.w) c.cross-2.ensures) in
    λ t. no_farther_third c.args.order c.args.second c.args.first
    (sym (level_bits c.dot-a.ensures c.dot-b.ensures (search rules) (search rules) c.if-a-b.false))
    (sym (level_bits c.dot-a-2.ensures c.dot-b-2.ensures (search rules)
    (search rules) c.if-a-b-2.false)) (not_less a_3 b_3 t)
