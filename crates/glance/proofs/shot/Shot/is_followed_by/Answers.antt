use Rattle.std.proofs.Common.{◌≤◌, List, ap, subst, length, arith}
use mathlib.Core.List.{IsPrefix}
use Rattle.glance.specs.declared.stage.Stage.{Stage}
use Rattle.glance.proofs.Chains.{is_later}
use Rattle.glance.proofs.shot.Shot.is_followed_by.Goals as goal

pub returns : goal.returns
returns g c =
    let mine = c.self.inside.front.log in
    let other = c.other.inside.front.log in
    let both = c.learn.new.self.log in
    let this = subst (λ (log : List (Stage _ _)). IsPrefix log both)
    (ap (λ s. s.log) c.again-both.ensures) c.learn.ensures.2 in
    let less : length mine ≤ length other = omega (
      arith,
      c.self.invariant.last,
      c.other.invariant.last,
    ) in
    rw (← ap (λ s. s.log) c.self.view_is, ← ap (λ s. s.log) c.other.view_is)
    (is_later g.T.Shows.any_base mine other both c.self.invariant.chain c.other.invariant.chain this
    c.learn.ensures.3 less)
