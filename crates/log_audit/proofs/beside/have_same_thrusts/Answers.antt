-- Thrust by thrust.
use Rattle.std.proofs.Common.{◌≡◌, ◌∙◌, List, SFits, ap, sym, subst, to_z, true, w64, rules}
use Rattle.std.proofs.lemmas.Int.{to_z-of_z}
use Rattle.std.specs.Cmp.Lexicographic.{pointwise}
use Rattle.plant_model.specs.declared.thrust.Thrust.{Thrust}
use Rattle.log_audit.proofs.SameReplies.{items_own, items_same, same_thrust, thrust_own, thrust_same}
use Rattle.log_audit.proofs.beside.have_same_thrusts.Goals as goal

pub returns-then-own-other : goal.returns-then-own-other
returns-then-own-other c =
    let own = c.args.own.now in
    let other = c.args.other.now in
    let first : SFits w64 own.q = search rules in
    let second : SFits w64 other.q = search rules in
    let q : own.q ≡ other.q =
    sym (to_z-of_z w64 own.q first) ∙ ap (to_z w64) c.if-own-other.true
    ∙ to_z-of_z w64 other.q second in (
      λ t. record {
        q = q;
        thrusts = items_same same_thrust thrust_same own.thrusts.list.items other.thrusts.list.items
            (sym c.eq.ensures ∙ t);
      },
      λ same. c.eq.ensures
          ∙ subst (λ (thrusts : List Thrust). pointwise same_thrust own.thrusts.list.items thrusts ≡ true)
          same.thrusts (items_own same_thrust thrust_own own.thrusts.list.items),
    )
