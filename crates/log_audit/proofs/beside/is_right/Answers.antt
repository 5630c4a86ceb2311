-- By the one greatest part, and by thrusts that give it.
use Rattle.std.proofs.Common.{◌≡◌, ◌<◌, inl, inr, ℕ, IsTrue, List, refl, subst, sym}
use Rattle.plant_model.specs.declared.status.Loss.TheVariants.{Intact}
use Rattle.plant_model.specs.declared.thrust.Point.{Point}
use Rattle.thrust_region.specs.Choices.{choices_of}
use Rattle.certificate.specs.Losses.{demand_of, question_after}
use Rattle.certificate.specs.Outcomes.{Question, question_of}
use Rattle.log_audit.specs.Rights.{IsGiven}
use Rattle.log_audit.proofs.OtherThrusts.{nothing_same, right_like, same_thrusts_right}
use Rattle.log_audit.proofs.Rights.{rights_alike}
use Rattle.log_audit.proofs.beside.is_right.Goals as goal

pub returns-then-not-give_alike : goal.returns-then-not-give_alike
returns-then-not-give_alike c =
    let question = question_after c.args.plant.now c.args.status.now Intact c.args.demand in (
      λ t. absurd (cc),
      λ right. c.if-not-give_alike.ensures.1
          (rights_alike question c.args.own.now c.args.other.now c.requires right),
    )

pub returns-then-have_same_thrusts : goal.returns-then-have_same_thrusts
returns-then-have_same_thrusts c =
    let question = question_after c.args.plant.now c.args.status.now Intact c.args.demand in (
      λ t. same_thrusts_right question c.args.own.now c.args.other.now c.requires
          (c.if-not-give_alike.ensures.0 refl) (c.if-have_same_thrusts.ensures.0 refl),
      λ right. refl,
    )

pub returns-then-is_nothing : goal.returns-then-is_nothing
returns-then-is_nothing c =
    let question = question_after c.args.plant.now c.args.status.now Intact c.args.demand in (
      λ t. absurd (cc),
      λ right. c.if-have_same_thrusts.ensures.1
          (nothing_same question c.args.own.now c.args.other.now c.requires right
          (c.if-not-give_alike.ensures.0 refl) (c.if-is_nothing.ensures.0 refl)),
    )

pub is_given-requires-clause-choice : goal.is_given-requires-clause-choice
is_given-requires-clause-choice c =
    let question = question_after c.args.plant.now c.args.status.now Intact c.args.demand in
    let alike = c.if-not-give_alike.ensures.0 refl in
    subst (λ (lists : List (List (List Point))). c.args.other.now.choice < choices_of lists)
    (sym c.surviving.ensures.list)
    (subst (λ (k : ℕ). k < choices_of question.regions) alike.choice c.requires.choice)

pub returns : goal.returns
returns c =
    let plant = c.args.plant.now in
    let question = question_after plant c.args.status.now Intact c.args.demand in
    let own = c.args.own.now in
    let other = c.args.other.now in
    let same : question_of plant c.surviving.result (demand_of c.args.demand) ≡ question =
    λ i. record {
      levers = question.levers;
      regions = c.surviving.ensures.list i;
      fixed = c.surviving.ensures.fixed i;
      demand = demand_of c.args.demand;
    } in
    let given : (IsTrue c.is_given.result → IsGiven question other)
    × (IsGiven question other → IsTrue c.is_given.result) =
    subst (λ (asked : Question). (IsTrue c.is_given.result → IsGiven asked other)
    × (IsGiven asked other → IsTrue c.is_given.result)) same c.is_given.ensures in (
      λ t. right_like question own other c.requires (c.if-not-give_alike.ensures.0 refl) (given.0 t)
          (λ e. let no = c.if-is_nothing.ensures.1 (inl e) in absurd (cc))
          (λ e. let no = c.if-is_nothing.ensures.1 (inr e) in absurd (cc)),
      λ right. given.1 right.gives,
    )
