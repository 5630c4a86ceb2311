-- Each step of the queue keeps the rule that jobs are conserved.
use Rattle.std.proofs.Common.{◌≡◌, ℕ, zero, suc, ◌+◌, List, [], ◌∷◌, ◌++◌, set, sum_by}
use Rattle.std.proofs.Common.{refl, sym, ap, subst, arith}
use Rattle.std.proofs.lemmas.List.Sums.{sum_by-cons, sum_by_push}
use mathlib.Core.Option.{some, some-injective, some-ne-none}
use lib.ListN.{get_elem?}
use Rattle.crossbeam_queue.specs.Fifo.{Forks, Learns, Pops, Pushes}
use Rattle.crossbeam_queue.proofs.Lists.{set_again}
use Rattle.analysis_jobs.specs.Hands.{IsBalanced, Stands, no_hand, with_pushed, with_taken}
use Rattle.analysis_jobs.specs.declared.job.Job.{Job}
use Rattle.analysis_jobs.specs.declared.rule.Hand.{Hand}

-- the sum after a change of one hand
sum-set : (f : Hand → ℕ) (hands : List Hand) (seat : ℕ) (before after : Hand)
    → get_elem? hands seat ≡ some before
    → sum_by f (set hands seat after) + f before ≡ sum_by f hands + f after
sum-set f [] seat before after at = absurd (some-ne-none before (sym at))
sum-set f (hand ∷ hands) zero before after at =
    let same : f hand ≡ f before = ap f (some-injective hand before at) in
    omega (arith, same, sum_by-cons f after hands, sum_by-cons f hand hands)
sum-set f (hand ∷ hands) (suc seat) before after at =
    omega (
      arith,
      sum-set f hands seat before after at,
      sum_by-cons f hand (set hands seat after),
      sum_by-cons f hand hands,
    )

pub begins : IsBalanced [] (no_hand ∷ [])
begins weight = refl

pub pushes : (most seat : ℕ) (hand : Hand) (job : Job)
    → Pushes IsBalanced most seat hand job (λ after. after ≡ with_pushed hand job)
pushes most seat hand job jobs hands room balanced at =
    let after = with_pushed hand job in (
      after,
      (λ weight.
          let pushed = sum-set (λ h. sum_by weight h.pushed) hands seat hand after at in
          let taken = sum-set (λ h. sum_by weight h.taken) hands seat hand after at in
          omega (
            arith,
            balanced weight,
            pushed,
            taken,
            sum_by_push weight hand.pushed job,
            sum_by_push weight jobs job,
          )),
      refl,
    )

pub takes : (seat : ℕ) (hand : Hand)
    → Pops IsBalanced seat hand (λ job after. after ≡ with_taken hand job)
takes seat hand job jobs hands balanced at =
    let after = with_taken hand job in (
      after,
      (λ weight.
          let pushed = sum-set (λ h. sum_by weight h.pushed) hands seat hand after at in
          let taken = sum-set (λ h. sum_by weight h.taken) hands seat hand after at in
          omega (
            arith,
            balanced weight,
            pushed,
            taken,
            sum_by_push weight hand.taken job,
            sum_by-cons weight job jobs,
          )),
      refl,
    )

pub forks : (seat : ℕ) (hand : Hand) → Forks IsBalanced seat hand hand no_hand
forks seat hand jobs hands balanced at =
    subst (λ (others : List Hand). IsBalanced jobs (others ++ no_hand ∷ []))
    (sym (set_again hands seat hand at))
    (λ weight. omega (
      arith,
      balanced weight,
      sum_by_push (λ h. sum_by weight h.pushed) hands no_hand,
      sum_by_push (λ h. sum_by weight h.taken) hands no_hand,
    ))

pub learns : (seat : ℕ) (hand : Hand) → Learns IsBalanced seat hand (Stands hand)
learns seat hand jobs hands balanced at =
    record { hands = hands; seat = seat; mine = at; balanced = balanced }
