-- Jobs are conserved: the rule of the queue, over what it holds and what each pass has done.
use Rattle.std.specs.Prelude.{◌≡◌, ℕ, ◌+◌, List, [], ◌∷◌, ◌++◌}
use Rattle.std.specs.List.{sum_by}
use mathlib.Core.Option.{some}
use lib.ListN.{get_elem?}
use Rattle.analysis_jobs.specs.declared.job.Job.{Job}
use Rattle.analysis_jobs.specs.declared.rule.Hand.{Hand}

-- a pass that has done nothing
abbrev pub no_hand : Hand
no_hand = record { pushed = []; taken = [] }

abbrev pub with_pushed : Hand → Job → Hand
with_pushed hand job = record hand { pushed = hand.pushed ++ job ∷ [] }

abbrev pub with_taken : Hand → Job → Hand
with_taken hand job = record hand { taken = hand.taken ++ job ∷ [] }

-- However jobs are weighed, those that were pushed weigh what those do that were taken and those that
-- stand in the queue. So each job was pushed as often as it was taken and stands there.
abbrev pub IsBalanced : List Job → List Hand → Type 0
IsBalanced jobs hands = (weight : Job → ℕ)
    → sum_by (λ hand. sum_by weight hand.pushed) hands
    ≡ sum_by (λ hand. sum_by weight hand.taken) hands + sum_by weight jobs

-- the queue held these jobs at a moment at which the pass had done just this
pub record Stands (hand : Hand) (jobs : List Job) : Type 0 where
  pub hands : List Hand
  pub seat : ℕ
  pub mine : get_elem? hands seat ≡ some hand
  pub balanced : IsBalanced jobs hands
