-- What contracts see of a pass to the queue.
use Rattle.atomic_table.specs.Seated.{TableId}
use Rattle.crossbeam_queue.specs.Fifo.{Held}
use Rattle.crossbeam_queue.specs.Passes.{Pass, view}
use Rattle.plant_model.specs.declared.limits.TheConstants.{MOST_JOBS}
use Rattle.analysis_jobs.specs.Hands.{Stands, no_hand}
use Rattle.analysis_jobs.specs.declared.job.Job.{Job}
use Rattle.analysis_jobs.specs.declared.rule.Hand.{Hand}

-- what a pass of the ruled queue knows
abbrev pub hand_of : Pass Job Hand → Hand
hand_of pass = view pass

-- which queue it is for, and what was pushed and taken with it
pub record JobHand : Type 0 where
  pub queue : TableId
  pub hand : Hand

-- a pass that has done nothing
abbrev pub new_pass : TableId → JobHand
new_pass queue = record { queue = queue; hand = no_hand }

-- the pass with this hand
abbrev pub with_hand : JobHand → Hand → JobHand
with_hand pass hand = record pass { hand = hand }

-- at a moment of a call of the pass the queue was full, or it was empty
abbrev pub WasFull : JobHand → Type 0
WasFull pass = Held MOST_JOBS (Stands pass.hand)

abbrev pub WasEmpty : JobHand → Type 0
WasEmpty pass = Held 0 (Stands pass.hand)
