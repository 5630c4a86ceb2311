-- What a history comes to, where sensors and operators ask by two streams.
use Rattle.std.specs.Prelude.{ℕ, List, Bool, true, false, ◌&&◌, ◌==◌, count_by}
use Rattle.std.specs.List.{fold}
use Rattle.plant_model.specs.declared.plant.Parts.{Parts}
use Rattle.plant_model.specs.declared.status.Status.{Status}
use Rattle.plant_model.specs.declared.wrench.Wrench.{Wrench}
use Rattle.plant_core.specs.Machine.{state_after}
use Rattle.plant_core.specs.Orders.{no_demand}
use Rattle.plant_core.specs.declared.call.Entry.{Entry}
use Rattle.plant_core.specs.declared.call.Reply.{Reply}
use Rattle.plant_core.specs.declared.call.Reply.TheVariants as replies

abbrev pub is_commanded : Reply → Bool
is_commanded (replies.Commanded version demand allocation) = true
is_commanded _ = false

abbrev pub is_late : Reply → Bool
is_late (replies.Late last) = true
is_late _ = false

abbrev pub is_version : Reply → Bool
is_version (replies.Version number) = true
is_version _ = false

abbrev pub is_same : Reply → Bool
is_same replies.Same = true
is_same _ = false

-- how many entries are by the caller
abbrev pub count_entries : ℕ → List Entry → ℕ
count_entries caller history = count_by (λ entry. entry.caller == caller) history

-- how many of them have such a reply
abbrev pub count_replies : ℕ → (Reply → Bool) → List Entry → ℕ
count_replies caller is history =
    count_by (λ entry. entry.caller == caller && is entry.reply) history

-- what the last command asks of the thrusters, where there is one
abbrev pub demand_after : Wrench → Reply → Wrench
demand_after demand (replies.Commanded version asked allocation) = asked
demand_after demand _ = demand

-- what the last command of a history asks of the thrusters, and nothing before the first
abbrev pub last_demand : List Entry → Wrench
last_demand history = fold (λ demand entry. demand_after demand entry.reply) no_demand history

-- The entries of the sensors, with how many commands and how many that were late; the entries of the
-- operators, with how many made a version and how many changed nothing; how the plant is switched at
-- last, and what the last command asks.
pub record Summary : Type 0 where
  pub sensors : ℕ
  pub commanded : ℕ
  pub late : ℕ
  pub operators : ℕ
  pub versions : ℕ
  pub same : ℕ
  pub status : Status
  pub demand : Wrench

abbrev pub summary_of : Parts → List Entry → Summary
summary_of plant history = record {
  sensors = count_entries 1 history;
  commanded = count_replies 1 is_commanded history;
  late = count_replies 1 is_late history;
  operators = count_entries 2 history;
  versions = count_replies 2 is_version history;
  same = count_replies 2 is_same history;
  status = (state_after plant history).latest.status;
  demand = last_demand history;
}
