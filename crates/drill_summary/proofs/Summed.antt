-- What a history of two streams comes to is a function of what they ask.
use Rattle.std.proofs.Common.{◌≡◌, ◌∙◌, ℕ, List, length, ◌==◌, ap, sym}
use Rattle.std.proofs.lemmas.List.{length-map}
use Rattle.std.proofs.lemmas.List.Sums.{length-filter}
use Rattle.plant_model.specs.declared.plant.Parts.{Parts}
use Rattle.plant_model.specs.declared.status.Status.{Status}
use Rattle.plant_model.specs.declared.wrench.Wrench.{Wrench}
use Rattle.plant_core.specs.Machine.{IsLegal, opening, opening_stand, state_after}
use Rattle.plant_core.specs.declared.call.Call.{Call}
use Rattle.plant_core.specs.declared.call.Entry.{Entry}
use Rattle.drill_summary.specs.Laws.{AreApart, Stands}
use Rattle.drill_summary.specs.Projections.{after_sensors, after_switches, sensed_by, sensed_of}
use Rattle.drill_summary.specs.Projections.{Sensed, status_of, switched_by}
use Rattle.drill_summary.specs.Streams.{calls_by, entries_of}
use Rattle.drill_summary.specs.Summaries.{Summary, is_commanded, is_late, is_same, is_version}
use Rattle.drill_summary.specs.Summaries.{count_entries, summary_of}
use Rattle.drill_summary.proofs.Apart.{apart-from, count-from, counted}
use Rattle.drill_summary.proofs.Demands.{demand-last}
use Rattle.drill_summary.proofs.Fitting.{AllFit, all-fit}
use Rattle.drill_summary.proofs.Sensed.{comes_late, commands, sensed-keeps, sensed-steps}
use Rattle.drill_summary.proofs.Sensed.{tells-commanded, tells-late}
use Rattle.drill_summary.proofs.Switched.{changes_nothing, makes_version, status-keeps, status-steps}
use Rattle.drill_summary.proofs.Switched.{tells-same, tells-version}

pub sensed-apart : (plant : Parts) (history : List Entry) → AllFit history
    → sensed_of (state_after plant history) ≡ sensed_by plant (calls_by 1 history)
sensed-apart plant history fit =
    apart-from plant 1 sensed_of (after_sensors plant) (sensed-keeps plant) (sensed-steps plant)
    (opening_stand plant) history fit

pub status-apart : (plant : Parts) (history : List Entry) → AllFit history
    → status_of (state_after plant history) ≡ switched_by plant (calls_by 2 history)
status-apart plant history fit =
    apart-from plant 2 status_of (after_switches plant) (status-keeps plant) (status-steps plant)
    (opening_stand plant) history fit

-- what the calls of two streams come to
abbrev summed : Parts → List Call → List Call → Summary
summed plant sensors operators =
    let part = sensed_of (opening plant) in
    record {
      sensors = length sensors;
      commanded = counted (after_sensors plant) commands 0 part sensors;
      late = counted (after_sensors plant) comes_late 0 part sensors;
      operators = length operators;
      versions = counted (after_switches plant) (makes_version plant) 0 plant.opening operators;
      same = counted (after_switches plant) (changes_nothing plant) 0 plant.opening operators;
      status = switched_by plant operators;
      demand = (sensed_by plant sensors).demand;
    }

count-calls : (caller : ℕ) (history : List Entry)
    → count_entries caller history ≡ length (calls_by caller history)
count-calls caller history =
    sym (length-map (entries_of caller history) (λ (e : Entry). e.call)
    ∙ length-filter (λ (e : Entry). e.caller == caller) history)

-- a summary of these parts
abbrev made : ℕ → ℕ → ℕ → ℕ → ℕ → ℕ → Status → Wrench → Summary
made sensors commanded late operators versions same status demand = record {
  sensors = sensors;
  commanded = commanded;
  late = late;
  operators = operators;
  versions = versions;
  same = same;
  status = status;
  demand = demand;
}

same-made : (a b c d e f i j k l m n : ℕ) (g o : Status) (h p : Wrench) → a ≡ i → b ≡ j → c ≡ k
    → d ≡ l → e ≡ m → f ≡ n → g ≡ o → h ≡ p → made a b c d e f g h ≡ made i j k l m n o p
same-made a b c d e f i j k l m n g o h p one two three four five six seven eight = cc

same-summary : (one other : Summary) → one.sensors ≡ other.sensors
    → one.commanded ≡ other.commanded → one.late ≡ other.late → one.operators ≡ other.operators
    → one.versions ≡ other.versions → one.same ≡ other.same → one.status ≡ other.status
    → one.demand ≡ other.demand → one ≡ other
same-summary one other a b c d e f g h =
    same-made one.sensors one.commanded one.late one.operators one.versions one.same other.sensors
    other.commanded other.late other.operators other.versions other.same one.status other.status
    one.demand other.demand a b c d e f g h

sums : (plant : Parts) (limit : ℕ) (history : List Entry) → IsLegal plant limit history
    → AllFit history
    → summary_of plant history ≡ summed plant (calls_by 1 history) (calls_by 2 history)
sums plant limit history legal fit =
    same-summary (summary_of plant history)
    (summed plant (calls_by 1 history) (calls_by 2 history))
    (count-calls 1 history)
    (count-from plant limit 1 sensed_of (after_sensors plant) is_commanded commands
    (sensed-keeps plant) (sensed-steps plant) (tells-commanded plant limit) (opening_stand plant)
    history legal fit 0)
    (count-from plant limit 1 sensed_of (after_sensors plant) is_late comes_late
    (sensed-keeps plant) (sensed-steps plant) (tells-late plant limit) (opening_stand plant)
    history legal fit 0)
    (count-calls 2 history)
    (count-from plant limit 2 status_of (after_switches plant) is_version (makes_version plant)
    (status-keeps plant) (status-steps plant) (tells-version plant limit) (opening_stand plant)
    history legal fit 0)
    (count-from plant limit 2 status_of (after_switches plant) is_same (changes_nothing plant)
    (status-keeps plant) (status-steps plant) (tells-same plant limit) (opening_stand plant)
    history legal fit 0)
    (status-apart plant history fit)
    (demand-last plant limit history legal
    ∙ ap (λ (p : Sensed). p.demand) (sensed-apart plant history fit))

sums-streams : (plant : Parts) (limit : ℕ) (sensors operators : List Call) (history : List Entry)
    → AreApart sensors operators → Stands plant limit sensors operators history
    → summary_of plant history ≡ summed plant sensors operators
sums-streams plant limit sensors operators history apart stands =
    sums plant limit history stands.legal (all-fit sensors operators history apart stands.asked)
    ∙ ap (λ (calls : List Call). summed plant calls (calls_by 2 history)) stands.asked.control
    ∙ ap (λ (calls : List Call). summed plant sensors calls) stands.asked.orders

pub one-summary : (plant : Parts) (limit : ℕ) (sensors operators : List Call)
    (history other : List Entry) → AreApart sensors operators
    → Stands plant limit sensors operators history → Stands plant limit sensors operators other
    → summary_of plant history ≡ summary_of plant other
one-summary plant limit sensors operators history other apart stands stands_other =
    sums-streams plant limit sensors operators history apart stands
    ∙ sym (sums-streams plant limit sensors operators other apart stands_other)
