-- Each entry of a history of two streams fits its caller.
use Rattle.std.proofs.Common.{◌≡◌, ◌≢◌, List, [], ◌∷◌, Bool, true, false, cond, ◌==◌}
use Rattle.std.proofs.lemmas.Bool.{eq-eqb}
use Rattle.std.proofs.lemmas.List.Elements.{All-head, All-same, All-tail}
use Rattle.std.specs.List.{All, AllByRecursion}
use Rattle.std.specs.Prelude.{map}
use Rattle.plant_core.specs.Machine.{is_event}
use Rattle.plant_core.specs.declared.call.Call.{Call}
use Rattle.plant_core.specs.declared.call.Entry.{Entry}
use Rattle.drill_summary.specs.Laws.{AreApart}
use Rattle.drill_summary.specs.Streams.{IsOfOperators, IsOfSensors, IsOfStreams, calls_by, entries_of}

pub record Fits (entry : Entry) : Type 0 where
  pub control : entry.caller ≡ 1 → IsOfSensors entry.call
  pub orders : entry.caller ≡ 2 → IsOfOperators entry.call
  pub others : entry.caller ≢ 1 → entry.caller ≢ 2 → is_event entry.call ≡ false

abbrev pub AllFit : List Entry → Type 0
AllFit history = AllByRecursion Fits history

-- what holds of each call that is kept holds of the first one where it is kept
first-kept : (P : Call → Type 0) (kept : Bool) (entry : Entry) (rest : List Entry) → kept ≡ true
    → All P (map (λ e. e.call) (cond kept (entry ∷ rest) rest)) → P entry.call
first-kept P true entry rest is all = All-head P entry.call (map (λ e. e.call) rest) all
first-kept P false entry rest is all = absurd (cc)

-- and of those after it
rest-kept : (P : Call → Type 0) (kept : Bool) (entry : Entry) (rest : List Entry)
    → All P (map (λ e. e.call) (cond kept (entry ∷ rest) rest)) → All P (map (λ e. e.call) rest)
rest-kept P true entry rest all = All-tail P entry.call (map (λ e. e.call) rest) all
rest-kept P false entry rest all = all

abbrev IsOther : Entry → Type 0
IsOther entry = entry.caller ≢ 1 → entry.caller ≢ 2 → is_event entry.call ≡ false

fit-each : (history : List Entry) → All IsOfSensors (calls_by 1 history)
    → All IsOfOperators (calls_by 2 history) → All IsOther history → AllFit history
fit-each [] control orders others = tt
fit-each (entry ∷ more) control orders others = (
  record {
    control = λ is. first-kept IsOfSensors (entry.caller == 1) entry (entries_of 1 more)
        (eq-eqb entry.caller 1 is) control;
    orders = λ is. first-kept IsOfOperators (entry.caller == 2) entry (entries_of 2 more)
        (eq-eqb entry.caller 2 is) orders;
    others = All-head IsOther entry more others;
  },
  fit-each more
      (rest-kept IsOfSensors (entry.caller == 1) entry (entries_of 1 more) control)
      (rest-kept IsOfOperators (entry.caller == 2) entry (entries_of 2 more) orders)
      (All-tail IsOther entry more others),
)

pub all-fit : (sensors operators : List Call) (history : List Entry) → AreApart sensors operators
    → IsOfStreams sensors operators history → AllFit history
all-fit sensors operators history apart asked =
    fit-each history
    (All-same IsOfSensors (calls_by 1 history) sensors asked.control apart.control)
    (All-same IsOfOperators (calls_by 2 history) operators asked.orders apart.orders) asked.others
