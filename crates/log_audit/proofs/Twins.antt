-- How the machine stands doesn't depend on the thrusts of its commands.
use Rattle.std.proofs.Common.{◌≡◌, ◌∙◌, ℕ, ℤ, List, [], ◌∷◌, if◌then◌else◌, refl, ap, ap₂}
use Rattle.std.specs.List.{fold}
use Rattle.std.specs.Prelude.{int_lt}
use Rattle.plant_model.specs.declared.plant.Parts.{Parts}
use Rattle.plant_core.specs.Alarming.{alarms_after, notice_of}
use Rattle.plant_core.specs.Machine.{Stand, after_call, next, opening_stand}
use Rattle.plant_core.specs.declared.alarming.Notice.{Notice}
use Rattle.plant_core.specs.declared.alarming.Notice.TheVariants.{Given, Short}
use Rattle.plant_core.specs.declared.call.Call.{Call}
use Rattle.plant_core.specs.declared.call.Call.TheVariants as calls
use Rattle.plant_core.specs.declared.call.Entry.{Entry}
use Rattle.plant_core.specs.declared.call.Reply.{Reply}
use Rattle.plant_core.specs.declared.call.Reply.TheVariants.{Commanded}
use Rattle.plant_core.specs.declared.state.State.{State}
use Rattle.thrust_allocation.specs.declared.allocation.Allocation.{Allocation}
use Rattle.plant_model.specs.declared.wrench.Wrench.{Wrench}
use Rattle.log_audit.specs.Twins.{AreAlike, AreTwins, Twins, TwinsStandAlike}

-- what the next stand reads of a reply
record ReadAlike (plant : Parts) (state : State) (call : Call) (reply other : Reply) : Type 0 where
  after : after_call plant state call reply ≡ after_call plant state call other
  notice : notice_of call reply ≡ notice_of call other

-- a command's state is read of the call alone
command_state : (plant : Parts) (state : State) (call : Call) (version other : ℕ)
    (demand wrench : Wrench) (a b : Allocation)
    → after_call plant state call (Commanded version demand a)
    ≡ after_call plant state call (Commanded other wrench b)
command_state plant state (calls.Telegram t) version other demand wrench a b = refl
command_state plant state (calls.Note n) version other demand wrench a b = refl
command_state plant state (calls.Publish v group outcome) version other demand wrench a b = refl
command_state plant state calls.Close version other demand wrench a b = refl

by_path : (plant : Parts) (state : State) (call : Call) (reply other : Reply) → reply ≡ other
    → ReadAlike plant state call reply other
by_path plant state call reply other same = record {
  after = ap (after_call plant state call) same;
  notice = ap (notice_of call) same;
}

read_alike : (plant : Parts) (state : State) (call : Call) (reply other : Reply)
    → AreAlike reply other → ReadAlike plant state call reply other
read_alike plant state call (Commanded version demand a) (Commanded other wrench b) same = record {
  after = command_state plant state call version other demand wrench a b;
  notice = ap₂ (λ (top bottom : ℤ). if int_lt top bottom then Short else Given) same.gives.top
      same.gives.bottom;
}
read_alike plant state call reply other same = by_path plant state call reply other same

abbrev stepped : Parts → Stand → Call → Reply → Stand
stepped plant stand call reply =
    let after : State = after_call plant stand.state call reply in
    record {
      state = after;
      alarms = alarms_after stand.state after (notice_of call reply) stand.alarms;
    }

next_alike : (plant : Parts) (stand : Stand) (entry other : Entry) → AreTwins entry other
    → next plant stand entry ≡ next plant stand other
next_alike plant stand entry other twins =
    let alike = read_alike plant stand.state entry.call entry.reply other.reply twins.reply in
    ap₂ (λ (after : State) (notice : Notice). record {
      state = after;
      alarms = alarms_after stand.state after notice stand.alarms;
    }) alike.after alike.notice
    ∙ ap (λ (call : Call). stepped plant stand call other.reply) twins.call

alike_from : (plant : Parts) (stand : Stand) (history other : List Entry) → Twins history other
    → fold (next plant) stand history ≡ fold (next plant) stand other
alike_from plant stand [] [] twins = refl
alike_from plant stand [] (f ∷ fs) twins = absurd twins
alike_from plant stand (e ∷ es) [] twins = absurd twins
alike_from plant stand (e ∷ es) (f ∷ fs) twins =
    ap (λ (after : Stand). fold (next plant) after es) (next_alike plant stand e f twins.0)
    ∙ alike_from plant (next plant stand f) es fs twins.1

pub twins_alike : TwinsStandAlike
twins_alike plant history other twins = alike_from plant (opening_stand plant) history other twins
