-- Commands, and verdicts that are judged.
use Rattle.std.proofs.Common.{◌≡◌, ℕ, ◌≤◌, Bool, true, false, cond, None, ap, ◌+◌}
use Rattle.std.proofs.Common.{subst, ◌∙◌}
use Rattle.std.proofs.Math.Path.{refl}
use Rattle.std.proofs.lemmas.Bool.{le-ltb}
use Rattle.certificate.specs.Losses.{question_after}
use Rattle.certificate.specs.declared.outcome.Outcome.{Outcome}
use Rattle.pid.specs.declared.position.Fix.{Fix}
use Rattle.plant_model.specs.Versions.{Version, are_separate}
use Rattle.plant_model.specs.declared.plant.Parts.{Parts}
use Rattle.plant_model.specs.declared.status.Loss.TheVariants.{Intact}
use Rattle.plant_model.specs.declared.status.Status.{Status}
use Rattle.thrust_allocation.specs.Allocations.{IsRight}
use Rattle.plant_core.specs.Board.{IsJudged, IsPublishReply, asked_of, is_shown}
use Rattle.plant_core.specs.Sensing.{IsPositionReply, late, latest_for, sensed}
use Rattle.thrust_allocation.specs.declared.allocation.Allocation.{Allocation}
use Rattle.plant_core.specs.declared.call.Reply.{Reply}
use Rattle.plant_core.specs.declared.call.Reply.TheVariants.{Commanded}
use Rattle.plant_core.specs.declared.state.State.{State}

status-one_of : (latest changed : Version) (moves : Bool) → changed.status ≡ latest.status
    → (cond moves changed latest).status ≡ latest.status
status-one_of latest changed true same = same
status-one_of latest changed false same = refl

-- a version for a demand has the status as it is
status-latest_for : (plant : Parts) (state : State)
    → (latest_for plant state).status ≡ state.latest.status
status-latest_for plant state = status-one_of state.latest
    (record state.latest { number = state.latest.number + 1; demand = state.demand })
    (are_separate state.demand state.latest.demand plant.band) refl

-- a position that isn't late is answered by a command with the right allocation
pub reply-commanded : (plant : Parts) (state : State) (moment : ℕ) (at : Fix) (next : State)
    (latest : Version) (a : Allocation) → late state.last_position moment ≡ None
    → next ≡ sensed state moment at → latest ≡ latest_for plant next
    → IsRight (question_after plant latest.status Intact next.demand) a
    → IsPositionReply plant state moment at (Commanded latest.number next.demand a)
reply-commanded plant state moment at next latest a in_time next_is latest_is right =
    let is = latest_is ∙ ap (λ (s : State). latest_for plant s) next_is in
    let status : latest.status ≡ state.latest.status =
    ap (λ (v : Version). v.status) is ∙ status-latest_for plant (sensed state moment at) in
    let demand : next.demand ≡ (sensed state moment at).demand =
    ap (λ (s : State). s.demand) next_is in
    rw in_time (record {
      version = ap (λ (v : Version). v.number) is;
      demand = demand;
      allocation = subst
          (λ (s : Status). IsRight
          (question_after plant s Intact (sensed state moment at).demand) a) status
          (subst (λ w. IsRight (question_after plant latest.status Intact w) a) demand right);
    })

-- a verdict of the latest version, of which none is shown of the group yet, is judged
pub reply-judged : (plant : Parts) (state : State) (version group : ℕ) (outcome : Outcome)
    (reply : Reply) → version ≤ state.latest.number → state.latest.number ≤ version
    → is_shown state group ≡ false
    → IsJudged (asked_of plant state group) outcome reply
    → IsPublishReply plant state version group outcome reply
reply-judged plant state version group outcome reply to from there is =
    let number = state.latest.number in
    rw (le-ltb number version to, le-ltb version number from, there) is
