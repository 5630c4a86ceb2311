-- What the board shows after an entry that is no verdict.
use Rattle.std.proofs.Common.{◌≡◌, ◌≢◌, ℕ, List, true, false, Option, Some, None, refl, ap}
use Rattle.std.proofs.Common.{◌∙◌, arith}
use Rattle.std.specs.Prelude.{slice_index_or}
use Rattle.std.proofs.lemmas.Bool.Decides.{nat_tests}
use Rattle.plant_model.specs.declared.plant.Parts.{Parts}
use Rattle.plant_core.specs.Board.{is_about, verdict_of}
use Rattle.plant_core.specs.declared.state.State.{State}
use Rattle.plant_core.specs.declared.state.Verdict.{Verdict}
use Rattle.dp_sessions.specs.Sessions.{AreCurrent}
use Rattle.dp_sessions.specs.Steps.{NoneIsShown}

about-other : (verdict : Option Verdict) (old new : ℕ) → is_about old verdict ≡ true → new ≢ old
    → is_about new verdict ≡ false
about-other None old new is moved = refl
about-other (Some verdict) old new is moved = grind (arith, nat_tests)

-- where the latest number moved, no cell is current that was
pub none_shown_after : (plant : Parts) (old new : State) → new.shown ≡ old.shown
    → new.latest.number ≢ old.latest.number → AreCurrent plant old → NoneIsShown plant new
none_shown_after plant old new same moved current = λ group below.
    let at_new = λ (verdicts : List (Option Verdict)).
    is_about new.latest.number (slice_index_or verdicts group None) in
    ap at_new same
    ∙ about-other (verdict_of old group) old.latest.number new.latest.number (current group below)
    moved

-- and else each cell stays current
pub current_after : (plant : Parts) (old new : State) → new.shown ≡ old.shown
    → new.latest.number ≡ old.latest.number → AreCurrent plant old → AreCurrent plant new
current_after plant old new same stays current = λ group below.
    let at_new = λ (verdicts : List (Option Verdict)).
    is_about new.latest.number (slice_index_or verdicts group None) in
    ap at_new same ∙ ap (λ (n : ℕ). is_about n (verdict_of old group)) stays
    ∙ current group below
