-- The new state is the next one, so it is the fold over one fix more.
use Rattle.std.proofs.Common.{rules, ◌≡◌, subst, sym, arith, [], ◌∷◌, ◌++◌, Some}
use Rattle.std.proofs.lemmas.Grind.{common_steps}
use Rattle.pid.specs.declared.axis.Sample.{Sample}
use Rattle.pid.specs.Control.{ControlState, IsAfter, after_fix}
use Rattle.pid.proofs.Folds.{IsAfter-after_fix}
use Rattle.pid.proofs.control.Controller.step.Goals as goal

pub returns-clause-folds : goal.returns-clause-folds
returns-clause-folds c =
    let fields = c.match-self.self-inside in
    let fix : Sample = record { moment = c.args.moment; errors = c.args.errors } in
    let state : ControlState =
    record { gains = fields.gains; sums = fields.sums; previous = Some fix } in
    let is_next : state ≡ after_fix c.args.self.now c.args.moment c.args.errors =
    first_of (search rules, grind (arith, common_steps)) in
    λ fixes after. subst (λ (s : ControlState). IsAfter s (fixes ++ fix ∷ [])) (sym is_next)
    (IsAfter-after_fix c.args.self.now c.args.moment c.args.errors fixes after)
