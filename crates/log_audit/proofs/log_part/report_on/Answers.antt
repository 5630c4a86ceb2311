-- The next line of the report, or another.
use Rattle.std.proofs.Common.{◌≡◌, ℕ, List, ◌+◌, ◌∷◌, ◌++◌, [], drop, sym, subst, arith}
use Rattle.log_text.specs.Lines.{line}
use Rattle.log_audit.specs.SessionAudits.{IsBadSessionOn}
use Rattle.log_audit.proofs.SessionReadings.{log_bad, report_apart, report_bad, report_begins, report_more}
use Rattle.log_audit.proofs.log_part.report_on.Goals as goal

pub returns-in-Some-clause-goes_on : goal.returns-in-Some-clause-goes_on
returns-in-Some-clause-goes_on c = λ core kept frames before can count good at.
    report_more core can kept frames before good c.args.report.now c.args.taken at c.args.own.now
    c.requires.feed c.in-Some.taken c.in-Some.ensures.some.0 (c.in-Some.ensures.some.1 at.within)

pub returns-in-Some-clause-begins : goal.returns-in-Some-clause-begins
returns-in-Some-clause-begins c = λ core kept frames before can count good none is unread at.
    let report = c.args.report.now in
    let first : report ≡ line c.args.own.now ++ drop c.in-Some.taken report =
    subst (λ (n : ℕ). drop n report ≡ line c.args.own.now ++ drop c.in-Some.taken report) none
    (c.in-Some.ensures.some.1 (omega (arith, none))) in
    report_begins core can kept frames before good at report is c.args.own.now c.requires.feed
    c.in-Some.taken c.in-Some.ensures.some.0 first

pub returns-in-None-clause-goes_on : goal.returns-in-None-clause-goes_on
returns-in-None-clause-goes_on c = λ core kept frames before can count good at.
    subst (λ (n : ℕ). IsBadSessionOn core (before ++ c.args.own.now ∷ []) (n + 1)) (sym count)
    (report_bad core can kept frames before good c.args.report.now c.args.taken at c.args.own.now
    c.requires.feed (c.in-None.ensures.none at.within))

pub returns-in-None-clause-begins : goal.returns-in-None-clause-begins
returns-in-None-clause-begins c = λ core kept frames before can count good none is unread at.
    let report = c.args.report.now in
    let other : (more : List ℕ) → report ≡ line c.args.own.now ++ more → ⊥ =
    subst (λ (n : ℕ). (more : List ℕ) → drop n report ≡ line c.args.own.now ++ more → ⊥) none
    (c.in-None.ensures.none (omega (arith, none))) in
    subst (λ (n : ℕ). IsBadSessionOn core (before ++ c.args.own.now ∷ []) (n + 1)) (sym count)
    (log_bad core can kept frames before good at c.args.own.now c.requires.feed
    (λ entry told stands. unread entry told)
    (report_apart core can kept frames before good at report is c.args.own.now other))
