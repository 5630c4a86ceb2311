-- What is answered, and what is kept, is said of any references that the vote stands for.
use Rattle.std.proofs.Common.{◌≡◌, ◌∙◌, ℕ, ◌<◌, ◌≤◌, ◌-◌, true, false, None, Some, Option, List, get_or, ap, sym, arith}
use Rattle.std.proofs.Common.{rules}
use Rattle.std.specs.List.{slice_set}
use Rattle.std.specs.Prelude.{is_some}
use Rattle.sensor_vote.specs.References.{IsNumber, has_heading}
use Rattle.sensor_vote.specs.Rounds.{Kept, answer_of, is_whole, last_moment, of_round, round_at}
use Rattle.sensor_vote.specs.declared.reference.Reference.{Reference}
use Rattle.sensor_vote.proofs.Rounds.{headings-set, kept-before, kept-placed, kept-twice, kept-whole}
use Rattle.sensor_vote.proofs.Rounds.{none-left, place-at, voted-placed}
use Rattle.sensor_vote.proofs.vote.Vote.take.Goals as goal

-- the place of a reference in the round of its moment
here : (r : Reference) (taken : List Reference) (round : List (Option Reference))
    → round ≡ round_at r.moment taken → IsNumber r.number
    → get_or round (r.number - 1) None ≡ of_round r.moment taken r.number
here r taken round is is_number =
    ap (λ (xs : List (Option Reference)). get_or xs (r.number - 1) None) is
    ∙ place-at r.moment r.number taken None is_number

pub returns-then-reference-self-clause-stands : goal.returns-then-reference-self-clause-stands
returns-then-reference-self-clause-stands c = λ taken stands.
    let last : c.self.inside.last ≡ last_moment taken =
    ap (λ (k : Kept). k.last) (c.self.view_is ∙ stands) in
    let before : c.args.reference.moment < last_moment taken = omega arith in
    stands ∙ sym (kept-before taken c.args.reference before)

pub returns-then-is_whole-clause-stands : goal.returns-then-is_whole-clause-stands
returns-then-is_whole-clause-stands c = λ taken stands.
    let last : c.self.inside.last ≡ last_moment taken =
    ap (λ (k : Kept). k.last) (c.self.view_is ∙ stands) in
    let early : last_moment taken ≤ c.args.reference.moment = omega arith in
    let round : c.round_from-round.result ≡ round_at c.args.reference.moment taken =
    c.round_from-round.ensures.round taken stands in
    let is_one : is_whole c.round_from-round.result ≡ true = first_of (cc, search rules) in
    let whole : is_whole (round_at c.args.reference.moment taken) ≡ true =
    sym (ap is_whole round) ∙ is_one in
    stands ∙ sym (kept-whole taken c.args.reference early whole)

pub returns-then-is_some-clause-stands : goal.returns-then-is_some-clause-stands
returns-then-is_some-clause-stands c = λ taken stands.
    let last : c.self.inside.last ≡ last_moment taken =
    ap (λ (k : Kept). k.last) (c.self.view_is ∙ stands) in
    let early : last_moment taken ≤ c.args.reference.moment = omega arith in
    let round : c.round_from-round.result ≡ round_at c.args.reference.moment taken =
    c.round_from-round.ensures.round taken stands in
    let twice : is_some (of_round c.args.reference.moment taken c.args.reference.number) ≡ true =
    sym (ap is_some (here c.args.reference taken c.round_from-round.result round
    c.requires.number)) ∙ sym c.if-is_some.ensures in
    stands ∙ sym (kept-twice taken c.args.reference early twice)

pub answer-requires : goal.answer-requires
answer-requires c =
    let own : has_heading (Some c.args.reference) ≡ true = grind (arith, c.requires.fix.turn) in
    headings-set c.round_from-round.result (c.args.reference.number - 1) c.args.reference
    c.round_from-round.ensures.headings own

pub invariant_of-self : goal.invariant_of-self
invariant_of-self c =
    let own : has_heading (Some c.args.reference) ≡ true = grind (arith, c.requires.fix.turn) in
    headings-set c.round_from-round.result (c.args.reference.number - 1) c.args.reference
    c.round_from-round.ensures.headings own

-- the place of its number is empty
left : (round : List (Option Reference)) (place : ℕ) → false ≡ is_some (get_or round place None)
    → get_or round place None ≡ None
left round place is = none-left (get_or round place None) (sym is)

pub returns-clause-answer : goal.returns-clause-answer
returns-clause-answer c = λ taken stands.
    let last : c.self.inside.last ≡ last_moment taken =
    ap (λ (k : Kept). k.last) (c.self.view_is ∙ stands) in
    let early : last_moment taken ≤ c.args.reference.moment = omega arith in
    let r : Reference = c.args.reference in
    let round : c.round_from-round.result ≡ round_at r.moment taken =
    c.round_from-round.ensures.round taken stands in
    let some_left : is_whole (round_at r.moment taken) ≡ false =
    sym (ap is_whole round) ∙ sym c.if-is_whole.ensures in
    let none : of_round r.moment taken r.number ≡ None =
    sym (here r taken c.round_from-round.result round c.requires.number)
    ∙ left c.round_from-round.result (r.number - 1) c.if-is_some.ensures in
    c.answer.ensures
    ∙ ap (λ (xs : List (Option Reference)). answer_of r.moment (slice_set xs (r.number - 1) (Some r)))
    round
    ∙ sym (voted-placed taken r early c.requires.number some_left none)

pub returns-clause-stands : goal.returns-clause-stands
returns-clause-stands c = λ taken stands.
    let last : c.self.inside.last ≡ last_moment taken =
    ap (λ (k : Kept). k.last) (c.self.view_is ∙ stands) in
    let early : last_moment taken ≤ c.args.reference.moment = omega arith in
    let r : Reference = c.args.reference in
    let round : c.round_from-round.result ≡ round_at r.moment taken =
    c.round_from-round.ensures.round taken stands in
    let none : of_round r.moment taken r.number ≡ None =
    sym (here r taken c.round_from-round.result round c.requires.number)
    ∙ left c.round_from-round.result (r.number - 1) c.if-is_some.ensures in
    ap (λ (xs : List (Option Reference)).
    record { last = r.moment; round = slice_set xs (r.number - 1) (Some r) }) round
    ∙ sym (kept-placed taken r early c.requires.number none)
