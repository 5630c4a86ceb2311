-- The lines so far and what is left are the text.
use Rattle.std.proofs.Common.{◌≡◌, ◌∙◌, ℕ, List, [], ◌∷◌, ◌++◌, Bool, sym, subst, arith}
use Rattle.plant_model.specs.declared.plant.Parts.{Parts}
use Rattle.log_audit.specs.Auditors.{is_session}
use Rattle.log_audit.specs.FirstBad.{text_of}
use Rattle.log_audit.specs.Verdicts.{IsVerdict}
use Rattle.log_audit.proofs.Pieces.{next-line, nothing_left, shorter, some_left}
use Rattle.log_audit.proofs.text.verdict_on.Goals as goal

pub loop-line-preserved : goal.loop-line-preserved
loop-line-preserved g c =
    let first = c.in-Some.ensures.some in
    let held = c.loop-line.invariant in
    let lines = held.read.0 in
    let own = c.in-Some.line.now in
    let less = shorter c.loop-line.rest.now own c.in-Some.more.now first in
    record {
      plant = c.in_ok-line.ensures.same.core.plant ∙ held.plant;
      session = c.in_ok-line.ensures.same.session ∙ held.session;
      room = omega (arith, c.in_ok-line.ensures.count, less, held.room);
      read = (
        lines ++ own ∷ [],
        c.in_ok-line.ensures.read lines held.read.1,
        next-line c.args.text.now own c.loop-line.rest.now c.in-Some.more.now lines first held.read.2,
      );
    }

pub returns-then-is_empty : goal.returns-then-is_empty
returns-then-is_empty g c =
    let held = c.loop-line.invariant in
    let lines = held.read.0 in
    let whole : text_of lines ≡ c.args.text.now =
    nothing_left (text_of lines) c.loop-line.rest.now c.args.text.now (sym c.if-is_empty.ensures)
    held.read.2 in
    subst (λ (session : Bool). IsVerdict session c.args.plant c.args.text.now c.finish.result)
    held.session
    (subst (λ (plant : Parts). IsVerdict (is_session c.loop-line.auditor.reading) plant c.args.text.now
    c.finish.result) held.plant
    (subst (λ (text : List ℕ). IsVerdict (is_session c.loop-line.auditor.reading)
    c.loop-line.auditor.core.plant text c.finish.result) whole
    (c.finish.ensures lines held.read.1)))

pub returns-else-is_empty : goal.returns-else-is_empty
returns-else-is_empty g c =
    let held = c.loop-line.invariant in
    let lines = held.read.0 in
    let rest = c.loop-line.rest.now in
    subst (λ (session : Bool). IsVerdict session c.args.plant c.args.text.now c.finish_cut.result)
    held.session
    (subst (λ (plant : Parts). IsVerdict (is_session c.loop-line.auditor.reading) plant c.args.text.now
    c.finish_cut.result) held.plant
    (subst (λ (text : List ℕ). IsVerdict (is_session c.loop-line.auditor.reading)
    c.loop-line.auditor.core.plant text c.finish_cut.result) held.read.2
    (c.finish_cut.ensures lines rest held.read.1 c.in_default.ensures.none
    (some_left rest (sym c.if-is_empty.ensures)))))
