-- By the one entry of a line.
use Rattle.std.proofs.Common.{ℕ, ◌+◌, ◌∷◌, ◌++◌, [], sym, subst}
use Rattle.plant_model.specs.declared.plant.Parts.{Parts}
use Rattle.log_reading.specs.Lines.{IsLineOf}
use Rattle.log_reading.proofs.EntryLines.{one_entry}
use Rattle.log_audit.specs.FirstBad.{text_of}
use Rattle.log_audit.specs.Sessions.{IsBadSession}
use Rattle.log_audit.specs.Steps.{MayStand}
use Rattle.log_audit.proofs.Readings.{named}
use Rattle.log_audit.proofs.SessionReadings.{entry_apart, log_bad, log_more}
use Rattle.log_audit.proofs.log_part.log_on.Goals as goal

pub returns-then-is_next-clause-stands : goal.returns-then-is_next-clause-stands
returns-then-is_next-clause-stands g c = λ kept before count good at.
    let core = c.args.core.now in
    let found : IsLineOf core.plant c.args.own.now c.in-Some.entry =
    subst (λ (plant : Parts). IsLineOf plant c.args.own.now c.in-Some.entry) c.plant.ensures
    c.in-Some.ensures.found in
    log_more core c.requires.read kept c.args.frames.now.items before good at c.args.own.now
    c.in-Some.entry c.take_framed.new.core c.take_framed.new.frames.items found
    (c.in_ok-is_next-in-Some.ensures.taken (cc)) (c.in_ok-is_next-in-Some.ensures.framed (cc))

pub returns-else-is_next-clause-stands : goal.returns-else-is_next-clause-stands
returns-else-is_next-clause-stands g c = λ kept before count good at more.
    let core = c.args.core.now in
    let own = c.args.own.now in
    let names = c.requires.read.names in
    let found : IsLineOf core.plant own c.in-Some.entry =
    subst (λ (plant : Parts). IsLineOf plant own c.in-Some.entry) c.plant.ensures
    c.in-Some.ensures.found in
    subst (λ (plant : Parts). IsBadSession plant (text_of (before ++ own ∷ []) ++ more)
    (c.args.lines + 1)) (sym c.in_ok-is_next-in-Some.ensures.behind.plant)
    (subst (λ (n : ℕ). IsBadSession core.plant (text_of (before ++ own ∷ []) ++ more) (n + 1)) (sym count)
    (log_bad core c.requires.read kept c.args.frames.now.items before good at own c.requires.feed
    (λ other told stands. c.in_ok-is_next-in-Some.ensures.none (cc)
    (subst (MayStand core) (one_entry core.plant (named core.plant names) names.distinct own other
    c.in-Some.entry told found) stands))
    (entry_apart core c.requires.read kept c.args.frames.now.items before good at own c.in-Some.entry
    found) more))
