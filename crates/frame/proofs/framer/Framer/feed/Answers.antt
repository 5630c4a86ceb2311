-- What is kept of the line goes on with the byte, or begins anew after a line feed.
use Rattle.std.proofs.Common.{◌≡◌, ◌<◌, List, ℕ, [], ◌∷◌, ◌++◌, Option, Some, None, length}
use Rattle.std.proofs.Common.{cond, arith, append-nil, sym, ◌∙◌, ap}
use Rattle.std.proofs.lemmas.Bool.Decides.{nat_tests}
use Rattle.frame.specs.declared.framer.TheConstants.{MOST_LINE_BYTES}
use Rattle.frame.specs.Frames.{StandsFor, items, kept, open_line}
use Rattle.frame.proofs.StreamItems.{StandsFor-feed, StandsFor-full, StandsFor-push, items-other}
use Rattle.frame.proofs.framer.Framer.feed.Goals as goal
use Rattle.frame.proofs.framer.Framer.feed.Goals.{then-is_full, else-is_full}

pub returns-then-byte-eq10-clause-stands : goal.returns-then-byte-eq10-clause-stands
returns-then-byte-eq10-clause-stands c fed stands =
    c.end_line.ensures.new ∙ StandsFor-feed fed
    ∙ ap (λ byte. kept (open_line (fed ++ byte ∷ []))) (sym c.if-byte-eq10.true)

pub returns-clause-items : goal.returns-clause-items
returns-clause-items c fed stands =
    items-other fed c.args.byte c.if-byte-eq10.false ∙ sym (append-nil (items fed))

pub returns-clause-stands : goal.returns-clause-stands
returns-clause-stands c fed stands =
    let before : StandsFor (cond c.self.inside.overlong None (Some c.self.inside.line.items)) fed =
    c.self.view_is ∙ stands in
    elim c.if-is_full.branch [
      | then-is_full w ↦
          let full : length c.self.inside.line.items ≡ MOST_LINE_BYTES = grind (arith, nat_tests) in
          w.self-is ∙ StandsFor-full c.self.inside.overlong c.self.inside.line.items fed c.args.byte
          c.if-byte-eq10.false full before
      | else-is_full w ↦
          let room : length c.self.inside.line.items < MOST_LINE_BYTES = grind (arith, nat_tests) in
          let shown : List ℕ → Option (List ℕ) =
          λ bytes. cond c.self.inside.overlong None (Some bytes) in
          w.self-is ∙ ap shown w.push.ensures.items
          ∙ StandsFor-push c.self.inside.overlong c.self.inside.line.items fed c.args.byte
          c.if-byte-eq10.false room before
    ]
