-- By the place of the first line feed.
use Rattle.std.proofs.Common.{ℕ, List, ◌+◌, ◌-◌, drop, length, arith, subst, sym, ◌∙◌, length-drop}
use Rattle.std.proofs.lemmas.List.{take_all}
use Rattle.frame.specs.Frames.{FeedsFront}
use Rattle.frame.proofs.Feeds.{feeds-all, feeds-line}
use Rattle.frame.proofs.framer.Framer.feed_line.Goals as goal

pub returns-in-Some-clause-feeds : goal.returns-in-Some-clause-feeds
returns-in-Some-clause-feeds c =
    let old = c.args.self.now in
    let new = c.end_line.new.self in
    let bytes : List ℕ = c.args.bytes.now in
    let end : ℕ = c.in-Some.end in
    let item = c.end_line.result in
    let found = c.in-Some.ensures in
    let left : List ℕ = drop (end + 1) bytes in
    subst (λ (t : List ℕ). FeedsFront old new bytes item t)
    (sym (take_all (length bytes - (end + 1)) left (omega (arith, length-drop (end + 1) bytes))))
    (feeds-line old new bytes end item found.0.high found.0.before found.1
    (λ fed stands. c.end_line.ensures.item fed (c.keep.ensures ∙ stands))
    c.end_line.ensures.new)

pub returns-in-None-clause-feeds : goal.returns-in-None-clause-feeds
returns-in-None-clause-feeds c =
    rw c.keep-in-None.ensures (feeds-all c.args.self.now c.args.bytes.now c.in-None.ensures)
