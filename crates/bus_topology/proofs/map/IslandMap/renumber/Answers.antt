-- Each place before the index has its number exchanged, and the others are as they were.
use Rattle.std.proofs.Common.{◌≡◌, ◌≢◌, ◌∙◌, ℕ, ◌+◌, ◌<◌, List, ◌++◌, length, map, take, drop}
use Rattle.std.proofs.Common.{get_or, set, sym, ap, arith, rules}
use Rattle.std.proofs.lemmas.Bool.Decides.{nat_tests}
use Rattle.std.proofs.lemmas.List.{get_or_default}
use Rattle.std.proofs.lemmas.List.Edits.{map_over_more}
use Rattle.bus_topology.specs.Islands.{exchanged}
use Rattle.bus_topology.proofs.map.IslandMap.renumber.Goals as goal
use Rattle.bus_topology.proofs.map.IslandMap.renumber.Goals.{then-island-old, else-island-old}

abbrev so_far : ℕ → ℕ → List ℕ → ℕ → List ℕ
so_far old new xs i = map (exchanged old new) (take i xs) ++ drop i xs

changed_more : (old new : ℕ) (xs ys : List ℕ) (i : ℕ) → i < length xs → i < length ys →
    ys ≡ so_far old new xs i → get_or ys i 0 ≡ old → set ys i new ≡ so_far old new xs (i + 1)
changed_more old new xs ys i within written before is_old =
    let is_new : exchanged old new (get_or ys i 0) ≡ new = grind (arith, nat_tests) in
    ap (set ys i) (sym is_new)
    ∙ map_over_more (exchanged old new) xs ys i (get_or ys i 0) within before
    (get_or_default ys i 0 _ written)

kept_more : (old new : ℕ) (xs ys : List ℕ) (i : ℕ) → i < length xs → i < length ys →
    ys ≡ so_far old new xs i → get_or ys i 0 ≢ old →
    set ys i (get_or ys i 0) ≡ so_far old new xs (i + 1)
kept_more old new xs ys i within written before is_other =
    let is_same : exchanged old new (get_or ys i 0) ≡ get_or ys i 0 = grind (arith, nat_tests) in
    ap (set ys i) (sym is_same)
    ∙ map_over_more (exchanged old new) xs ys i (get_or ys i 0) within before
    (get_or_default ys i 0 _ written)

pub loop-island-preserved : goal.loop-island-preserved
loop-island-preserved c =
    let within : c.loop-island.island-index < length c.args.self.now.of = search rules in
    let written : c.loop-island.island-index < length c.loop-island.island-items = search rules in
    elim c.if-island-old.branch [
      | then-island-old w ↦ w.island-items-is
          ∙ changed_more c.args.old c.args.new c.args.self.now.of c.loop-island.island-items
          c.loop-island.island-index within written c.loop-island.invariant w.if-island-old.true
      | else-island-old w ↦ w.island-items-is
          ∙ kept_more c.args.old c.args.new c.args.self.now.of c.loop-island.island-items
          c.loop-island.island-index within written c.loop-island.invariant w.if-island-old.false
    ]
