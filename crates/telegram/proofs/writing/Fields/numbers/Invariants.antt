-- The numbers so far are written, each with a comma.
use Rattle.std.proofs.Common.{◌≡◌, ◌+◌, ◌*◌, ◌≤◌, ◌∷◌, ◌++◌, length, take}
use Rattle.std.specs.Fmt.{signed_decimal}
use Rattle.std.specs.List.{flat_map}
use Rattle.telegram.specs.Telegrams.{comma}
use Rattle.telegram.specs.declared.writing.TheConstants.{MOST_NUMBER_BYTES}
use Rattle.telegram.proofs.writing.Fields.numbers.Given as goal

abbrev pub invariant-loop-number : goal.invariant-loop-number
invariant-loop-number l =
    (l.fields ≡ l.fn.self ++ flat_map (λ z. comma ∷ signed_decimal z)
    (take l.number-index l.numbers))
    × (length l.fields ≤ length l.fn.self + l.number-index * (1 + MOST_NUMBER_BYTES))
