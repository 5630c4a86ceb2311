-- What was taken grows by one piece after another.
use Rattle.std.proofs.Common.{◌≡◌, ℕ, ◌+◌, ◌-◌, List, [], ◌++◌, length, take, drop, Option, Some}
use Rattle.std.proofs.Common.{None, refl, ap, sym, append_assoc, append-nil, ◌∙◌}
use Rattle.std.proofs.Math.Seq.{take-add}
use Rattle.std.proofs.lemmas.List.{take_rest}
use Rattle.dp_io.specs.Streams.{Grew}

-- one piece, and then another
Grew-some : (before p q : List ℕ) (b c : Option (List ℕ))
    → b ≡ Some (before ++ p) → Grew b c q → c ≡ Some (before ++ (p ++ q))
Grew-some before p q (Some more) c is next =
    let grown : more ≡ before ++ p = cc in
    next ∙ ap Some (ap (λ taken. taken ++ q) grown ∙ append_assoc before p q)
Grew-some before p q None c is next = cc

pub Grew-append : (a b c : Option (List ℕ)) (p q : List ℕ) → Grew a b p → Grew b c q
    → Grew a c (p ++ q)
Grew-append (Some before) b c p q first next = Grew-some before p q b c first next
Grew-append None (Some more) c p q first next = cc
Grew-append None None c p q first next = next

-- the first part of a piece, and then the first part of its rest
pub Grew-part : (a b c : Option (List ℕ)) (piece : List ℕ) (sent n : ℕ)
    → Grew a b (take sent piece)
    → Grew b c (take n (take (length piece - sent) (drop sent piece)))
    → Grew a c (take (sent + n) piece)
Grew-part a b c piece sent n first next =
    let rest = rw take_rest at next in
    rw take-add (Grew-append a b c (take sent piece) (take n (drop sent piece)) first rest)
