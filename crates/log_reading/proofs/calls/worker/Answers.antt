-- There is no `W`.
use Rattle.std.proofs.Common.{◌≡◌, ◌∙◌, ℕ, List, [], ◌∷◌, Bool, true, false, ◌==◌, Option, Some, None, refl, ap, sym, arith}
use Rattle.std.proofs.lemmas.Bool.Decides.{nat_tests}
use Rattle.std.proofs.lemmas.Str.Pattern.{strip_prefix_char}
use Rattle.std.specs.Option.{MatchOption}
use Rattle.log_reading.specs.Calls.{worker_letter, worker_of}
use Rattle.log_reading.proofs.calls.worker.Goals as goal

at_none : {A : Type 0} (P : Type 0) (Q : A → Type 0) (found : Option A) → found ≡ None
    → MatchOption found P Q → P
at_none P Q None is told = told
at_none P Q (Some x) is told = absurd (cc)

by_letter : (b : ℕ) (bs : List ℕ) (same : Bool) → (b == worker_letter) ≡ same
    → ((rest : List ℕ) → b ∷ bs ≡ worker_letter ∷ rest → ⊥) → worker_of (b ∷ bs) ≡ None
by_letter b bs true is none =
    let letter : b ≡ worker_letter = grind (arith, nat_tests) in
    absurd (none bs (ap (λ (x : ℕ). x ∷ bs) letter))
by_letter b bs false is none = rw is refl

no_worker : (text : List ℕ) → ((rest : List ℕ) → text ≡ worker_letter ∷ rest → ⊥)
    → worker_of text ≡ None
no_worker [] none = refl
no_worker (b ∷ bs) none = by_letter b bs (b == worker_letter) refl none

pub returns-in_err-digits : goal.returns-in_err-digits
returns-in_err-digits c =
    let text = c.args.text.now in
    let told = strip_prefix_char worker_letter text c.strip_prefix.result
    c.strip_prefix.ensures.cases (omega arith) in
    c.from_residual.ensures
    ∙ sym (no_worker text (at_none _ _ c.strip_prefix.result c.in_err-digits.was told))
