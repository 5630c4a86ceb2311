-- The exchange that adds a stage keeps the rule of the log.
use Rattle.std.proofs.Common.{◌≡◌, ℕ, ◌+◌, ◌<◌, ◌==◌, Bool, true, false, List, [], ◌∷◌, ◌++◌}
use Rattle.std.proofs.Common.{length, refl, ap, sym, subst, arith, inl, length-append, Option, None}
use Rattle.std.proofs.lemmas.List.{append-nil}
use Rattle.std.specs.Bool.{OnTrue}
use Rattle.std.proofs.lemmas.Bool.Decides.{nat_tests}
use mathlib.Core.List.{IsPrefix}
use prog.Atomic.{either}
use Rattle.std.proofs.lemmas.Bool.{OnTrue_at}
use Rattle.logbook.specs.Pages.{Cell, cell, keeps, Nib, no_nib, step, Moves, Goes}
use Rattle.glance.specs.Law.{IsKept, Adds}
use Rattle.glance.specs.Stages.{IsChain}
use Rattle.glance.specs.declared.stage.Stage.{Stage}
use Rattle.glance.proofs.Fronts.{prefix_whole}

abbrev pub found_so : ℕ → ℕ → ℕ
found_so old n = either (n == old) (old + 1) n

-- what the step tells where the word was found as it was expected
pub added : {P : Type 0} (found old : ℕ) → found ≡ old → OnTrue (found == old) P → P
added found old same told = OnTrue_at (grind (arith, nat_tests)) told

module _ {E B : Type 0} where
  abbrev pub shown : List (Stage E B) → List (Stage E B)
  shown log = []

  abbrev pub moved : List (Stage E B) → List (Stage E B) → ℕ → Type 0
  moved before after answer = Unit {0}

  adds_goes : (log seen : List (Stage E B)) (stage : Stage E B) (number old : ℕ) → number + 1 ≡ length log
      → old + 1 ≡ length seen → IsChain (seen ++ stage ∷ []) → IsChain log → IsPrefix seen log
      → (b : Bool) → (number == old) ≡ b
      → Goes IsKept shown moved 0 (seen, (no_nib, None)) (found_so old)
      (Adds (step 0 old (old + 1) stage) (seen, (no_nib, None))) ((number, true) ∷ []) log
  adds_goes log seen stage number old last len next chain pre true is =
      let here : number ≡ old = grind (arith, nat_tests) in
      let same : seen ≡ log = prefix_whole seen log pre (omega arith) in
      let chain' : IsChain (log ++ stage ∷ []) = subst (λ (l : List (Stage E B)). IsChain (l ++ stage ∷ [])) same next in
      let longer = length-append log (stage ∷ []) in (
        keeps,
        stage ∷ [],
        None,
        tt,
        record {
          number = old + 1;
          last = omega arith;
          words = rw is refl;
          chain = chain';
        },
        inl (refl, refl),
        rw is (ap (λ (l : List (Stage E B)). l ++ stage ∷ []) (sym same), chain'),
      )
  adds_goes log seen stage number old last len next chain pre false is =
      let all : log ++ [] ≡ log = append-nil log in
      let chain' : IsChain (log ++ []) = subst IsChain (sym all) chain in (
        keeps,
        [],
        None,
        tt,
        record {
          number = number;
          last = omega (arith, ap length all);
          words = rw is refl;
          chain = chain';
        },
        inl (refl, refl),
        rw is tt,
      )

  -- whatever the log is, the exchange adds the stage to all that was seen, or finds another number
  pub adds_moves : (seen : List (Stage E B)) (stage : Stage E B) (old : ℕ) → old + 1 ≡ length seen
      → IsChain (seen ++ stage ∷ [])
      → Moves IsKept shown moved 0 (seen, (no_nib, None)) (found_so old)
      (Adds (step 0 old (old + 1) stage) (seen, (no_nib, None)))
  adds_moves seen stage old len next cells log kept pre away =
      let P : List Cell → Type 0 = λ c. (0 < length c) × ((cell c 0).1 ≡ true)
      × Goes IsKept shown moved 0 (seen, (no_nib, None)) (found_so old)
      (Adds (step 0 old (old + 1) stage) (seen, (no_nib, None))) c log in
      subst P (sym kept.words) (
        omega arith,
        refl,
        adds_goes log seen stage kept.number old kept.last len next kept.chain pre
            (kept.number == old) refl,
      )

  -- the same of a step as it is found
  pub adds_at : (key : ℕ) (nib : Nib) (state : Option ℕ) (seen : List (Stage E B)) (stage : Stage E B)
      (old new : ℕ) → key ≡ 0 → nib ≡ no_nib → state ≡ None → new ≡ old + 1
      → old + 1 ≡ length seen → IsChain (seen ++ stage ∷ [])
      → Moves IsKept shown moved key (seen, (nib, state)) (λ n. either (n == old) new n)
      (Adds (step key old new stage) (seen, (nib, state)))
  adds_at key nib state seen stage old new is_key is_nib is_state is_new len next =
      rw (is_key, is_nib, is_state, is_new) (adds_moves seen stage old len next)
