-- The last entry of a caller in a history.
use Rattle.std.proofs.Common.{◌≡◌, ◌≢◌, ℕ, ◌==◌, List, [], ◌∷◌, ◌++◌, length, drop, Bool, true, false}
use Rattle.std.proofs.Common.{cond, refl, ◌∙◌, ap, arith}
use Rattle.std.specs.List.{All}
use Rattle.std.proofs.lemmas.List.{length-append}
use Rattle.std.proofs.lemmas.List.Elements.{All-cons, All-nil}
use Rattle.plant_core.specs.declared.call.Entry.{Entry}
use Rattle.watch_session.proofs.Entries.{by, other-number}

-- a history's entries by a caller are these and this one: what stands before and after it
pub record LastOf (n : ℕ) (history own : List Entry) (last : Entry) : Type 0 where
  pub front : List Entry
  pub back : List Entry
  pub is : history ≡ front ++ last ∷ back
  pub own_front : by n front ≡ own
  pub others : All (λ e. e.caller ≢ n) back

abbrev head_or : Entry → List Entry → Entry
head_or other [] = other
head_or other (entry ∷ more) = entry

too-long : (own : List Entry) (last : Entry) → [] ≡ own ++ last ∷ [] → ⊥
too-long own last is = omega (arith, ap length is, length-append own (last ∷ []))

-- a caller with no entry
pub none-by : (n : ℕ) (history : List Entry) → by n history ≡ [] → All (λ e. e.caller ≢ n) history
none-by n [] none = All-nil (λ (e : Entry). e.caller ≢ n)
none-by n (entry ∷ history) none =
    where-own (entry.caller == n) refl none (λ more. none-by n history more)
  where
    where-own : (is : Bool) → (entry.caller == n) ≡ is
        → cond is (entry ∷ by n history) (by n history) ≡ []
        → (by n history ≡ [] → All (λ e. e.caller ≢ n) history)
        → All (λ e. e.caller ≢ n) (entry ∷ history)
    where-own true told none rest = absurd (omega (arith, ap length none))
    where-own false told none rest = All-cons (λ (e : Entry). e.caller ≢ n) entry history
        (other-number entry.caller n told) (rest none)

pub last-of : (n : ℕ) (history own : List Entry) (last : Entry)
    → by n history ≡ own ++ last ∷ [] → LastOf n history own last
last-of n [] own last is = absurd (too-long own last is)
last-of n (entry ∷ history) own last is =
    where-own (entry.caller == n) refl own is (λ mine more. last-of n history mine last more)
  where
    where-own : (yes : Bool) → (entry.caller == n) ≡ yes → (own : List Entry)
        → cond yes (entry ∷ by n history) (by n history) ≡ own ++ last ∷ []
        → ((mine : List Entry) → by n history ≡ mine ++ last ∷ [] → LastOf n history mine last)
        → LastOf n (entry ∷ history) own last
    where-own true told [] is later =
        let same : entry ≡ last = ap (head_or entry) is in record {
          front = [];
          back = history;
          is = ap (λ (e : Entry). e ∷ history) same;
          own_front = refl;
          others = none-by n history (ap (drop 1) is);
        }
    where-own true told (first ∷ own) is later =
        let rest = later own (ap (drop 1) is) in
        let same : entry ≡ first = ap (head_or entry) is in record {
          front = entry ∷ rest.front;
          back = rest.back;
          is = ap (λ (xs : List Entry). entry ∷ xs) rest.is;
          own_front = ap (λ (yes : Bool). cond yes (entry ∷ by n rest.front) (by n rest.front)) told
              ∙ ap (λ (e : Entry). e ∷ by n rest.front) same
              ∙ ap (λ (xs : List Entry). first ∷ xs) rest.own_front;
          others = rest.others;
        }
    where-own false told own is later =
        let rest = later own is in record {
          front = entry ∷ rest.front;
          back = rest.back;
          is = ap (λ (xs : List Entry). entry ∷ xs) rest.is;
          own_front = ap (λ (yes : Bool). cond yes (entry ∷ by n rest.front) (by n rest.front)) told
              ∙ rest.own_front;
          others = rest.others;
        }
