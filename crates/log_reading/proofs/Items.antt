-- A loop over items to the end.
use Rattle.std.proofs.Common.{◌≡◌, ◌∙◌, ℕ, zero, suc, ◌+◌, ◌-◌, ◌≤◌, ◌<◌, List, [], ◌∷◌, ◌++◌, length, true}
use Rattle.std.proofs.Common.{Option, Some, None, refl, ap, sym, arith, append-nil, append_assoc}
use Rattle.std.proofs.Common.{length-append}
use Rattle.std.specs.Borrow.{Bor}
use Rattle.std.specs.Prelude.{is_some}
use Rattle.telegram.specs.Telegrams.{fields_left}
use Rattle.telegram.proofs.Fields.{fields-nonempty}
use Rattle.log_reading.specs.Fields.{◌>>=◌, all_of}
use Rattle.log_reading.proofs.Inverses.{Fields}

-- items before those that are read
abbrev pub joined : {X : Type 0} → List X → Option (List X) → Option (List X)
joined front None = None
joined front (Some xs) = Some (front ++ xs)

joined-nil : {X : Type 0} (read : Option (List X)) → joined [] read ≡ read
joined-nil None = refl
joined-nil (Some xs) = refl

joined-more : {X : Type 0} (front : List X) (x : X) (read : Option (List X))
    → joined front (read >>= λ more. Some (x ∷ more)) ≡ joined (front ++ x ∷ []) read
joined-more front x None = refl
joined-more front x (Some xs) = ap (λ l. Some l) (sym (append_assoc front (x ∷ []) xs))

module _ (X : Type 0) (read : Fields → Option (X × Fields)) where
  -- what was taken so far, and what is left of the fields
  pub record IsGoing (room : ℕ) (first : Fields) (taken : List X) (left : Fields) : Type 0 where
    pub few : length taken ≤ room
    pub same : joined taken (all_of read (room - length taken) left) ≡ all_of read room first

  pub begins : (room : ℕ) (first : Fields) → IsGoing room first [] first
  begins room first = record {
    few = omega arith;
    same = ap (λ (r : ℕ). joined [] (all_of read r first)) (omega arith)
        ∙ joined-nil (all_of read room first);
  }

  pub ends : (room : ℕ) (first : Fields) (taken : List X) → IsGoing room first taken []
      → all_of read room first ≡ Some taken
  ends room first taken going = sym going.same ∙ ap (λ l. Some l) (append-nil taken)

  at_full : (room : ℕ) (left : Fields) → room ≡ 0 → 0 < length left → all_of read room left ≡ None
  at_full zero [] is some = absurd (omega (arith, some))
  at_full zero (field ∷ more) is some = refl
  at_full (suc room) left is some = absurd (omega (arith, is))

  pub full : (room : ℕ) (first : Fields) (taken : List X) (left : Fields)
      → IsGoing room first taken left → 0 < length left → room ≤ length taken
      → all_of read room first ≡ None
  full room first taken left going some past =
      sym going.same
      ∙ ap (joined taken) (at_full (room - length taken) left (omega (arith, past)) some)

  at_unread : (room : ℕ) (left : Fields) → 0 < room → 0 < length left → read left ≡ None
      → all_of read room left ≡ None
  at_unread zero left there some none = absurd (omega (arith, there))
  at_unread (suc room) [] there some none = absurd (omega (arith, some))
  at_unread (suc room) (field ∷ more) there some none = rw none refl

  pub unread : (room : ℕ) (first : Fields) (taken : List X) (left : Fields)
      → IsGoing room first taken left → 0 < length left → length taken < room → read left ≡ None
      → all_of read room first ≡ None
  unread room first taken left going some there none =
      sym going.same
      ∙ ap (joined taken) (at_unread (room - length taken) left (omega (arith, there)) some none)

  at_item : (room next : ℕ) (left : Fields) (x : X) (rest : Fields) → room ≡ suc next
      → 0 < length left → read left ≡ Some (x, rest)
      → all_of read room left ≡ (all_of read next rest >>= λ more. Some (x ∷ more))
  at_item room next [] x rest is some found = absurd (omega (arith, some))
  at_item room next (field ∷ more) x rest is some found =
      ap (λ (r : ℕ). all_of read r (field ∷ more)) is ∙ rw found refl

  pub goes_on : (room : ℕ) (first : Fields) (taken : List X) (left : Fields) (x : X) (rest : Fields)
      → IsGoing room first taken left → 0 < length left → length taken < room
      → read left ≡ Some (x, rest) → IsGoing room first (taken ++ x ∷ []) rest
  goes_on room first taken left x rest going some there found =
      let longer : length (taken ++ x ∷ []) ≡ length taken + 1 = length-append taken (x ∷ []) in
      let next = room - length (taken ++ x ∷ []) in
      record {
        few = omega (arith, longer);
        same = sym (joined-more taken x (all_of read next rest))
            ∙ ap (joined taken) (sym (at_item (room - length taken) next left x rest
            (omega (arith, longer, there)) some found))
            ∙ going.same;
      }

-- ---- the fields that are left, where there are some

pub some_left : (rest : Option (Bor (List ℕ))) → is_some rest ≡ true → 0 < length (fields_left rest)
some_left None is = absurd (cc)
some_left (Some text) is = fields-nonempty text.now
