-- A total over the parts that stand and pass a test, while parts are taken in turn.
use Rattle.std.proofs.Common.{◌≡◌, ◌∙◌, ℕ, ◌+◌, ◌*◌, ◌<◌, ◌≤◌, ◌⊎◌, Bool, true, false, List, length}
use Rattle.std.proofs.Common.{take, get_or, inl, inr, refl, sym, ap, ap₂, add-zero, arith}
use Rattle.std.specs.List.{zip, sum_by}
use Rattle.std.proofs.lemmas.List.{take_all}
use Rattle.std.proofs.lemmas.List.Sums.{sum_by_more}
use Rattle.std.proofs.lemmas.Slice.Zip.{length-zip, get_or-zip}
use Rattle.plant_model.specs.declared.limits.TheConstants.{MOST_POWER}
use Rattle.bus_topology.specs.Shares.{counted, total_of}

-- the total of the first so many parts, each of which adds at most MOST_POWER
pub record IsTotalSoFar {A : Type 0} (passes : A → Bool) (value : A → ℕ) (parts : List A)
    (standing : List Bool) (taken total : ℕ) : Type 0 where
  pub is : total ≡ sum_by (counted passes value) (take taken (zip parts standing))
  pub most : total ≤ taken * MOST_POWER

counted_in : {A : Type 0} (passes : A → Bool) (value : A → ℕ) (part : A) (stands : Bool) →
    stands ≡ true → passes part ≡ true → counted passes value (part, stands) ≡ value part
counted_in passes value part stands h k = rw (h, k) refl

left_out : {A : Type 0} (passes : A → Bool) (value : A → ℕ) (part : A) (stands : Bool) →
    (stands ≡ false) ⊎ (passes part ≡ false) → counted passes value (part, stands) ≡ 0
left_out passes value part stands (inl h) = rw h refl
left_out passes value part true (inr h) = rw h refl
left_out passes value part false (inr h) = refl

module _ {A : Type 0} (passes : A → Bool) (value : A → ℕ) (parts : List A)
    (standing : List Bool) where
  -- when all parts are taken
  pub total_when_taken : (taken total : ℕ) → length parts ≤ taken →
      IsTotalSoFar passes value parts standing taken total →
      total ≡ total_of passes value parts standing
  total_when_taken taken total all so_far =
      let long = length-zip parts standing in
      so_far.is
      ∙ ap (sum_by (counted passes value)) (take_all taken (zip parts standing) (omega arith))

  module _ (taken total : ℕ) (part : A) (here : taken < length parts)
      (within : taken < length standing) (is_part : part ≡ get_or parts taken part)
      (so_far : IsTotalSoFar passes value parts standing taken total) where
    total_more : sum_by (counted passes value) (take (taken + 1) (zip parts standing)) ≡ total
        + counted passes value (part, get_or standing taken false)
    total_more =
        let long = length-zip parts standing in
        let pair = get_or-zip parts standing taken (part, false) here within in
        sum_by_more (counted passes value) (zip parts standing) taken (part, false) (omega arith)
        ∙ ap₂ (λ sum this. sum + counted passes value this) (sym so_far.is)
        (pair ∙ ap (λ x. (x, get_or standing taken false)) (sym is_part))

    -- a part that stands and passes adds its value
    pub counted_more : get_or standing taken false ≡ true → passes part ≡ true →
        value part ≤ MOST_POWER →
        IsTotalSoFar passes value parts standing (taken + 1) (total + value part)
    counted_more stands passing small = record {
      is = sym (total_more ∙ ap (λ n. total + n) (counted_in passes value part _ stands passing));
      most = (let most = so_far.most in omega arith);
    }

    -- any other part adds nothing
    pub left_more : (get_or standing taken false ≡ false) ⊎ (passes part ≡ false) →
        IsTotalSoFar passes value parts standing (taken + 1) total
    left_more out = record {
      is = sym (total_more ∙ ap (λ n. total + n) (left_out passes value part _ out)
          ∙ add-zero total);
      most = (let most = so_far.most in omega arith);
    }
