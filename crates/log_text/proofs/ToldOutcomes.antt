-- Outcomes, demands and allocations as fields, and what the fields tell of them.
use Rattle.std.proofs.Common.{◌≡◌, ◌∙◌, ℕ, zero, suc, ◌^◌, ◌<◌, List, [], ◌∷◌, ◌++◌, length}
use Rattle.std.proofs.Common.{true, if◌then◌else◌, ℤ, pos, negsuc, ◌≤ℤ◌, nat_abs, FitsSigned}
use Rattle.std.proofs.Common.{codes, refl, ap, ap₂, arith, append_assoc}
use Rattle.std.proofs.Math.Dec.{T_prop}
use Rattle.std.proofs.lemmas.Int.{ints}
use Rattle.std.proofs.lemmas.List.Elements.{recursion_from_All}
use Rattle.std.specs.Fmt.{decimal, signed_decimal}
use Rattle.std.specs.Int.{w32, w64, w128}
use Rattle.std.specs.List.{AllByRecursion, list_all, flat_map}
use Rattle.std.specs.Str.{bytes_eq}
use Rattle.dp_num.specs.declared.fractions.Fraction.{Fraction}
use Rattle.plant_model.specs.declared.thrust.Thrust.{Thrust}
use Rattle.plant_model.specs.declared.thrust.Thrusts.{Thrusts}
use Rattle.plant_model.specs.declared.wrench.Wrench.{Wrench}
use Rattle.telegram.specs.Telegrams.{comma}
use Rattle.wrench_geometry.specs.declared.vector.Vec3.{Vec3}
use Rattle.certificate.specs.declared.outcome.Outcome.{Outcome}
use Rattle.certificate.specs.declared.outcome.Outcome.TheVariants.{Holds, Lost}
use Rattle.thrust_allocation.specs.declared.allocation.Allocation.{Allocation}
use Rattle.log_text.specs.Fits.{FitsAllocation, FitsOutcome, FitsThrust, FitsVector}
use Rattle.log_text.specs.Fits.{FitsWord, FitsWrench}
use Rattle.log_text.specs.Outcomes.{cut_text, outcome_text, thrust_text}
use Rattle.log_text.proofs.ToldFields.{is_field, led}
use Rattle.log_text.proofs.ToldNumbers.{field-decimal, field-signed, number_in, number-told}
use Rattle.log_text.proofs.ToldNumbers.{signed_in, signed-told}

-- ---- numbers of their types

pub word-told : (n : ℕ) → FitsWord n → number_in (decimal n) ≡ n
word-told n fits = number-told n (omega arith)

abs-fits32 : (z : ℤ) → FitsSigned w32 z → nat_abs z < 10 ^ 64
abs-fits32 (pos n) fits = omega (arith, fits.sfits)
abs-fits32 (negsuc n) fits = omega (arith, fits.sfits)

abs-fits64 : (z : ℤ) → FitsSigned w64 z → nat_abs z < 10 ^ 64
abs-fits64 (pos n) fits = omega (arith, fits.sfits)
abs-fits64 (negsuc n) fits = omega (arith, fits.sfits)

abs-fits128 : (z : ℤ) → FitsSigned w128 z → nat_abs z < 10 ^ 64
abs-fits128 (pos n) fits = omega (arith, fits.sfits)
abs-fits128 (negsuc n) fits = omega (arith, fits.sfits)

pub told32 : (z : ℤ) → FitsSigned w32 z → signed_in (signed_decimal z) ≡ z
told32 z fits = signed-told z (abs-fits32 z fits)

pub told64 : (z : ℤ) → FitsSigned w64 z → signed_in (signed_decimal z) ≡ z
told64 z fits = signed-told z (abs-fits64 z fits)

pub told128 : (z : ℤ) → FitsSigned w128 z → signed_in (signed_decimal z) ≡ z
told128 z fits = signed-told z (abs-fits128 z fits)

-- ---- thrusts

abbrev pub thrust_fields : List Thrust → List (List ℕ)
thrust_fields [] = []
thrust_fields (t ∷ ts) = signed_decimal t.x ∷ signed_decimal t.y ∷ thrust_fields ts

abbrev pub thrust_at : ℤ → ℤ → Thrust
thrust_at x y = record { x = x; y = y }

abbrev pub thrusts_in : List (List ℕ) → List Thrust
thrusts_in [] = []
thrusts_in (x ∷ []) = []
thrusts_in (x ∷ y ∷ more) = thrust_at (signed_in x) (signed_in y) ∷ thrusts_in more

pub thrusts-led : (ts : List Thrust) → flat_map thrust_text ts ≡ led (thrust_fields ts)
thrusts-led [] = refl
thrusts-led (t ∷ ts) =
    ap (λ (rest : List ℕ). thrust_text t ++ rest) (thrusts-led ts) ∙ simp append_assoc

pub thrusts-fields : (ts : List Thrust) → list_all is_field (thrust_fields ts) ≡ true
thrusts-fields [] = refl
thrusts-fields (t ∷ ts) =
    rw (field-signed t.x, field-signed t.y, thrusts-fields ts) refl

pub thrusts-told : (ts : List Thrust) → AllByRecursion FitsThrust ts
    → thrusts_in (thrust_fields ts) ≡ ts
thrusts-told [] fits = refl
thrusts-told (t ∷ ts) fits =
    let here = ap₂ (λ (x y : ℤ). thrust_at x y) (told128 t.x fits.0.x) (told128 t.y fits.0.y) in
    ap₂ (λ (first : Thrust) (others : List Thrust). first ∷ others) here (thrusts-told ts fits.1)

-- ---- cuts

abbrev pub cut_fields : List Vec3 → List (List ℕ)
cut_fields [] = []
cut_fields (v ∷ vs) =
    signed_decimal v.x ∷ signed_decimal v.y ∷ signed_decimal v.z ∷ cut_fields vs

abbrev pub cut_at : ℤ → ℤ → ℤ → Vec3
cut_at x y z = record { x = x; y = y; z = z }

abbrev pub cuts_in : List (List ℕ) → List Vec3
cuts_in [] = []
cuts_in (x ∷ []) = []
cuts_in (x ∷ y ∷ []) = []
cuts_in (x ∷ y ∷ z ∷ more) =
    cut_at (signed_in x) (signed_in y) (signed_in z) ∷ cuts_in more

pub cuts-led : (vs : List Vec3) → flat_map cut_text vs ≡ led (cut_fields vs)
cuts-led [] = refl
cuts-led (v ∷ vs) =
    ap (λ (rest : List ℕ). cut_text v ++ rest) (cuts-led vs) ∙ simp append_assoc

pub cuts-fields : (vs : List Vec3) → list_all is_field (cut_fields vs) ≡ true
cuts-fields [] = refl
cuts-fields (v ∷ vs) =
    rw (field-signed v.x, field-signed v.y, field-signed v.z, cuts-fields vs) refl

pub cuts-told : (vs : List Vec3) → AllByRecursion FitsVector vs → cuts_in (cut_fields vs) ≡ vs
cuts-told [] fits = refl
cuts-told (v ∷ vs) fits =
    let front = ap₂ (λ (x y : ℤ). cut_at x y v.z) (told64 v.x fits.0.x) (told64 v.y fits.0.y) in
    let here = ap (λ (z : ℤ). cut_at (signed_in (signed_decimal v.x))
    (signed_in (signed_decimal v.y)) z) (told64 v.z fits.0.z) ∙ front in
    ap₂ (λ (first : Vec3) (others : List Vec3). first ∷ others) here (cuts-told vs fits.1)

-- ---- outcomes

abbrev pub outcome_fields : Outcome → List (List ℕ)
outcome_fields (Holds choice q thrusts) =
    codes "HOLDS" ∷ decimal choice ∷ signed_decimal q ∷ thrust_fields thrusts.list.items
outcome_fields (Lost cuts) =
    codes "LOST" ∷ decimal (length cuts.list.items) ∷ cut_fields cuts.list.items

abbrev pub thrusts_of : List (List ℕ) → Thrusts
thrusts_of more = record { list = record { items = thrusts_in more } }

abbrev pub lost_in : List (List ℕ) → Outcome
lost_in [] = Lost (record { list = record { items = [] } })
lost_in (count ∷ more) = Lost (record { list = record { items = cuts_in more } })

abbrev pub holds_in : List (List ℕ) → Outcome
holds_in (choice ∷ q ∷ more) = Holds (number_in choice) (signed_in q) (thrusts_of more)
holds_in more = lost_in more

abbrev pub outcome_in : List (List ℕ) → Outcome
outcome_in [] = lost_in []
outcome_in (word ∷ more) = if bytes_eq word (codes "HOLDS") then holds_in more else lost_in more

pub outcome-led : (outcome : Outcome) → comma ∷ outcome_text outcome ≡ led (outcome_fields outcome)
outcome-led (Holds choice q thrusts) =
    rw (thrusts-led thrusts.list.items) (simp append_assoc)
outcome-led (Lost cuts) = rw (cuts-led cuts.list.items) refl

pub outcome-fields : (outcome : Outcome) → list_all is_field (outcome_fields outcome) ≡ true
outcome-fields (Holds choice q thrusts) =
    rw (field-decimal choice, field-signed q, thrusts-fields thrusts.list.items) refl
outcome-fields (Lost cuts) =
    rw (field-decimal (length cuts.list.items), cuts-fields cuts.list.items) refl

pub outcome-told : (outcome : Outcome) → FitsOutcome outcome
    → outcome_in (outcome_fields outcome) ≡ outcome
outcome-told (Holds choice q thrusts) fits =
    ap₂ (λ (c : ℕ) (d : ℤ). Holds c d (thrusts_of (thrust_fields thrusts.list.items)))
    (word-told choice fits.0) (told64 q fits.1)
    ∙ ap (λ (items : List Thrust). Holds choice q (record { list = record { items = items } }))
    (thrusts-told thrusts.list.items (recursion_from_All FitsThrust thrusts.list.items fits.2.each))
outcome-told (Lost cuts) fits =
    ap (λ (items : List Vec3). Lost (record { list = record { items = items } }))
    (cuts-told cuts.list.items (recursion_from_All FitsVector cuts.list.items fits.each))

-- ---- demands

abbrev pub wrench_fields : Wrench → List (List ℕ)
wrench_fields w = signed_decimal w.x ∷ signed_decimal w.y ∷ signed_decimal w.n ∷ []

abbrev pub wrench_at : ℤ → ℤ → ℤ → Wrench
wrench_at x y n = record { x = x; y = y; n = n }

pub wrench-told : (w : Wrench) → FitsWrench w
    → wrench_at (signed_in (signed_decimal w.x)) (signed_in (signed_decimal w.y))
    (signed_in (signed_decimal w.n)) ≡ w
wrench-told w fits =
    ap₂ (λ (x y : ℤ). wrench_at x y (signed_in (signed_decimal w.n))) (told32 w.x fits.x)
    (told32 w.y fits.y)
    ∙ ap (λ (n : ℤ). wrench_at w.x w.y n) (told32 w.n fits.n)

-- ---- allocations

from_0-prop : (least z : ℤ) (p q : least ≤ℤ z) → p ≡ q
from_0-prop least z = hlevel T_prop

abbrev made : (top bottom : ℤ) → pos 0 ≤ℤ top → pos 1 ≤ℤ bottom → Fraction
made top bottom p q =
    record { top = top; bottom = bottom; top_from_0 = p; bottom_from_1 = q }

made-same : (top bottom : ℤ) (p r : pos 0 ≤ℤ top) (q s : pos 1 ≤ℤ bottom)
    → made top bottom p q ≡ made top bottom r s
made-same top bottom p r q s =
    ap (λ (p : pos 0 ≤ℤ top). made top bottom p q) (from_0-prop (pos 0) top p r)
    ∙ ap (λ (q : pos 1 ≤ℤ bottom). made top bottom r q) (from_0-prop (pos 1) bottom q s)

-- the fraction of these parts, where there is one
abbrev pub fraction_of : ℤ → ℤ → Fraction
fraction_of (pos top) (pos (suc bottom)) =
    made (pos top) (pos (suc bottom)) (omega (arith, ints)) (omega (arith, ints))
fraction_of top bottom = made (pos 0) (pos 1) (omega (arith, ints)) (omega (arith, ints))

fraction-made : (top bottom : ℤ) (p : pos 0 ≤ℤ top) (q : pos 1 ≤ℤ bottom)
    → fraction_of top bottom ≡ made top bottom p q
fraction-made (pos top) (pos (suc bottom)) p q =
    made-same (pos top) (pos (suc bottom)) (omega (arith, ints)) p (omega (arith, ints)) q
fraction-made (pos top) (pos zero) p q = absurd (omega (arith, ints))
fraction-made (pos top) (negsuc bottom) p q = absurd (omega (arith, ints))
fraction-made (negsuc top) bottom p q = absurd (omega (arith, ints))

pub fraction-told : (f : Fraction) → fraction_of f.top f.bottom ≡ f
fraction-told f = fraction-made f.top f.bottom f.top_from_0 f.bottom_from_1

-- the allocation of these parts
abbrev pub allocation_at : ℤ → ℤ → ℕ → ℤ → List Thrust → Allocation
allocation_at top bottom choice q thrusts = record {
  fraction = fraction_of top bottom;
  choice = choice;
  q = q;
  thrusts = record { list = record { items = thrusts } };
}

pub allocation-told : (a : Allocation) → FitsAllocation a
    → allocation_at (signed_in (signed_decimal a.fraction.top))
    (signed_in (signed_decimal a.fraction.bottom)) (number_in (decimal a.choice))
    (signed_in (signed_decimal a.q)) (thrusts_in (thrust_fields a.thrusts.list.items)) ≡ a
allocation-told a fits =
    let thrusts = thrusts_in (thrust_fields a.thrusts.list.items) in
    let choice = number_in (decimal a.choice) in
    let q = signed_in (signed_decimal a.q) in
    ap₂ (λ (top bottom : ℤ). allocation_at top bottom choice q thrusts)
    (told64 a.fraction.top fits.top) (told64 a.fraction.bottom fits.bottom)
    ∙ ap₂ (λ (choice : ℕ) (q : ℤ). allocation_at a.fraction.top a.fraction.bottom choice q thrusts)
    (word-told a.choice fits.choice) (told64 a.q fits.q)
    ∙ ap₂ (λ (f : Fraction) (items : List Thrust). record {
      fraction = f;
      choice = a.choice;
      q = a.q;
      thrusts = record { list = record { items = items } };
    }) (fraction-told a.fraction) (thrusts-told a.thrusts.list.items (recursion_from_All FitsThrust a.thrusts.list.items fits.thrusts.each))
