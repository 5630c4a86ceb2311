-- Outcomes, places, demands and allocations are read of their own fields alone.
use Rattle.std.proofs.Common.{◌≡◌, ◌∙◌, ℕ, zero, suc, List, [], ◌∷◌, ◌++◌, length, Bool, true, false, ◌==◌}
use Rattle.std.proofs.Common.{Option, Some, None, ℤ, pos, negsuc, ◌<ℤ◌, T, FitsSigned, codes}
use Rattle.std.proofs.Common.{refl, ap, ap₂, sym, subst, arith}
use Rattle.std.proofs.Math.Dec.{T_prop}
use Rattle.std.proofs.lemmas.Bool.Decides.{nat_tests}
use Rattle.std.proofs.lemmas.Int.{ints}
use Rattle.std.proofs.lemmas.List.Elements.{All-from_recursion, recursion_from_All}
use Rattle.std.proofs.lemmas.Option.{same_Some}
use Rattle.std.specs.Fmt.{decimal, signed_decimal}
use Rattle.std.specs.Int.{w32, w64, w128}
use Rattle.std.specs.List.{flat_map}
use Rattle.std.specs.Prelude.{int_le}
use Rattle.dp_num.specs.declared.fractions.Fraction.{Fraction}
use Rattle.plant_model.specs.declared.limits.TheConstants.{MOST_CHOICES, MOST_THRUSTERS}
use Rattle.plant_model.specs.declared.thrust.Thrust.{Thrust}
use Rattle.plant_model.specs.declared.thrust.Thrusts.{Thrusts}
use Rattle.plant_model.specs.declared.wrench.Wrench.{Wrench}
use Rattle.wrench_geometry.specs.declared.vector.Vec3.{Vec3}
use Rattle.certificate.specs.declared.outcome.Cuts.{Cuts}
use Rattle.certificate.specs.declared.outcome.Outcome.{Outcome}
use Rattle.certificate.specs.declared.outcome.Outcome.TheVariants.{Holds, Lost}
use Rattle.certificate.specs.declared.outcome.Place.{Place}
use Rattle.certificate.specs.declared.outcome.Place.TheVariants as places
use Rattle.thrust_allocation.specs.declared.allocation.Allocation.{Allocation}
use Rattle.log_text.specs.Fits.{FitsAllocation, FitsCuts, FitsOutcome, FitsPlace, FitsThrust}
use Rattle.log_text.specs.Fits.{FitsThrusts, FitsVector, FitsWord, FitsWrench}
use Rattle.log_text.proofs.ToldOutcomes.{cut_fields, outcome_fields, thrust_fields, wrench_fields}
use Rattle.log_text.proofs.ToldReplies.{given_part_fields, place_fields}
use Rattle.log_reading.specs.Fields.{all_of, at_first, at_only, ended, i32_of, i64_of}
use Rattle.log_reading.specs.Fields.{i128_of, u32_of, when}
use Rattle.log_reading.specs.Outcomes.{allocation_of, cut_at, cuts_of, fraction_at, fraction_of}
use Rattle.log_reading.specs.Outcomes.{holds_of, lost_of, numbered_place, outcome_forms, outcome_of}
use Rattle.log_reading.specs.Outcomes.{place_forms, place_of, thrust_at, thrusts_of, wrench_at}
use Rattle.log_reading.proofs.Inverses.{AllSpell, Fields, Reads, Spells, all_again, all_takes}
use Rattle.log_reading.proofs.Inverses.{bind_some, closed, closed_front, ended_takes, first_reads}
use Rattle.log_reading.proofs.Inverses.{if_some, kind_takes, only_takes}
use Rattle.log_reading.proofs.NumberFields.{i128-inverts, i32-inverts, i64-inverts, u32-inverts}

-- ---- numbers at the front

pub u32-reads : Reads ℕ (at_first u32_of) (λ n. decimal n ∷ []) FitsWord
u32-reads = first_reads ℕ u32_of decimal FitsWord u32-inverts

i32-reads : Reads ℤ (at_first i32_of) (λ z. signed_decimal z ∷ []) (FitsSigned w32)
i32-reads = first_reads ℤ i32_of signed_decimal (FitsSigned w32) i32-inverts

i64-reads : Reads ℤ (at_first i64_of) (λ z. signed_decimal z ∷ []) (FitsSigned w64)
i64-reads = first_reads ℤ i64_of signed_decimal (FitsSigned w64) i64-inverts

i128-reads : Reads ℤ (at_first i128_of) (λ z. signed_decimal z ∷ []) (FitsSigned w128)
i128-reads = first_reads ℤ i128_of signed_decimal (FitsSigned w128) i128-inverts

-- ---- thrusts

abbrev thrust_spelled : Thrust → Fields
thrust_spelled t = signed_decimal t.x ∷ signed_decimal t.y ∷ []

thrust_again : (t : Thrust) (rest : Fields) → FitsThrust t
    → thrust_at (thrust_spelled t ++ rest) ≡ Some (t, rest)
thrust_again t rest fits = rw (i128-inverts.again t.x fits.x, i128-inverts.again t.y fits.y) refl

thrust_takes : (fields : Fields) (t : Thrust) (rest : Fields) → thrust_at fields ≡ Some (t, rest)
    → (fields ≡ thrust_spelled t ++ rest) × FitsThrust t
thrust_takes fields t rest is =
    let a = bind_some (at_first i128_of fields) _ (t, rest) is in
    let b = bind_some (at_first i128_of a.0.1) _ (t, rest) a.2 in
    let x = i128-reads.takes fields a.0.0 a.0.1 a.1 in
    let y = i128-reads.takes a.0.1 b.0.0 b.0.1 b.1 in
    closed_front Thrust thrust_spelled FitsThrust fields b.0.1 rest
    (record { x = a.0.0; y = b.0.0 }) t b.2
    (x.0 ∙ ap (λ (more : Fields). signed_decimal a.0.0 ∷ more) y.0) (record { x = x.1; y = y.1 })

thrust-reads : Reads Thrust thrust_at thrust_spelled FitsThrust
thrust-reads = record { again = thrust_again; takes = thrust_takes }

thrusts-spelled : (ts : List Thrust) → flat_map thrust_spelled ts ≡ thrust_fields ts
thrusts-spelled [] = refl
thrusts-spelled (t ∷ ts) =
    ap (λ (more : Fields). signed_decimal t.x ∷ signed_decimal t.y ∷ more) (thrusts-spelled ts)

some_thrust : (t : Thrust) → (field : List ℕ) × (more : Fields) × (thrust_spelled t ≡ field ∷ more)
some_thrust t = (signed_decimal t.x, signed_decimal t.y ∷ [], refl)

thrust_items_again : (ts : List Thrust) → FitsThrusts (record { list = record { items = ts } })
    → all_of thrust_at MOST_THRUSTERS (thrust_fields ts) ≡ Some ts
thrust_items_again ts fits =
    ap (all_of thrust_at MOST_THRUSTERS) (sym (thrusts-spelled ts))
    ∙ all_again Thrust thrust_at thrust_spelled FitsThrust thrust-reads some_thrust MOST_THRUSTERS ts
    (fits.few, recursion_from_All FitsThrust ts fits.each)

pub thrusts_again : (thrusts : Thrusts) → FitsThrusts thrusts
    → thrusts_of (thrust_fields thrusts.list.items) ≡ Some thrusts
thrusts_again thrusts fits = rw (thrust_items_again thrusts.list.items fits) refl

pub thrusts_takes : (fields : Fields) (thrusts : Thrusts) → thrusts_of fields ≡ Some thrusts
    → (fields ≡ thrust_fields thrusts.list.items) × FitsThrusts thrusts
thrusts_takes fields thrusts is =
    let a = bind_some (all_of thrust_at MOST_THRUSTERS fields) _ thrusts is in
    let taken = all_takes Thrust thrust_at thrust_spelled FitsThrust thrust-reads some_thrust
    MOST_THRUSTERS fields a.0 a.1 in
    closed Fields Thrusts (λ given. thrust_fields given.list.items) FitsThrusts fields
    (record { list = record { items = a.0 } }) thrusts a.2 (taken.0 ∙ thrusts-spelled a.0)
    (record { few = taken.1.0; each = All-from_recursion FitsThrust a.0 taken.1.1 })

-- ---- cuts

abbrev cut_spelled : Vec3 → Fields
cut_spelled v = signed_decimal v.x ∷ signed_decimal v.y ∷ signed_decimal v.z ∷ []

cut_again : (v : Vec3) (rest : Fields) → FitsVector v
    → cut_at (cut_spelled v ++ rest) ≡ Some (v, rest)
cut_again v rest fits =
    rw (
      i64-inverts.again v.x fits.x,
      i64-inverts.again v.y fits.y,
      i64-inverts.again v.z fits.z,
    ) refl

cut_takes : (fields : Fields) (v : Vec3) (rest : Fields) → cut_at fields ≡ Some (v, rest)
    → (fields ≡ cut_spelled v ++ rest) × FitsVector v
cut_takes fields v rest is =
    let a = bind_some (at_first i64_of fields) _ (v, rest) is in
    let b = bind_some (at_first i64_of a.0.1) _ (v, rest) a.2 in
    let c = bind_some (at_first i64_of b.0.1) _ (v, rest) b.2 in
    let x = i64-reads.takes fields a.0.0 a.0.1 a.1 in
    let y = i64-reads.takes a.0.1 b.0.0 b.0.1 b.1 in
    let z = i64-reads.takes b.0.1 c.0.0 c.0.1 c.1 in
    closed_front Vec3 cut_spelled FitsVector fields c.0.1 rest
    (record { x = a.0.0; y = b.0.0; z = c.0.0 }) v c.2
    (x.0 ∙ ap (λ (more : Fields). signed_decimal a.0.0 ∷ more) (y.0
    ∙ ap (λ (more : Fields). signed_decimal b.0.0 ∷ more) z.0))
    (record { x = x.1; y = y.1; z = z.1 })

cut-reads : Reads Vec3 cut_at cut_spelled FitsVector
cut-reads = record { again = cut_again; takes = cut_takes }

cuts-spelled : (vs : List Vec3) → flat_map cut_spelled vs ≡ cut_fields vs
cuts-spelled [] = refl
cuts-spelled (v ∷ vs) =
    ap (λ (more : Fields). signed_decimal v.x ∷ signed_decimal v.y ∷ signed_decimal v.z ∷ more)
    (cuts-spelled vs)

some_cut : (v : Vec3) → (field : List ℕ) × (more : Fields) × (cut_spelled v ≡ field ∷ more)
some_cut v = (signed_decimal v.x, signed_decimal v.y ∷ signed_decimal v.z ∷ [], refl)

cut_items_again : (vs : List Vec3) → FitsCuts (record { list = record { items = vs } })
    → all_of cut_at MOST_CHOICES (cut_fields vs) ≡ Some vs
cut_items_again vs fits =
    ap (all_of cut_at MOST_CHOICES) (sym (cuts-spelled vs))
    ∙ all_again Vec3 cut_at cut_spelled FitsVector cut-reads some_cut MOST_CHOICES vs
    (fits.few, recursion_from_All FitsVector vs fits.each)

cuts_again : (cuts : Cuts) → FitsCuts cuts → cuts_of (cut_fields cuts.list.items) ≡ Some cuts
cuts_again cuts fits = rw (cut_items_again cuts.list.items fits) refl

cuts_takes : (fields : Fields) (cuts : Cuts) → cuts_of fields ≡ Some cuts
    → (fields ≡ cut_fields cuts.list.items) × FitsCuts cuts
cuts_takes fields cuts is =
    let a = bind_some (all_of cut_at MOST_CHOICES fields) _ cuts is in
    let taken = all_takes Vec3 cut_at cut_spelled FitsVector cut-reads some_cut MOST_CHOICES fields
    a.0 a.1 in
    closed Fields Cuts (λ given. cut_fields given.list.items) FitsCuts fields
    (record { list = record { items = a.0 } }) cuts a.2 (taken.0 ∙ cuts-spelled a.0)
    (record { few = taken.1.0; each = All-from_recursion FitsVector a.0 taken.1.1 })

-- ---- outcomes

holds_spells : Spells Outcome outcome_fields FitsOutcome
    (record { kind = codes "HOLDS"; read = holds_of })
holds_spells rest outcome is =
    let a = bind_some (at_first u32_of rest) _ outcome is in
    let b = bind_some (at_first i64_of a.0.1) _ outcome a.2 in
    let c = bind_some (thrusts_of b.0.1) _ outcome b.2 in
    let choice = u32-reads.takes rest a.0.0 a.0.1 a.1 in
    let q = i64-reads.takes a.0.1 b.0.0 b.0.1 b.1 in
    let thrusts = thrusts_takes b.0.1 c.0 c.1 in
    closed Fields Outcome outcome_fields FitsOutcome (codes "HOLDS" ∷ rest)
    (Holds a.0.0 b.0.0 c.0) outcome c.2
    (ap (λ (more : Fields). codes "HOLDS" ∷ more) (choice.0
    ∙ ap (λ (more : Fields). decimal a.0.0 ∷ more) (q.0
    ∙ ap (λ (more : Fields). signed_decimal b.0.0 ∷ more) thrusts.0)))
    (choice.1, q.1, thrusts.1)

same_count : (m n : ℕ) → (m == n) ≡ true → m ≡ n
same_count m n is = grind (arith, nat_tests)

lost_spells : Spells Outcome outcome_fields FitsOutcome
    (record { kind = codes "LOST"; read = lost_of })
lost_spells rest outcome is =
    let a = bind_some (at_first u32_of rest) _ outcome is in
    let b = bind_some (cuts_of a.0.1) _ outcome a.2 in
    let counted = if_some (length b.0.list.items == a.0.0) (Some (Lost b.0)) outcome b.2 in
    let count = u32-reads.takes rest a.0.0 a.0.1 a.1 in
    let cuts = cuts_takes a.0.1 b.0 b.1 in
    closed Fields Outcome outcome_fields FitsOutcome (codes "LOST" ∷ rest) (Lost b.0) outcome
    counted.1
    (ap (λ (more : Fields). codes "LOST" ∷ more) (count.0
    ∙ ap (λ (more : Fields). decimal a.0.0 ∷ more) cuts.0
    ∙ ap (λ (n : ℕ). decimal n ∷ cut_fields b.0.list.items)
    (sym (same_count (length b.0.list.items) a.0.0 counted.0))))
    cuts.1

pub outcome_takes : (fields : Fields) (outcome : Outcome) → outcome_of fields ≡ Some outcome
    → (fields ≡ outcome_fields outcome) × FitsOutcome outcome
outcome_takes =
    kind_takes Outcome outcome_fields FitsOutcome outcome_forms (holds_spells, (lost_spells, tt))

itself : (n : ℕ) → (n == n) ≡ true
itself n = grind (arith, nat_tests)

pub outcome_again : (outcome : Outcome) → FitsOutcome outcome
    → outcome_of (outcome_fields outcome) ≡ Some outcome
outcome_again (Holds choice q thrusts) fits =
    rw (
      u32-inverts.again choice fits.0,
      i64-inverts.again q fits.1,
      thrusts_again thrusts fits.2,
    ) refl
outcome_again (Lost cuts) fits =
    rw (
      u32-inverts.again (length cuts.list.items) (omega (arith, fits.few)),
      cuts_again cuts fits,
      itself (length cuts.list.items),
    ) refl

-- ---- places

plain_place : (kind : List ℕ) (place : Place) → place_fields place ≡ kind ∷ [] → FitsPlace place
    → Spells Place place_fields FitsPlace (record { kind = kind; read = ended place })
plain_place kind place spelled fits rest other is =
    let taken = ended_takes place rest other is in
    subst (λ (p : Place). (kind ∷ rest ≡ place_fields p) × FitsPlace p) taken.1
    (ap (λ (more : Fields). kind ∷ more) taken.0 ∙ sym spelled, fits)

numbered_place_spells : (kind : List ℕ) (make : ℕ → Place)
    → ((n : ℕ) → place_fields (make n) ≡ kind ∷ decimal n ∷ [])
    → ((n : ℕ) → FitsWord n → FitsPlace (make n))
    → Spells Place place_fields FitsPlace (record { kind = kind; read = numbered_place make })
numbered_place_spells kind make spelled fits rest place is =
    let a = bind_some (at_only u32_of rest) _ place is in
    let taken = only_takes ℕ u32_of decimal FitsWord u32-inverts rest a.0 a.1 in
    closed Fields Place place_fields FitsPlace (kind ∷ rest) (make a.0) place a.2
    (ap (λ (more : Fields). kind ∷ more) taken.0 ∙ sym (spelled a.0)) (fits a.0 taken.1)

places_spell : AllSpell Place place_fields FitsPlace place_forms
places_spell = (
  plain_place (codes "DENOMINATOR") places.Denominator refl tt,
  (
    plain_place (codes "CHOICE") places.Choice refl tt,
    (
      plain_place (codes "THRUST-COUNT") places.ThrustCount refl tt,
      (
        numbered_place_spells (codes "THRUSTER") (λ n. places.Thruster n) (λ n. refl)
            (λ n fits. fits),
        (
          plain_place (codes "SUM") places.Sum refl tt,
          (
            plain_place (codes "CUT-COUNT") places.CutCount refl tt,
            (
              numbered_place_spells (codes "CUT") (λ n. places.Cut n) (λ n. refl) (λ n fits. fits),
              tt,
            ),
          ),
        ),
      ),
    ),
  ),
)

pub place_takes : (fields : Fields) (place : Place) → place_of fields ≡ Some place
    → (fields ≡ place_fields place) × FitsPlace place
place_takes = kind_takes Place place_fields FitsPlace place_forms places_spell

pub place_again : (place : Place) → FitsPlace place → place_of (place_fields place) ≡ Some place
place_again places.Denominator fits = refl
place_again places.Choice fits = refl
place_again places.ThrustCount fits = refl
place_again (places.Thruster i) fits = rw (u32-inverts.again i fits) refl
place_again places.Sum fits = refl
place_again places.CutCount fits = refl
place_again (places.Cut k) fits = rw (u32-inverts.again k fits) refl

-- ---- demands

pub wrench_again : (w : Wrench) (rest : Fields) → FitsWrench w
    → wrench_at (wrench_fields w ++ rest) ≡ Some (w, rest)
wrench_again w rest fits =
    rw (
      i32-inverts.again w.x fits.x,
      i32-inverts.again w.y fits.y,
      i32-inverts.again w.n fits.n,
    ) refl

pub wrench_takes : (fields : Fields) (w : Wrench) (rest : Fields) → wrench_at fields ≡ Some (w, rest)
    → (fields ≡ wrench_fields w ++ rest) × FitsWrench w
wrench_takes fields w rest is =
    let a = bind_some (at_first i32_of fields) _ (w, rest) is in
    let b = bind_some (at_first i32_of a.0.1) _ (w, rest) a.2 in
    let c = bind_some (at_first i32_of b.0.1) _ (w, rest) b.2 in
    let x = i32-reads.takes fields a.0.0 a.0.1 a.1 in
    let y = i32-reads.takes a.0.1 b.0.0 b.0.1 b.1 in
    let n = i32-reads.takes b.0.1 c.0.0 c.0.1 c.1 in
    closed_front Wrench wrench_fields FitsWrench fields c.0.1 rest
    (record { x = a.0.0; y = b.0.0; n = c.0.0 }) w c.2
    (x.0 ∙ ap (λ (more : Fields). signed_decimal a.0.0 ∷ more) (y.0
    ∙ ap (λ (more : Fields). signed_decimal b.0.0 ∷ more) n.0))
    (record { x = x.1; y = y.1; n = n.1 })

-- ---- fractions

when_some : {A : Type 0} (test : Bool) (f : T test → Option A) (y : A) → when test f ≡ Some y
    → (passed : T test) × (f passed ≡ Some y)
when_some true f y is = (tt, is)
when_some false f y is = absurd (cc)

when_passed : {A : Type 0} (test : Bool) (passed : T test) (f : T test → Option A)
    → when test f ≡ f passed
when_passed true passed f = ap f (T_prop_at true tt passed)
  where
    T_prop_at : (b : Bool) (p q : T b) → p ≡ q
    T_prop_at b = hlevel T_prop
when_passed false passed f = absurd passed

fraction_takes : (top bottom : ℤ) (f : Fraction) → fraction_of top bottom ≡ Some f
    → (f.top ≡ top) × (f.bottom ≡ bottom)
fraction_takes top bottom f is =
    let low = when_some (int_le (pos 0) top) _ f is in
    let some = when_some (int_le (pos 1) bottom) _ f low.1 in
    let made = same_Some _ f some.1 in
    (ap (λ (g : Fraction). g.top) (sym made), ap (λ (g : Fraction). g.bottom) (sym made))

fraction_again : (f : Fraction) → fraction_of f.top f.bottom ≡ Some f
fraction_again f =
    when_passed (int_le (pos 0) f.top) f.top_from_0.le _
    ∙ when_passed (int_le (pos 1) f.bottom) f.bottom_from_1.le _

-- what has these parts is their fraction
pub fraction_made : (f : Fraction) (top bottom : ℤ) → f.top ≡ top → f.bottom ≡ bottom
    → Some f ≡ fraction_of top bottom
fraction_made f top bottom tops bottoms = sym (fraction_again f) ∙ ap₂ fraction_of tops bottoms

when_not : {A : Type 0} (test : Bool) (f : T test → Option A) → test ≡ false → None ≡ when test f
when_not true f is = absurd (cc)
when_not false f is = refl

below_0 : (z : ℤ) → z <ℤ pos 0 → int_le (pos 0) z ≡ false
below_0 (pos n) below = absurd (omega (arith, ints, below))
below_0 (negsuc n) below = refl

below_1 : (z : ℤ) → z <ℤ pos 1 → int_le (pos 1) z ≡ false
below_1 (pos zero) below = refl
below_1 (pos (suc n)) below = absurd (omega (arith, ints, below))
below_1 (negsuc n) below = refl

pub no_top : (top bottom : ℤ) → top <ℤ pos 0 → None ≡ fraction_of top bottom
no_top top bottom below = when_not (int_le (pos 0) top) _ (below_0 top below)

-- there is no fraction over such a bottom, whatever its top
by_top : (top bottom : ℤ) (test : Bool) (passed : int_le (pos 0) top ≡ test)
    → bottom <ℤ pos 1 → None ≡ fraction_of top bottom
by_top top bottom true passed below =
    when_not (int_le (pos 1) bottom) _ (below_1 bottom below)
    ∙ sym (when_passed (int_le (pos 0) top) (subst (λ (b : Bool). T b) (sym passed) tt) _)
by_top top bottom false passed below = when_not (int_le (pos 0) top) _ passed

pub no_bottom : (top bottom : ℤ) → bottom <ℤ pos 1 → None ≡ fraction_of top bottom
no_bottom top bottom below = by_top top bottom (int_le (pos 0) top) refl below

abbrev fraction_spelled : Fraction → Fields
fraction_spelled f = signed_decimal f.top ∷ signed_decimal f.bottom ∷ []

abbrev FitsFraction : Fraction → Type 0
FitsFraction f = FitsSigned w64 f.top × FitsSigned w64 f.bottom

fraction_front_takes : (fields : Fields) (f : Fraction) (rest : Fields)
    → fraction_at fields ≡ Some (f, rest) → (fields ≡ fraction_spelled f ++ rest) × FitsFraction f
fraction_front_takes fields f rest is =
    let a = bind_some (at_first i64_of fields) _ (f, rest) is in
    let b = bind_some (at_first i64_of a.0.1) _ (f, rest) a.2 in
    let c = bind_some (fraction_of a.0.0 b.0.0) _ (f, rest) b.2 in
    let top = i64-reads.takes fields a.0.0 a.0.1 a.1 in
    let bottom = i64-reads.takes a.0.1 b.0.0 b.0.1 b.1 in
    let parts = fraction_takes a.0.0 b.0.0 c.0 c.1 in
    closed_front Fraction fraction_spelled FitsFraction fields b.0.1 rest c.0 f c.2
    (top.0 ∙ ap (λ (more : Fields). signed_decimal a.0.0 ∷ more) bottom.0
    ∙ ap₂ (λ (t u : ℤ). signed_decimal t ∷ signed_decimal u ∷ b.0.1) (sym parts.0) (sym parts.1))
    (subst (FitsSigned w64) (sym parts.0) top.1, subst (FitsSigned w64) (sym parts.1) bottom.1)

-- ---- allocations

pub allocation_takes : (fields : Fields) (a : Allocation) → allocation_of fields ≡ Some a
    → (fields ≡ given_part_fields a) × FitsAllocation a
allocation_takes fields a is =
    let part = bind_some (fraction_at fields) _ a is in
    let choice = bind_some (at_first u32_of part.0.1) _ a part.2 in
    let over = bind_some (at_first i64_of choice.0.1) _ a choice.2 in
    let given = bind_some (thrusts_of over.0.1) _ a over.2 in
    let first = fraction_front_takes fields part.0.0 part.0.1 part.1 in
    let second = u32-reads.takes part.0.1 choice.0.0 choice.0.1 choice.1 in
    let third = i64-reads.takes choice.0.1 over.0.0 over.0.1 over.1 in
    let fourth = thrusts_takes over.0.1 given.0 given.1 in
    closed Fields Allocation given_part_fields FitsAllocation fields
    (record {
      fraction = part.0.0;
      choice = choice.0.0;
      q = over.0.0;
      thrusts = given.0;
    }) a given.2
    (first.0 ∙ ap (λ (more : Fields). fraction_spelled part.0.0 ++ more) (second.0
    ∙ ap (λ (more : Fields). decimal choice.0.0 ∷ more) (third.0
    ∙ ap (λ (more : Fields). signed_decimal over.0.0 ∷ more) fourth.0)))
    (record {
      top = first.1.0;
      bottom = first.1.1;
      choice = second.1;
      q = third.1;
      thrusts = fourth.1;
    })

pub allocation_again : (a : Allocation) → FitsAllocation a
    → allocation_of (given_part_fields a) ≡ Some a
allocation_again a fits =
    rw (
      i64-inverts.again a.fraction.top fits.top,
      i64-inverts.again a.fraction.bottom fits.bottom,
      fraction_again a.fraction,
      u32-inverts.again a.choice fits.choice,
      i64-inverts.again a.q fits.q,
      thrusts_again a.thrusts fits.thrusts,
    ) refl
