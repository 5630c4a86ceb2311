-- What the limits of the wind say of the demand alone, and of one angle after another.
use Rattle.std.proofs.Common.{◌≡◌, ℕ, ◌+◌, ◌*◌, ◌/◌, ◌%◌, ℤ, pos, ◌-ℤ◌, List, [], ◌∷◌, ◌++◌, length, Bool}
use Rattle.std.proofs.Common.{true, false, Option, Some, None, refl, sym, ◌∙◌, ap, subst, arith}
use Rattle.std.proofs.lemmas.Int.{ints}
use Rattle.std.proofs.Common.{append_assoc, not}
use Rattle.std.specs.Option.{is_some}
use Rattle.std.proofs.lemmas.List.{append-nil, length-append}
use Rattle.std.proofs.lemmas.Option.{none-some}
use Rattle.int_ring.proofs.Laws.{mul_zero}
use Rattle.dp_num.specs.Quotients.{floor_quotient}
use Rattle.plant_model.specs.Versions.{IsDemand}
use Rattle.plant_model.specs.declared.limits.TheConstants.{MOST_WIND_SPEED}
use Rattle.plant_model.specs.declared.plant.Parts.{Parts}
use Rattle.plant_model.specs.declared.status.Loss.{Loss}
use Rattle.plant_model.specs.declared.status.Loss.TheVariants.{Group}
use Rattle.plant_model.specs.declared.status.Status.{Status}
use Rattle.plant_model.specs.declared.wrench.Wrench.{Wrench}
use Rattle.certificate.specs.Losses.{question_after}
use Rattle.certificate.specs.Outcomes.{IsFeasible}
use Rattle.wind_axes.specs.Wind.{coefficient_between, component_of, row_at}
use Rattle.capability.specs.Limits.{IsGreatestSpeed, IsNext, IsWindLimit}
use Rattle.capability.specs.Paths.{demand_at}
use Rattle.capability.specs.Reserves.{IsMargin}
use Rattle.capability.specs.declared.limit.Next.{Next}
use Rattle.capability.specs.declared.limit.WindLimit.{WindLimit}
use Rattle.capability.specs.declared.parts.Margin.{Margin}
use Rattle.capability_report.specs.Found.{EachLimit, EachMargin, IsSo, IsUnmet, asked_after}
use Rattle.capability_report.specs.Found.{weather}
use Rattle.capability_report.specs.Texts.{limit_lines, limits_lines}
use Rattle.capability_report.specs.declared.margins.Left.{Left}

-- ---- in no wind

less-still : (a c : ℤ) → a -ℤ component_of c 0 ≡ a
less-still a c =
    let still : component_of c 0 ≡ pos 0 =
    ap (λ (n : ℤ). floor_quotient n (pos 1000000)) (mul_zero c) in
    let same : a -ℤ pos 0 ≡ a = omega (arith, ints) in
    ap (λ (z : ℤ). a -ℤ z) still ∙ same

same-wrench : (x y n a b c : ℤ) → x ≡ a → y ≡ b → n ≡ c
    → ◌≡◌ {A = Wrench} (record { x = x; y = y; n = n }) (record { x = a; y = b; n = c })
same-wrench x y n a b c first second third = rw (first, second, third) refl

-- the demand is the base
demand-still : (plant : Parts) (base : Wrench) (angle : ℕ) → demand_at plant base angle 0 ≡ base
demand-still plant base angle =
    let here = row_at plant.wind (angle / 1000) in
    let next = row_at plant.wind (angle / 1000 + 1) in
    let rest = angle % 1000 in
    let x = coefficient_between here.x next.x rest in
    let y = coefficient_between here.y next.y rest in
    let n = coefficient_between here.n next.n rest in
    same-wrench (base.x -ℤ component_of x 0) (base.y -ℤ component_of y 0)
    (base.n -ℤ component_of n 0) base.x base.y base.n (less-still base.x x) (less-still base.y y)
    (less-still base.n n)

unmet-at : (plant : Parts) (demand : Wrench) (tens : ℕ) (next : Option Next) → IsDemand demand
    → IsNext (weather plant demand tens) None next → IsUnmet plant demand
unmet-at plant demand tens None within is = absurd (none-some MOST_WIND_SPEED is)
unmet-at plant demand tens (Some next) within is =
    let still = demand-still plant demand (tens * 1000) in (
      next.loss,
      is.1.of_plant,
      (λ feasible. is.1.fails (record {
        within = subst IsDemand (sym still) within;
        meets = subst (λ (d : Wrench). IsFeasible (question_after plant plant.opening next.loss d))
            (sym still) feasible;
      })),
    )

so-of : (plant : Parts) (demand : Wrench) (tens : ℕ) (limit : WindLimit) (speed : Option ℕ)
    (lost : Bool) → IsDemand demand → IsWindLimit (weather plant demand tens) limit
    → limit.speed ≡ speed → is_some speed ≡ not lost → IsSo lost plant demand
so-of plant demand tens limit None true within is none same =
    unmet-at plant demand tens limit.next within
    (subst (λ (s : Option ℕ). IsNext (weather plant demand tens) s limit.next) none is.next)
so-of plant demand tens limit None false within is none same = cc (same)
so-of plant demand tens limit (Some speed) true within is some same = cc (same)
so-of plant demand tens limit (Some speed) false within is some same = λ loss of_plant.
    let held = subst (λ (s : Option ℕ). IsGreatestSpeed (weather plant demand tens) s) some
    is.speed in
    subst (λ (d : Wrench). IsFeasible (question_after plant plant.opening loss d))
    (demand-still plant demand (tens * 1000)) (held.1 0 (omega arith) loss of_plant).meets

-- the demand alone is unmet where no wind is held, else it is met
pub so : (plant : Parts) (demand : Wrench) (tens : ℕ) (limit : WindLimit) (lost : Bool)
    → IsDemand demand → IsWindLimit (weather plant demand tens) limit
    → is_some limit.speed ≡ not lost → IsSo lost plant demand
so plant demand tens limit lost within is same =
    so-of plant demand tens limit limit.speed lost within is refl same

-- ---- one more

pub margins-more : (plant : Parts) (demand : Wrench) (group : ℕ) (margins : List Left) (left : Left)
    → EachMargin plant demand group margins
    → IsMargin (asked_after plant demand (Group (group + length margins))) left.margin
    → EachMargin plant demand group (margins ++ left ∷ [])
margins-more plant demand group [] left each is = (
  subst (λ (n : ℕ). IsMargin (asked_after plant demand (Group n)) left.margin) (omega arith) is,
  tt,
)
margins-more plant demand group (first ∷ rest) left each is = (
  each.0,
  margins-more plant demand (group + 1) rest left each.1
      (subst (λ (n : ℕ). IsMargin (asked_after plant demand (Group n)) left.margin) (omega arith)
      is),
)

pub limits-more : (plant : Parts) (demand : Wrench) (tens : ℕ) (limits : List WindLimit)
    (limit : WindLimit) → EachLimit plant demand tens limits
    → IsWindLimit (weather plant demand (tens + length limits)) limit
    → EachLimit plant demand tens (limits ++ limit ∷ [])
limits-more plant demand tens [] limit each is = (
  subst (λ (n : ℕ). IsWindLimit (weather plant demand n) limit) (omega arith) is,
  tt,
)
limits-more plant demand tens (first ∷ rest) limit each is = (
  each.0,
  limits-more plant demand (tens + 1) rest limit each.1
      (subst (λ (n : ℕ). IsWindLimit (weather plant demand n) limit) (omega arith) is),
)

pub lines-more : (plant : Parts) (tens : ℕ) (limits : List WindLimit) (limit : WindLimit)
    → limits_lines plant tens (limits ++ limit ∷ [])
    ≡ limits_lines plant tens limits ++ limit_lines plant ((tens + length limits) * 1000) limit
lines-more plant tens [] limit =
    append-nil (limit_lines plant (tens * 1000) limit)
    ∙ ap (λ (n : ℕ). limit_lines plant (n * 1000) limit) (omega arith)
lines-more plant tens (first ∷ rest) limit =
    let here = limit_lines plant (tens * 1000) first in
    let place : tens + 1 + length rest ≡ tens + length (first ∷ rest) = omega arith in
    ap (λ (t : List ℕ). here ++ t) (lines-more plant (tens + 1) rest limit)
    ∙ ap (λ (n : ℕ).
    here ++ (limits_lines plant (tens + 1) rest ++ limit_lines plant (n * 1000) limit)) place
    ∙ sym (append_assoc here (limits_lines plant (tens + 1) rest)
    (limit_lines plant ((tens + length (first ∷ rest)) * 1000) limit))

-- the margins of the losses of the groups below this number
pub record MarginsBelow (plant : Parts) (demand : Wrench) (count : ℕ) (margins : List Left) : Type 0
  where
    pub count_is : length margins ≡ count
    pub each : EachMargin plant demand 0 margins

pub no-margins : (plant : Parts) (demand : Wrench) → MarginsBelow plant demand 0 []
no-margins plant demand = record { count_is = refl; each = tt }

pub margin-at : (plant : Parts) (status : Status) (demand : Wrench) (loss : Loss) (margin : Margin)
    → status ≡ plant.opening → IsMargin (question_after plant status loss demand) margin
    → IsMargin (asked_after plant demand loss) margin
margin-at plant status demand loss margin opens is =
    subst (λ (s : Status). IsMargin (question_after plant s loss demand) margin) opens is

pub one-margin-more : (plant : Parts) (demand : Wrench) (group : ℕ) (margins all : List Left)
    (left : Left) → all ≡ margins ++ left ∷ []
    → IsMargin (asked_after plant demand (Group group)) left.margin
    → MarginsBelow plant demand group margins → MarginsBelow plant demand (group + 1) all
one-margin-more plant demand group margins all left are is below =
    let count = below.count_is in
    let place : 0 + length margins ≡ group = omega (arith, count) in
    record {
      count_is = omega (arith, count, ap length are, length-append margins (left ∷ []));
      each = subst (λ (ms : List Left). EachMargin plant demand 0 ms) (sym are)
          (margins-more plant demand 0 margins left below.each
          (subst (λ (n : ℕ). IsMargin (asked_after plant demand (Group n)) left.margin)
          (sym place) is));
    }

-- the limit of the wind from an angle, of the plant as it opens
pub limit-at : (plant : Parts) (status : Status) (demand : Wrench) (tens : ℕ) (limit : WindLimit)
    → status ≡ plant.opening
    → IsWindLimit (record {
      plant = plant;
      status = status;
      base = demand;
      angle = tens * 1000;
    }) limit
    → IsWindLimit (weather plant demand tens) limit
limit-at plant status demand tens limit opens is =
    subst (λ (s : Status). IsWindLimit (record {
      plant = plant;
      status = s;
      base = demand;
      angle = tens * 1000;
    }) limit) opens is
