-- Paths that grow by one demand after another, and how far they are met.
use Rattle.std.proofs.Common.{◌≡◌, ◌∙◌, ℕ, ◌+◌, ◌<◌, ◌≤◌, ◌++◌, List, [], ◌∷◌, length, length-append}
use Rattle.std.proofs.Common.{get_or, take, refl, sym, ap, subst, below_more, arith}
use Rattle.std.specs.Prelude.{All, IfNone, Option, None, Some}
use Rattle.std.proofs.Math.ListN.{get_or-append}
use Rattle.std.proofs.Math.Seq.{get_or-append_seam}
use Rattle.std.proofs.lemmas.List.{get_or-take, get_or_default}
use Rattle.plant_model.specs.Versions.{IsDemand}
use Rattle.plant_model.specs.declared.plant.Parts.{Parts}
use Rattle.plant_model.specs.declared.wrench.Wrench.{Wrench}
use Rattle.capability.specs.Paths.{IsPath, along, demand_at, nothing}
use Rattle.capability.specs.declared.speeds.TheConstants.{SPEEDS}

-- the path has the demands at the speeds below this one
pub record IsPathBelow (plant : Parts) (base : Wrench) (angle count : ℕ) (path : List Wrench)
    : Type 0 where
  pub counted : length path ≡ count
  pub each : (speed : ℕ) → speed < count → along path speed ≡ demand_at plant base angle speed
  pub within : (speed : ℕ) → speed < count → IsDemand (along path speed)

pub no_path : (plant : Parts) (base : Wrench) (angle : ℕ) → IsPathBelow plant base angle 0 []
no_path plant base angle = record {
  counted = refl;
  each = λ speed below. absurd (omega arith);
  within = λ speed below. absurd (omega arith);
}

pub one_demand_more : (plant : Parts) (base : Wrench) (angle count : ℕ) (path more : List Wrench)
    (demand : Wrench) → more ≡ path ++ demand ∷ [] → demand ≡ demand_at plant base angle count →
    IsDemand demand → IsPathBelow plant base angle count path →
    IsPathBelow plant base angle (count + 1) more
one_demand_more plant base angle count path more demand is same within so_far =
    let counted = so_far.counted in
    let last : along more count ≡ demand =
    ap (λ (l : List Wrench). get_or l count nothing) is
    ∙ subst (λ (n : ℕ). get_or (path ++ demand ∷ []) n nothing ≡ demand) counted
    (get_or-append_seam path demand [] nothing) in
    let old : (speed : ℕ) → speed < count → along more speed ≡ along path speed =
    λ speed below. ap (λ (l : List Wrench). get_or l speed nothing) is
    ∙ get_or-append path (demand ∷ []) nothing speed (omega (arith, below)) in
    record {
      counted = omega (arith, ap length is, length-append path (demand ∷ []));
      each = below_more (λ speed. along more speed ≡ demand_at plant base angle speed) count
          (λ speed below. old speed below ∙ so_far.each speed below) (last ∙ same);
      within = below_more (λ speed. IsDemand (along more speed)) count
          (λ speed below. subst IsDemand (sym (old speed below)) (so_far.within speed below))
          (subst IsDemand (sym last) within);
    }

pub path_is : (plant : Parts) (base : Wrench) (angle count : ℕ) (path : List Wrench) →
    count ≤ SPEEDS → (count < SPEEDS → IsDemand (demand_at plant base angle count) → ⊥) →
    IsPathBelow plant base angle count path → IsPath plant base angle path
path_is plant base angle count path few ends below =
    let counted = below.counted in
    record {
      few = omega (arith, counted, few);
      each = λ speed there. below.each speed (omega (arith, counted, there));
      within = λ speed there. below.within speed (omega (arith, counted, there));
      ends = λ short. subst (λ (n : ℕ). IsDemand (demand_at plant base angle n) → ⊥) (sym counted)
          (ends (omega (arith, counted, short)));
    }

-- the demands of a path are within their limits
pub demands : (plant : Parts) (base : Wrench) (angle : ℕ) (path : List Wrench) →
    IsPath plant base angle path → All IsDemand path
demands plant base angle path is speed d there =
    subst IsDemand (get_or_default path speed nothing d there) (is.within speed there)

-- a beginning of a path has the path's demands
pub along_front : (path : List Wrench) (n speed : ℕ) → speed < n →
    along (take n path) speed ≡ along path speed
along_front path n speed below = get_or-take n path speed nothing below

-- what is so in any case is so where there is nothing
pub if_none : {A : Type 0} {P : Type 0} (found : Option A) → P → IfNone found P
if_none (Some x) p = tt
if_none None p = p
