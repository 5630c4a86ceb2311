-- Loads that are taken together in turn.
use Rattle.std.proofs.Common.{◌≡◌, ◌∙◌, ℕ, ◌+◌, ◌*◌, ◌<◌, ◌≤◌, ℤ, pos, ◌+ℤ◌, ◌≤ℤ◌, List, length}
use Rattle.std.proofs.Common.{take, get_or, sym, ap, arith}
use Rattle.std.specs.List.{fold, zip}
use Rattle.std.proofs.lemmas.List.{take_all}
use Rattle.std.proofs.lemmas.List.Sums.{fold_more}
use Rattle.std.proofs.lemmas.Slice.Zip.{length-zip, get_or-zip}
use Rattle.int_ring.proofs.Laws.{linear}
use Rattle.plant_model.specs.declared.thrust.Point.{Point}
use Rattle.plant_model.specs.declared.wrench.Load.{Load}
use Rattle.plant_model.specs.Numbers.{IsWithin}
use Rattle.redundancy_groups.specs.Loads.{IsLoadWithin, load_at, load_of, no_load, sum_of}
use Rattle.redundancy_groups.specs.Loads.{with_load}

pub same_load : {a b : Load} → a.x ≡ b.x → a.y ≡ b.y → a.n ≡ b.n → a ≡ b
same_load p q r = λ i. record { x = p i; y = q i; n = r i }

-- the load of the first so many thrusts, each of which adds at most 2^43
pub record IsLoadSoFar (levers thrusts : List Point) (taken : ℕ) (total : Load) : Type 0 where
  pub is : total ≡ fold with_load no_load (take taken (zip levers thrusts))
  pub within : IsLoadWithin (pos (taken * 8796093022208)) total

next_within : (k n : ℕ) (y z : ℤ) → IsWithin (pos (k * n)) y → IsWithin (pos n) z →
    IsWithin (pos ((k + 1) * n)) (y +ℤ z)
next_within k n y z h w =
    let a = h.low in
    let b = h.high in
    let c = w.low in
    let d = w.high in
    record { low = omega (arith, linear); high = omega (arith, linear) }

wider : (most more z : ℤ) → most ≤ℤ more → IsWithin most z → IsWithin more z
wider most more z e h =
    let a = h.low in
    let b = h.high in
    record { low = omega (arith, linear); high = omega (arith, linear) }

pub load_within_wider : (most more : ℤ) (load : Load) → most ≤ℤ more → IsLoadWithin most load →
    IsLoadWithin more load
load_within_wider most more load e h = record {
  x = wider most more load.x e h.x;
  y = wider most more load.y e h.y;
  n = wider most more load.n e h.n;
}

pub load_when_taken : (levers thrusts : List Point) (taken : ℕ) (total : Load) →
    length levers ≤ taken → IsLoadSoFar levers thrusts taken total → total ≡ load_of levers thrusts
load_when_taken levers thrusts taken total all so_far =
    let long = length-zip levers thrusts in
    so_far.is ∙ ap (fold with_load no_load) (take_all taken (zip levers thrusts) (omega arith))

pub load_more : (levers thrusts : List Point) (taken : ℕ) (total lever_load : Load)
    (lever thrust : Point) → taken < length levers → taken < length thrusts →
    lever ≡ get_or levers taken lever → thrust ≡ get_or thrusts taken thrust →
    lever_load ≡ load_at (lever, thrust) → IsLoadWithin (pos 8796093022208) lever_load →
    IsLoadSoFar levers thrusts taken total →
    IsLoadSoFar levers thrusts (taken + 1) (sum_of total lever_load)
load_more levers thrusts taken total lever_load lever thrust there here is_lever is_thrust is within
    so_far =
    let long = length-zip levers thrusts in
    let pair : get_or (zip levers thrusts) taken (lever, thrust) ≡ (lever, thrust) =
    get_or-zip levers thrusts taken (lever, thrust) there here
    ∙ ap (λ (p : Point). (p, get_or thrusts taken thrust)) (sym is_lever)
    ∙ ap (λ (p : Point). (lever, p)) (sym is_thrust) in
    record {
      is = ap (λ (l : Load). sum_of l lever_load) so_far.is
          ∙ ap (sum_of (fold with_load no_load (take taken (zip levers thrusts))))
          (is ∙ ap load_at (sym pair))
          ∙ sym (fold_more with_load no_load (zip levers thrusts) taken (lever, thrust)
          (omega arith));
      within = record {
        x = next_within taken 8796093022208 total.x lever_load.x so_far.within.x within.x;
        y = next_within taken 8796093022208 total.y lever_load.y so_far.within.y within.y;
        n = next_within taken 8796093022208 total.n lever_load.n so_far.within.n within.n;
      };
    }
