-- The load of fixed thrusts as a vector.
use Rattle.std.proofs.Common.{◌≡◌, ◌∙◌, sym, ℤ, ◌+ℤ◌, ◌-ℤ◌, ◌≤ℤ◌, List, [], ◌∷◌, arith}
use Rattle.std.specs.Prelude.{fold}
use Rattle.std.specs.List.{zip}
use Rattle.std.proofs.lemmas.Int.{ints}
use Rattle.int_ring.proofs.Laws.{linear}
use Rattle.plant_model.specs.Numbers.{IsWithin}
use Rattle.plant_model.specs.declared.limits.TheConstants.{MOST_FORCE, MOST_MOMENT}
use Rattle.plant_model.specs.declared.thrust.Point.{Point}
use Rattle.plant_model.specs.declared.wrench.Load.{Load}
use Rattle.redundancy_groups.specs.Loads.{IsLoadWithin, load_of, no_load, with_load}
use Rattle.redundancy_groups.specs.declared.fixed.TheConstants.{MOST_FIXED_LOAD}
use Rattle.wrench_geometry.specs.Vectors.{IsVectorWithin, difference_of, sum_of}
use Rattle.wrench_geometry.specs.Wrenches.{IsDemandVector, image_of}
use Rattle.wrench_geometry.specs.declared.vector.Vec3.{Vec3}
use Rattle.wrench_geometry.specs.declared.vector.TheConstants.{MOST_PLAIN}
use Rattle.wrench_geometry.proofs.VertexSums.{sum-assoc}
use Rattle.certificate.specs.Losses.{vector_of_load}
use Rattle.certificate.specs.Outcomes.{total_of}
use Rattle.certificate.proofs.Together.{plus_zero, zero_plus}

-- loads that are added in turn
added : (levers thrusts : List Point) (load : Load) →
    vector_of_load (fold with_load load (zip levers thrusts))
    ≡ sum_of (vector_of_load load) (total_of levers thrusts)
added [] thrusts load = sym (plus_zero (vector_of_load load))
added (lever ∷ levers) [] load = sym (plus_zero (vector_of_load load))
added (lever ∷ levers) (thrust ∷ thrusts) load =
    added levers thrusts (with_load load (lever, thrust))
    ∙ sym (sum-assoc (vector_of_load load) (image_of lever thrust) (total_of levers thrusts))

pub load_is_total : (levers thrusts : List Point) →
    vector_of_load (load_of levers thrusts) ≡ total_of levers thrusts
load_is_total levers thrusts = added levers thrusts no_load ∙ zero_plus (total_of levers thrusts)

apart : (most far beside a b : ℤ) → (most +ℤ far) ≤ℤ beside → IsWithin most a → IsWithin far b →
    IsWithin beside (a -ℤ b)
apart most far beside a b fits h k =
    let low = h.low in
    let high = h.high in
    let least = k.low in
    let greatest = k.high in
    record { low = omega (arith, linear); high = omega (arith, linear) }

-- a demand less the load of fixed thrusts
pub plain_beside : (demand : Vec3) (load : Load) → IsDemandVector demand →
    IsLoadWithin MOST_FIXED_LOAD load →
    IsVectorWithin MOST_PLAIN MOST_PLAIN (difference_of demand (vector_of_load load))
plain_beside demand load h k = record {
  x = apart MOST_FORCE MOST_FIXED_LOAD MOST_PLAIN demand.x load.x (omega (arith, ints)) h.x k.x;
  y = apart MOST_FORCE MOST_FIXED_LOAD MOST_PLAIN demand.y load.y (omega (arith, ints)) h.y k.y;
  z = apart MOST_MOMENT MOST_FIXED_LOAD MOST_PLAIN demand.z load.n (omega (arith, ints)) h.z k.n;
}
