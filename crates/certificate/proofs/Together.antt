-- Forces and moments that are taken together in turn.
use Rattle.std.proofs.Common.{◌≡◌, ◌∙◌, ap, ap₂, sym, subst, ℕ, ◌+◌, ◌<◌, ◌≤◌, ℤ, pos, ◌*ℤ◌, ◌+ℤ◌}
use Rattle.std.proofs.Common.{List, ◌∷◌, length, map, drop, get_or, arith}
use Rattle.std.proofs.lemmas.Int.{ints}
use Rattle.std.proofs.lemmas.List.{drop_all}
use Rattle.int_ring.proofs.Laws.{linear}
use Rattle.plant_model.specs.Numbers.{IsWithin}
use Rattle.plant_model.specs.declared.thrust.Point.{Point}
use Rattle.plant_model.specs.declared.thrust.Thrust.{Thrust}
use Rattle.thrust_region.proofs.Lists.{left_from}
use Rattle.wrench_geometry.specs.declared.vector.Vec3.{Vec3}
use Rattle.wrench_geometry.specs.Vectors.{IsVectorWithin, sum_of, zero_vector}
use Rattle.wrench_geometry.specs.Wrenches.{image_of}
use Rattle.wrench_geometry.proofs.Bounds.{same_vector}
use Rattle.wrench_geometry.proofs.VertexSums.{sum-assoc}
use Rattle.certificate.specs.declared.totals.Total.{Total}
use Rattle.certificate.specs.declared.totals.TheConstants.{MOST_SHARE, MOST_TOTAL}
use Rattle.certificate.specs.Outcomes.{total_of}
use Rattle.certificate.specs.Sides.{place_of}
use Rattle.certificate.specs.Totals.{vector_of}

-- the total with what is left is the whole, and each thrust has added at most the greatest share
pub record TotalSoFar (levers : List Point) (thrusts : List Thrust) (i : ℕ) (total : Total) : Type
    0 where
  pub whole : sum_of (vector_of total) (total_of (drop i levers) (map place_of (drop i thrusts)))
      ≡ total_of levers (map place_of thrusts)
  pub within : IsVectorWithin (pos i *ℤ MOST_SHARE) (pos i *ℤ MOST_SHARE) (vector_of total)

next_within : (i : ℕ) (y z : ℤ) → IsWithin (pos i *ℤ MOST_SHARE) y → IsWithin MOST_SHARE z →
    IsWithin (pos (i + 1) *ℤ MOST_SHARE) (y +ℤ z)
next_within i y z h k =
    let a = h.low in
    let b = h.high in
    let c = k.low in
    let d = k.high in
    record { low = omega (arith, linear, ints); high = omega (arith, linear, ints) }

pub plus_zero : (a : Vec3) → sum_of a zero_vector ≡ a
plus_zero a = same_vector (omega (arith, ints)) (omega (arith, ints)) (omega (arith, ints))

pub zero_plus : (a : Vec3) → sum_of zero_vector a ≡ a
zero_plus a = same_vector (omega (arith, ints)) (omega (arith, ints)) (omega (arith, ints))

pub total_more : (levers : List Point) (thrusts : List Thrust) (i : ℕ) (lever : Point)
    (thrust : Thrust) (total share new : Total) → i < length levers → i < length thrusts →
    get_or levers i lever ≡ lever → get_or thrusts i thrust ≡ thrust →
    vector_of share ≡ image_of lever (place_of thrust) →
    IsVectorWithin MOST_SHARE MOST_SHARE (vector_of share) →
    vector_of new ≡ sum_of (vector_of total) (vector_of share) →
    TotalSoFar levers thrusts i total → TotalSoFar levers thrusts (i + 1) new
total_more levers thrusts i lever thrust total share new there here is_lever is_thrust is within
    next so_far =
    let image = image_of lever (place_of thrust) in
    let rest = total_of (drop (i + 1) levers) (map place_of (drop (i + 1) thrusts)) in
    let lever_left = left_from levers i lever there
    ∙ ap (λ (p : Point). p ∷ drop (i + 1) levers) is_lever in
    let thrust_left = left_from thrusts i thrust here
    ∙ ap (λ (a : Thrust). a ∷ drop (i + 1) thrusts) is_thrust in
    let left : total_of (drop i levers) (map place_of (drop i thrusts)) ≡ sum_of image rest =
    ap₂ (λ (l : List Point) (a : List Thrust). total_of l (map place_of a)) lever_left
    thrust_left in
    record {
      whole = ap (λ (v : Vec3). sum_of v rest) (next ∙ ap (sum_of (vector_of total)) is)
          ∙ sym (sum-assoc (vector_of total) image rest)
          ∙ ap (sum_of (vector_of total)) (sym left) ∙ so_far.whole;
      within =
          subst (IsVectorWithin (pos (i + 1) *ℤ MOST_SHARE) (pos (i + 1) *ℤ MOST_SHARE)) (sym next)
          (record {
            x = next_within i total.x share.x so_far.within.x within.x;
            y = next_within i total.y share.y so_far.within.y within.y;
            z = next_within i total.z share.z so_far.within.z within.z;
          });
    }

pub whole_total : (levers : List Point) (thrusts : List Thrust) (i : ℕ) (total : Total) →
    length levers ≤ i → TotalSoFar levers thrusts i total →
    vector_of total ≡ total_of levers (map place_of thrusts)
whole_total levers thrusts i total all so_far =
    let v = vector_of total in
    sym (plus_zero v)
    ∙ ap (λ (l : List Point). sum_of v (total_of l (map place_of (drop i thrusts))))
    (sym (drop_all i levers all))
    ∙ so_far.whole

-- the shares of at most twelve thrusts
pub twelve_within : (i : ℕ) (total : Total) → i ≤ 12 →
    IsVectorWithin (pos i *ℤ MOST_SHARE) (pos i *ℤ MOST_SHARE) (vector_of total) →
    IsVectorWithin MOST_TOTAL MOST_TOTAL (vector_of total)
twelve_within i total few w = record {
  x = wider i total.x few w.x;
  y = wider i total.y few w.y;
  z = wider i total.z few w.z;
}
  where
    wider : (i : ℕ) (z : ℤ) → i ≤ 12 → IsWithin (pos i *ℤ MOST_SHARE) z → IsWithin MOST_TOTAL z
    wider i z few w =
        let low = w.low in
        let high = w.high in
        record { low = omega (arith, linear, ints); high = omega (arith, linear, ints) }
