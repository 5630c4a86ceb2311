-- What the greatest product of a list and the support of lists are, by their points.
use Rattle.std.proofs.Common.{◌≡◌, ◌⊎◌, inl, inr, ℤ, pos, ◌+ℤ◌, ◌≤ℤ◌, List, [], ◌∷◌, map, refl, sym}
use Rattle.std.proofs.Common.{ap, ◌∙◌, arith}
use Rattle.std.specs.Prelude.{Contains, fold}
use Rattle.std.specs.Int.{int_max}
use Rattle.std.proofs.lemmas.Int.{by_lt_z, clamps, ints}
use Rattle.std.proofs.lemmas.List.Elements.{All-contains}
use Rattle.int_ring.proofs.Laws.{linear}
use Rattle.int_ring.proofs.Ring.{ring, reads}
use Rattle.wrench_geometry.specs.declared.vector.Vec3.{Vec3}
use Rattle.wrench_geometry.specs.Vectors.{dot_of, greatest_of, support_of, zero_vector}
use Rattle.wrench_geometry.proofs.Supports.{greatest_at_least, greatest_from_0, support_cons}
use Rattle.separation.specs.Directions.{IsPoint}
use Rattle.separation.proofs.Members.{among_head, among_tail}

-- ---- the greatest product

one_of_both : (a b : ℤ) → (int_max a b ≡ a) ⊎ (int_max a b ≡ b)
one_of_both a b = by_lt_z b a (λ g. inl (omega (arith, ints, clamps)))
    (λ g. inr (omega (arith, ints, clamps)))

-- the fold is its start or some member's product
reached : (w : Vec3) (list : List Vec3) (a : ℤ) →
    (fold int_max a (map (dot_of w) list) ≡ a) ⊎
    ((v : Vec3) × Contains list v × (fold int_max a (map (dot_of w) list) ≡ dot_of w v))
reached w [] a = inl refl
reached w (x ∷ list) a =
    elim (reached w list (int_max a (dot_of w x))) [
      | inl start ↦
          (elim (one_of_both a (dot_of w x)) [
            | inl first ↦ inl (start ∙ first)
            | inr second ↦ inr
                (x, among_head x list, start ∙ second)
          ])
      | inr found ↦ inr (found.0, among_tail x list found.0 found.1, found.2)
    ]

origin_product : (w : Vec3) → dot_of w zero_vector ≡ pos 0
origin_product w = ring (w.x ∷ w.y ∷ w.z ∷ []) (search reads depth 40) refl

pub point_at_origin : (w v : Vec3) → v ≡ zero_vector → dot_of w v ≡ pos 0
point_at_origin w v origin = ap (λ (p : Vec3). dot_of w p) origin ∙ origin_product w

pub point_at_most : (w : Vec3) (list : List Vec3) (v : Vec3) → IsPoint list v →
    dot_of w v ≤ℤ greatest_of w list
point_at_most w list v (inl origin) = from_0 (point_at_origin w v origin) (greatest_from_0 w list)
  where
    from_0 : {a b : ℤ} → a ≡ pos 0 → pos 0 ≤ℤ b → a ≤ℤ b
    from_0 {a} {b} g k = omega (arith, linear)
point_at_most w list v (inr among) =
    let P : Vec3 → Type 0 = λ v. dot_of w v ≤ℤ greatest_of w list in
    All-contains P list v (greatest_at_least w list) among

pub greatest_reached : (w : Vec3) (list : List Vec3) →
    (v : Vec3) × IsPoint list v × (greatest_of w list ≡ dot_of w v)
greatest_reached w list =
    elim (reached w list (pos 0)) [
      | inl start ↦ (zero_vector, inl refl, start ∙ sym (origin_product w))
      | inr found ↦ (found.0, inr found.1, found.2)
    ]

-- a point's product is the greatest where no other point's is greater
pub greatest_is : (w : Vec3) (list : List Vec3) (v : Vec3) → IsPoint list v →
    ((p : Vec3) → IsPoint list p → dot_of w p ≤ℤ dot_of w v) → greatest_of w list ≡ dot_of w v
greatest_is w list v point least = meet (greatest_reached w list)
  where
    both : {a b c : ℤ} → a ≡ c → b ≤ℤ a → c ≤ℤ b → a ≡ b
    both {a} {b} {c} e g k = omega (arith, linear)

    meet : (p : Vec3) × IsPoint list p × (greatest_of w list ≡ dot_of w p) →
        greatest_of w list ≡ dot_of w v
    meet found = both found.2 (point_at_most w list v point) (least found.0 found.1)

-- ---- the support

pub support_from_0 : (lists : List (List Vec3)) (w : Vec3) → pos 0 ≤ℤ support_of lists w
support_from_0 [] w = omega (arith, linear)
support_from_0 (list ∷ lists) w =
    sum (support_cons w list lists) (greatest_from_0 w list) (support_from_0 lists w)
  where
    sum : {a b c : ℤ} → a ≡ b +ℤ c → pos 0 ≤ℤ b → pos 0 ≤ℤ c → pos 0 ≤ℤ a
    sum {a} {b} {c} e g k = omega (arith, linear)
