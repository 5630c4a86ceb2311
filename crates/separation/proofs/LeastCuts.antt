-- A cut that is at most the normals of each two of the directions is a least cut.
use Rattle.std.proofs.Common.{◌≡◌, ◌⊎◌, inl, inr, ℤ, pos, ◌-ℤ◌, ◌*ℤ◌, neg_ℤ, ◌≤ℤ◌, ◌<ℤ◌, List, []}
use Rattle.std.proofs.Common.{◌∷◌, ◌++◌, refl, subst, ap, ◌∙◌, arith}
use Rattle.std.specs.Prelude.{All, Contains}
use Rattle.std.proofs.lemmas.List.Elements.{All-contains, Contains-push_cases}
use Rattle.int_ring.proofs.Laws.{linear}
use Rattle.int_ring.proofs.Order.{fraction_le_trans}
use Rattle.int_ring.proofs.Ring.{ring, reads}
use Rattle.wrench_geometry.specs.declared.cut.Cut.{Cut}
use Rattle.wrench_geometry.specs.declared.vector.Vec3.{Vec3}
use Rattle.wrench_geometry.specs.Cuts.{IsCut, IsLeastCut}
use Rattle.wrench_geometry.specs.Vectors.{cross_of, dot_of, opposite_of, support_of, zero_vector}
use Rattle.wrench_geometry.proofs.Bounds.{same_vector}
use Rattle.separation.specs.Candidates.{IsAtMost, IsAtMostAlong}
use Rattle.separation.specs.Directions.{KeepsGreatest, SettlesDifferences, Spans}
use Rattle.separation.proofs.CutOrder.{IsEither, along_trans}
use Rattle.separation.proofs.DirectionLists.{direction_list, keeps_greatest}
use Rattle.separation.proofs.Members.{none_among}
use Rattle.separation.proofs.Moves.{IsDirectionList}
use Rattle.separation.proofs.Normals.{Candidate, some_candidate}

-- the cut is at most the normal of each two of the list
abbrev pub IsAtMostPairs : List (List Vec3) → Vec3 → Cut → List Vec3 → Type 0
IsAtMostPairs lists d cut list =
    (a b : Vec3) → Contains list a → Contains list b → IsAtMostAlong lists d cut (cross_of a b)

-- ---- one direction more

-- the normal turned round is the same candidate
along_opposite : (lists : List (List Vec3)) (d : Vec3) (cut : Cut) (n m : Vec3) →
    m ≡ opposite_of n → IsAtMostAlong lists d cut n → IsAtMostAlong lists d cut m
along_opposite lists d cut n m is_opposite along w either = along w (turned either)
  where
    back : (a : ℤ) → neg_ℤ (neg_ℤ a) ≡ a
    back a = omega (arith, linear)

    turned : IsEither m w → IsEither n w
    turned (inl e) = inr (e ∙ is_opposite)
    turned (inr e) =
        inl (e ∙ ap opposite_of is_opposite ∙ same_vector {b = n} (back n.x) (back n.y) (back n.z))

-- the zero vector is ahead of nothing
along_zero : (lists : List (List Vec3)) (d : Vec3) (cut : Cut) (n : Vec3) → n ≡ zero_vector →
    IsAtMostAlong lists d cut n
along_zero lists d cut n is_zero w either ahead = absurd (not_0 (product either) ahead)
  where
    not_0 : {a : ℤ} → a ≡ pos 0 → pos 1 ≤ℤ a → ⊥
    not_0 {a} e g = omega (arith, linear)

    none : dot_of zero_vector d ≡ pos 0
    none = ring (d.x ∷ d.y ∷ d.z ∷ []) (search reads depth 40) refl

    none_opposite : dot_of (opposite_of zero_vector) d ≡ pos 0
    none_opposite = ring (d.x ∷ d.y ∷ d.z ∷ []) (search reads depth 40) refl

    product : IsEither n w → dot_of w d ≡ pos 0
    product (inl e) = ap (λ (v : Vec3). dot_of v d) (e ∙ is_zero) ∙ none
    product (inr e) = ap (λ (v : Vec3). dot_of v d) (e ∙ ap opposite_of is_zero) ∙ none_opposite

crossed_back : (a b : Vec3) → cross_of b a ≡ opposite_of (cross_of a b)
crossed_back a b = same_vector (turns a.y a.z b.y b.z) (turns a.z a.x b.z b.x)
    (turns a.x a.y b.x b.y)
  where
    turns : (p q r s : ℤ) → r *ℤ q -ℤ s *ℤ p ≡ neg_ℤ (p *ℤ s -ℤ q *ℤ r)
    turns p q r s = ring (p ∷ q ∷ r ∷ s ∷ []) (search reads depth 40) refl

crossed_itself : (a : Vec3) → cross_of a a ≡ zero_vector
crossed_itself a = same_vector {b = zero_vector} (none a.y a.z) (none a.z a.x) (none a.x a.y)
  where
    none : (p q : ℤ) → p *ℤ q -ℤ q *ℤ p ≡ pos 0
    none p q = ring (p ∷ q ∷ []) (search reads depth 40) refl

module _ (lists : List (List Vec3)) (d : Vec3) (cut least : Cut) (front : List Vec3)
    (e : Vec3) where
  -- a cut that is at most one that is at most the pairs so far, and at most the normals of one
  -- direction more and those before it
  pub pairs_more : pos 1 ≤ℤ least.bottom → pos 1 ≤ℤ cut.bottom → IsAtMost least cut →
      IsAtMostPairs lists d cut front →
      All (λ (other : Vec3). IsAtMostAlong lists d least (cross_of e other)) front →
      IsAtMostPairs lists d least (front ++ e ∷ [])
  pairs_more α β at_most pairs others a b f g =
      both (Contains-push_cases front e a f) (Contains-push_cases front e b g)
    where
      with_e : (b : Vec3) → Contains front b → IsAtMostAlong lists d least (cross_of e b)
      with_e b among = let P : Vec3 → Type 0 =
          λ other. IsAtMostAlong lists d least (cross_of e other) in
          All-contains P front b others among

      both : Contains front a ⊎ (e ≡ a) → Contains front b ⊎ (e ≡ b) →
          IsAtMostAlong lists d least (cross_of a b)
      both (inl f) (inl g) = along_trans lists d (cross_of a b) least cut α β at_most
          (pairs a b f g)
      both (inl f) (inr k) =
          let P : Vec3 → Type 0 = λ b. IsAtMostAlong lists d least (cross_of a b) in
          subst P k
          (along_opposite lists d least (cross_of e a) (cross_of a e) (crossed_back e a)
          (with_e a f))
      both (inr k) (inl g) = let P : Vec3 → Type 0 =
          λ a. IsAtMostAlong lists d least (cross_of a b) in subst P k (with_e b g)
      both (inr k) (inr l) =
          let P : Vec3 → Type 0 = λ a. IsAtMostAlong lists d least (cross_of a b) in
          let Q : Vec3 → Type 0 = λ b. IsAtMostAlong lists d least (cross_of e b) in
          subst P k (subst Q l (along_zero lists d least (cross_of e e) (crossed_itself e)))

pub pairs_none : (lists : List (List Vec3)) (d : Vec3) (cut : Cut) → IsAtMostPairs lists d cut []
pairs_none lists d cut a b f g = none_among a f

-- ---- the end

pub directions_of_sums : (lists : List (List Vec3)) (directions : List Vec3) → Spans directions →
    All (SettlesDifferences directions) lists → IsDirectionList (support_of lists) directions
directions_of_sums lists directions spans settled =
    direction_list directions lists spans
    (λ list among. keeps_greatest directions list
    (All-contains (SettlesDifferences directions) lists list settled among))

pub directions_that_keep : (lists : List (List Vec3)) (directions : List Vec3) →
    Spans directions → All (KeepsGreatest directions) lists →
    IsDirectionList (support_of lists) directions
directions_that_keep lists directions spans keeps =
    direction_list directions lists spans
    (λ list among. All-contains (KeepsGreatest directions) lists list keeps among)

pub least_of_pairs : (lists : List (List Vec3)) (d : Vec3) (cut : Cut) (directions : List Vec3) →
    IsDirectionList (support_of lists) directions → IsCut lists d cut →
    IsAtMostPairs lists d cut directions →
    IsLeastCut lists d cut
least_of_pairs lists d cut directions is parts pairs = record {
  bottom = parts.bottom;
  top = parts.top;
  bottom_from_1 = parts.bottom_from_1;
  bottom_below = parts.bottom_below;
  top_below = parts.top_below;
  least = λ u ahead. from_candidate u ahead
      (some_candidate (support_of lists) directions is d u ahead);
}
  where
    positive : {a : ℤ} → pos 1 ≤ℤ a → pos 0 <ℤ a
    positive {a} g = omega (arith, linear)

    from_candidate : (u : Vec3) → pos 1 ≤ℤ dot_of u d →
        Candidate (support_of lists) directions d u →
        (cut.top *ℤ dot_of u d) ≤ℤ (support_of lists u *ℤ cut.bottom)
    from_candidate u ahead c =
        fraction_le_trans cut.top cut.bottom (support_of lists c.normal) (dot_of c.normal d)
        (support_of lists u) (dot_of u d)
        (positive parts.bottom_from_1) (positive c.ahead) (positive ahead)
        (pairs c.first c.second c.first_among c.second_among c.normal c.crossed c.ahead) c.quotient
