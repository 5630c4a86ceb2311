-- The order of cuts, and normals that are ahead of a demand.
use Rattle.std.proofs.Common.{◌≡◌, ◌⊎◌, inl, inr, ℤ, pos, neg_ℤ, ◌*ℤ◌, ◌≤ℤ◌, ◌<ℤ◌, List, sym, subst}
use Rattle.std.proofs.Common.{ap, ◌∙◌, arith}
use Rattle.int_ring.proofs.Laws.{linear}
use Rattle.int_ring.proofs.Order.{fraction_le_trans}
use Rattle.wrench_geometry.specs.declared.cut.Cut.{Cut}
use Rattle.wrench_geometry.specs.declared.vector.Vec3.{Vec3}
use Rattle.wrench_geometry.specs.Vectors.{opposite_of, dot_of, support_of}
use Rattle.wrench_geometry.specs.Cuts.{IsCut}
use Rattle.separation.specs.Candidates.{IsAtMost, IsAtMostAlong}
use Rattle.separation.proofs.Moves.{opposite_dot}

-- w is the normal or its opposite
abbrev pub IsEither : Vec3 → Vec3 → Type 0
IsEither normal w = (w ≡ normal) ⊎ (w ≡ opposite_of normal)

positive : {a : ℤ} → pos 1 ≤ℤ a → pos 0 <ℤ a
positive {a} g = omega (arith, linear)

-- of a normal and its opposite one at most is ahead of the demand
pub one_ahead : (normal d w v : Vec3) → IsEither normal w → IsEither normal v →
    pos 1 ≤ℤ dot_of w d → pos 1 ≤ℤ dot_of v d → v ≡ w
one_ahead normal d w v (inl e) (inl f) g k = f ∙ sym e
one_ahead normal d w v (inr e) (inr f) g k = f ∙ sym e
one_ahead normal d w v (inl e) (inr f) g k =
    absurd (not_both (ap (λ (x : Vec3). dot_of x d) e)
    (ap (λ (x : Vec3). dot_of x d) f ∙ opposite_dot normal d) g k)
  where
    not_both : {a b c : ℤ} → a ≡ c → b ≡ neg_ℤ c → pos 1 ≤ℤ a → pos 1 ≤ℤ b → ⊥
    not_both {a} {b} {c} e f g k = omega (arith, linear)
one_ahead normal d w v (inr e) (inl f) g k =
    absurd (not_both (ap (λ (x : Vec3). dot_of x d) f)
    (ap (λ (x : Vec3). dot_of x d) e ∙ opposite_dot normal d) k g)
  where
    not_both : {a b c : ℤ} → a ≡ c → b ≡ neg_ℤ c → pos 1 ≤ℤ a → pos 1 ≤ℤ b → ⊥
    not_both {a} {b} {c} e f g k = omega (arith, linear)

-- none is where the normal is perpendicular to the demand
pub none_ahead : (normal d w : Vec3) → dot_of normal d ≡ pos 0 → IsEither normal w →
    pos 1 ≤ℤ dot_of w d → ⊥
none_ahead normal d w flat (inl e) g = not_0 (ap (λ (x : Vec3). dot_of x d) e ∙ flat) g
  where
    not_0 : {a : ℤ} → a ≡ pos 0 → pos 1 ≤ℤ a → ⊥
    not_0 {a} e g = omega (arith, linear)
none_ahead normal d w flat (inr e) g =
    not_0 (ap (λ (x : Vec3). dot_of x d) e ∙ opposite_dot normal d) flat g
  where
    not_0 : {a b : ℤ} → a ≡ neg_ℤ b → b ≡ pos 0 → pos 1 ≤ℤ a → ⊥
    not_0 {a} {b} e f g = omega (arith, linear)

-- a cut that is at most the cut of w is at most the normal's
pub at_most_normal : (lists : List (List Vec3)) (d normal w : Vec3) (cut of_w : Cut) →
    IsEither normal w → of_w.w ≡ w → IsCut lists d of_w → IsAtMost cut of_w →
    IsAtMostAlong lists d cut normal
at_most_normal lists d normal w cut of_w either is_w parts at_most v v_either ahead =
    meet (at_w (parts.bottom_from_1) (parts.bottom)) ahead
  where
    at_w : pos 1 ≤ℤ of_w.bottom → of_w.bottom ≡ dot_of of_w.w d → pos 1 ≤ℤ dot_of w d
    at_w g e = let P : ℤ → Type 0 =
        λ z. pos 1 ≤ℤ z in subst P (e ∙ ap (λ (x : Vec3). dot_of x d) is_w) g

    bottom_is : v ≡ w → of_w.bottom ≡ dot_of v d
    bottom_is e = parts.bottom ∙ ap (λ (x : Vec3). dot_of x d) (is_w ∙ sym e)

    top_is : v ≡ w → of_w.top ≡ support_of lists v
    top_is e = parts.top ∙ ap (λ (x : Vec3). support_of lists x) (is_w ∙ sym e)

    along : {a b : ℤ} → of_w.bottom ≡ a → of_w.top ≡ b → (cut.top *ℤ a) ≤ℤ (b *ℤ cut.bottom)
    along {a} {b} e f =
        let P : ℤ → Type 0 = λ z. (cut.top *ℤ z) ≤ℤ (of_w.top *ℤ cut.bottom) in
        let Q : ℤ → Type 0 = λ z. (cut.top *ℤ a) ≤ℤ (z *ℤ cut.bottom) in
        subst Q f (subst P e at_most)

    meet : pos 1 ≤ℤ dot_of w d → pos 1 ≤ℤ dot_of v d →
        (cut.top *ℤ dot_of v d) ≤ℤ (support_of lists v *ℤ cut.bottom)
    meet g k = let same : v ≡ w = one_ahead normal d w v either v_either g k in
        along (bottom_is same) (top_is same)

-- a lesser cut is at most what the greater is at most
pub at_most_trans : (a b c : Cut) → pos 1 ≤ℤ a.bottom → pos 1 ≤ℤ b.bottom → pos 1 ≤ℤ c.bottom →
    IsAtMost a b → IsAtMost b c → IsAtMost a c
at_most_trans a b c α β γ g k =
    fraction_le_trans a.top a.bottom b.top b.bottom c.top c.bottom (positive α) (positive β)
    (positive γ) g k

pub along_trans : (lists : List (List Vec3)) (d normal : Vec3) (a b : Cut) → pos 1 ≤ℤ a.bottom →
    pos 1 ≤ℤ b.bottom → IsAtMost a b → IsAtMostAlong lists d b normal →
    IsAtMostAlong lists d a normal
along_trans lists d normal a b α β g along w either ahead =
    fraction_le_trans a.top a.bottom b.top b.bottom (support_of lists w) (dot_of w d) (positive α)
    (positive β) (positive ahead) g (along w either ahead)

pub at_most_same : (a b : Cut) → a ≡ b → IsAtMost a b
at_most_same a b e = let P : Cut → Type 0 =
    λ c. (a.top *ℤ c.bottom) ≤ℤ (c.top *ℤ a.bottom) in subst P e (omega (arith, linear))

-- a cut that is one of two cuts
pub cut_of_either : (lists : List (List Vec3)) (d : Vec3) (a b c : Cut) → (c ≡ a) ⊎ (c ≡ b) →
    IsCut lists d a → IsCut lists d b → IsCut lists d c
cut_of_either lists d a b c (inl e) f g = let P : Cut → Type 0 = IsCut lists d in subst P (sym e) f
cut_of_either lists d a b c (inr e) f g = let P : Cut → Type 0 = IsCut lists d in subst P (sym e) g
