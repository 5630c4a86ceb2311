-- Direction lists of the supports of lists: where the signs on the directions are kept, a greatest
-- point stays greatest.
use Rattle.std.proofs.Common.{◌≡◌, ℕ, ◌+◌, ◌*◌, ◌/◌, ◌<◌, ◌≤◌, get_or, subst, ◌⊎◌, inl, inr, ℤ, pos}
use Rattle.std.proofs.Common.{◌+ℤ◌, ◌-ℤ◌, ◌*ℤ◌, neg_ℤ, ◌≤ℤ◌, ◌<ℤ◌, List, [], ◌∷◌, ◌++◌, refl, sym}
use Rattle.std.proofs.Common.{ap, ap₂, ◌∙◌, arith}
use Rattle.std.specs.Prelude.{All, Contains, fold}
use Rattle.std.proofs.lemmas.List.Elements.{Contains-append_left, All-contains, Contains-get_or}
use Rattle.std.proofs.lemmas.List.Elements.{Contains-push_cases}
use Rattle.std.proofs.Math.IntN.{*ℤ_comm}
use Rattle.std.proofs.lemmas.Int.{by_lt_z}
use Rattle.std.proofs.Math.Nat.{mul-le-mul_left}
use Rattle.int_ring.proofs.Laws.{linear}
use Rattle.int_ring.proofs.Order.{cancel}
use Rattle.int_ring.proofs.Ring.{ring, reads}
use Rattle.wrench_geometry.specs.declared.vector.Vec3.{Vec3}
use Rattle.wrench_geometry.specs.Vectors.{opposite_of, dot_of, difference_of, sum_of, zero_vector}
use Rattle.wrench_geometry.specs.Vectors.{greatest_of, support_of}
use Rattle.wrench_geometry.specs.Directions.{directions_in, directions_of}
use Rattle.wrench_geometry.proofs.Bounds.{same_vector}
use Rattle.wrench_geometry.proofs.Supports.{support_cons}
use Rattle.separation.specs.Directions.{IsAlong, IsPoint, Keeps, KeepsGreatest, KeepsSigns, Settles}
use Rattle.separation.specs.Directions.{SettlesDifferences, Spans}
use Rattle.separation.proofs.Members.{among_head, among_tail, none_among}
use Rattle.separation.proofs.Moves.{IsDirectionList, commutes, opposite_dot}
use Rattle.separation.proofs.Normals.{Along, one_line, one_sign}
use Rattle.separation.proofs.Supports.{greatest_is, greatest_reached, point_at_most, support_from_0}

-- the support of the lists where signs are kept is a product with one vector
linear_at : (directions : List Vec3) (lists : List (List Vec3)) →
    ((list : List Vec3) → Contains lists list → KeepsGreatest directions list) →
    (u : Vec3) →
    (v : Vec3) × ((w : Vec3) → KeepsSigns directions u w → support_of lists w ≡ dot_of v w)
linear_at directions [] keeps u =
    (zero_vector, λ w signs. ring (w.x ∷ w.y ∷ w.z ∷ []) (search reads depth 40) refl)
linear_at directions (list ∷ lists) keeps u =
    joined (greatest_reached u list)
    (linear_at directions lists (λ l among. keeps l (among_tail list lists l among)) u)
  where
    adds : (a b w : Vec3) → dot_of w a +ℤ dot_of b w ≡ dot_of (sum_of a b) w
    adds a b w = ring (a.x ∷ a.y ∷ a.z ∷ b.x ∷ b.y ∷ b.z ∷ w.x ∷ w.y ∷ w.z ∷ [])
        (search reads depth 40) refl

    joined : (v : Vec3) × IsPoint list v × (greatest_of u list ≡ dot_of u v) →
        (v : Vec3) × ((w : Vec3) → KeepsSigns directions u w → support_of lists w ≡ dot_of v w) →
        (v : Vec3) ×
        ((w : Vec3) → KeepsSigns directions u w → support_of (list ∷ lists) w ≡ dot_of v w)
    joined here later = (
      sum_of here.0 later.0,
      λ w signs.
          support_cons w list lists
          ∙ ap₂ ◌+ℤ◌ (keeps list (among_head list lists) u w signs here.0 here.1 here.2)
          (later.1 w signs)
          ∙ adds here.0 later.0 w,
    )

pub direction_list : (directions : List Vec3) (lists : List (List Vec3)) → Spans directions →
    ((list : List Vec3) → Contains lists list → KeepsGreatest directions list) →
    IsDirectionList (support_of lists) directions
direction_list directions lists spans keeps = record {
  spans = spans;
  from_0 = support_from_0 lists;
  linear_at = linear_at directions lists keeps;
}

-- ---- the differences of a list's points

pub keeps_greatest : (directions list : List Vec3) → SettlesDifferences directions list →
    KeepsGreatest directions list
keeps_greatest directions list settles u w signs v point greatest =
    greatest_is w list v point
    (λ p p_point. stays (apart v p u) (apart v p w) (below (point_at_most u list p p_point))
    (settles v p point p_point u w signs))
  where
    apart : (a b w : Vec3) → dot_of (difference_of a b) w ≡ dot_of w a -ℤ dot_of w b
    apart a b w = ring (a.x ∷ a.y ∷ a.z ∷ b.x ∷ b.y ∷ b.z ∷ w.x ∷ w.y ∷ w.z ∷ [])
        (search reads depth 40) refl

    below : {a : ℤ} → a ≤ℤ greatest_of u list → a ≤ℤ dot_of u v
    below {a} g = along greatest g
      where
        along : {a b c : ℤ} → b ≡ c → a ≤ℤ b → a ≤ℤ c
        along {a} {b} {c} e g = omega (arith, linear)

    stays : {f g av ap bv bp : ℤ} → f ≡ av -ℤ ap → g ≡ bv -ℤ bp → ap ≤ℤ av → Keeps f g → bp ≤ℤ bv
    stays {f} {g} {av} {ap} {bv} {bp} e k l keeps =
        omega (arith, linear, keeps.above (omega (arith, linear)))

-- ---- what a list settles

pub settles_member : (directions : List Vec3) (e : Vec3) → Contains directions e →
    Settles directions e
settles_member directions e among u w signs = signs e among

pub settles_zero : (directions : List Vec3) (e : Vec3) → e ≡ zero_vector → Settles directions e
settles_zero directions e is_zero u w signs =
    record { above = λ g. from (none w); below = λ g. to (none w) }
  where
    none : (w : Vec3) → dot_of e w ≡ pos 0
    none w = ap (λ (v : Vec3). dot_of v w) is_zero
        ∙ ring (w.x ∷ w.y ∷ w.z ∷ []) (search reads depth 40) refl

    from : {a : ℤ} → a ≡ pos 0 → pos 0 ≤ℤ a
    from {a} e = omega (arith, linear)

    to : {a : ℤ} → a ≡ pos 0 → a ≤ℤ pos 0
    to {a} e = omega (arith, linear)

keeps_trans : {a b c : ℤ} → Keeps a b → Keeps b c → Keeps a c
keeps_trans f g = record { above = λ h. g.above (f.above h); below = λ h. g.below (f.below h) }

keeps_turned : {a b : ℤ} → Keeps a b → Keeps (neg_ℤ a) (neg_ℤ b)
keeps_turned {a} {b} keeps = record {
  above = λ g. omega (arith, linear, keeps.below (omega (arith, linear)));
  below = λ g. omega (arith, linear, keeps.above (omega (arith, linear)));
}

pub settles_opposite : (directions : List Vec3) (e f : Vec3) → f ≡ opposite_of e →
    Settles directions e → Settles directions f
settles_opposite directions e f is_opposite settles u w signs =
    turned (turns u) (turns w) (settles u w signs)
  where
    turns : (w : Vec3) → dot_of f w ≡ neg_ℤ (dot_of e w)
    turns w = ap (λ (v : Vec3). dot_of v w) is_opposite ∙ opposite_dot e w

    turned : {a b c d : ℤ} → c ≡ neg_ℤ a → d ≡ neg_ℤ b → Keeps a b → Keeps c d
    turned {a} {b} {c} {d} e f keeps = record {
      above = λ g. omega (arith, linear, keeps.below (omega (arith, linear)));
      below = λ g. omega (arith, linear, keeps.above (omega (arith, linear)));
    }

-- a longer list settles what its front settles
pub settles_more : (front back : List Vec3) (e : Vec3) → Settles front e → Settles (front ++ back) e
settles_more front back e settles u w signs =
    settles u w (λ f among. signs f (Contains-append_left front back f among))

-- a member settles each vector along it
pub settles_along : (directions : List Vec3) (c v : Vec3) → Contains directions c → IsAlong c v →
    Settles directions v
settles_along directions c v among along u w signs =
    multiple (dot_of c c) (dot_of c v) (dot_of c u) (dot_of c w) (dot_of v u)
    (dot_of v w) along.not_zero (times u) (times w) (signs c among)
  where
    line : Along c v
    line = record {
      x = ap (λ (n : Vec3). n.x) along.normal;
      y = ap (λ (n : Vec3). n.y) along.normal;
      z =
          ap (λ (n : Vec3). n.z) along.normal;
    }

    times : (e : Vec3) → dot_of c c *ℤ dot_of v e ≡ dot_of c v *ℤ dot_of c e
    times e = ap (λ (z : ℤ). dot_of c c *ℤ z) (commutes v e) ∙ one_line c v line e
        ∙ ap (λ (z : ℤ). dot_of c v *ℤ z) (commutes e c)

    multiple : (k m cu cw vu vw : ℤ) → pos 0 <ℤ k → k *ℤ vu ≡ m *ℤ cu → k *ℤ vw ≡ m *ℤ cw →
        Keeps cu cw → Keeps vu vw
    multiple k m cu cw vu vw k_above e f keeps =
        by_lt_z (pos 0) m ahead (λ g. by_lt_z m (pos 0) behind (λ h. none (omega (arith, linear))))
      where
        ahead : pos 0 <ℤ m → Keeps vu vw
        ahead g = keeps_trans (one_sign k m vu cu k_above g e)
            (keeps_trans keeps (one_sign m k cw vw g k_above (sym f)))

        turns : (a b : ℤ) → a ≡ m *ℤ b → a ≡ neg_ℤ m *ℤ neg_ℤ b
        turns a b g = g ∙ ring (m ∷ b ∷ []) (search reads depth 40) refl

        behind : m <ℤ pos 0 → Keeps vu vw
        behind g =
            let n_above : pos 0 <ℤ neg_ℤ m = omega (arith, linear) in
            keeps_trans (one_sign k (neg_ℤ m) vu (neg_ℤ cu) k_above n_above (turns (k *ℤ vu) cu e))
            (keeps_trans (keeps_turned keeps)
            (one_sign (neg_ℤ m) k (neg_ℤ cw) vw n_above k_above (sym (turns (k *ℤ vw) cw f))))

        none : m ≡ pos 0 → Keeps vu vw
        none g = record { above = λ h. flat.0; below = λ h. flat.1 }
          where
            gone : k *ℤ vw ≡ pos 0 *ℤ k
            gone = f ∙ ap (λ (z : ℤ). z *ℤ cw) g ∙ ring (cw ∷ k ∷ []) (search reads depth 40) refl

            zero : vw ≡ pos 0
            zero = cancel vw (pos 0) k k_above (*ℤ_comm vw k ∙ gone)

            flat : (pos 0 ≤ℤ vw) × (vw ≤ℤ pos 0)
            flat = (omega (arith, linear, zero), omega (arith, linear, zero))

-- ---- the axes

abbrev pub axes : List Vec3
axes = record { x = pos 1; y = pos 0; z = pos 0 } ∷ record
    { x = pos 0; y = pos 1; z = pos 0 } ∷ record { x = pos 0; y = pos 0; z = pos 1 } ∷ []

pub axes_pushed : {k l m n : List Vec3} → k ≡ [] → l ≡ k ++ get_or axes 0 zero_vector ∷ [] →
    m ≡ l ++ get_or axes 1 zero_vector ∷ [] → n ≡ m ++ get_or axes 2 zero_vector ∷ [] → n ≡ axes
axes_pushed e f g h =
    h ∙ ap (λ (x : List Vec3). x ++ get_or axes 2 zero_vector ∷ [])
    (g ∙ ap (λ (x : List Vec3). x ++ get_or axes 1 zero_vector ∷ [])
    (f ∙ ap (λ (x : List Vec3). x ++ get_or axes 0 zero_vector ∷ []) e))

pub axes_span : (directions : List Vec3) → directions ≡ axes → Spans directions
axes_span directions is_axes x flat y =
    flat_product (component 0 first (omega arith)) (component 1 second (omega arith))
    (component 2 third (omega arith))
  where
    first : dot_of (get_or axes 0 zero_vector) x ≡ x.x
    first = ring (x.x ∷ x.y ∷ x.z ∷ []) (search reads depth 40) refl

    second : dot_of (get_or axes 1 zero_vector) x ≡ x.y
    second = ring (x.x ∷ x.y ∷ x.z ∷ []) (search reads depth 40) refl

    third : dot_of (get_or axes 2 zero_vector) x ≡ x.z
    third = ring (x.x ∷ x.y ∷ x.z ∷ []) (search reads depth 40) refl

    among : (k : ℕ) → k < 3 → Contains directions (get_or axes k zero_vector)
    among k h = let P : List Vec3 → Type 0 =
        λ l. Contains l (get_or axes k zero_vector) in
        subst P (sym is_axes) (Contains-get_or axes k zero_vector h)

    component : (k : ℕ) {a : ℤ} → dot_of (get_or axes k zero_vector) x ≡ a → k < 3 → a ≡ pos 0
    component k e h = sym e ∙ flat (get_or axes k zero_vector) (among k h)

    flat_product : x.x ≡ pos 0 → x.y ≡ pos 0 → x.z ≡ pos 0 → dot_of x y ≡ pos 0
    flat_product e f g =
        ap (λ (v : Vec3). dot_of v y) (same_vector {b = zero_vector} e f g)
        ∙ ring (y.x ∷ y.y ∷ y.z ∷ []) (search reads depth 40) refl

-- ---- more directions, and one point more

-- each of the first list is among the second
abbrev pub Within : List Vec3 → List Vec3 → Type 0
Within before after = (e : Vec3) → Contains before e → Contains after e

pub spans_within : (before after : List Vec3) → Within before after → Spans before → Spans after
spans_within before after within spans x flat = spans x (λ e among. flat e (within e among))

pub settles_within : (before after : List Vec3) → Within before after → (e : Vec3) →
    Settles before e → Settles after e
settles_within before after within e settles u w signs =
    settles u w (λ f among. signs f (within f among))

pub differences_within : (before after : List Vec3) → Within before after → (list : List Vec3) →
    SettlesDifferences before list → SettlesDifferences after list
differences_within before after within list settled a b f g =
    settles_within before after within (difference_of a b) (settled a b f g)

pub greatest_within : (before after : List Vec3) → Within before after → (list : List Vec3) →
    KeepsGreatest before list → KeepsGreatest after list
greatest_within before after within list keeps u w signs =
    keeps u w (λ e among. signs e (within e among))

-- the new directions are the old ones and more, which settle a point and its differences with the
-- points before it
pub record IsAdded (before after front : List Vec3) (point : Vec3) : Type 0 where
  pub within : Within before after
  pub itself : Settles after point
  pub differences : (q : Vec3) → Contains front q → Settles after (difference_of point q)

pub within_all : (before after : List Vec3) → All (Contains after) before → Within before after
within_all before after kept e among = All-contains (Contains after) before e kept among

pub all_within : (before after : List Vec3) → Within before after → All (Contains after) before
all_within before after within k d h = within (get_or before k d) (Contains-get_or before k d h)

pub is_added : (before middle after front : List Vec3) (point : Vec3) → Within before middle →
    Settles middle point → Within middle after →
    All (λ other. Settles after (difference_of point other)) front →
    IsAdded before after front point
is_added before middle after front point first settled second differences = record {
  within = λ v among. second v (first v among);
  itself = settles_within middle after second point settled;
  differences = λ q among. All-contains
      (λ other. Settles after (difference_of point other)) front q differences among;
}

module _ (before after front : List Vec3) (point : Vec3)
    (added : IsAdded before after front point) where
  with_itself : Settles after (difference_of point point)
  with_itself = settles_zero after (difference_of point point)
      (same_vector (none point.x) (none point.y) (none point.z))
    where
      none : (a : ℤ) → a -ℤ a ≡ pos 0
      none a = omega (arith, linear)

  with_point : (q : Vec3) → IsPoint front q → Settles after (difference_of point q)
  with_point q (inl origin) =
      let P : Vec3 → Type 0 = Settles after in
      subst P (same_vector (less point.x) (less point.y) (less point.z)
      ∙ ap (difference_of point) (sym origin)) added.itself
    where
      less : (a : ℤ) → a ≡ a -ℤ pos 0
      less a = omega (arith, linear)
  with_point q (inr among) = added.differences q among

  to_point : (q : Vec3) → IsPoint front q → Settles after (difference_of q point)
  to_point q f = settles_opposite after (difference_of point q) (difference_of q point)
      (same_vector (turns q.x point.x) (turns q.y point.y) (turns q.z point.z)) (with_point q f)
    where
      turns : (a b : ℤ) → a -ℤ b ≡ neg_ℤ (b -ℤ a)
      turns a b = omega (arith, linear)

  front_or_point : (v : Vec3) → IsPoint (front ++ point ∷ []) v → IsPoint front v ⊎ (point ≡ v)
  front_or_point v (inl origin) = inl (inl origin)
  front_or_point v (inr among) =
      elim (Contains-push_cases front point v among) [ inl f ↦ inl (inr f) | inr e ↦ inr e ]

  -- the directions settle the differences of one point more
  pub differences_more : SettlesDifferences before front →
      SettlesDifferences after (front ++ point ∷ [])
  differences_more settled a b f g = both (front_or_point a f) (front_or_point b g)
    where
      both : IsPoint front a ⊎ (point ≡ a) → IsPoint front b ⊎ (point ≡ b) →
          Settles after (difference_of a b)
      both (inl f) (inl g) = settles_within before after added.within (difference_of a b)
          (settled a b f g)
      both (inl f) (inr e) = let P : Vec3 → Type 0 =
          λ b. Settles after (difference_of a b) in subst P e (to_point a f)
      both (inr e) (inl g) = let P : Vec3 → Type 0 =
          λ a. Settles after (difference_of a b) in subst P e (with_point b g)
      both (inr e) (inr k) =
          let P : Vec3 → Type 0 = λ a. Settles after (difference_of a b) in
          let Q : Vec3 → Type 0 = λ b. Settles after (difference_of point b) in
          subst P e (subst Q k with_itself)

-- no point but the origin
pub differences_none : (directions : List Vec3) → SettlesDifferences directions []
differences_none directions a b f g =
    settles_zero directions (difference_of a b)
    (ap₂ difference_of (origin a f) (origin b g)
    ∙ same_vector {b = zero_vector} (none) (none) (none))
  where
    origin : (v : Vec3) → IsPoint [] v → v ≡ zero_vector
    origin v (inl e) = e
    origin v (inr among) = none_among v among

    none : pos 0 -ℤ pos 0 ≡ pos 0
    none = omega (arith, linear)

-- ---- how many there are: after p points of a list p·(p + 1)/2 more

pub room_for_point : (start now pushed p : ℕ) → start + 36 ≤ 435 →
    2 * now ≤ 2 * start + p * (p + 1) → pushed ≤ now + 1 → p < 8 → pushed + p ≤ 435
room_for_point start now pushed p room few e h = omega (arith, mul-le-mul_left p (eight h))
  where
    eight : p < 8 → p + 1 ≤ 8
    eight h = omega arith

pub few_more : (start now pushed after p : ℕ) → 2 * now ≤ 2 * start + p * (p + 1) →
    pushed ≤ now + 1 → after ≤ pushed + p → 2 * after ≤ 2 * start + (p + 1) * (p + 1 + 1)
few_more start now pushed after p few e f = omega arith

pub few_at_end : (start now p : ℕ) → 2 * now ≤ 2 * start + p * (p + 1) →
    now ≤ start + p * (p + 1) / 2
few_at_end start now p few = omega arith

pub eight_differences : (p : ℕ) → p ≤ 8 → p * (p + 1) / 2 ≤ 36
eight_differences p h = omega (arith, mul-le-mul_left p (nine h), mul-le-mul_left 9 h)
  where
    nine : p ≤ 8 → p + 1 ≤ 9
    nine h = omega arith

-- there are at least the axes
at_least_start : (start : ℕ) (lists : List (List Vec3)) →
    start ≤ fold (λ count list. count + directions_in list) start lists
at_least_start start [] = omega arith
at_least_start start (list ∷ lists) =
    let more = at_least_start (start + directions_in list) lists in omega arith

pub directions_from_3 : (lists : List (List Vec3)) → 3 ≤ directions_of lists
directions_from_3 lists = at_least_start 3 lists
