-- One move of a vector to a wall: to where one more member of a direction list is perpendicular to
-- it.
--
-- `h` is any function of vectors, later the support of some lists. d is the demand, and the
-- quotient of a vector w with
-- w·d of at least 1 is h(w) over w·d.
use Rattle.std.proofs.Common.{◌≡◌, ◌≢◌, ◌⊎◌, inl, inr, ℤ, pos, negsuc, ◌+ℤ◌, ◌-ℤ◌, ◌*ℤ◌, neg_ℤ}
use Rattle.std.proofs.Common.{◌≤ℤ◌, ◌<ℤ◌, List, [], ◌∷◌, refl, sym, subst, ap, ◌∙◌, arith}
use Rattle.std.proofs.lemmas.Int.{by_lt_z}
use Rattle.std.specs.Prelude.{Contains}
use Rattle.int_ring.proofs.Laws.{linear, mul_nonneg, mul_pos}
use Rattle.int_ring.proofs.Order.{mul_le_right, mul_le_left, mul_nonpos}
use Rattle.int_ring.proofs.Ring.{ring, reads}
use Rattle.wrench_geometry.specs.declared.vector.Vec3.{Vec3}
use Rattle.wrench_geometry.specs.Vectors.{opposite_of, dot_of, sum_of, scaled_by}
use Rattle.separation.specs.Directions.{Keeps, KeepsSigns, Spans}
use Rattle.separation.proofs.Members.{IsLeastQuotient, least_quotient}

-- ---- signs that are kept

-- what the theorem asks of a list: only the zero vector is perpendicular to all members, and where
-- signs are kept h is linear
pub record IsDirectionList (h : Vec3 → ℤ) (directions : List Vec3) : Type 0 where
  pub spans : Spans directions
  pub from_0 : (w : Vec3) → pos 0 ≤ℤ h w
  pub linear_at : (u : Vec3) → (v : Vec3) ×
      ((w : Vec3) → KeepsSigns directions u w → h w ≡ dot_of v w)

pub keeps_same : (directions : List Vec3) (u : Vec3) → KeepsSigns directions u u
keeps_same directions u e among = record { above = λ g. g; below = λ g. g }

-- ---- u moved along x, k of the one and m of the other

abbrev pub moved : ℤ → Vec3 → ℤ → Vec3 → Vec3
moved k u m x = sum_of (scaled_by k u) (scaled_by m x)

pub dot_moved : (k : ℤ) (u : Vec3) (m : ℤ) (x e : Vec3) →
    dot_of e (moved k u m x) ≡ k *ℤ dot_of e u +ℤ m *ℤ dot_of e x
dot_moved k u m x e = ring (k ∷ m ∷ u.x ∷ u.y ∷ u.z ∷ x.x ∷ x.y ∷ x.z ∷ e.x ∷ e.y ∷ e.z ∷ [])
    (search reads depth 40) refl

pub moved_dot : (k : ℤ) (u : Vec3) (m : ℤ) (x e : Vec3) →
    dot_of (moved k u m x) e ≡ k *ℤ dot_of u e +ℤ m *ℤ dot_of x e
moved_dot k u m x e = ring (k ∷ m ∷ u.x ∷ u.y ∷ u.z ∷ x.x ∷ x.y ∷ x.z ∷ e.x ∷ e.y ∷ e.z ∷ [])
    (search reads depth 40) refl

pub commutes : (a b : Vec3) → dot_of a b ≡ dot_of b a
commutes a b = ring (a.x ∷ a.y ∷ a.z ∷ b.x ∷ b.y ∷ b.z ∷ []) (search reads depth 40) refl

pub dot_opposite : (e x : Vec3) → dot_of e (opposite_of x) ≡ neg_ℤ (dot_of e x)
dot_opposite e x = ring (x.x ∷ x.y ∷ x.z ∷ e.x ∷ e.y ∷ e.z ∷ []) (search reads depth 40) refl

pub opposite_dot : (x e : Vec3) → dot_of (opposite_of x) e ≡ neg_ℤ (dot_of x e)
opposite_dot x e = ring (x.x ∷ x.y ∷ x.z ∷ e.x ∷ e.y ∷ e.z ∷ []) (search reads depth 40) refl

-- ---- how far a member's wall is

-- a, turned round where s is below 0
abbrev pub turned : ℤ → ℤ → ℤ
turned (pos s) a = a
turned (negsuc s) a = neg_ℤ a

turned_above : (s a : ℤ) → pos 0 ≤ℤ s → turned s a ≡ a
turned_above (pos s) a g = refl
turned_above (negsuc s) a g = absurd (omega (arith, linear))

turned_below : (s a : ℤ) → s <ℤ pos 0 → turned s a ≡ neg_ℤ a
turned_below (pos s) a g = absurd (omega (arith, linear))
turned_below (negsuc s) a g = refl

turned_own : (s : ℤ) → pos 0 ≤ℤ turned s s
turned_own (pos s) = omega (arith, linear)
turned_own (negsuc s) = omega (arith, linear)

-- the wall of a member whose products with u and x are s and a stands distance over speed along x,
-- where the speed is above 0
abbrev pub distance : ℤ → ℤ
distance s = turned s s

abbrev pub speed : ℤ → ℤ → ℤ
speed s a = neg_ℤ (turned s a)

-- at a wall that stands no farther than its own, a member keeps its sign
sign_kept : (p r s a : ℤ) → pos 0 ≤ℤ p → pos 0 <ℤ r →
    (pos 0 <ℤ speed s a → (p *ℤ speed s a) ≤ℤ (distance s *ℤ r)) →
    (s ≡ pos 0 → a ≡ pos 0) → Keeps s (r *ℤ s +ℤ p *ℤ a)
sign_kept p r s a p_from_0 r_above near flat = record { above = above; below = below }
  where
    room : (q t : ℤ) → pos 0 ≤ℤ q → (pos 0 <ℤ t → (p *ℤ t) ≤ℤ (q *ℤ r)) → (p *ℤ t) ≤ℤ (q *ℤ r)
    room q t q_from_0 k =
        by_lt_z (pos 0) t k
        (λ t_below. omega (
          arith,
          linear,
          mul_nonpos p t p_from_0 t_below,
          mul_nonneg q r q_from_0
              (omega (arith, linear)),
        ))

    above : pos 0 ≤ℤ s → pos 0 ≤ℤ (r *ℤ s +ℤ p *ℤ a)
    above g =
        let there = room (distance s) (speed s a) (turned_own s) near in
        let e = turned_above s s g in
        let f = turned_above s a g in
        let product : p *ℤ speed s a ≡ neg_ℤ (p *ℤ a) =
        ap (λ (z : ℤ). p *ℤ neg_ℤ z) f ∙ ring (p ∷ a ∷ []) (search reads depth 40) refl in
        let other : distance s *ℤ r ≡ r *ℤ s =
        ap (λ (z : ℤ). z *ℤ r) e ∙ ring (r ∷ s ∷ []) (search reads depth 40) refl in
        omega (arith, linear)

    strictly_below : s <ℤ pos 0 → (r *ℤ s +ℤ p *ℤ a) ≤ℤ pos 0
    strictly_below g =
        let there = room (distance s) (speed s a) (turned_own s) near in
        let e = turned_below s s g in
        let f = turned_below s a g in
        let product : p *ℤ speed s a ≡ p *ℤ a =
        ap (λ (z : ℤ). p *ℤ neg_ℤ z) f ∙ ring (p ∷ a ∷ []) (search reads depth 40) refl in
        let other : distance s *ℤ r ≡ neg_ℤ (r *ℤ s) =
        ap (λ (z : ℤ). z *ℤ r) e ∙ ring (r ∷ s ∷ []) (search reads depth 40) refl in
        omega (arith, linear)

    at_0 : s ≡ pos 0 → (r *ℤ s +ℤ p *ℤ a) ≤ℤ pos 0
    at_0 e =
        let first : r *ℤ s ≡ pos 0 = ap (λ (z : ℤ). r *ℤ z) e
        ∙ ring (r ∷ []) (search reads depth 40) refl in
        let second : p *ℤ a ≡ pos 0 = ap (λ (z : ℤ). p *ℤ z) (flat e)
        ∙ ring (p ∷ []) (search reads depth 40) refl in
        omega (arith, linear)

    below : s ≤ℤ pos 0 → (r *ℤ s +ℤ p *ℤ a) ≤ℤ pos 0
    below g = by_lt_z s (pos 0) strictly_below (λ k. at_0 (omega (arith, linear)))

-- the wall is reached there
wall_reached : (s a : ℤ) → speed s a *ℤ s +ℤ distance s *ℤ a ≡ pos 0
wall_reached s a =
    by_lt_z s (pos 0)
    (λ g. ap (λ (z : ℤ). neg_ℤ z *ℤ s +ℤ distance s *ℤ a) (turned_below s a g)
    ∙ ap (λ (z : ℤ). neg_ℤ (neg_ℤ a) *ℤ s +ℤ z *ℤ a) (turned_below s s g)
    ∙ ring (s ∷ a ∷ []) (search reads depth 40) refl)
    (λ g. ap (λ (z : ℤ). neg_ℤ z *ℤ s +ℤ distance s *ℤ a) (turned_above s a g)
    ∙ ap (λ (z : ℤ). neg_ℤ a *ℤ s +ℤ z *ℤ a) (turned_above s s g)
    ∙ ring (s ∷ a ∷ []) (search reads depth 40) refl)

speed_0 : (s a : ℤ) → a ≡ pos 0 → speed s a ≡ pos 0
speed_0 (pos s) a e = omega (arith, linear)
speed_0 (negsuc s) a e = omega (arith, linear)

still : (s a : ℤ) → speed s a ≤ℤ pos 0 → speed s (neg_ℤ a) ≤ℤ pos 0 → a ≡ pos 0
still (pos s) a g k = omega (arith, linear)
still (negsuc s) a g k = omega (arith, linear)

-- ---- the move

-- u stands where h is that sum of products, and x is a way along which the demand's product stays
-- and no member leaves its wall
record Way (h : Vec3 → ℤ) (directions : List Vec3) (d u x : Vec3) : Type 0 where
  level : dot_of x d ≡ pos 0
  flat : (e : Vec3) → Contains directions e → dot_of e u ≡ pos 0 → dot_of e x ≡ pos 0

-- where a move ends: on a member's wall that x crosses, with a quotient that is at most u's, and
-- with the members that stood on a wall still there
pub record Reached (h : Vec3 → ℤ) (directions : List Vec3) (d u x : Vec3) : Type 0 where
  pub end : Vec3
  pub wall : Vec3
  pub among : Contains directions wall
  pub on_wall : dot_of wall end ≡ pos 0
  pub crossed : dot_of wall x ≢ pos 0
  pub ahead : pos 1 ≤ℤ dot_of end d
  pub quotient : (h end *ℤ dot_of u d) ≤ℤ (h u *ℤ dot_of end d)
  pub kept : (e : Vec3) → Contains directions e → dot_of e u ≡ pos 0 → dot_of e end ≡ pos 0

-- h of the end is r times that of u and p times vx, of which vx is not above 0; hd is the end's
-- product with the demand
quotient_kept : (end hu vx r p ud xd hd : ℤ) → end ≡ r *ℤ hu +ℤ p *ℤ vx → hd ≡ r *ℤ ud +ℤ p *ℤ xd →
    xd ≡ pos 0 → vx ≤ℤ pos 0 → pos 0 ≤ℤ p → pos 1 ≤ℤ ud →
    (end *ℤ ud) ≤ℤ (hu *ℤ hd)
quotient_kept end hu vx r p ud xd hd is_end is_hd level down p_from_0 ahead =
    let falls : (p *ℤ vx) ≤ℤ pos 0 = mul_nonpos p vx p_from_0 down in
    let below : end ≤ℤ (r *ℤ hu) = omega (arith, linear) in
    let times : (end *ℤ ud) ≤ℤ (r *ℤ hu *ℤ ud) =
    mul_le_right end (r *ℤ hu) ud below (omega (arith, linear)) in
    let gone : p *ℤ xd ≡ pos 0 = ap (λ (z : ℤ). p *ℤ z) level
    ∙ ring (p ∷ []) (search reads depth 40) refl in
    let same : hd ≡ r *ℤ ud = omega (arith, linear) in
    let other : hu *ℤ hd ≡ r *ℤ hu *ℤ ud =
    ap (λ (z : ℤ). hu *ℤ z) same ∙ ring (hu ∷ r ∷ ud ∷ []) (search reads depth 40) refl in
    omega (arith, linear)

ahead_kept : (r p ud xd hd : ℤ) → hd ≡ r *ℤ ud +ℤ p *ℤ xd → xd ≡ pos 0 → pos 0 <ℤ r → pos 1 ≤ℤ ud →
    pos 1 ≤ℤ hd
ahead_kept r p ud xd hd is_hd level r_above ahead =
    let gone : p *ℤ xd ≡ pos 0 = ap (λ (z : ℤ). p *ℤ z) level
    ∙ ring (p ∷ []) (search reads depth 40) refl in
    omega (arith, linear, mul_pos r ud r_above (omega (arith, linear)))

-- the signs that a move keeps, of the members whose walls stand no nearer
signs_kept : (directions : List Vec3) (u x : Vec3) (p r : ℤ) → pos 0 ≤ℤ p → pos 0 <ℤ r →
    ((e : Vec3) → Contains directions e → pos 0 <ℤ speed (dot_of e u) (dot_of e x) →
    (p *ℤ speed (dot_of e u) (dot_of e x)) ≤ℤ (distance (dot_of e u) *ℤ r)) →
    ((e : Vec3) → Contains directions e → dot_of e u ≡ pos 0 → dot_of e x ≡ pos 0) →
    KeepsSigns directions u (moved r u p x)
signs_kept directions u x p r p_from_0 r_above near flat e among =
    let P : ℤ → Type 0 = λ z. Keeps (dot_of e u) z in
    subst P (sym (dot_moved r u p x e))
    (sign_kept p r (dot_of e u) (dot_of e x) p_from_0 r_above (near e among) (flat e among))

kept_on_wall : {a b : ℤ} → Keeps a b → a ≡ pos 0 → b ≡ pos 0
kept_on_wall {a} {b} keeps e =
    omega (arith, linear, keeps.above (omega (arith, linear)), keeps.below (omega (arith, linear)))

to_wall : (h : Vec3 → ℤ) (directions : List Vec3) (d u x v : Vec3) →
    ((w : Vec3) → KeepsSigns directions u w → h w ≡ dot_of v w) → pos 1 ≤ℤ dot_of u d →
    Way h directions d u x →
    dot_of v x ≤ℤ pos 0 → (e : Vec3) →
    IsLeastQuotient (λ e. distance (dot_of e u))
    (λ e. speed (dot_of e u) (dot_of e x)) directions e → Reached h directions d u x
to_wall h directions d u x v linear_at ahead way down e nearest =
    let p = distance (dot_of e u) in
    let r = speed (dot_of e u) (dot_of e x) in
    let end = moved r u p x in
    let p_from_0 : pos 0 ≤ℤ p = turned_own (dot_of e u) in
    let signs : KeepsSigns directions u end =
    signs_kept directions u x p r p_from_0 nearest.above nearest.least way.flat in
    let at_end : h end ≡ r *ℤ h u +ℤ p *ℤ dot_of v x =
    linear_at end signs ∙ dot_moved r u p x v
    ∙ ap (λ (z : ℤ). r *ℤ z +ℤ p *ℤ dot_of v x) (sym (linear_at u (keeps_same directions u))) in
    record {
      end = end;
      wall = e;
      among = nearest.among;
      on_wall = dot_moved r u p x e ∙ wall_reached (dot_of e u) (dot_of e x);
      crossed = λ flat. not_above (speed_0 (dot_of e u) (dot_of e x) flat) nearest.above;
      ahead = ahead_kept r p (dot_of u d) (dot_of x d) (dot_of end d)
          (moved_dot r u p x d) way.level nearest.above ahead;
      quotient = quotient_kept (h end) (h u) (dot_of v x) r p (dot_of u d) (dot_of x d)
          (dot_of end d) at_end (moved_dot r u p x d) way.level down p_from_0 ahead;
      kept = λ f among wall. kept_on_wall (signs f among) wall;
    }
  where
    not_above : {a : ℤ} → a ≡ pos 0 → pos 0 <ℤ a → ⊥
    not_above {a} g k = omega (arith, linear)

-- where no member's wall stands in the way, h does not fall
no_wall : (h : Vec3 → ℤ) (directions : List Vec3) (u x v : Vec3) →
    ((w : Vec3) → KeepsSigns directions u w → h w ≡ dot_of v w) → ((w : Vec3) → pos 0 ≤ℤ h w) →
    ((e : Vec3) → Contains directions e → dot_of e u ≡ pos 0 → dot_of e x ≡ pos 0) →
    ((e : Vec3) → Contains directions e → speed (dot_of e u) (dot_of e x) ≤ℤ pos 0) →
    pos 0 ≤ℤ dot_of v x
no_wall h directions u x v linear_at from_0 flat none =
    by_lt_z (dot_of v x) (pos 0) (λ g. absurd (falls g)) (λ g. g)
  where
    contradiction : (hu hw vx : ℤ) → pos 0 ≤ℤ hu → pos 0 ≤ℤ hw → vx <ℤ pos 0 →
        hw ≡ pos 1 *ℤ hu +ℤ (hu +ℤ pos 1) *ℤ vx → ⊥
    contradiction hu hw vx g k l e =
        let much : ((hu +ℤ pos 1) *ℤ vx) ≤ℤ ((hu +ℤ pos 1) *ℤ negsuc 0) =
        mul_le_left vx (negsuc 0) (hu +ℤ pos 1) (omega (arith, linear))
        (omega (arith, linear)) in
        let is : (hu +ℤ pos 1) *ℤ negsuc 0 ≡ neg_ℤ hu -ℤ pos 1 =
        ring (hu ∷ []) (search reads depth 40) refl in
        let one : pos 1 *ℤ hu ≡ hu = ring (hu ∷ []) (search reads depth 40) refl in
        omega (arith, linear)

    not_both : {s : ℤ} → s ≤ℤ pos 0 → pos 0 <ℤ s → ⊥
    not_both {s} g k = omega (arith, linear)

    falls : dot_of v x <ℤ pos 0 → ⊥
    falls g =
        let m = h u +ℤ pos 1 in
        let end = moved (pos 1) u m x in
        let signs : KeepsSigns directions u end =
        signs_kept directions u x m (pos 1) (omega (arith, linear, from_0 u))
        (omega (arith, linear)) (λ e among k. absurd (not_both (none e among) k)) flat in
        let at_end : h end ≡ pos 1 *ℤ h u +ℤ m *ℤ dot_of v x =
        linear_at end signs ∙ dot_moved (pos 1) u m x v
        ∙ ap (λ (z : ℤ). pos 1 *ℤ z +ℤ m *ℤ dot_of v x)
        (sym (linear_at u (keeps_same directions u))) in
        contradiction (h u) (h end) (dot_of v x) (from_0 u) (from_0 end) g at_end

-- along x, along which h does not rise, a wall is reached; or h does not fall and no wall stands in
-- the way
toward : (h : Vec3 → ℤ) (directions : List Vec3) (d u x v : Vec3) →
    ((w : Vec3) → KeepsSigns directions u w → h w ≡ dot_of v w) → ((w : Vec3) → pos 0 ≤ℤ h w) →
    pos 1 ≤ℤ dot_of u d → Way h directions d u x →
    dot_of v x ≤ℤ pos 0 → Reached h directions d u x ⊎
    ((pos 0 ≤ℤ dot_of v x) ×
    ((e : Vec3) → Contains directions e → speed (dot_of e u) (dot_of e x) ≤ℤ pos 0))
toward h directions d u x v linear_at from_0 ahead way down =
    elim (least_quotient (λ (e : Vec3). distance (dot_of e u))
    (λ (e : Vec3). speed (dot_of e u) (dot_of e x)) directions) [
      | inl nearest ↦ inl
          (to_wall h directions d u x v linear_at ahead way down nearest.0 nearest.1)
      | inr none ↦ inr (no_wall h directions u x v linear_at from_0 way.flat none, none)
    ]

back : (h : Vec3 → ℤ) (directions : List Vec3) (d u x : Vec3) → Way h directions d u x →
    Way h directions d u (opposite_of x)
back h directions d u x way = record {
  level = opposite_dot x d ∙ ap neg_ℤ way.level;
  flat = λ e among wall. dot_opposite e x ∙ ap neg_ℤ (way.flat e among wall);
}

turned_round : (h : Vec3 → ℤ) (directions : List Vec3) (d u x : Vec3) →
    Reached h directions d u (opposite_of x) → Reached h directions d u x
turned_round h directions d u x there = record {
  end = there.end;
  wall = there.wall;
  among = there.among;
  on_wall = there.on_wall;
  crossed = λ flat. there.crossed (dot_opposite there.wall x ∙ ap neg_ℤ flat);
  ahead = there.ahead;
  quotient = there.quotient;
  kept = there.kept;
}

-- along a line that is no point, one way or the other, a wall is reached
pub move : (h : Vec3 → ℤ) (directions : List Vec3) → IsDirectionList h directions →
    (d u x y : Vec3) → pos 1 ≤ℤ dot_of u d → dot_of x d ≡ pos 0 →
    ((e : Vec3) → Contains directions e → dot_of e u ≡ pos 0 → dot_of e x ≡ pos 0) →
    dot_of x y ≢ pos 0 → Reached h directions d u x
move h directions is d u x y ahead level flat line = by_lt_z (pos 0) (dot_of v x) rises falls
  where
    v : Vec3
    v = (is.linear_at u).0

    linear_at : (w : Vec3) → KeepsSigns directions u w → h w ≡ dot_of v w
    linear_at = (is.linear_at u).1

    way : Way h directions d u x
    way = record { level = level; flat = flat }

    two_ways : (s : ℤ) {a b : ℤ} → b ≡ neg_ℤ a → speed s a ≤ℤ pos 0 → speed s b ≤ℤ pos 0 → a ≡ pos 0
    two_ways s {a} {b} e g k = let P : ℤ → Type 0 =
        λ z. speed s z ≤ℤ pos 0 in still s a g (subst P e k)

    not_both : {a b : ℤ} → b ≡ neg_ℤ a → pos 0 <ℤ a → pos 0 ≤ℤ b → ⊥
    not_both {a} {b} e g k = omega (arith, linear)

    not_above : {a b : ℤ} → b ≡ neg_ℤ a → pos 0 ≤ℤ a → b ≤ℤ pos 0
    not_above {a} {b} e g = omega (arith, linear)

    backward : pos 0 ≤ℤ dot_of v x →
        Reached h directions d u x ⊎
        ((pos 0 ≤ℤ dot_of v (opposite_of x)) ×
        ((e : Vec3) → Contains directions e →
        speed (dot_of e u) (dot_of e (opposite_of x)) ≤ℤ pos 0))
    backward g =
        elim (toward h directions d u (opposite_of x) v linear_at is.from_0 ahead
        (back h directions d u x way) (not_above (dot_opposite v x) g)) [
          | inl there ↦ inl (turned_round h directions d u x there)
          | inr none ↦ inr none
        ]

    rises : pos 0 <ℤ dot_of v x → Reached h directions d u x
    rises g = elim (backward (omega (arith, linear))) [
      | inl there ↦ there
      | inr none ↦ absurd (not_both (dot_opposite v x) g none.0)
    ]

    nowhere : ((e : Vec3) → Contains directions e → speed (dot_of e u) (dot_of e x) ≤ℤ pos 0) →
        ((e : Vec3) → Contains directions e →
        speed (dot_of e u) (dot_of e (opposite_of x)) ≤ℤ pos 0) → ⊥
    nowhere ahead_none back_none =
        line (is.spans x
        (λ e among. two_ways (dot_of e u) (dot_opposite e x) (ahead_none e among)
        (back_none e among)) y)

    falls : dot_of v x ≤ℤ pos 0 → Reached h directions d u x
    falls g = elim (toward h directions d u x v linear_at is.from_0 ahead way g) [
      | inl there ↦ there
      | inr none ↦
          (elim (backward none.0)
          [ inl there ↦ there | inr none_back ↦ absurd (nowhere none.1 none_back.1) ])
    ]
