-- The order of points, and the farthest points of lists, one element more.
use Rattle.std.proofs.Common.{◌≡◌, ◌≢◌, ◌⊎◌, inl, inr, ℕ, zero, suc, ◌+◌, ◌<◌, ◌≤◌, ℤ, ◌≤ℤ◌, ◌<ℤ◌}
use Rattle.std.proofs.Common.{IsTrue, IsFalse, List, [], ◌∷◌, ◌++◌, length, take, get_or, sym, ap}
use Rattle.std.proofs.Common.{subst, ◌∙◌, refl, arith}
use Rattle.std.specs.Prelude.{Contains}
use Rattle.std.proofs.lemmas.Int.{by_lt_z, ints}
use Rattle.std.proofs.lemmas.List.{take_more}
use Rattle.std.proofs.lemmas.List.Elements.{Contains-push_cases}
use Rattle.int_ring.proofs.Laws.{linear}
use Rattle.int_ring.proofs.Ring.{ring, reads}
use lib.Signed.{lt_z}
use Rattle.wrench_geometry.specs.declared.vector.Vec3.{Vec3}
use Rattle.wrench_geometry.specs.Vectors.{cross_of, dot_of, greatest_of, sum_of, zero_vector}
use Rattle.wrench_geometry.specs.Wrenches.{AreImages, image_at, sum_at}
use Rattle.wrench_geometry.specs.Vertices.{ArePlaces}
use Rattle.wrench_geometry.proofs.VertexSums.{ArePlaces-append, SumSoFar, next_sum, sum_at-append}
use Rattle.separation.specs.Directions.{IsPoint}
use Rattle.separation.proofs.Members.{among_head, among_tail, none_among}
use Rattle.separation.proofs.Supports.{greatest_is}
use Rattle.exit_point.specs.declared.orders.Order.{Order}
use Rattle.exit_point.specs.Orders.{AreFarthest, IsFarthest, IsNoFarther}

-- ---- numbers

pub less : {a b x y : ℤ} → a ≡ x → b ≡ y → IsTrue (lt_z a b) → x <ℤ y
less {a} {b} {x} {y} e f t = omega (arith, ints)

pub not_less : {a b x y : ℤ} → a ≡ x → b ≡ y → IsFalse (lt_z a b) → y ≤ℤ x
not_less {a} {b} {x} {y} e f t = omega (arith, ints)

pub greater : {a b x y : ℤ} → a ≡ x → b ≡ y → a ≢ b → IsFalse (lt_z a b) → y <ℤ x
greater {a} {b} {x} {y} e f n t =
    by_lt_z y x (λ h. h) (λ h. absurd (n (omega (arith, ints))))

pub at_most : {x y : ℤ} → x <ℤ y → x ≤ℤ y
at_most h = omega (arith, linear)

-- ---- the order

pub no_farther_first : (o : Order) (p v : Vec3) → dot_of o.w p <ℤ dot_of o.w v → IsNoFarther o p v
no_farther_first o p v below = record {
  first = omega (arith, linear);
  second = λ e. absurd (omega (arith, linear, e));
  third = λ e f. absurd (omega (arith, linear, e));
}

pub no_farther_second : (o : Order) (p v : Vec3) → dot_of o.w p ≡ dot_of o.w v →
    dot_of o.u p <ℤ dot_of o.u v → IsNoFarther o p v
no_farther_second o p v same below = record {
  first = omega (arith, linear);
  second = λ e. omega (arith, linear);
  third = λ e f. absurd (omega (arith, linear, f));
}

pub no_farther_third : (o : Order) (p v : Vec3) → dot_of o.w p ≡ dot_of o.w v →
    dot_of o.u p ≡ dot_of o.u v →
    dot_of o.w (cross_of o.t p) ≤ℤ dot_of o.w (cross_of o.t v) → IsNoFarther o p v
no_farther_third o p v same same_u at_most = record {
  first = omega (arith, linear);
  second = λ e. omega (arith, linear);
  third = λ e f. at_most;
}

pub no_farther_itself : (o : Order) (p : Vec3) → IsNoFarther o p p
no_farther_itself o p =
    no_farther_third o p p refl refl (omega (arith, linear))

between : {a b c : ℤ} → a ≤ℤ b → b ≤ℤ c → a ≡ c → (a ≡ b) × (b ≡ c)
between {a} {b} {c} f g e = (omega (arith, linear), omega (arith, linear))

at_most_both : {a b c : ℤ} → a ≤ℤ b → b ≤ℤ c → a ≤ℤ c
at_most_both {a} {b} {c} f g = omega (arith, linear)

pub no_farther_trans : (o : Order) (p q r : Vec3) → IsNoFarther o p q → IsNoFarther o q r →
    IsNoFarther o p r
no_farther_trans o p q r f g = record {
  first = at_most_both f.first g.first;
  second = λ e. let on = between f.first g.first e in
      at_most_both (f.second on.0) (g.second on.1);
  third = λ e k.
      let on = between f.first g.first e in
      let level = between (f.second on.0) (g.second on.1) k in
      at_most_both (f.third on.0 level.0) (g.third on.1 level.1);
}

-- ---- the farthest point of a list

pub point_at : (list : List Vec3) (place : ℕ) → IsPoint list (image_at list place)
point_at [] place = inl refl
point_at (v ∷ list) zero = inr (among_head v list)
point_at (v ∷ list) (suc place) = later (point_at list place)
  where
    later : IsPoint list (image_at list place) → IsPoint (v ∷ list) (image_at list place)
    later (inl origin) = inl origin
    later (inr among) = inr (among_tail v list (image_at list place) among)

pub past_last : (list : List Vec3) → image_at list (length list) ≡ zero_vector
past_last [] = refl
past_last (v ∷ list) = past_last list

pub none_farther : (o : Order) (v : Vec3) → v ≡ zero_vector → IsFarthest o [] v
none_farther o v origin p (inl e) = let P : Vec3 → Type 0 = λ q. IsNoFarther o q v in
    subst P (origin ∙ sym e) (no_farther_itself o v)
none_farther o v origin p (inr among) = none_among p among

pub point_more : (list : List Vec3) (i : ℕ) (p : Vec3) → i < length list →
    IsPoint (take (i + 1) list) p → IsPoint (take i list) p ⊎ (get_or list i zero_vector ≡ p)
point_more list i p h (inl origin) = inl (inl origin)
point_more list i p h (inr among) =
    let P : List Vec3 → Type 0 = λ l. Contains l p in
    cases (Contains-push_cases (take i list) (get_or list i zero_vector) p
    (subst P (take_more list i zero_vector h) among))
  where
    cases : Contains (take i list) p ⊎ (get_or list i zero_vector ≡ p) →
        IsPoint (take i list) p ⊎ (get_or list i zero_vector ≡ p)
    cases (inl front) = inl (inr front)
    cases (inr last) = inr last

pub next_farthest : (o : Order) (list : List Vec3) (i : ℕ) (v next : Vec3) → i < length list →
    IsFarthest o (take i list) v → IsNoFarther o v next →
    IsNoFarther o (get_or list i zero_vector) next → IsFarthest o (take (i + 1) list) next
next_farthest o list i v next h so old last p point = cases (point_more list i p h point)
  where
    cases : IsPoint (take i list) p ⊎ (get_or list i zero_vector ≡ p) → IsNoFarther o p next
    cases (inl front) = no_farther_trans o p v next (so p front) old
    cases (inr same) = let P : Vec3 → Type 0 = λ q. IsNoFarther o q next in subst P same last

pub farthest_greatest : (o : Order) (list : List Vec3) (place : ℕ) →
    IsFarthest o list (image_at list place) →
    dot_of o.w (image_at list place) ≡ greatest_of o.w list
farthest_greatest o list place is =
    sym (greatest_is o.w list (image_at list place) (point_at list place)
    (λ p point. (is p point).first))

-- ---- the farthest points of lists

pub AreFarthest-append : (o : Order) (lists : List (List Vec3)) (places : List ℕ)
    (list : List Vec3) (place : ℕ) → AreFarthest o lists places →
    IsFarthest o list (image_at list place) →
    AreFarthest o (lists ++ list ∷ []) (places ++ place ∷ [])
AreFarthest-append o [] [] list place h k = (k, tt)
AreFarthest-append o [] (p ∷ places) list place h k = absurd h
AreFarthest-append o (l ∷ lists) [] list place h k = absurd h
AreFarthest-append o (l ∷ lists) (p ∷ places) list place h k =
    (h.0, AreFarthest-append o lists places list place h.1 k)

-- what is known of the farthest points of the first i lists
pub record FarthestSoFar (o : Order) (lists : List (List Vec3)) (i : ℕ) (chosen : List ℕ)
    (point : Vec3) : Type 0 where
  pub sum : SumSoFar o.w lists i chosen point
  pub farthest : AreFarthest o (take i lists) chosen

pub no_farthest : (o : Order) (lists : List (List Vec3)) (chosen : List ℕ) (point : Vec3) →
    chosen ≡ [] → point ≡ zero_vector → FarthestSoFar o lists 0 chosen point
no_farthest o lists chosen point none origin =
    rw (none, origin) (record {
      sum = record {
        places = tt;
        sum = refl;
        farthest = ring (o.w.x ∷ o.w.y ∷ o.w.z ∷ []) (search reads depth 40) refl;
        within = record {
          x = record { low = omega (arith, ints); high = omega (arith, ints) };
          y = record { low = omega (arith, ints); high = omega (arith, ints) };
          z = record { low = omega (arith, ints); high = omega (arith, ints) };
        };
      };
      farthest = tt;
    })

pub next_farthest_sum : (o : Order) (lists : List (List Vec3)) (i : ℕ) (d : List Vec3)
    (chosen : List ℕ) (point : Vec3) (place : ℕ) → i < length lists →
    AreImages (get_or lists i d) → FarthestSoFar o lists i chosen point →
    place ≤ length (get_or lists i d) →
    IsFarthest o (get_or lists i d) (image_at (get_or lists i d) place) →
    FarthestSoFar o lists (i + 1) (chosen ++ place ∷ [])
    (sum_of point (image_at (get_or lists i d) place))
next_farthest_sum o lists i d chosen point place h images so p is =
    let more = take_more lists i d h in
    record {
      sum = next_sum o.w lists i d chosen point place h images so.sum p
          (farthest_greatest o (get_or lists i d) place is);
      farthest = rw more
          (AreFarthest-append o (take i lists) chosen (get_or lists i d) place so.farthest is);
    }

-- ---- the origins of lists

pub record OriginSoFar (lists : List (List Vec3)) (i : ℕ) (chosen : List ℕ) : Type 0 where
  pub places : ArePlaces (take i lists) chosen
  pub sum : zero_vector ≡ sum_at (take i lists) chosen

pub no_origin : (lists : List (List Vec3)) (chosen : List ℕ) → chosen ≡ [] →
    OriginSoFar lists 0 chosen
no_origin lists chosen none = rw none (record { places = tt; sum = refl })

pub next_origin : (lists : List (List Vec3)) (i : ℕ) (d : List Vec3) (chosen : List ℕ) →
    i < length lists → OriginSoFar lists i chosen →
    OriginSoFar lists (i + 1) (chosen ++ length (get_or lists i d) ∷ [])
next_origin lists i d chosen h so =
    let list = get_or lists i d in
    let more = take_more lists i d h in
    record {
      places = rw more
          (ArePlaces-append (take i lists) chosen list (length list) so.places (omega arith));
      sum = ap (λ (v : Vec3). sum_of v zero_vector) so.sum
          ∙ ap (sum_of (sum_at (take i lists) chosen)) (sym (past_last list))
          ∙ sym (sum_at-append (take i lists) chosen list (length list) so.places)
          ∙ ap (λ (l : List (List Vec3)). sum_at l (chosen ++ length list ∷ [])) (sym more);
    }
