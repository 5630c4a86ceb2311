-- What greatest products and supports are at least.
use Rattle.std.proofs.Common.{◌≡◌, inl, inr, ℤ, pos, ◌+ℤ◌, ◌≤ℤ◌, List, [], ◌∷◌, map, refl, ap, ◌∙◌}
use Rattle.std.proofs.Common.{arith, subst}
use Rattle.std.specs.Prelude.{fold}
use Rattle.std.specs.Int.{int_max}
use Rattle.std.proofs.lemmas.Int.{ints, clamps}
use Rattle.int_ring.proofs.Laws.{linear}
use Rattle.int_ring.proofs.Ring.{ring, reads}
use Rattle.wrench_geometry.specs.declared.vector.Vec3.{Vec3}
use Rattle.wrench_geometry.specs.Vectors.{dot_of, greatest_of, support_of}
use Rattle.certificate.proofs.Among.{Among}

first_at_most : (a b : ℤ) → a ≤ℤ int_max a b
first_at_most a b = omega (arith, ints, clamps)

second_at_most : (a b : ℤ) → b ≤ℤ int_max a b
second_at_most a b = omega (arith, ints, clamps)

at_most_by : {a b c : ℤ} → a ≤ℤ b → b ≤ℤ c → a ≤ℤ c
at_most_by {a} {b} {c} g h = omega (arith, linear)

start_at_most : (numbers : List ℤ) (start : ℤ) → start ≤ℤ fold int_max start numbers
start_at_most [] start = omega (arith, linear)
start_at_most (z ∷ numbers) start =
    at_most_by (first_at_most start z) (start_at_most numbers (int_max start z))

member_at_most : {X : Type 0} (f : X → ℤ) (list : List X) (start : ℤ) (x : X) → Among list x →
    f x ≤ℤ fold int_max start (map f list)
member_at_most f [] start x among = absurd among
member_at_most f (y ∷ list) start x (inl same) =
    subst (λ (z : _). f z ≤ℤ fold int_max start (map f (y ∷ list))) same
    (at_most_by (second_at_most start (f y)) (start_at_most (map f list) (int_max start (f y))))
member_at_most f (y ∷ list) start x (inr later) =
    member_at_most f list (int_max start (f y)) x later

pub greatest_from_0 : (w : Vec3) (list : List Vec3) → pos 0 ≤ℤ greatest_of w list
greatest_from_0 w list = start_at_most (map (dot_of w) list) (pos 0)

among_map : {X Y : Type 0} (f : X → Y) (list : List X) (x : X) → Among list x →
    Among (map f list) (f x)
among_map f [] x among = absurd among
among_map f (y ∷ list) x (inl same) = inl (ap f same)
among_map f (y ∷ list) x (inr later) = inr (among_map f list x later)

-- the product with the image of a member
pub greatest_at_least : {X : Type 0} (w : Vec3) (f : X → Vec3) (list : List X) (x : X) →
    Among list x → dot_of w (f x) ≤ℤ greatest_of w (map f list)
greatest_at_least w f list x among =
    member_at_most (dot_of w) (map f list) (pos 0) (f x) (among_map f list x among)

sum_from : (numbers : List ℤ) (a b : ℤ) → fold ◌+ℤ◌ (a +ℤ b) numbers ≡ a +ℤ fold ◌+ℤ◌ b numbers
sum_from [] a b = refl
sum_from (z ∷ numbers) a b = ap (λ (y : ℤ). fold ◌+ℤ◌ y numbers) (regroup a b z)
    ∙ sum_from numbers a (b +ℤ z)
  where
    regroup : (a b z : ℤ) → a +ℤ b +ℤ z ≡ a +ℤ (b +ℤ z)
    regroup a b z = ring (a ∷ b ∷ z ∷ []) (search reads depth 40) refl

pub support_cons : (w : Vec3) (list : List Vec3) (lists : List (List Vec3)) →
    support_of (list ∷ lists) w ≡ greatest_of w list +ℤ support_of lists w
support_cons w list lists =
    ap (λ (y : ℤ). fold ◌+ℤ◌ y (map (greatest_of w) lists)) (turned (greatest_of w list))
    ∙ sum_from (map (greatest_of w) lists) (greatest_of w list) (pos 0)
  where
    turned : (g : ℤ) → pos 0 +ℤ g ≡ g +ℤ pos 0
    turned g = ring (g ∷ []) (search reads depth 40) refl
