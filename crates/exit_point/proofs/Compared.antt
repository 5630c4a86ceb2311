-- What the order of two numbers, and equal bits, tell of them.
use Rattle.std.proofs.Common.{◌≡◌, ◌≢◌, ◌&&◌, ℤ, ◌≤ℤ◌, ◌<ℤ◌, SFits, true, false, sym, ap, ap₂, ◌∙◌}
use Rattle.std.proofs.Common.{arith, to_z, of_z}
use mathlib.Core.Bool.{true≢false}
use Rattle.std.specs.Int.{w128}
use Rattle.std.specs.Ordering.{int_cmp, int_eq, is_lt}
use Rattle.std.specs.Cmp.{int_cmp_is}
use Rattle.std.specs.declared.cmp.Ordering.TheVariants.{Less, Equal, Greater}
use Rattle.std.proofs.lemmas.Int.{by_lt_z, to_z-of_z}
use Rattle.std.proofs.lemmas.Bool.{and_parts}
use Rattle.std.proofs.lemmas.Bool.Decides.{Decides-int_eq}
use Rattle.int_ring.proofs.Laws.{linear}
use Rattle.wrench_geometry.specs.declared.vector.Vec3.{Vec3}
use Rattle.wrench_geometry.proofs.Bounds.{same_vector}

pub less_from_cmp : (a b : ℤ) → Less ≡ int_cmp a b → a <ℤ b
less_from_cmp a b e =
    by_lt_z a b (λ h. h)
    (λ g. by_lt_z b a
    (λ h. absurd (true≢false (ap is_lt (e ∙ sym (int_cmp_is a b Greater h)))))
    (λ h. absurd (true≢false (ap is_lt (e ∙ sym (int_cmp_is a b Equal (omega (arith, linear))))))))

pub from_not_less : (a b : ℤ) → (Less ≡ int_cmp a b → ⊥) → b ≤ℤ a
from_not_less a b n = by_lt_z a b (λ h. absurd (n (int_cmp_is a b Less h))) (λ h. h)

pub same_of_bits : {r s x y : ℤ} → r ≡ x → s ≡ y → SFits w128 r → SFits w128 s →
    of_z w128 r ≡ of_z w128 s → x ≡ y
same_of_bits {r} {s} e f fit fit_2 same =
    sym (to_z-of_z w128 r fit ∙ e) ∙ ap (to_z w128) same ∙ to_z-of_z w128 s fit_2 ∙ f

-- the test of two vectors' components
pub same_from_test : (a b : Vec3) →
    true ≡ (int_eq a.x b.x && (int_eq a.y b.y && int_eq a.z b.z)) → a ≡ b
same_from_test a b t =
    let first = and_parts (int_eq a.x b.x) (int_eq a.y b.y && int_eq a.z b.z) (sym t) in
    let rest = and_parts (int_eq a.y b.y) (int_eq a.z b.z) first.1 in
    same_vector ((Decides-int_eq a.x b.x).0 first.0) ((Decides-int_eq a.y b.y).0 rest.0)
    ((Decides-int_eq a.z b.z).0 rest.1)

pub apart_from_test : (a b : Vec3) →
    false ≡ (int_eq a.x b.x && (int_eq a.y b.y && int_eq a.z b.z)) → a ≢ b
apart_from_test a b t e =
    let test = ap₂ ◌&&◌ ((Decides-int_eq a.x b.x).1 (ap (λ (v : Vec3). v.x) e))
    (ap₂ ◌&&◌ ((Decides-int_eq a.y b.y).1 (ap (λ (v : Vec3). v.y) e))
    ((Decides-int_eq a.z b.z).1 (ap (λ (v : Vec3). v.z) e))) in
    true≢false (sym test ∙ sym t)
