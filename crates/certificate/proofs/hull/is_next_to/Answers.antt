use Rattle.std.proofs.Common.{◌⊎◌, inl, inr, Bool, false, SFits, w64, rules}
use Rattle.std.specs.Prelude.{IsTrue}
use Rattle.std.proofs.lemmas.Int.{to_z-of_z}
use Rattle.certificate.proofs.hull.is_next_to.Goals as goal

-- where the first of two is out, the test of the other says which of both holds
second_of : {P R : Type 0} (b : Bool) → (P → IsTrue false) → (IsTrue b → R) × (R → IsTrue b) →
    (IsTrue b → P ⊎ R) × (P ⊎ R → IsTrue b)
second_of {P} {R} b out says = (λ t. inr (says.0 t), λ either. holds either)
  where
    holds : P ⊎ R → IsTrue b
    holds (inl p) = let no = out p in absurd (cc)
    holds (inr r) = says.1 r

pub returns-else-is_on_way : goal.returns-else-is_on_way
returns-else-is_on_way c =
    let q : SFits w64 c.args.q = search rules in
    let way = simp to_z-of_z at c.if-is_on_way.ensures in
    let within = simp to_z-of_z at c.is_in_some_triangle.ensures in
    second_of c.is_in_some_triangle.result way.1 within
