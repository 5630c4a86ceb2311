-- Stages that follow one another.
use Rattle.std.proofs.Common.{◌≡◌, ◌≤◌, List, [], ◌∷◌, ◌++◌, length, refl, ap, sym, subst, ◌∙◌}
use mathlib.Core.List.{IsPrefix}
use Rattle.glance.specs.Stages.{last_of, Follows, AreChained, IsChain, IsLater}
use Rattle.glance.specs.Stages.{list_of, base_of, stage_of}
use Rattle.glance.specs.declared.stage.Stage.{Stage}
use Rattle.glance.proofs.Fronts.{prefix_self, prefix_trans, prefix_shorter}

module _ {E B : Type 0} where
  -- the last stage follows the first
  pub last_follows : (s : Stage E B) (more : List (Stage E B)) → AreChained s more
      → Follows s (last_of s more)
  last_follows s [] chain = record { base = refl; list = prefix_self s.list }
  last_follows s (t ∷ more) chain =
      let rest = last_follows t more chain.1 in
      record {
        base = rest.base ∙ chain.0.base;
        list = prefix_trans s.list t.list (last_of t more).list chain.0.list rest.list;
      }

  -- the last stage of a longer log follows that of a shorter one
  pub later_follows : (s : Stage E B) (more rest : List (Stage E B)) → AreChained s (more ++ rest)
      → Follows (last_of s more) (last_of s (more ++ rest))
  later_follows s [] rest chain = last_follows s rest chain
  later_follows s (t ∷ more) rest chain = later_follows t more rest chain.1

  pub last_snoc : (s t : Stage E B) (more : List (Stage E B)) → last_of s (more ++ t ∷ []) ≡ t
  last_snoc s t [] = refl
  last_snoc s t (u ∷ more) = last_snoc u t more

  pub chain_snoc : (s t : Stage E B) (more : List (Stage E B)) → AreChained s more
      → Follows (last_of s more) t → AreChained s (more ++ t ∷ [])
  chain_snoc s t [] chain next = (next, tt)
  chain_snoc s t (u ∷ more) chain next = (chain.0, chain_snoc u t more chain.1 next)

  -- the list and the base of a log that begins with another
  pub later_list : (xs ys : List (Stage E B)) → IsChain xs → IsChain ys → IsPrefix xs ys
      → IsPrefix (list_of xs) (list_of ys)
  later_list [] ys c d p = absurd c
  later_list (s ∷ xs) ys c d p =
      subst (λ (log : List (Stage E B)). IsPrefix (last_of s xs).list (list_of log)) p.1
      (later_follows s xs p.0 (subst IsChain (sym p.1) d)).list

  pub later_base : (any : B) (xs ys : List (Stage E B)) → IsChain xs → IsChain ys → IsPrefix xs ys
      → base_of any ys ≡ base_of any xs
  later_base any [] ys c d p = absurd c
  later_base any (s ∷ xs) ys c d p =
      subst (λ (log : List (Stage E B)). base_of any log ≡ (last_of s xs).base) p.1
      (later_follows s xs p.0 (subst IsChain (sym p.1) d)).base

  -- a log with a stage more
  pub snoc_chain : (any : B) (log : List (Stage E B)) (base : B) (list : List E) → IsChain log
      → base ≡ base_of any log → IsPrefix (list_of log) list
      → IsChain (log ++ stage_of base list ∷ [])
  snoc_chain any [] base list c same front = absurd c
  snoc_chain any (s ∷ more) base list c same front =
      chain_snoc s (stage_of base list) more c (record { base = same; list = front })

  pub snoc_list : (log : List (Stage E B)) (base : B) (list : List E)
      → list_of (log ++ stage_of base list ∷ []) ≡ list
  snoc_list [] base list = refl
  snoc_list (s ∷ more) base list =
      ap (λ (t : Stage E B). t.list) (last_snoc s (stage_of base list) more)

  pub snoc_base : (any : B) (log : List (Stage E B)) (base : B) (list : List E)
      → base_of any (log ++ stage_of base list ∷ []) ≡ base
  snoc_base any [] base list = refl
  snoc_base any (s ∷ more) base list =
      ap (λ (t : Stage E B). t.base) (last_snoc s (stage_of base list) more)

  pub later_self : (any : B) (log : List (Stage E B)) → IsLater any log log
  later_self any log = record { base = refl; list = prefix_self (list_of log) }

  -- of two beginnings of one log, the one with no fewer stages is the later
  pub is_later : (any : B) (xs ys zs : List (Stage E B)) → IsChain xs → IsChain ys
      → IsPrefix xs zs → IsPrefix ys zs → length xs ≤ length ys → IsLater any xs ys
  is_later any xs ys zs c d p q le = let front = prefix_shorter xs ys zs p q le in
      record { base = later_base any xs ys c d front; list = later_list xs ys c d front }
