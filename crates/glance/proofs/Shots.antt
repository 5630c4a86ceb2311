-- The board that is published after another.
use Rattle.std.proofs.Common.{◌≡◌, ℕ, ◌+◌, List, [], ◌∷◌, ◌++◌, length, ap, sym, subst, ◌∙◌}
use Rattle.std.proofs.Common.{arith, length-append}
use Rattle.plant_model.specs.declared.board.Cells.{Cells}
use Rattle.glance.specs.Shots.{IsShot, Standing, next_shot, writing}
use Rattle.glance.specs.Shown.{Writing}
use Rattle.glance.specs.Stages.{IsChain, list_of, base_of, stage_of}
use Rattle.glance.specs.declared.stage.Stage.{Stage}
use Rattle.glance.proofs.Chains.{snoc_list, snoc_base}

module _ {E B : Type 0} (any : B) (means : B → List E → Cells → Type 0) where
  pub next_is_shot : (number next : ℕ) (cells : Cells) (log after : List (Stage E B)) (base : B)
      (list : List E) → next ≡ number + 1 → number + 1 ≡ length log
      → after ≡ log ++ stage_of base list ∷ [] → IsChain after → means base list cells
      → IsShot any means next cells after
  next_is_shot number next cells log after base list is_next last is chain board =
      let grown : length after ≡ length log + 1 =
      ap length is ∙ length-append log (stage_of base list ∷ []) in
      record {
        last = omega (arith, is_next, last, grown);
        chain = chain;
        stands = subst (λ (l : List (Stage E B)). means (base_of any l) (list_of l) cells) (sym is)
            (subst (λ (b : B). means b (list_of (log ++ stage_of base list ∷ [])) cells)
            (sym (snoc_base any log base list))
            (subst (λ (l : List E). means base l cells) (sym (snoc_list log base list)) board));
      }

-- the writer has published the list
pub published_list : {E B : Type 0} (any : B) (before shot : Standing E B) (cells : Cells) (base : B)
    (list : List E) (now : Writing E B) → writing any before ≡ now → base ≡ now.base
    → shot ≡ next_shot before cells base list → writing any shot ≡ record now { list = list }
published_list any before shot cells base list now view same is =
    ap (writing any) is ∙ (λ i. record {
      glance = (ap (λ w. w.glance) view) i;
      base = (snoc_base any before.log base list ∙ same) i;
      list = (snoc_list before.log base list) i;
    })
