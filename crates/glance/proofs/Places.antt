-- The steps of readers and of the writer keep the rule that all boards are of one log.
use Rattle.std.proofs.Common.{◌≡◌, ℕ, ◌≢◌, List, [], ◌∷◌, ◌++◌, Option, Some, None, set, fold, Result, Ok, Err, MatchResult, IsOk, refl, ap, sym, subst, ◌∙◌, ⊎_elim}
use mathlib.Core.Option.{some}
use lib.ListN.{get_elem?}
use Rattle.left_right.specs.Register.{Admits, TurnsAt, Turns, Forks, Merges}
use Rattle.atomic_table.proofs.Lists.{at_set, at_snoc}
use Rattle.logbook.specs.Pages.{Book}
use Rattle.glance.specs.Shots.{Standing}
use Rattle.glance.specs.Readers.{IsOf, AreOf, AreOfOneLog, Knows}

module _ {E B : Type 0} where
  abbrev pub Rule : Standing E B → List (Option (Standing E B)) → Type 0
  Rule shot known = AreOfOneLog shot.glance known

  set_one : (glance : Book) (views : List (Option (Standing E B))) (seat : ℕ) (v : (Option (Standing E B))) → AreOfOneLog glance views
      → IsOf glance v → AreOfOneLog glance (set views seat v)
  set_one glance views seat v all this j u at = ⊎_elim
      (λ (t : (j ≡ seat) × (v ≡ u)). subst (IsOf glance) t.1 this)
      (λ (t : (j ≢ seat) × (get_elem? views j ≡ some u)). all j u t.1)
      (at_set views seat j v u at)

  add_one : (glance : Book) (views : List (Option (Standing E B))) (v : (Option (Standing E B))) → AreOfOneLog glance views
      → IsOf glance v → AreOfOneLog glance (views ++ v ∷ [])
  add_one glance views v all this j u at = ⊎_elim
      (λ (there : get_elem? views j ≡ some u). all j u there)
      (λ (same : v ≡ u). subst (IsOf glance) same this)
      (at_snoc views v u j at)

  pub admits : Admits Rule None
  admits shot views all = add_one shot.glance views None all tt

  pub reads : (seat : ℕ) (v : (Option (Standing E B)))
      → Turns Rule seat v (λ x. x) (λ known _ shot after. (after ≡ known) × IsOf shot.glance known)
  reads seat v shot views all at = (
    v,
    set_one shot.glance views seat v all (all seat v at),
    (refl, all seat v at),
  )

  pub publishes : (seat : ℕ) (v : (Option (Standing E B))) (shot next : Standing E B) → next.glance ≡ shot.glance
      → TurnsAt Rule seat v shot next (λ _ _ y after. after ≡ Some y)
  publishes seat v shot next same views all at = (
    Some next,
    set_one next.glance views seat (Some next)
        (subst (λ (glance : Book). AreOfOneLog glance views) (sym same) all) refl,
    refl,
  )

  pub forks : (seat : ℕ) (v : (Option (Standing E B))) → Forks Rule seat v v v
  forks seat v shot views all at =
      add_one shot.glance (set views seat v) v
      (set_one shot.glance views seat v all (all seat v at)) (all seat v at)

  pub merges : (seat : ℕ) (v : (Option (Standing E B))) (other : ℕ) (w : (Option (Standing E B))) → Merges Rule seat v other w w None
  merges seat v other w shot views all at apart there =
      let told : IsOf shot.glance w = ⊎_elim
      (λ (t : (other ≡ seat) × (w ≡ w)). absurd (apart t.0))
      (λ (t : (other ≢ seat) × (get_elem? views other ≡ some w)). all other w t.1)
      (at_set views seat other w w there) in
      set_one shot.glance (set views seat w) other None
      (set_one shot.glance views seat w all told) tt

  -- a board is put behind others
  pub put_behind : (glance : Book) (pending : List (Standing E B)) (shot : Standing E B) → AreOf glance pending
      → shot.glance ≡ glance → AreOf glance (pending ++ shot ∷ [])
  put_behind glance [] shot all this = (this, tt)
  put_behind glance (s ∷ more) shot all this = (all.0, put_behind glance more shot all.1 this)

  -- what is published is of the log
  pub published_of : (glance : Book) (pending : List (Standing E B)) (shot : Standing E B) → AreOf glance pending
      → shot.glance ≡ glance → (fold (λ (_ next : Standing E B). next) shot pending).glance ≡ glance
  published_of glance [] shot all this = this
  published_of glance (s ∷ more) shot all this = published_of glance more s all.1 all.0

  -- what the writer publishes and keeps to publish stays of the log: where a board is put behind
  pub put_writes : {X : Type 0} (glance : Book) (shot : Standing E B)
      (pending after : List (Standing E B)) (r : Result X (Standing E B)) → AreOf glance pending
      → shot.glance ≡ glance
      → MatchResult r (λ _. after ≡ pending ++ shot ∷ []) (λ x. (x ≡ shot) × (after ≡ pending))
      → AreOf glance after
  put_writes glance shot pending after (Ok u) all this is =
      subst (AreOf glance) (sym is) (put_behind glance pending shot all this)
  put_writes glance shot pending after (Err x) all this is = subst (AreOf glance) (sym is.1) all

  -- and where it publishes
  pub turned_writes : {X Y : Type 0} (glance : Book) (shown next : Standing E B)
      (pending after : List (Standing E B)) (r : Result X Y) → shown.glance ≡ glance
      → AreOf glance pending
      → MatchResult r
      (λ _. (next ≡ fold (λ (_ s : Standing E B). s) shown pending) × (after ≡ []))
      (λ _. (next ≡ shown) × (after ≡ pending))
      → (next.glance ≡ glance) × AreOf glance after
  turned_writes glance shown next pending after (Ok u) this all is = (
    ap (λ (s : Standing E B). s.glance) is.0 ∙ published_of glance pending shown all this,
    subst (AreOf glance) (sym is.1) tt,
  )
  turned_writes glance shown next pending after (Err x) this all is = (
    ap (λ (s : Standing E B). s.glance) is.0 ∙ this,
    subst (AreOf glance) (sym is.1) all,
  )

  -- after which it knows a board of the log
  pub turned_knows : {X Y : Type 0} (glance : Book) (next : Standing E B)
      (before known : Option (Standing E B)) (r : Result X Y) → IsOk r
      → MatchResult r (λ _. known ≡ Some next) (λ _. known ≡ before) → next.glance ≡ glance
      → Knows glance known
  turned_knows glance next before known (Ok u) ok is this =
      subst (Knows glance) (sym is) this
  turned_knows glance next before known (Err x) ok is this = absurd (cc ok)
